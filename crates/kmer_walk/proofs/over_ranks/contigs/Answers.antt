use Rattle.std.proofs.Common.{◌≡◌, ℕ, List, ap, sym, ◌∙◌, subst, arith}
use Rattle.bcl_merge.specs.LeastWords.{least_of}
use Rattle.bcl_event.specs.Merged.{MapHistory}
use Rattle.bcl_phase.specs.Deals.{AreAll, EndsAt}
use Rattle.bcl_phase.specs.Phases.{Ended}
use Rattle.bcl_phase.specs.Parts.{lead_view, lead_layout}
use Rattle.bcl_map.specs.declared.shape.Shape.{Shape}
use Rattle.bcl_map.specs.Map.{ranks as ranks_of, first_pairs, next, permits, finding}
use Rattle.bcl_map.specs.Calls.{MapView}
use Rattle.bcl_map.specs.Parts.{lead_key, pass_view, closed_view}
use Rattle.bcl_buffer.proofs.Shares.{there}
use Rattle.kmer_walk.specs.Book.{shape_of}
use Rattle.kmer_walk.specs.Finds.{ChecksAndWalks}
use Rattle.kmer_walk.proofs.Books.{book_of_phase}
use Rattle.kmer_walk.proofs.over_ranks.contigs.Goals as goal

pub end-requires : goal.end-requires
end-requires g c = record { all = subst (λ lead. AreAll (λ p. p.pass) lead.lead c.in_ok-passes.passes.items) c.new-nodes.ensures.lead c.in_ok-passes.ensures.all }

pub returns-clause-book : goal.returns-clause-book
returns-clause-book g c =
    let k = c.args.k in let n = c.args.ranks in let lines = c.args.lines.now in
    let lead = c.in_ok-lead.lead in
    let begins = c.in_ok-lead.ensures.begins in
    let key : lead_key lead ≡ shape_of n lines = c.in_ok-lead.ensures.shape in
    let nodes = c.new-nodes.ensures in
    let before = (lead_view lead.lead).start in
    let history = (closed_view c.in_ok-closed.closed).seen in
    let long = c.in_ok-lead.ensures.count in
    let first = begins.all.count in
    let after = c.in_ok-passes.ensures.all.count ∙ ap (λ lead. (lead_layout lead.lead).ranks) nodes.lead in
    let ends = subst (λ (h : MapHistory). EndsAt (λ p. p.pass) finding lead.lead c.in_ok-passes.passes.items h) (sym c.in_ok-closed.ensures.book.0) c.end.ensures.ends.ends in
    book_of_phase k lines n c.requires.ranks.0 before history c.in_ok-lead.ensures.stored
    (subst (λ (s : Shape). Ended ranks_of first_pairs (next least_of) permits s finding before history) key ends.ended)
    (λ r low.
    let old = there c.in_ok-lead.passes.items r (omega arith) in
    let new = there c.in_ok-passes.passes.items r (omega arith) in (
      pass_view old.0,
      pass_view new.0,
      ap (λ (v : MapView). v.mine) (begins.begun r old.0 old.1),
      subst (λ (z : ℕ × List (List ℕ) × Shape). ChecksAndWalks z.0 z.1 z.2 r n (pass_view old.0) (pass_view new.0)) (λ j. (nodes.k j, nodes.lines j, (ap lead_key nodes.lead ∙ key) j)) (c.in_ok-passes.ensures.finds r old.0 new.0 old.1 new.1),
      (ends.returned r new.0 new.1).own,
    ))
