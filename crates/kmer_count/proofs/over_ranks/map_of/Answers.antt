use Rattle.std.proofs.Common.{◌≡◌, ℕ, ap, sym, ◌∙◌, subst, arith}
use Rattle.bcl_words.specs.Numbers.{one_word}
use Rattle.bcl_merge.specs.Sum.{sum_of}
use Rattle.bcl_event.specs.Merged.{MapHistory}
use Rattle.bcl_phase.specs.Deals.{EndsAt}
use Rattle.bcl_phase.specs.Phases.{Ended}
use Rattle.bcl_phase.proofs.Returns.{if_ok}
use Rattle.bcl_map.specs.declared.shape.Shape.{Shape}
use Rattle.bcl_map.specs.Map.{ranks as ranks_of, first_pairs, next, permits, owning}
use Rattle.bcl_map.specs.Calls.{MapView}
use Rattle.bcl_map.specs.Parts.{lead_key, pass_view, closed_view}
use Rattle.kmer_text.specs.Windows.{total}
use Rattle.bcl_buffer.specs.Flushes.{column, MergedOnce}
use Rattle.bcl_buffer.proofs.Shares.{there}
use Rattle.bcl_map.specs.Room.{buckets}
use Rattle.kmer_count.specs.Book.{shape_of}
use Rattle.kmer_count.specs.Fills.{AreFilled}
use Rattle.kmer_count.proofs.Columns.{own_of}
use Rattle.kmer_count.proofs.Books.{book_of_phase}
use Rattle.kmer_count.proofs.over_ranks.map_of.Goals as goal

pub returns-clause-book : goal.returns-clause-book
returns-clause-book g c =
    let k = c.args.plan.now.k in let n = c.args.plan.now.ranks in let lines = c.args.lines.now in
    let some = c.requires.ranks.0 in
    let per : c.buckets_for.result ≡ buckets n (total k lines) = c.buckets_for.ensures.buckets ∙ ap (buckets n) c.requires.windows.0 in
    let buffers = c.in_ok-buffers.buffers.items in
    let filled : AreFilled k (record { ranks = n; per_rank = buckets n (total k lines) }) lines buffers = subst (λ (m : ℕ). AreFilled k (record { ranks = n; per_rank = m }) lines buffers) per c.in_ok-buffers.ensures.filled in
    let key : lead_key c.in_ok-buffers.lead ≡ shape_of n (total k lines) = c.in_ok-buffers.ensures.shape ∙ (λ j. record { ranks = n; per_rank = per j; width = 1 }) in
    let begins = c.in_ok-buffers.ensures.begins in
    let count = c.in_ok-buffers.ensures.count in
    let before = begins.all.count in let after = c.in_ok-passes.ensures.all.count in
    if_ok c.closed.result _ _ c.closed.ensures.book (λ map book.
    let ends = subst (λ (h : MapHistory). EndsAt (λ p. p.pass) owning c.in_ok-buffers.lead.lead c.in_ok-passes.passes.items h) (sym book.0) c.end.ensures.ends.ends in
    book_of_phase k n lines some (closed_view map).seen
    (subst (λ (z : Shape × MapHistory). Ended ranks_of first_pairs (next sum_of) permits z.0 owning z.1 (closed_view map).seen) (λ j. (key j, begins.start j)) ends.ended)
    (λ r low.
    let old = there c.in_ok-buffers.passes.items r (omega arith) in
    let new = there c.in_ok-passes.passes.items r (omega arith) in
    own_of k lines n some buffers filled r (pass_view old.0) (pass_view new.0) (closed_view map).seen
    (ap (λ (v : MapView). v.mine) (begins.begun r old.0 old.1))
    (subst (λ (s : Shape). MergedOnce one_word one_word sum_of s (column r buffers) (pass_view old.0) (pass_view new.0)) key (c.in_ok-passes.ensures.merged r old.0 new.0 old.1 new.1))
    (ends.returned r new.0 new.1).own))
