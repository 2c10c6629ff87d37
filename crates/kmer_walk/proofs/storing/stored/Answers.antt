use Rattle.std.proofs.Common.{◌≡◌, ℕ, length, ap, sym, ◌∙◌, subst, arith}
use Rattle.bcl_words.specs.Numbers.{one_word}
use Rattle.bcl_segment.specs.declared.layout.Layout.{Layout}
use Rattle.bcl_merge.specs.LeastWords.{least_of}
use Rattle.bcl_event.specs.Merged.{MapHistory}
use Rattle.bcl_phase.specs.Phases.{Ended}
use Rattle.bcl_phase.specs.Parts.{lead_view}
use Rattle.bcl_phase.proofs.Returns.{if_ok, if_both}
use Rattle.bcl_map.specs.declared.shape.Shape.{Shape}
use Rattle.bcl_map.specs.Map.{ranks as ranks_of, first_pairs, next, permits, owning}
use Rattle.bcl_map.specs.Calls.{MapView}
use Rattle.bcl_map.specs.Parts.{lead_key, pass_view}
use Rattle.bcl_map.specs.Room.{buckets}
use Rattle.bcl_buffer.specs.Flushes.{column, MergedOnce}
use Rattle.bcl_buffer.proofs.Shares.{there}
use Rattle.kmer_walk.specs.Book.{shape_of}
use Rattle.kmer_walk.specs.Fills.{words_of_node, AreFilled}
use Rattle.kmer_walk.specs.Finds.{HasFirsts}
use Rattle.kmer_walk.proofs.Columns.{own_of, stored_by}
use Rattle.kmer_walk.proofs.FirstNodes.{has_firsts}
use Rattle.kmer_walk.proofs.storing.stored.Goals as goal

pub returns-clause-shape : goal.returns-clause-shape
returns-clause-shape g c =
    let n = c.args.ranks in let lines = c.args.lines.now in
    let per : c.buckets_for.result ≡ buckets n (length lines) = c.buckets_for.ensures.buckets ∙ ap (buckets n) c.count.ensures.count in
    if_ok c.turned.result _ _ c.turned.ensures.turns (λ r turn. turn.same.1 ∙ (c.in_ok-buffers.ensures.shape ∙ (λ j. record { ranks = n; per_rank = per j; width = 1 })))

pub returns-clause-count : goal.returns-clause-count
returns-clause-count g c =
    if_ok c.turned.result _ _ c.turned.ensures.turns (λ r turn.
    turn.begins.all.count ∙ (ap (λ (l : Layout). l.ranks) turn.same.2 ∙ (sym c.in_ok-buffers.ensures.begins.all.count ∙ c.in_ok-buffers.ensures.count)))

pub returns-clause-stored : goal.returns-clause-stored
returns-clause-stored g c =
    let k = c.args.k in let n = c.args.ranks in let lines = c.args.lines.now in
    let some = c.requires.ranks.0 in
    let per : c.buckets_for.result ≡ buckets n (length lines) = c.buckets_for.ensures.buckets ∙ ap (buckets n) c.count.ensures.count in
    let buffers = c.in_ok-buffers.buffers.items in
    let filled : AreFilled k lines (record { ranks = n; per_rank = buckets n (length lines) }) buffers = subst (λ (m : ℕ). AreFilled k lines (record { ranks = n; per_rank = m }) buffers) per c.in_ok-buffers.ensures.filled in
    let key : lead_key c.in_ok-buffers.lead ≡ shape_of n lines = c.in_ok-buffers.ensures.shape ∙ (λ j. record { ranks = n; per_rank = per j; width = 1 }) in
    let begins = c.in_ok-buffers.ensures.begins in
    let count = c.in_ok-buffers.ensures.count in
    let before = begins.all.count in let after = c.in_ok-passes.ensures.all.count in
    if_ok c.turned.result _ _ c.turned.ensures.turns (λ r turn.
    let history = (lead_view r.0.lead).start in
    stored_by k lines n some history
    (subst (λ (z : Shape × MapHistory). Ended ranks_of first_pairs (next least_of) permits z.0 owning z.1 history) (λ j. (key j, begins.start j)) turn.ends.ended)
    (λ rank low.
    let old = there c.in_ok-buffers.passes.items rank (omega arith) in
    let new = there c.in_ok-passes.passes.items rank (omega arith) in
    own_of k lines n some buffers filled rank (pass_view old.0) (pass_view new.0) history
    (ap (λ (v : MapView). v.mine) (begins.begun rank old.0 old.1))
    (subst (λ (s : Shape). MergedOnce one_word words_of_node least_of s (column rank buffers) (pass_view old.0) (pass_view new.0)) key (c.in_ok-passes.ensures.merged rank old.0 new.0 old.1 new.1))
    (turn.ends.returned rank new.0 new.1).own))

pub returns-clause-firsts : goal.returns-clause-firsts
returns-clause-firsts g c =
    let k = c.args.k in let n = c.args.ranks in let lines = c.args.lines.now in
    if_both c.turned.result _ _ _ (returns-clause-shape g c) (returns-clause-stored g c) (λ r shape stored.
    let history = (lead_view r.0.lead).start in
    subst (λ (s : Shape). HasFirsts k lines s history) (sym shape) (has_firsts k n lines history c.requires.k c.requires.good stored))
