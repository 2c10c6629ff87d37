use Rattle.std.proofs.Common.{◌<◌, ◌^◌, ◌∙◌, arith}
use Rattle.bcl_words.specs.Numbers.{one_word}
use Rattle.bcl_map.specs.Parts.{closed_view}
use Rattle.kmer_text.specs.Windows.{total}
use Rattle.kmer_count.specs.Book.{shape_of}
use Rattle.kmer_count.proofs.Books.{counts_are}
use Rattle.kmer_count.proofs.Sorts.{sorted_are_counts}
use Rattle.kmer_count.proofs.over_ranks.count.Goals as goal

pub returns-clause-sorted : goal.returns-clause-sorted
returns-clause-sorted g c =
    let k = c.args.plan.now.k in let n = c.args.plan.now.ranks in let lines = c.args.lines.now in
    let windows = c.requires.windows.0 in let few = c.requires.windows.1 in
    let low : total k lines < 2 ^ 64 = omega arith in
    let closed = c.in_ok-closed.ensures in
    sorted_are_counts c.entries.result.now c.in_ok-sorted.sorted.items c.entries.ensures.once c.in_ok-sorted.ensures.moved k lines
    (λ q. c.entries.ensures.replay.each (shape_of n (total k lines)) closed.key (one_word q) ∙ counts_are k n lines low (closed_view c.in_ok-closed.closed).seen closed.book q)
    c.in_ok-sorted.ensures.rising
