use Rattle.std.proofs.Common.{◌∙◌, ◌<◌, arith}
use Rattle.bcl_phase.proofs.Returns.{if_ok}
use Rattle.kmer_rows.proofs.Texts.{text_is, in_range}
use Rattle.bcl_run.proofs.answer.rows_of.Goals as goal

pub rows_over_ranks-requires-clause-values : goal.rows_over_ranks-requires-clause-values
rows_over_ranks-requires-clause-values g c κs outlives =
    let some : 0 < c.args.k = omega (arith, c.requires.k.least) in
    in_range c.args.k c.args.lines.now c.args.sorted.now some c.requires.letters c.requires.counts

pub returns : goal.returns
returns g c =
    let k = c.args.k in
    let least = c.args.least in
    let some : 0 < k = omega (arith, c.requires.k.least) in
    record {
      text = if_ok c.rows_over_ranks.result _ _ c.rows_over_ranks.ensures (λ text rows_are.
          rows_are ∙ text_is k least c.args.lines.now c.args.sorted.now some c.requires.least c.requires.letters c.requires.counts);
    }
