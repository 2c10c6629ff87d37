use Rattle.std.proofs.Common.{sym, ◌∙◌}
use Rattle.bcl_segment.specs.Parts.{number_of}
use Rattle.bcl_segment.proofs.RisingLemmas.{traded, won}
use Rattle.bcl_segment.proofs.rising.raise.Goals as goal

pub cas-requires-clause-rule : goal.cas-requires-clause-rule
cas-requires-clause-rule c = λ s kept at _. traded s.words s.views c.args.from c.args.to (number_of c.args.seat.now) kept c.requires.more

pub returns-clause-known : goal.returns-clause-known
returns-clause-known c = λ is. c.cas.ensures.told (won c.cas.result c.args.from c.cas.ensures.ok (sym c.is_ok.ensures.value ∙ is))
