use Rattle.bcl_settings.proofs.Said.{twice, has-ranks, has-min, has-choice, has-hist, with-ranks, with-min, with-choice}
use Rattle.bcl_settings.proofs.options.Options.with.Goals as goal

pub returns-in-None-clause-some : goal.returns-in-None-clause-some
returns-in-None-clause-some c = rw c.in-Ranks.is (with-ranks c.in-Ranks.n c.args.self c.in-None.is)

pub returns-in-None-min-clause-some : goal.returns-in-None-min-clause-some
returns-in-None-min-clause-some c = rw c.in-Min.is (with-min c.in-Min.n c.args.self c.in-None-min.is)

pub returns-in-None-choice-clause-some : goal.returns-in-None-choice-clause-some
returns-in-None-choice-clause-some c = rw c.in-Promise.is (with-choice c.in-Promise.choice c.args.self c.in-None-choice.is)

pub returns-in-Some-clause-none : goal.returns-in-Some-clause-none
returns-in-Some-clause-none c more behind order =
    twice more c.args.self c.args.option behind (rw c.in-Ranks.is (has-ranks c.in-Ranks.n c.args.self c.in-Some.field-0 c.in-Some.is)) order

pub returns-in-Some-min-clause-none : goal.returns-in-Some-min-clause-none
returns-in-Some-min-clause-none c more behind order =
    twice more c.args.self c.args.option behind (rw c.in-Min.is (has-min c.in-Min.n c.args.self c.in-Some-min.field-0 c.in-Some-min.is)) order

pub returns-in-Some-choice-clause-none : goal.returns-in-Some-choice-clause-none
returns-in-Some-choice-clause-none c more behind order =
    twice more c.args.self c.args.option behind (rw c.in-Promise.is (has-choice c.in-Promise.choice c.args.self c.in-Some-choice.field-0 c.in-Some-choice.is)) order

pub returns-in-Hist-clause-none : goal.returns-in-Hist-clause-none
returns-in-Hist-clause-none c more behind order = twice more c.args.self c.args.option behind (rw c.in-Hist.is (has-hist c.args.self c.if-self.true)) order
