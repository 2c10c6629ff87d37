use Rattle.bcl_bucket.proofs.Rounds.{each_once}
use Rattle.bcl_bucket.proofs.path.Path.new.Goals as goal

pub returns-clause-once : goal.returns-clause-once
returns-clause-once c = each_once c.args.start c.args.places c.requires.below
