use Rattle.std.proofs.Common.{length}
use Rattle.bcl_bloom.proofs.tests.+finders.Given as goal

abbrev pub decreases-finders : goal.decreases-finders
decreases-finders l = length l.passes.now.items
