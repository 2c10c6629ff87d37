use Rattle.std.proofs.Common.{length}
use Rattle.bcl_bloom.proofs.tests.+each_inserts.Given as goal

abbrev pub decreases-each_inserts : goal.decreases-each_inserts
decreases-each_inserts l = length l.passes.now.items
