use Rattle.kmer_paths.proofs.ByteOrder.{order-permutes, order-rises}
use Rattle.kmer_paths.proofs.laws.texts_are_ordered.Goals as goal

pub returns-clause-same : goal.returns-clause-same
returns-clause-same c = order-permutes

pub returns-clause-order : goal.returns-clause-order
returns-clause-order c = order-rises
