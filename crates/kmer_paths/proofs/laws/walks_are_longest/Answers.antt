use Rattle.kmer_paths.proofs.Walks.{walk-goes, walk-longest}
use Rattle.kmer_paths.proofs.laws.walks_are_longest.Goals as goal

pub returns-clause-goes : goal.returns-clause-goes
returns-clause-goes c = walk-goes

pub returns-clause-longest : goal.returns-clause-longest
returns-clause-longest c = walk-longest
