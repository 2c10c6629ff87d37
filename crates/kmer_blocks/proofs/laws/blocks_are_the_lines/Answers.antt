use Rattle.kmer_blocks.proofs.Blocks.{blocks_are_all, block_within}
use Rattle.kmer_blocks.proofs.laws.blocks_are_the_lines.Goals as goal

pub returns-clause-all : goal.returns-clause-all
returns-clause-all c = λ ranks lines some. blocks_are_all ranks some lines

pub returns-clause-within : goal.returns-clause-within
returns-clause-within c = λ rank ranks lines low. block_within rank ranks lines low
