use Rattle.kmer_paths.proofs.ByteOrder.{sorted_texts}
use Rattle.kmer_walk.proofs.gathering.sort_texts.Goals as goal

pub returns-then-ranks-eq1 : goal.returns-then-ranks-eq1
returns-then-ranks-eq1 g c = record { sorted = sorted_texts (λ text. text.items) c.args.texts.now c.sort_unstable.new.self c.sort_unstable.ensures.permutation c.sort_unstable.ensures.sorted }

pub returns-else-ranks-eq1 : goal.returns-else-ranks-eq1
returns-else-ranks-eq1 g c = record { sorted = sorted_texts (λ text. text.items) c.args.texts.now c.par_sort_unstable.new.s c.par_sort_unstable.ensures.permutation c.par_sort_unstable.ensures.sorted }
