use Rattle.std.proofs.Common.{rules}
use Rattle.std.proofs.lemmas.List.Sorted.{IsNonDecreasingBy-from_sort_by_key}
use Rattle.kmer_count.proofs.sorting.sort_by_kmer.Goals as goal

pub returns-then-ranks-eq1-clause-rising : goal.returns-then-ranks-eq1-clause-rising
returns-then-ranks-eq1-clause-rising g c = IsNonDecreasingBy-from_sort_by_key (λ pair. pair.0) _ c.sort_unstable_by_key.ensures.sorted (λ a r q k. search rules)

pub returns-else-ranks-eq1-clause-rising : goal.returns-else-ranks-eq1-clause-rising
returns-else-ranks-eq1-clause-rising g c = IsNonDecreasingBy-from_sort_by_key (λ pair. pair.0) _ c.par_sort_unstable_by_key.ensures.sorted (λ a r q k. search rules)
