-- How often a number is among those of windows.
use Rattle.std.proofs.Common.{ℕ, ◌≤◌, List, length, map, eqb, arith}
use Rattle.std.proofs.lemmas.List.{length-map}
use Rattle.std.proofs.lemmas.List.Sums.{count_by-le-length}
use Rattle.kmer_text.specs.Kmers.{number_of}
use Rattle.kmer_rows.specs.Counts.{times}

pub times-le-length : (q : ℕ) (ws : List (List ℕ)) → times q (map number_of ws) ≤ length ws
times-le-length q ws = omega (arith, count_by-le-length (λ y. eqb y q) (map number_of ws), length-map ws number_of)
