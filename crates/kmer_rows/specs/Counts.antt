-- The counts of the k-mers of lines, as entries of a k-mer's number and how often it occurs.
use Rattle.std.specs.Prelude.{◌≡◌, ℕ, zero, suc, ◌==◌, nat_le, List, Option, Some, None, map, filter, count_by}
use Rattle.std.specs.List.{flat_map}
use Rattle.std.specs.List.Sorted.{IsStrictlySortedBy}
use Rattle.std.specs.Map.{lookup, keys_of}
use Rattle.std.specs.BTreeMap.{is_at}
use Rattle.std.specs.Ordering.{nat_cmp}
use Rattle.kmer_text.specs.Kmers.{number_of, word_of}
use Rattle.kmer_text.specs.Windows.{all_windows}
use Rattle.kmer_rows.specs.Count.{row}

-- how often a number is among these
abbrev pub times : ℕ → List ℕ → ℕ
times q xs = count_by (λ x. x == q) xs

-- what is noted of a number that occurs so often. Of one that doesn't there is nothing
abbrev pub noted : ℕ → Option ℕ
noted zero = None
noted (suc n) = Some (suc n)

-- the entries rise, and count each number as often as it is among those of the windows, and no other
pub record AreCounts (k : ℕ) (lines : List (List ℕ)) (entries : List (ℕ × ℕ)) : Type 0 where
  pub rise : IsStrictlySortedBy nat_cmp (keys_of entries)
  pub each : (q : ℕ) → lookup (is_at (nat_cmp q)) entries ≡ noted (times q (map number_of (all_windows k lines)))

-- the rows of the entries that are counted so often or more
abbrev pub rows : ℕ → ℕ → List (ℕ × ℕ) → List ℕ
rows k least entries = flat_map (λ entry. row (word_of k entry.0) entry.1) (filter (λ entry. nat_le least entry.1) entries)
