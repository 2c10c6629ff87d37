-- What a count of k-mers prints.
use Rattle.std.specs.Prelude.{ℕ, nat_le, List, [], ◌∷◌, ◌++◌, filter, decimal}
use Rattle.std.specs.List.{flat_map}
use Rattle.kmer_text.specs.Kmers.{all_words}
use Rattle.kmer_text.specs.Windows.{occurs}

-- a word and how often it occurs, with a tab between them and a newline behind
abbrev pub row : List ℕ → ℕ → List ℕ
row word n = word ++ 9 ∷ (decimal n ++ 10 ∷ [])

-- a row for each word that occurs so often or more, in byte order
unfoldable pub count_text : ℕ → ℕ → List (List ℕ) → List ℕ
count_text k least lines = flat_map (λ word. row word (occurs k lines word)) (filter (λ word. nat_le least (occurs k lines word)) (all_words k))
