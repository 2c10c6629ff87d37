-- Words of an object that stand side by side, as other words are put; and the words got of an object, one by one.
use Rattle.std.proofs.Common.{◌≡◌, ◌≢◌, ℕ, ◌+◌, ◌<◌, ◌≤◌, List, length, slice_index, slice_set, sym, ap, ◌∙◌, subst, ⊎_elim, arith, length-set, get_or-set_same, get_or-set_other}
use Rattle.std.proofs.lemmas.Bool.{cases_lt}
use Rattle.std.proofs.lemmas.Grind.{same_number_lists}
use Rattle.std.proofs.Math.Nat.{eq-or-lt_of_le}
use Rattle.bcl_words.specs.Words.{IsWords}
use Rattle.bcl_words.proofs.Fitting.{past}
use Rattle.bcl_phase.specs.Flights.{Lies}

-- the next word is put
pub lies_put : (words : List ℕ) (first : ℕ) (object : List ℕ) (n : ℕ) → first + n < length words → Lies words first object n → Lies (slice_set words (first + n) (slice_index object n)) first object (n + 1)
lies_put words first object n long lies j below =
    let upto : j ≤ n = omega arith in ⊎_elim
    (λ (same : j ≡ n). subst (λ (z : ℕ). slice_index (slice_set words (first + n) (slice_index object n)) (first + z) ≡ slice_index object z) (sym same) (get_or-set_same words (first + n) (slice_index object n) 0 long))
    (λ (less : j < n). get_or-set_other words (first + n) (first + j) (slice_index object n) 0 (omega arith) ∙ lies j less)
    (eq-or-lt_of_le upto)

-- a word elsewhere is put
pub lies_apart : (words : List ℕ) (first : ℕ) (object : List ℕ) (n k v : ℕ) → ((j : ℕ) → j < n → first + j ≢ k) → Lies words first object n → Lies (slice_set words k v) first object n
lies_apart words first object n k v apart lies j below = get_or-set_other words k (first + j) v 0 (apart j below) ∙ lies j below

pub lies_fewer : (words : List ℕ) (first : ℕ) (object : List ℕ) (m n : ℕ) → m ≤ n → Lies words first object n → Lies words first object m
lies_fewer words first object m n fewer lies j below = lies j (omega arith)

-- ---- what was got, into eight words

-- one word more
pub more_lies : (got item : List ℕ) (j n : ℕ) → length got ≡ 8 → j < 8 → Lies got 0 item j → n ≡ slice_index item j → Lies (slice_set got j n) 0 item (j + 1)
more_lies got item j n long room lies is = subst (λ (z : ℕ × ℕ). Lies (slice_set got z.0 z.1) 0 item (j + 1)) (λ i. (from_zero i, sym is i)) (lies_put got 0 item j (subst (λ (m : ℕ). 0 + j < m) (sym long) (omega arith)) lies)
  where
    from_zero : 0 + j ≡ j
    from_zero = omega arith

pub zeros_next : (got : List ℕ) (j n : ℕ) → ((k : ℕ) → j ≤ k → slice_index got k ≡ 0) → (k : ℕ) → j + 1 ≤ k → slice_index (slice_set got j n) k ≡ 0
zeros_next got j n zeros k later = get_or-set_other got j k n 0 (omega arith) ∙ zeros k (omega arith)

-- all words
pub whole_object : (width : ℕ) (got item : List ℕ) (j n : ℕ) → length got ≡ 8 → j < 8 → Lies got 0 item j → n ≡ slice_index item j → ((k : ℕ) → j ≤ k → slice_index got k ≡ 0) → j + 1 ≡ width → IsWords width item → slice_set got j n ≡ item
whole_object width got item j n long room lies is zeros last words = same_number_lists (slice_set got j n) item (length-set got j n ∙ (long ∙ sym words.len))
    (λ k below. ⊎_elim (λ (less : k < width). plain_at k ∙ more_lies got item j n long room lies is k (omega arith))
    (λ (most : width ≤ k). zeros_next got j n zeros k (omega arith) ∙ sym (past width item words k most (let all : length (slice_set got j n) ≡ 8 = length-set got j n ∙ long in omega arith))) (cases_lt k width))
  where
    plain_at : (k : ℕ) → slice_index (slice_set got j n) k ≡ slice_index (slice_set got j n) (0 + k)
    plain_at k = let same : k ≡ 0 + k = omega arith in ap (slice_index (slice_set got j n)) same
