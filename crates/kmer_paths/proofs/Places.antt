-- The first place that passes, as a list grows.
use Rattle.std.proofs.Common.{◌≡◌, ◌≢◌, ◌∙◌, ℕ, suc, ◌+◌, ◌^◌, ◌<◌, ◌≤◌, Bool, true, false, List, [], ◌∷◌, ◌++◌, length, take, drop, Option, Some, None, cond, unwrap_or, arith, sym, ap, refl, ⊎_elim, length-take, length-take-le}
use Rattle.std.specs.List.{position, position_from}
use Rattle.std.specs.Option.{option_or}
use Rattle.std.proofs.lemmas.Bool.{cond-true, cond-false, cases_Bool, false_from_ne_true}
use Rattle.std.proofs.lemmas.Iterator.Adapters.{position_from-zero}
use Rattle.std.proofs.lemmas.List.{take_more, take-append-drop}
use Rattle.std.proofs.lemmas.Option.{none-some}
use Rattle.std.proofs.lemmas.Slice.Eq.{bytes_eq-Decides}
use Rattle.bcl_words.specs.Reasons.{when}
use Rattle.kmer_text.specs.Kmers.{number_of, word_of}
use Rattle.kmer_text.specs.Letters.{are_letters}
use Rattle.kmer_text.specs.Nodes.{line_at}
use Rattle.kmer_text.proofs.Numbers.{length-word_of, word_of-number_of, number_of-word_of}
use Rattle.kmer_paths.specs.Keys.{has_key}

from_push : {X : Type 0} (p : X → Bool) (i : ℕ) (xs : List X) (y : X) → position_from p i (xs ++ y ∷ []) ≡ option_or (position_from p i xs) (when (p y) (i + length xs))
from_push p i [] y = let here : i ≡ i + 0 = omega arith in ap (λ n. cond (p y) (Some n) None) here
from_push p i (x ∷ xs) y =
    let later : i + 1 + length xs ≡ i + suc (length xs) = omega arith in
    let last = when (p y) (i + suc (length xs)) in
    ⊎_elim
    (λ (yes : p x ≡ true).
    cond-true (p x) (Some i) (position_from p (i + 1) (xs ++ y ∷ [])) yes
    ∙ sym (ap (λ o. option_or o last) (cond-true (p x) (Some i) (position_from p (i + 1) xs) yes)))
    (λ (no : p x ≡ false).
    cond-false (p x) (Some i) (position_from p (i + 1) (xs ++ y ∷ [])) no
    ∙ (from_push p (i + 1) xs y
    ∙ (ap (λ n. option_or (position_from p (i + 1) xs) (when (p y) n)) later
    ∙ sym (ap (λ o. option_or o last) (cond-false (p x) (Some i) (position_from p (i + 1) xs) no)))))
    (cases_Bool (p x))

-- one more element
pub position-push : {X : Type 0} (p : X → Bool) (xs : List X) (y : X) → position p (xs ++ y ∷ []) ≡ option_or (position p xs) (when (p y) (length xs))
position-push p xs y =
    position_from-zero p (xs ++ y ∷ [])
    ∙ (from_push p 0 xs y ∙ (ap (λ o. option_or o (when (p y) (0 + length xs))) (sym (position_from-zero p xs)) ∙ ap (λ n. option_or (position p xs) (when (p y) n)) (omega arith)))

-- one more line of a text
pub position-take : (p : List ℕ → Bool) (ls : List (List ℕ)) (i : ℕ) → i < length ls
    → position p (take (i + 1) ls) ≡ option_or (position p (take i ls)) (when (p (line_at ls i)) i)
position-take p ls i h =
    ap (position p) (take_more ls i [] h)
    ∙ (position-push p (take i ls) (line_at ls i) ∙ ap (λ n. option_or (position p (take i ls)) (when (p (line_at ls i)) n)) (length-take-le i ls (omega arith)))

or_none : {X : Type 0} (o : Option X) → option_or o None ≡ o
or_none None = refl
or_none (Some x) = refl

or_some : {X : Type 0} (o : Option X) (x : X) → option_or o (Some x) ≡ Some (unwrap_or o x)
or_some None x = refl
or_some (Some y) x = refl

-- a line that doesn't pass changes nothing
pub position-other : (p : List ℕ → Bool) (ls : List (List ℕ)) (i : ℕ) → i < length ls → p (line_at ls i) ≡ false → position p (take (i + 1) ls) ≡ position p (take i ls)
position-other p ls i h fails =
    position-take p ls i h ∙ (ap (option_or (position p (take i ls))) (cond-false (p (line_at ls i)) (Some i) None fails) ∙ or_none (position p (take i ls)))

-- one that does is the first, unless there is an earlier one
pub position-one : (p : List ℕ → Bool) (ls : List (List ℕ)) (i : ℕ) → i < length ls → p (line_at ls i) ≡ true → position p (take (i + 1) ls) ≡ Some (unwrap_or (position p (take i ls)) i)
position-one p ls i h passes =
    position-take p ls i h ∙ (ap (option_or (position p (take i ls))) (cond-true (p (line_at ls i)) (Some i) None passes) ∙ or_some (position p (take i ls)) i)

-- ---- the key of a line, by its number
-- an empty line has none
pub has_key-empty : (k q : ℕ) (line : List ℕ) → 1 ≤ k → length line ≡ 0 → has_key k (word_of k q) line ≡ false
has_key-empty k q line some empty =
    false_from_ne_true _ (λ h.
    let same : length (take k line) ≡ length (word_of k q) = ap length ((bytes_eq-Decides (take k line) (word_of k q)).0 h) in
    omega (arith, same, length-word_of k q, length-take k line, empty))

pub has_key-is : (k q : ℕ) (line : List ℕ) → length line ≡ k + 3 → are_letters (take k line) ≡ true → q ≡ number_of (take k line) → has_key k (word_of k q) line ≡ true
has_key-is k q line long letters is =
    let width : length (take k line) ≡ k = length-take-le k line (omega arith) in
    (bytes_eq-Decides (take k line) (word_of k q)).1
    (sym (word_of-number_of (take k line) letters) ∙ (ap (λ n. word_of n (number_of (take k line))) width ∙ ap (word_of k) (sym is)))

pub has_key-other : (k q : ℕ) (line : List ℕ) → q < 4 ^ k → q ≢ number_of (take k line) → has_key k (word_of k q) line ≡ false
has_key-other k q line small ne =
    false_from_ne_true _ (λ h. ne (sym (ap number_of ((bytes_eq-Decides (take k line) (word_of k q)).0 h) ∙ number_of-word_of k q small)))

-- a place that is found in a front is found in the whole
from_prefix : {X : Type 0} (p : X → Bool) (i n : ℕ) (xs ys : List X) → position_from p i xs ≡ Some n → position_from p i (xs ++ ys) ≡ Some n
from_prefix p i n [] ys found = absurd (none-some n found)
from_prefix p i n (x ∷ xs) ys found =
    ⊎_elim
    (λ (yes' : p x ≡ true).
    cond-true (p x) (Some i) (position_from p (i + 1) (xs ++ ys)) yes' ∙ (sym (cond-true (p x) (Some i) (position_from p (i + 1) xs) yes') ∙ found))
    (λ (no' : p x ≡ false).
    cond-false (p x) (Some i) (position_from p (i + 1) (xs ++ ys)) no'
    ∙ from_prefix p (i + 1) n xs ys (sym (cond-false (p x) (Some i) (position_from p (i + 1) xs) no') ∙ found))
    (cases_Bool (p x))

pub position-front : (p : List ℕ → Bool) (ls : List (List ℕ)) (n i : ℕ) → position p (take n ls) ≡ Some i → position p ls ≡ Some i
position-front p ls n i found =
    let front = take n ls in
    let back = drop n ls in
    ap (position p) (sym (take-append-drop n ls))
    ∙ (position_from-zero p (front ++ back) ∙ from_prefix p 0 i front back (sym (position_from-zero p front) ∙ found))

-- where no earlier line passes and this one does, it is the first
pub position-first : (p : List ℕ → Bool) (ls : List (List ℕ)) (i : ℕ) → i < length ls → position p (take i ls) ≡ None → p (line_at ls i) ≡ true → position p ls ≡ Some i
position-first p ls i h none passes = position-front p ls (i + 1) i (position-one p ls i h passes ∙ ap (λ o. Some (unwrap_or o i)) none)
