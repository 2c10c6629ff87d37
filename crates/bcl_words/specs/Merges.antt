-- Values that become one.
-- Of many values, what they become depends on how often each is among them, and not on their order.
use Rattle.std.specs.Prelude.{◌≡◌, ℕ, List, ◌∷◌, Bool, true, All, count_by, fold}
use Rattle.std.specs.Str.{bytes_eq}

-- each list of words stands in both equally often
abbrev pub HoldTheSame : List (List ℕ) → List (List ℕ) → Type 0
HoldTheSame xs ys = (words : List ℕ) → count_by (bytes_eq words) xs ≡ count_by (bytes_eq words) ys

-- what many values become is the same in any order, whichever comes first
abbrev pub IsSameInAnyOrder : (List ℕ → Bool) → (List ℕ → List ℕ → List ℕ) → Type 0
IsSameInAnyOrder passes op =
    (first other : List ℕ) (xs ys : List (List ℕ)) → passes first ≡ true → passes other ≡ true → All (λ words. passes words ≡ true) xs → All (λ words. passes words ≡ true) ys
    → HoldTheSame (first ∷ xs) (other ∷ ys) → fold op first xs ≡ fold op other ys

-- a function may be called on values, and answers what a law says of their words
pub record AnswersLaw {V : Type 0} (passes : List ℕ → Bool) (words : V → List ℕ) (op : List ℕ → List ℕ → List ℕ) (may : V → V → Type 0) (gives : V → V → V → Type 0) : Type 0 where
  pub callable : (a b : V) → passes (words a) ≡ true → passes (words b) ≡ true → may a b
  pub answers : (a b result : V) → passes (words a) ≡ true → passes (words b) ≡ true → gives a b result → words result ≡ op (words a) (words b)
