-- A list of two of which both are taken off, and two others put there.
use Rattle.std.proofs.Common.{◌≡◌, ℕ, zero, suc, ◌+◌, List, [], ◌∷◌, ◌++◌, length, length-append, refl, sym, ap, ◌∙◌, subst, arith}
use Rattle.std.specs.List.{All, AllZip}
use Rattle.std.proofs.lemmas.List.Elements.{All-nil, All-cons}
use mathlib.Core.Option.{some, some-injective, some-ne-none}
use lib.ListN.{get_elem?}

module _ {Y : Type 0} where
  no_items : (l : List Y) → length l ≡ 0 → l ≡ []
  no_items [] e = refl
  no_items (x ∷ xs) e = absurd (omega arith)

  pub emptied : (l m n : List Y) (a b : Y) → l ≡ m ++ b ∷ [] → m ≡ n ++ a ∷ [] → length l ≡ 2 → n ≡ []
  emptied l m n a b e f two = no_items n (let x : length l ≡ length m + 1 = ap length e ∙ length-append m (b ∷ []) in let y : length m ≡ length n + 1 = ap length f ∙ length-append n (a ∷ []) in omega arith)

  pub both : (l m n : List Y) (a b : Y) → l ≡ m ++ b ∷ [] → m ≡ n ++ a ∷ [] → n ≡ [] → l ≡ a ∷ b ∷ []
  both l m n a b e f none = e ∙ (λ i. (f ∙ ap (λ (z : List Y). z ++ a ∷ []) none) i ++ b ∷ [])

  pub at_first : (l : List Y) (a b : Y) → l ≡ a ∷ b ∷ [] → get_elem? l 0 ≡ some a
  at_first l a b e = ap (λ (z : List Y). get_elem? z 0) e

  pub at_second : (l : List Y) (a b : Y) → l ≡ a ∷ b ∷ [] → get_elem? l 1 ≡ some b
  at_second l a b e = ap (λ (z : List Y). get_elem? z 1) e

  two_cases : (Q : ℕ → Y → Type 0) (a b : Y) → Q 0 a → Q 1 b → (i : ℕ) (p : Y) → get_elem? (a ∷ b ∷ []) i ≡ some p → Q i p
  two_cases Q a b x y zero p e = subst (Q 0) (some-injective a p e) x
  two_cases Q a b x y (suc zero) p e = subst (Q 1) (some-injective b p e) y
  two_cases Q a b x y (suc (suc i)) p e = absurd (some-ne-none p (sym e))

  pub each_of_two : (Q : ℕ → Y → Type 0) (l : List Y) (a b : Y) → l ≡ a ∷ b ∷ [] → Q 0 a → Q 1 b → (i : ℕ) (p : Y) → get_elem? l i ≡ some p → Q i p
  each_of_two Q l a b e x y i p at = two_cases Q a b x y i p (subst (λ (z : List Y). get_elem? z i ≡ some p) e at)

  pub two_long : (l : List Y) (a b : Y) → l ≡ a ∷ b ∷ [] → length l ≡ 2
  two_long l a b e = ap length e ∙ omega arith

  pub all_of_two : (P : Y → Type 0) (l : List Y) (a b : Y) → l ≡ a ∷ b ∷ [] → P a → P b → All P l
  all_of_two P l a b e p q = subst (All P) (sym e) (All-cons P a (b ∷ []) p (All-cons P b [] q (All-nil P)))

  pub zip_of_two : (S : Y → Y → Type 0) (l m : List Y) (a b c d : Y) → l ≡ a ∷ b ∷ [] → m ≡ c ∷ d ∷ [] → AllZip S l m → S a c × S b d
  zip_of_two S l m a b c d e f z = let both : AllZip S (a ∷ b ∷ []) (c ∷ d ∷ []) = subst (λ (w : List Y × List Y). AllZip S w.0 w.1) (λ i. (e i, f i)) z in (both.0, both.1.0)

  pub zip_long : (S : Y → Y → Type 0) (l m : List Y) → AllZip S l m → length m ≡ length l
  zip_long S [] [] z = refl
  zip_long S [] (y ∷ m) z = absurd z
  zip_long S (x ∷ l) [] z = absurd z
  zip_long S (x ∷ l) (y ∷ m) z = let r = zip_long S l m z.1 in omega arith

  -- a list of one of which the one is taken off, and another put there
  pub one_left : (l m : List Y) (a : Y) → l ≡ m ++ a ∷ [] → length l ≡ 1 → (m ≡ []) × (get_elem? l 0 ≡ some a)
  one_left l m a e one = let none : m ≡ [] = no_items m (let x : length l ≡ length m + 1 = ap length e ∙ length-append m (a ∷ []) in omega arith) in
      (none, ap (λ (z : List Y). get_elem? z 0) (e ∙ ap (λ (z : List Y). z ++ a ∷ []) none))

  pub one_again : (l m : List Y) (a : Y) → l ≡ m ++ a ∷ [] → m ≡ [] → l ≡ a ∷ []
  one_again l m a e none = e ∙ ap (λ (z : List Y). z ++ a ∷ []) none

  pub each_of_one : (Q : ℕ → Y → Type 0) (l : List Y) (a : Y) → l ≡ a ∷ [] → Q 0 a → (i : ℕ) (p : Y) → get_elem? l i ≡ some p → Q i p
  each_of_one Q l a e q zero p at = subst (Q 0) (some-injective a p (subst (λ (z : List Y). get_elem? z 0 ≡ some p) e at)) q
  each_of_one Q l a e q (suc i) p at = absurd (some-ne-none p (sym (subst (λ (z : List Y). get_elem? z (suc i) ≡ some p) e at)))
