-- What steps look at.
use Rattle.std.proofs.Common.{◌≡◌, ℕ, ◌+◌, ◌*◌, ◌/◌, ◌%◌, ◌<◌, List, [], ◌∷◌, ◌++◌, eqb, cond, Bool, true, false, refl, sym, ap, ◌∙◌, arith}
use Rattle.std.proofs.lemmas.Bool.{eq-eqb, ne_eqb, cond-true, cond-false}
use Rattle.std.proofs.lemmas.Nat.{div-mul-add, mod-mul-add}
use mathlib.Core.List.{append-nil, append_assoc}
use Rattle.bcl_phase.specs.declared.view.View.{View}
use Rattle.bcl_phase.specs.Views.{one_more}
use Rattle.bcl_phase.specs.Found.{first_words, looked, HasLooked}

module _ (size : ℕ) where
  pub first_words-append : (xs ys : List (ℕ × ℕ)) → first_words size (xs ++ ys) ≡ first_words size xs ++ first_words size ys
  first_words-append [] ys = refl
  first_words-append (x ∷ xs) ys = ap (λ (z : List (ℕ × ℕ)). cond (eqb (x.0 % size) 0) ((x.0 / size, x.1) ∷ z) z) (first_words-append xs ys) ∙ apart (eqb (x.0 % size) 0) (x.0 / size, x.1) (first_words size xs) (first_words size ys)
    where
      apart : (b : Bool) (p : ℕ × ℕ) (ps qs : List (ℕ × ℕ)) → cond b (p ∷ (ps ++ qs)) (ps ++ qs) ≡ cond b (p ∷ ps) ps ++ qs
      apart true p ps qs = refl
      apart false p ps qs = refl

  -- the first word of object i, and another of its words
  pub first_one : (i n : ℕ) → 0 < size → first_words size ((i * size + 0, n) ∷ []) ≡ (i, n) ∷ []
  first_one i n some = cond-true (eqb ((i * size + 0) % size) 0) _ _ (eq-eqb _ 0 (mod-mul-add i size 0 some)) ∙ ap (λ (z : ℕ). (z, n) ∷ []) (div-mul-add i size 0 some)

  pub first_none : (i j n : ℕ) → 0 < j → j < size → first_words size ((i * size + j, n) ∷ []) ≡ []
  first_none i j n later within = cond-false (eqb ((i * size + j) % size) 0) _ _ (ne_eqb _ 0 (λ e. let m = mod-mul-add i size j within in omega arith))

  module _ {C A X K : Type 0} where
    pub looked_refl : (v w : View C A X K) → w.found ≡ v.found → HasLooked size [] v w
    looked_refl v w same = ap (first_words size) same ∙ sym (append-nil (looked size v))

    pub looked_trans : (u v w : View C A X K) (ps qs : List (ℕ × ℕ)) → HasLooked size ps u v → HasLooked size qs v w → HasLooked size (ps ++ qs) u w
    looked_trans u v w ps qs a b = b ∙ (ap (λ (z : List (ℕ × ℕ)). z ++ qs) a ∙ append_assoc (looked size u) ps qs)

    -- a get of the first word of object i
    pub looked_at : (v w : View C A X K) (word i n : ℕ) → 0 < size → word ≡ i * size → w.found ≡ one_more v.found word n → HasLooked size ((i, n) ∷ []) v w
    looked_at v w word i n some at found = ap (first_words size) found ∙ (first_words-append v.found ((word, n) ∷ []) ∙ ap (λ (z : List (ℕ × ℕ)). looked size v ++ z) (ap (λ (z : ℕ). first_words size ((z, n) ∷ [])) is ∙ first_one i n some))
      where
        is : word ≡ i * size + 0
        is = let p : ℕ = i * size in let e : word ≡ p = at in omega arith

    -- a get of another of its words
    pub looked_past : (v w : View C A X K) (word i j n : ℕ) → 0 < j → j < size → word ≡ i * size + j → w.found ≡ one_more v.found word n → HasLooked size [] v w
    looked_past v w word i j n later within at found = ap (first_words size) found ∙ (first_words-append v.found ((word, n) ∷ []) ∙ ap (λ (z : List (ℕ × ℕ)). looked size v ++ z) (ap (λ (z : ℕ). first_words size ((z, n) ∷ [])) at ∙ first_none i j n later within))
