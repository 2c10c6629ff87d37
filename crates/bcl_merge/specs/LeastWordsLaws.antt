-- That the least words keep the laws of merges.
-- The laws of `MergeLaw` at `LeastWords` cite these.
use Rattle.std.specs.Prelude.{◌≡◌, ℕ, List, Bool, true, false}
use Rattle.std.specs.Ordering.{nat_cmp, is_gt, is_eq, ordering_reverse}
use Rattle.std.specs.declared.cmp.Ordering.{Ordering}
use Rattle.std.specs.declared.cmp.Ordering.TheVariants.{Less, Equal, Greater}
use Rattle.std.specs.Cmp.Lexicographic.{slice_cmp, texts_ties, same_text}
use Rattle.std.proofs.Common.{ap, sym, refl, ◌∙◌, ⊎_elim, inl, inr, ◌⊎◌}
use Rattle.std.proofs.lemmas.Bool.{cases_Bool, cond-true, cond-false, false≢true}
use Rattle.std.proofs.lemmas.Cmp.{nat_list_cmp_total, upto}
use Rattle.bcl_merge.specs.LeastWords.{comes_after, least_of}

second_is : (a b : List ℕ) → comes_after a b ≡ true → least_of a b ≡ b
second_is a b h = cond-true (comes_after a b) b a h

first_is : (a b : List ℕ) → comes_after a b ≡ false → least_of a b ≡ a
first_is a b h = cond-false (comes_after a b) b a h

-- it is one of the two
least_is_one : (a b : List ℕ) → (least_of a b ≡ a) ⊎ (least_of a b ≡ b)
least_is_one a b = ⊎_elim (λ t. inr (second_is a b t)) (λ f. inl (first_is a b f)) (cases_Bool (comes_after a b))

pub least_closed : (p : List ℕ → Bool) (a b : List ℕ) → p a ≡ true → p b ≡ true → p (least_of a b) ≡ true
least_closed p a b h i = ⊎_elim (λ e. ap p e ∙ h) (λ e. ap p e ∙ i) (least_is_one a b)

turned : (a b : List ℕ) → slice_cmp nat_cmp b a ≡ ordering_reverse (slice_cmp nat_cmp a b)
turned a b = nat_list_cmp_total.antisymm b a

pub least_commutative : (a b : List ℕ) → least_of a b ≡ least_of b a
least_commutative a b = by_order (slice_cmp nat_cmp a b) refl
  where
    by_order : (o : Ordering) → slice_cmp nat_cmp a b ≡ o → least_of a b ≡ least_of b a
    by_order Less e = first_is a b (ap is_gt e) ∙ sym (second_is b a (ap is_gt (turned a b ∙ ap ordering_reverse e)))
    by_order Equal e =
        let same : a ≡ b = same_text a b (sym (texts_ties a b ∙ ap is_eq e)) in
        ap (least_of a) (sym same) ∙ ap (λ x. least_of x a) same
    by_order Greater e = second_is a b (ap is_gt e) ∙ sym (first_is b a (ap is_gt (turned a b ∙ ap ordering_reverse e)))

-- where a comes after b, b does not come after a
not_after : (a b : List ℕ) → comes_after a b ≡ true → comes_after b a ≡ false
not_after a b h = by_order (slice_cmp nat_cmp a b) refl
  where
    by_order : (o : Ordering) → slice_cmp nat_cmp a b ≡ o → comes_after b a ≡ false
    by_order Less e = absurd (false≢true (sym (ap is_gt e) ∙ h))
    by_order Equal e = absurd (false≢true (sym (ap is_gt e) ∙ h))
    by_order Greater e = ap is_gt (turned a b ∙ ap ordering_reverse e)

pub least_associative : (a b c : List ℕ) → least_of (least_of a b) c ≡ least_of a (least_of b c)
least_associative a b c =
    ⊎_elim
    (λ p. ⊎_elim (λ q. gt_gt p q) (λ q. gt_le p q) (cases_Bool (comes_after b c)))
    (λ p. ⊎_elim (λ q. le_gt p q) (λ q. le_le p q) (cases_Bool (comes_after b c)))
    (cases_Bool (comes_after a b))
  where
    left : (x : List ℕ) → least_of a b ≡ x → least_of (least_of a b) c ≡ least_of x c
    left x e = ap (λ y. least_of y c) e

    right : (x : List ℕ) → least_of b c ≡ x → least_of a (least_of b c) ≡ least_of a x
    right x e = ap (least_of a) e

    le_le : comes_after a b ≡ false → comes_after b c ≡ false → least_of (least_of a b) c ≡ least_of a (least_of b c)
    le_le p q = left a (first_is a b p) ∙ first_is a c (upto nat_list_cmp_total a b c p q) ∙ sym (right b (first_is b c q) ∙ first_is a b p)

    le_gt : comes_after a b ≡ false → comes_after b c ≡ true → least_of (least_of a b) c ≡ least_of a (least_of b c)
    le_gt p q = left a (first_is a b p) ∙ sym (right c (second_is b c q))

    gt_le : comes_after a b ≡ true → comes_after b c ≡ false → least_of (least_of a b) c ≡ least_of a (least_of b c)
    gt_le p q = left b (second_is a b p) ∙ first_is b c q ∙ sym (right b (first_is b c q) ∙ second_is a b p)

    gt_gt : comes_after a b ≡ true → comes_after b c ≡ true → least_of (least_of a b) c ≡ least_of a (least_of b c)
    gt_gt p q =
        let r : comes_after a c ≡ true =
        ⊎_elim (λ t. t) (λ f. absurd (false≢true (sym (upto nat_list_cmp_total a c b f (not_after b c q)) ∙ p))) (cases_Bool (comes_after a c)) in
        left b (second_is a b p) ∙ second_is b c q ∙ sym (right c (second_is b c q) ∙ second_is a c r)
