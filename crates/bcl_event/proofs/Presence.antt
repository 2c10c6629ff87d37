-- Keys that were inserted into a filter.
use Rattle.std.proofs.Common.{◌≡◌, ℕ, List, [], ◌∷◌, true, refl}
use Rattle.std.specs.Prelude.{Bool, false, ◌||◌}
use Rattle.std.specs.List.{list_all, list_any}
use Rattle.std.proofs.lemmas.Bool.{and_parts, and_from}
use Rattle.std.proofs.lemmas.Bool.Decides.{Decides-eqb}
use Rattle.bcl_event.specs.Filter.{Mark, is_mark, marks_of, is_marked, is_present}

or_left : (a b : Bool) → a ≡ true → (a || b) ≡ true
or_left a b e = rw e refl

or_right : (a b : Bool) → b ≡ true → (a || b) ≡ true
or_right true b e = refl
or_right false b e = e

itself : (mark : Mark) → is_mark mark mark ≡ true
itself mark = and_from _ _ ((Decides-eqb mark.block mark.block).1 refl) ((Decides-eqb mark.bit mark.bit).1 refl)

-- what passes a weaker test too
all_so : {X : Type 0} (p q : X → Bool) (xs : List X) → ((x : X) → p x ≡ true → q x ≡ true) → list_all p xs ≡ true → list_all q xs ≡ true
all_so p q [] f e = refl
all_so p q (x ∷ xs) f e = let h = and_parts (p x) (list_all p xs) e in and_from (q x) (list_all q xs) (f x h.0) (all_so p q xs f h.1)

-- each mark is one of the marks, and of any list that ends with them
own : (marks : List Mark) (p : Mark → Bool) → ((mark : Mark) → list_any (is_mark mark) marks ≡ true → p mark ≡ true) → list_all p marks ≡ true
own [] p f = refl
own (mark ∷ marks) p f =
    and_from (p mark) (list_all p marks) (f mark (or_left (is_mark mark mark) (list_any (is_mark mark) marks) (itself mark)))
    (own marks p (λ other e. f other (or_right (is_mark other mark) (list_any (is_mark other) marks) e)))

module _ (blocks width : ℕ) (keys : List (List ℕ)) (key : List ℕ) where
  pub inserted_present : is_present blocks width (key ∷ keys) key ≡ true
  inserted_present = own (marks_of blocks width key) (is_marked blocks width (key ∷ keys)) (λ mark e. or_left (list_any (is_mark mark) (marks_of blocks width key)) (is_marked blocks width keys mark) e)

  pub present_stays : (other : List ℕ) → is_present blocks width keys key ≡ true → is_present blocks width (other ∷ keys) key ≡ true
  present_stays other = all_so (is_marked blocks width keys) (is_marked blocks width (other ∷ keys)) (marks_of blocks width key) (λ mark e. or_right (list_any (is_mark mark) (marks_of blocks width other)) (is_marked blocks width keys mark) e)
