-- Paths, as they go round.
use Rattle.std.proofs.Common.{◌≡◌, ◌≢◌, ℕ, zero, suc, ◌+◌, ◌-◌, ◌%◌, ◌<◌, ◌≤◌, List, ◌∷◌, ◌++◌, map, IsPermutation, refl, sym, ap, ap₂, ◌∙◌, subst, arith}
use Rattle.std.specs.List.{range_with_len}
use Rattle.std.proofs.Math.Nat.{mod-eq_of_lt, mod-mod, add-mod, mod_self}
use Rattle.std.proofs.lemmas.List.Sorted.{IsPermutation-append_comm}
use mathlib.Core.List.{map-append}
use Rattle.bcl_bucket.specs.Paths.{path}

-- it is the places modulo their number that count
pub same_places : (n a b len : ℕ) → a % n ≡ b % n → map (λ i. i % n) (range_with_len a len) ≡ map (λ i. i % n) (range_with_len b len)
same_places n a b zero e = refl
same_places n a b (suc len) e = ap₂ (λ x xs. x ∷ xs) e (same_places n (a + 1) (b + 1) len (add-mod a 1 n ∙ ap (λ (r : ℕ). (r + 1 % n) % n) e ∙ sym (add-mod b 1 n)))

unmoved : (n a len : ℕ) → a + len ≤ n → map (λ i. i % n) (range_with_len a len) ≡ range_with_len a len
unmoved n a zero room = refl
unmoved n a (suc len) room = ap₂ (λ x xs. x ∷ xs) (mod-eq_of_lt (omega arith)) (unmoved n (a + 1) len (omega arith))

cut : (a p q : ℕ) → range_with_len a (p + q) ≡ range_with_len a p ++ range_with_len (a + p) q
cut a zero q = let here : a ≡ a + 0 = omega arith in let all : 0 + q ≡ q = omega arith in ap₂ range_with_len here all
cut a (suc p) q = let more : suc p + q ≡ suc (p + q) = omega arith in let on : a + 1 + p ≡ a + suc p = omega arith in
    ap (range_with_len a) more ∙ ap (λ (xs : List ℕ). a ∷ xs) (cut (a + 1) p q ∙ ap (λ (b : ℕ). range_with_len (a + 1) p ++ range_with_len b q) on)

-- each place once
pub each_once : (start n : ℕ) → start < n → IsPermutation (path start n) (range_with_len 0 n)
each_once start n below = subst (λ (z : List ℕ × List ℕ). IsPermutation z.0 z.1) (λ i. (sym round i, sym whole i)) (IsPermutation-append_comm (range_with_len start (n - start)) (range_with_len 0 start))
  where
    parts : start + (n - start) ≡ n
    parts = omega arith

    turned : n - start + start ≡ n
    turned = omega arith

    from : 0 + start ≡ start
    from = omega arith

    whole : range_with_len 0 n ≡ range_with_len 0 start ++ range_with_len start (n - start)
    whole = ap (range_with_len 0) (sym parts) ∙ cut 0 start (n - start) ∙ ap (λ (b : ℕ). range_with_len 0 start ++ range_with_len b (n - start)) from

    behind : map (λ i. i % n) (range_with_len n start) ≡ range_with_len 0 start
    behind = same_places n n 0 start (mod_self n ∙ sym (mod-eq_of_lt (omega arith))) ∙ unmoved n 0 start (omega arith)

    round : path start n ≡ range_with_len start (n - start) ++ range_with_len 0 start
    round = ap (λ (len : ℕ). map (λ i. i % n) (range_with_len start len)) (sym turned)
        ∙ ap (map (λ i. i % n)) (cut start (n - start) start)
        ∙ map-append (λ i. i % n) (range_with_len start (n - start)) (range_with_len (start + (n - start)) start)
        ∙ ap₂ (λ xs ys. xs ++ ys) (unmoved n start (n - start) (omega arith)) (ap (λ (b : ℕ). map (λ i. i % n) (range_with_len b start)) parts ∙ behind)

-- what is left behind the first place
one_on : (n place left next : ℕ) → place < n → next ≡ (place + 1) % n → map (λ i. i % n) (range_with_len place (suc left)) ≡ place ∷ map (λ i. i % n) (range_with_len next left)
one_on n place left next below is = ap₂ (λ x xs. x ∷ xs) (mod-eq_of_lt below) (same_places n (place + 1) next left (sym (ap (λ (m : ℕ). m % n) is ∙ mod-mod (place + 1) n)))

pub left_behind : (n place left next : ℕ) → left ≢ 0 → place < n → next ≡ (place + 1) % n → map (λ i. i % n) (range_with_len place left) ≡ place ∷ map (λ i. i % n) (range_with_len next (left - 1))
left_behind n place left next some below is = let at : left ≡ suc (left - 1) = omega arith in
    ap (λ (len : ℕ). map (λ i. i % n) (range_with_len place len)) at ∙ one_on n place (left - 1) next below is
