-- How many places are in use, how many ranks read a place, and the words of different places.
use Rattle.std.proofs.Common.{◌≡◌, ◌≢◌, ℕ, zero, suc, ◌+◌, ◌*◌, ◌<◌, ◌≤◌, List, [], ◌∷◌, length, set, get_or, refl, sym, ap, ◌∙◌, arith, mul-le-mul_right, suc-mul, mul_comm, lt_of_not-le}
use native.Mathlib.Decide.{dec_le}
use mathlib.Core.Logic.{dite}
use mathlib.Core.Option.{some, some-ne-none, some-injective}
use lib.ListN.{get_elem?}
use Rattle.bcl_map.specs.Map.{Words}
use Rattle.bcl_map.specs.Cells.{Cell, free, kept, busy, key_of, used, Bars, filled}
use Rattle.bcl_map.specs.Notes.{Note, reads_all, readers}

pub at_most : (c : Cell) → used c ≤ 1
at_most free = omega arith
at_most (kept k) = omega arith
at_most (busy l q k old v n) = omega arith

pub in_use : (c : Cell) (k : Words) → key_of c ≡ some k → used c ≡ 1
in_use free k e = absurd (some-ne-none k (sym e))
in_use (kept o) k e = refl
in_use (busy l q o old v n) k e = refl

pub bars_key : (k o : Words) (c : Cell) → key_of c ≡ some o → o ≢ k → Bars k c
bars_key k o free e ne = absurd (some-ne-none o (sym e))
bars_key k o (kept a) e ne = λ z. ne (sym (some-injective a o e) ∙ z)
bars_key k o (busy l q a old v n) e ne = λ z. ne (sym (some-injective a o e) ∙ z)

pub bars_not : (k : Words) (c : Cell) → Bars k c → key_of c ≡ some k → ⊥
bars_not k free b e = b
bars_not k (kept a) b e = b (some-injective a k e)
bars_not k (busy l q a old v n) b e = b (some-injective a k e)

pub bars_used : (k : Words) (c : Cell) → Bars k c → used c ≡ 1
bars_used k free b = absurd b
bars_used k (kept a) b = refl
bars_used k (busy l q a old v n) b = refl

pub filled_set : (cs : List Cell) (i : ℕ) (c : Cell) → i < length cs → filled (set cs i c) + used (get_or cs i free) ≡ filled cs + used c
filled_set [] i c h = absurd (omega arith)
filled_set (x ∷ xs) zero c h = omega arith
filled_set (x ∷ xs) (suc i) c h = let e = filled_set xs i c (omega arith) in omega arith

filled_most : (cs : List Cell) → filled cs ≤ length cs
filled_most [] = omega arith
filled_most (x ∷ xs) = let a = at_most x in let b = filled_most xs in omega arith

pub has_room : (cs : List Cell) (i : ℕ) → i < length cs → used (get_or cs i free) ≡ 0 → filled cs < length cs
has_room [] i h e = absurd (omega arith)
has_room (x ∷ xs) zero h e = let b = filled_most xs in omega arith
has_room (x ∷ xs) (suc i) h e = let a = at_most x in let b = has_room xs i (omega arith) e in omega arith

pub is_full : (cs : List Cell) → ((i : ℕ) → i < length cs → used (get_or cs i free) ≡ 1) → filled cs ≡ length cs
is_full [] h = refl
is_full (x ∷ xs) h = let a : used x ≡ 1 = h 0 (omega arith) in let b = is_full xs (λ i l. h (suc i) (omega arith)) in omega arith

pub readers_set : (i : ℕ) (l : List Note) (r : ℕ) (x y : Note) → get_elem? l r ≡ some x → readers i (set l r y) + reads_all i x.claims ≡ readers i l + reads_all i y.claims
readers_set i [] r x y e = absurd (some-ne-none x (sym e))
readers_set i (z ∷ l) zero x y e = let s : reads_all i z.claims ≡ reads_all i x.claims = ap (λ (n : Note). reads_all i n.claims) (some-injective z x e) in omega arith
readers_set i (z ∷ l) (suc r) x y e = let h = readers_set i l r x y e in omega arith

pub set_here : {Y : Type 0} (l : List Y) (i : ℕ) (a b : Y) → get_elem? l i ≡ some b → get_elem? (set l i a) i ≡ some a
set_here [] i a b e = absurd (some-ne-none b (sym e))
set_here (x ∷ xs) zero a b e = refl
set_here (x ∷ xs) (suc i) a b e = set_here xs i a b e

below : (n i j a b : ℕ) → i < j → a < n → n * i + a ≢ n * j + b
below n i j a b lt la e = let m : suc i * n ≤ j * n = mul-le-mul_right n lt in let s = suc-mul i n in let x = mul_comm n i in let y = mul_comm n j in
    let p : ℕ = i * n in let q : ℕ = j * n in let u : ℕ = n * i in let z : ℕ = n * j in let big : ℕ = suc i * n in
    let m' : big ≤ q = m in let s' : big ≡ p + n = s in let x' : u ≡ p = x in let y' : z ≡ q = y in let e' : u + a ≡ z + b = e in omega arith

pub apart : (n i j a b : ℕ) → i ≢ j → a < n → b < n → n * i + a ≢ n * j + b
apart n i j a b ne la lb e = dite (dec_le i j) (λ le. below n i j a b (omega arith) la e) (λ no. below n j i b a (lt_of_not-le no) lb (sym e))

pub inside : (n i cap b : ℕ) → i < cap → b < n → n * i + b < n * cap
inside n i cap b lt lb = let m : suc i * n ≤ cap * n = mul-le-mul_right n lt in let s = suc-mul i n in let x = mul_comm n i in let y = mul_comm n cap in
    let p : ℕ = i * n in let q : ℕ = cap * n in let u : ℕ = n * i in let z : ℕ = n * cap in let big : ℕ = suc i * n in
    let m' : big ≤ q = m in let s' : big ≡ p + n = s in let x' : u ≡ p = x in let y' : z ≡ q = y in let g : u + b < z = omega arith in g
