-- What the kits of a superstep come to, each beside the one that it was, where a kit holds a pass.
use Rattle.std.proofs.Common.{◌≡◌, ◌∙◌, ℕ, zero, suc, ◌<◌, List, [], ◌∷◌, ◌++◌, length, map, sym, ap, refl, subst, arith}
use Rattle.std.specs.List.{All, AllZip}
use Rattle.std.proofs.lemmas.List.Elements.{All-head, All-tail}
use mathlib.Core.Option.{some, some-injective, some-ne-none}
use lib.ListN.{get_elem?}
use Rattle.bcl_phase.proofs.Zips.{zip_at}
use Rattle.bcl_buffer.proofs.Flushed.{from_map}

-- what holds of all holds of the one at a place
pub all_there : {X : Type 0} (P : X → Type 0) (xs : List X) (i : ℕ) (x : X) → All P xs → get_elem? xs i ≡ some x → P x
all_there P [] i x all at = absurd (some-ne-none x (sym at))
all_there P (y ∷ xs) zero x all at = subst P (some-injective y x at) (All-head P y xs all)
all_there P (y ∷ xs) (suc i) x all at = all_there P xs i x (All-tail P y xs all) at

-- the one behind a front
pub behind_front : {X : Type 0} (front rest : List X) (x : X) → get_elem? (front ++ x ∷ rest) (length front) ≡ some x
behind_front [] rest x = refl
behind_front (y ∷ front) rest x = behind_front front rest x

-- and those in it
pub in_front : {X : Type 0} (front rest : List X) (i : ℕ) → i < length front → (x : X) × (get_elem? front i ≡ some x) × (get_elem? (front ++ rest) i ≡ some x)
in_front [] rest i low = absurd (omega arith)
in_front (y ∷ front) rest zero low = (y, refl, refl)
in_front (y ∷ front) rest (suc i) low = in_front front rest i (omega arith)

-- the image of the one at a place
pub at_map : {X Y : Type 0} (f : X → Y) (xs : List X) (i : ℕ) (x : X) → get_elem? xs i ≡ some x → get_elem? (map f xs) i ≡ some (f x)
at_map f [] i x at = absurd (some-ne-none x (sym at))
at_map f (y ∷ xs) zero x at = ap (λ z. some (f z)) (some-injective y x at)
at_map f (y ∷ xs) (suc i) x at = at_map f xs i x at

module _ {C W E : Type 0} (pass : C → W) (env : C → E) (S : E → C → C → Type 0) (given : ℕ → E) (passes : List W) (kits after : List C)
    (passes_are : map pass kits ≡ passes) (made : (i : ℕ) (c : C) → get_elem? kits i ≡ some c → env c ≡ given i) (steps : AllZip (λ c d. S (env c) c d) kits after) where
  -- the kit that was at the place, and what became of it
  pub each : (i : ℕ) (d : C) → get_elem? after i ≡ some d → (c : C) × (get_elem? passes i ≡ some (pass c)) × (get_elem? kits i ≡ some c) × S (given i) c d
  each i d at =
      let was = zip_at (λ c d. S (env c) c d) kits after steps i d at in
      (was.0, subst (λ (l : List W). get_elem? l i ≡ some (pass was.0)) passes_are (at_map pass kits i was.0 was.1), was.1, subst (λ (z : E). S z was.0 d) (made i was.0 was.1) was.2)

  -- the same, by the pass that came back and the one that went in
  pub each_pass : (i : ℕ) (p q : W) → get_elem? passes i ≡ some p → get_elem? (map pass after) i ≡ some q → (c : C) × (d : C) × (pass c ≡ p) × (pass d ≡ q) × (get_elem? after i ≡ some d) × S (given i) c d
  each_pass i p q at back =
      let new = from_map pass after i q back in
      let it = each i new.0 new.1 in
      (it.0, new.0, some-injective (pass it.0) p (sym it.1 ∙ at), sym new.2, new.1, it.3)
