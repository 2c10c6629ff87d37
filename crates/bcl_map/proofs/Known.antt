-- What is known by the claims of a note.
use Rattle.std.proofs.Common.{◌≡◌, ℕ, zero, suc, ◌≤◌, inl, inr, List, [], ◌∷◌, Bool, true, false, refl, subst, ⊎_elim, arith}
use Rattle.bcl_map.specs.declared.shape.Shape.{Shape}
use Rattle.bcl_event.specs.Map.{Pairs}
use Rattle.bcl_map.specs.Map.{Words}
use Rattle.bcl_map.specs.Cells.{Cell}
use Rattle.bcl_map.specs.Notes.{Claim, passed, Has, Knows, Says, AllSay}
use Rattle.bcl_map.specs.Walking.{walked, heading, least}

-- a walk knows the places that it has passed
pub walked_knows : (k : Words) (d : ℕ) → Knows k d (walked k d)
walked_knows k zero = inl refl
walked_knows k (suc d) = inr (suc d, omega arith, inl refl)

pub heading_knows : (strayed : Bool) (k : Words) (d b : ℕ) → Knows k d (heading strayed k d b)
heading_knows false k d b = walked_knows k d
heading_knows true k d b = inr (d, omega arith, inl refl)

pub walked_least : (k : Words) (d : ℕ) → least (walked k d) ≡ 0
walked_least k zero = refl
walked_least k (suc d) = refl

module _ (L : Shape) (p : ℕ) (t : Pairs) (cells : List Cell) (r : ℕ) where
  -- a claim of the note holds
  pub has_says : (a : Claim) (as' : List Claim) → Has a as' → AllSay L p t cells r as' → Says L p t cells r a
  has_says a [] has says = absurd has
  has_says a (b ∷ bs) has says = ⊎_elim (λ (e : b ≡ a). subst (Says L p t cells r) e says.0) (λ h. has_says a bs h says.1) has

  -- the places that the note knows of are in use by other keys
  pub knows_passed : (k : Words) (d : ℕ) (as' : List Claim) → AllSay L p t cells r as' → Knows k d as' → Says L p t cells r (passed k d)
  knows_passed k d as' says knows = ⊎_elim
      (λ (none : d ≡ 0). λ e l. absurd (omega arith))
      (λ (more : (e : ℕ) × (d ≤ e) × Has (passed k e) as'). λ e l. let up = more.1 in has_says (passed k more.0) as' more.2 says e (omega arith)) knows
