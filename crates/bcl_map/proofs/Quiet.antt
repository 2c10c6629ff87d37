-- A pass at rest under a promise without single tries claims nothing.
use Rattle.std.proofs.Common.{◌≡◌, ℕ, List, [], ◌∷◌, refl, sym, subst}
use Rattle.std.specs.Prelude.{Bool, true, false, ◌==◌, ◌&&◌, ◌||◌}
use Rattle.std.specs.List.{list_all}
use Rattle.std.proofs.lemmas.Bool.{and_parts, false≢true}
use Rattle.bcl_map.specs.Map.{filling}
use Rattle.bcl_map.specs.Notes.{Claim, Note, is_known, is_none, at_rest}
use Rattle.bcl_map.specs.Ranks.{rests}

none_are : (claims : List Claim) → is_none claims ≡ true → claims ≡ []
none_are [] e = refl
none_are (a ∷ as') e = absurd (false≢true e)

or_else : (a b : Bool) → a ≡ false → (a || b) ≡ true → b ≡ true
or_else false b e h = h
or_else true b e h = absurd (false≢true (sym e))

pub claims_none : (p : ℕ) (x : Note) → (p == filling) ≡ false → at_rest p x ≡ true → x.claims ≡ []
claims_none p x other h = none_are x.claims (or_else (p == filling) (is_none x.claims) other (and_parts (list_all is_known x.claims) _ h).1)

pub rests_again : (p : ℕ) (x : Note) → x.claims ≡ [] → at_rest p x ≡ true
rests_again p x e = subst (λ (claims : List Claim). (list_all is_known claims && ((p == filling) || is_none claims)) ≡ true) (sym e) (rests p)
