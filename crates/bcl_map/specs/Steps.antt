-- Kinds of step of the map, as the rule of all containers asks for them.
use Rattle.std.specs.Prelude.{◌≡◌, ℕ, ◌+◌, ◌*◌, List, [], ◌∷◌}
use Rattle.bcl_map.specs.declared.shape.Shape.{Shape}
use Rattle.bcl_event.specs.declared.map.MapCall.{MapCall}
use Rattle.bcl_event.specs.declared.map.MapReply.{MapReply}
use Rattle.bcl_event.specs.Map.{Pairs}
use Rattle.bcl_phase.specs.Rule.{Moves}
use Rattle.bcl_map.specs.Map.{Words, path, next, permits, size}
use Rattle.bcl_map.specs.Notes.{Claim, Note}
use Rattle.bcl_map.specs.Fits.{fits}

-- a note with these claims
abbrev pub with_claims : Note → List Claim → Note
with_claims x claims = record x { claims = claims }

-- no call, and a note with these claims
abbrev pub Goes_on : Note → List Claim → List (MapCall Words Words) → Note → Type 0
Goes_on x claims did y = (did ≡ []) × (y ≡ with_claims x claims)

module _ (kw vw : ℕ) (op : Words → Words → Words) (L : Shape) where
  abbrev pub Step : ℕ → ℕ → Note → ℕ → (ℕ → ℕ) → (ℕ → Pairs → List (MapCall Words Words) → Note → Type 0) → Type 0
  Step p r x i f tells = Moves (next op) permits (fits kw vw) L p r x i f tells

  -- one call, answered so
  abbrev pub Answers : MapCall Words Words → MapReply Words → Note → List Claim → Pairs → List (MapCall Words Words) → Note → Type 0
  Answers c a x claims t did y = (did ≡ c ∷ []) × ((next op L t c).0 ≡ a) × (y ≡ with_claims x claims)

  -- the control word's number of a place on a path
  abbrev pub control_at : Words → ℕ → ℕ
  control_at k d = size kw vw * path L k d + 0
