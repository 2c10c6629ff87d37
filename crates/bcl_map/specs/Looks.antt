-- What a look at a bucket finds.
use Rattle.std.specs.Prelude.{◌≡◌, ℕ}
use Rattle.bcl_map.specs.declared.shape.Shape.{Shape}
use Rattle.bcl_map.specs.declared.look.Look.{Look}
use Rattle.bcl_map.specs.declared.look.Look.TheVariants.{Free, Here, Passed}
use Rattle.bcl_map.specs.Map.{Words}
use Rattle.bcl_map.specs.Finds.{reading, value_of}
use Rattle.bcl_map.specs.Walking.{Walker}
use Rattle.bcl_map.specs.Calls.{MapView}
use Rattle.bcl_map.specs.Reaches.{Comes, IsFree, IsPast}

-- the place with this number on the path of the key
abbrev pub Looks : (Words → Words → Words) → Shape → Walker → Words → ℕ → MapView → MapView → Look → Type 0
Looks op shape walker key number old new Free = IsFree op shape walker key number old new
Looks op shape walker key number old new Here = Comes op shape old new × (new.note.claims ≡ reading key number (value_of new.note.claims))
Looks op shape walker key number old new Passed = IsPast op shape walker key number old new
