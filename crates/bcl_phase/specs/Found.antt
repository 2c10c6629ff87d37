-- What a pass has looked at, of the words that it has found.
-- Where objects of so many words stand side by side from the first word on, the first word of each tells how it stands with the object.
use Rattle.std.specs.Prelude.{◌≡◌, ℕ, ◌/◌, ◌%◌, ◌==◌, List, [], ◌∷◌, ◌++◌, if◌then◌else◌}
use Rattle.bcl_phase.specs.declared.view.View.{View}

-- the first words among the words found, each with the number of its object
abbrev pub first_words : ℕ → List (ℕ × ℕ) → List (ℕ × ℕ)
first_words size [] = []
first_words size (w ∷ ws) = if w.0 % size == 0 then (w.0 / size, w.1) ∷ first_words size ws else first_words size ws

module _ {C A X K : Type 0} where
  -- what a pass has looked at in its phase, in order
  abbrev pub looked : ℕ → View C A X K → List (ℕ × ℕ)
  looked size view = first_words size view.found

  -- it has looked at these since
  abbrev pub HasLooked : ℕ → List (ℕ × ℕ) → View C A X K → View C A X K → Type 0
  HasLooked size pairs old new = looked size new ≡ looked size old ++ pairs
