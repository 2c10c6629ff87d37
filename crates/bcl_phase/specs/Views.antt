-- How views change: as a home is opened and begins a phase, as passes are cut from it and come back, and at a step.
-- A view is a home's, a pass's, or what is left of a pass that came back.
use Rattle.std.specs.Prelude.{ℕ, ◌+◌, ◌==◌, List, [], ◌∷◌, ◌++◌, Some, None, true, false, Option, if◌then◌else◌}
use Rattle.bcl_event.specs.declared.event.Event.{Event}
use Rattle.bcl_event.specs.History.{of}
use Rattle.bcl_phase.specs.declared.view.View.{View}
use Rattle.bcl_phase.specs.declared.view.Role.TheVariants.{Home, Pass, Spent}

-- the three kinds of step that are counted
pub data Tick : Type 0 where
  get : Tick
  put : Tick
  atomic : Tick

abbrev pub gets_after : Tick → ℕ → ℕ
gets_after get n = n + 1
gets_after put n = n
gets_after atomic n = n

abbrev pub puts_after : Tick → ℕ → ℕ
puts_after get n = n
puts_after put n = n + 1
puts_after atomic n = n

abbrev pub atomics_after : Tick → ℕ → ℕ
atomics_after get n = n
atomics_after put n = n
atomics_after atomic n = n + 1

-- the words that are known, if any are
abbrev pub known_words : Option (List ℕ) → List ℕ
known_words None = []
known_words (Some words) = words

-- the longer of two beginnings of one list
abbrev pub longer : {E : Type 0} → List E → List E → List E
longer [] ys = ys
longer (x ∷ xs) [] = x ∷ xs
longer (x ∷ xs) (y ∷ ys) = x ∷ longer xs ys

-- what is seen once a step has added events to the history: all of it, and where it has added none, what was seen before
abbrev pub seen_by : {E : Type 0} → List E → List E → List E → List E
seen_by seen history [] = seen
seen_by seen history (e ∷ es) = history ++ e ∷ es

-- the words found, once one more is
abbrev pub one_more : List (ℕ × ℕ) → ℕ → ℕ → List (ℕ × ℕ)
one_more found word n = found ++ (word, n) ∷ []

-- the same of an exchange, which is won where it finds `old`: then it finds nothing that it did not say
abbrev pub unless_won : ℕ → List (ℕ × ℕ) → ℕ → ℕ → List (ℕ × ℕ)
unless_won old found word n = if n == old then found else one_more found word n

module _ {C A X K : Type 0} where
  -- the first view: of the container's key, the number of its ranks, and the note of no call in flight
  abbrev pub opened : K → ℕ → X → View C A X K
  opened key ranks rest = record { role = Home; key = Some key; rank = ranks; promise = 0; seen = []; mine = []; gets = 0; puts = 0; atomics = 0; found = []; note = rest; passes = 0; start = []; back = []; words = None; loose = false }

  -- what is left of a pass that came back
  abbrev pub spent : X → View C A X K
  spent rest = record { role = Spent; key = None; rank = 0; promise = 0; seen = []; mine = []; gets = 0; puts = 0; atomics = 0; found = []; note = rest; passes = 0; start = []; back = []; words = None; loose = false }

  -- a home as it begins a phase: it knows its words no longer, as others may change them
  abbrev pub begins : ℕ → View C A X K → View C A X K
  begins promise v = record v { promise = promise; start = v.seen; back = []; words = None }

  -- a home that cuts a pass for the next rank
  abbrev pub cuts : View C A X K → View C A X K
  cuts v = record v { passes = v.passes + 1 }

  -- that pass
  abbrev pub cut : X → View C A X K → View C A X K
  cut rest v = record { role = Pass; key = v.key; rank = v.passes; promise = v.promise; seen = v.seen; mine = of v.passes v.seen; gets = 0; puts = 0; atomics = 0; found = []; note = rest; passes = 0; start = []; back = []; words = None; loose = false }

  -- a home that takes back the pass of its last rank: the promise that it has is the phase's
  abbrev pub takes : View C A X K → View C A X K → View C A X K
  takes v w = record v { promise = w.promise; passes = w.rank; seen = longer v.seen w.seen; back = (w.seen, w.mine) ∷ v.back }

  -- a pass after a step that adds these events to the history, and has found these words by then
  abbrev pub moved : Tick → View C A X K → List (Event C A) → List (Event C A) → X → List (ℕ × ℕ) → View C A X K
  moved tick v history es note found = record v { found = found; seen = seen_by v.seen history es; mine = v.mine ++ es; note = note; gets = gets_after tick v.gets; puts = puts_after tick v.puts; atomics = atomics_after tick v.atomics }

  -- a home that no pass is out of, after a step that adds these events and leaves these words
  abbrev pub gone_on : Tick → View C A X K → List (Event C A) → List ℕ → View C A X K
  gone_on tick v es words = record v { words = Some words; seen = v.seen ++ es; mine = v.mine ++ es; start = v.seen ++ es; back = []; gets = gets_after tick v.gets; puts = puts_after tick v.puts; atomics = atomics_after tick v.atomics }

  -- the words that a home knows
  abbrev pub words_of : View C A X K → List ℕ
  words_of v = known_words v.words

  -- a home that knows these words, or none
  abbrev pub knowing : Option (List ℕ) → View C A X K → View C A X K
  knowing words v = record v { words = words }

  -- a home whose words are loose from then on, and which knows them
  abbrev pub loosened : List ℕ → View C A X K → View C A X K
  loosened words v = record v { words = Some words; loose = true }

  -- a home whose words are loose, after a step that leaves these words
  abbrev pub loose_after : Tick → List ℕ → View C A X K → View C A X K
  loose_after tick words v = record v { words = Some words; loose = true; gets = gets_after tick v.gets; puts = puts_after tick v.puts; atomics = atomics_after tick v.atomics }

  -- a home whose words fit again
  abbrev pub mended : List ℕ → View C A X K → View C A X K
  mended words v = record v { words = Some words; loose = false }
