-- The filter under phases: its sequential object, what its promises permit, and how its words fit.
-- A block of 64 marks is one word, and no call is ever in flight between two steps.
use Rattle.std.specs.Prelude.{◌≡◌, ℕ, List, [], length, slice_index}
use Rattle.bcl_segment.specs.declared.layout.Layout.{Layout}
use Rattle.bcl_segment.specs.Places.{places}
use Rattle.bcl_event.specs.declared.filter.FilterCall.{FilterCall}
use Rattle.bcl_event.specs.declared.filter.FilterReply.{FilterReply}
use Rattle.bcl_event.specs.Filter.{Mark, filter_step, is_marked}
use Rattle.bcl_event.specs.SeqFilter.{has_bit}
use Rattle.bcl_event.specs.Promises.{Permits, filter_permits}

abbrev pub ranks : Layout → ℕ
ranks layout = layout.ranks

-- no key is inserted
abbrev pub start : Layout → List (List ℕ)
start layout = []

abbrev pub permits : Layout → ℕ → ℕ → FilterCall (List ℕ) → Type 0
permits layout promise rank call = Permits filter_permits promise rank call

-- keys are their words, of which so many are their own, and each place of the layout is a block
abbrev pub next : ℕ → Layout → List (List ℕ) → FilterCall (List ℕ) → FilterReply × List (List ℕ)
next width layout keys call = filter_step (places layout) width keys call

-- each block is a word, and its bits are just the marks of the keys that were inserted
abbrev pub fits : ℕ → Layout → ℕ → List ℕ → List (List ℕ) → List (Unit {0}) → Type 0
fits width layout promise blocks keys notes = (length blocks ≡ places layout)
    × ((mark : Mark) → has_bit (slice_index blocks mark.block) mark.bit ≡ is_marked (places layout) width keys mark)
