-- What a contract sees of a home, of one whose words are loose, of one that is closed, of a lead and of a pass.
-- Each has a view, and the segments that it is of are known by the id of their table, their key and their layout.
use Rattle.std.specs.Prelude.{◌≡◌, ℕ, List, Some}
use Rattle.atomic_table.specs.Seated.{TableId}
use Rattle.bcl_segment.specs.declared.layout.Layout.{Layout}
use Rattle.bcl_segment.specs.declared.layout.Spot.{Spot}
use Rattle.bcl_segment.specs.Parts as segment
use Rattle.bcl_segment.specs.Resting.{resting_view}
use Rattle.bcl_phase.specs.declared.view.View.{View}
use Rattle.bcl_phase.specs.declared.home.Home.{Home}
use Rattle.bcl_phase.specs.declared.home.Owned.{Owned}
use Rattle.bcl_phase.specs.declared.known.Closed.{Closed}
use Rattle.bcl_phase.specs.declared.loose.Loose.{Loose}
use Rattle.bcl_phase.specs.declared.lead.Lead.{Lead}
use Rattle.bcl_phase.specs.declared.pass.Pass.{Pass}
use Rattle.bcl_phase.specs.Views.{words_of}

-- of the words of a container and their first seat, whoever has them: what it knows, and which segments they are
module _ {R C A T X K : Type 0} {g : _} where
  abbrev pub owned_view : Owned R C A T X K g → View C A X K
  owned_view owned = segment.view_of owned.seat

  abbrev pub owned_id : Owned R C A T X K g → TableId
  owned_id owned = segment.id_of owned.segments

  abbrev pub owned_key : Owned R C A T X K g → K
  owned_key owned = segment.key_of owned.segments

  abbrev pub owned_layout : Owned R C A T X K g → Layout
  owned_layout owned = segment.layout_of owned.segments

  abbrev pub owned_heads : Owned R C A T X K g → ℕ
  owned_heads owned = segment.heads_of owned.segments

  -- the number of the word at a spot
  abbrev pub owned_word : Owned R C A T X K g → Spot → ℕ
  owned_word owned spot = segment.word_of owned.segments spot

  abbrev pub OwnedHasSpot : Owned R C A T X K g → Spot → Type 0
  OwnedHasSpot owned spot = segment.HasSpot owned.segments spot

-- the same words
abbrev pub IsSameOwned : {R C A T X K : Type 0} {g : _} {h : _} → Owned R C A T X K g → Owned R C A T X K h → Type 0
IsSameOwned old new = (owned_id new ≡ owned_id old) × (owned_key new ≡ owned_key old) × (owned_layout new ≡ owned_layout old) × (owned_heads new ≡ owned_heads old)

module _ {R C A T X K : Type 0} {g : _} where
  abbrev pub home_view : Home R C A T X K g → View C A X K
  home_view home = owned_view home.owned

  -- the words that it knows
  abbrev pub home_words : Home R C A T X K g → List ℕ
  home_words home = words_of (home_view home)

  abbrev pub home_id : Home R C A T X K g → TableId
  home_id home = owned_id home.owned

  abbrev pub home_key : Home R C A T X K g → K
  home_key home = owned_key home.owned

  abbrev pub home_layout : Home R C A T X K g → Layout
  home_layout home = owned_layout home.owned

  abbrev pub home_heads : Home R C A T X K g → ℕ
  home_heads home = owned_heads home.owned

  abbrev pub home_word : Home R C A T X K g → Spot → ℕ
  home_word home = owned_word home.owned

  abbrev pub HomeHasSpot : Home R C A T X K g → Spot → Type 0
  HomeHasSpot home = OwnedHasSpot home.owned

  -- the same of a home whose words are loose
  abbrev pub loose_view : Loose R C A T X K g → View C A X K
  loose_view loose = owned_view loose.owned

  -- its words, which it knows
  abbrev pub loose_words : Loose R C A T X K g → List ℕ
  loose_words loose = words_of (loose_view loose)

  abbrev pub loose_key : Loose R C A T X K g → K
  loose_key loose = owned_key loose.owned

  abbrev pub loose_word : Loose R C A T X K g → Spot → ℕ
  loose_word loose = owned_word loose.owned

  abbrev pub LooseHasSpot : Loose R C A T X K g → Spot → Type 0
  LooseHasSpot loose = OwnedHasSpot loose.owned

-- what the home knew
abbrev pub closed_view : {R C A T X K : Type 0} → Closed R C A T X K → View C A X K
closed_view closed = resting_view closed.home

abbrev pub lead_view : {R C A T X K : Type 0} {g : _} → Lead R C A T X K g → View C A X K
lead_view lead = resting_view lead.home

abbrev pub lead_id : {R C A T X K : Type 0} {g : _} → Lead R C A T X K g → TableId
lead_id lead = segment.id_of lead.segments

abbrev pub lead_key : {R C A T X K : Type 0} {g : _} → Lead R C A T X K g → K
lead_key lead = segment.key_of lead.segments

abbrev pub lead_layout : {R C A T X K : Type 0} {g : _} → Lead R C A T X K g → Layout
lead_layout lead = segment.layout_of lead.segments

abbrev pub lead_heads : {R C A T X K : Type 0} {g : _} → Lead R C A T X K g → ℕ
lead_heads lead = segment.heads_of lead.segments

abbrev pub lead_word : {R C A T X K : Type 0} {g : _} → Lead R C A T X K g → Spot → ℕ
lead_word lead spot = segment.word_of lead.segments spot

abbrev pub HasSpot : {R C A T X K : Type 0} {g : _} → Lead R C A T X K g → Spot → Type 0
HasSpot lead spot = segment.HasSpot lead.segments spot

abbrev pub pass_view : {R P C A T X K : Type 0} {g : _} {t : _} {p : _} → Pass R P C A T X K g t p → View C A X K
pass_view pass = segment.view_of pass.seat

-- which segments it is of
abbrev pub pass_table : {R P C A T X K : Type 0} {g : _} {t : _} {p : _} → Pass R P C A T X K g t p → TableId
pass_table pass = segment.table_of pass.seat

abbrev pub pass_layout : {R P C A T X K : Type 0} {g : _} {t : _} {p : _} → Pass R P C A T X K g t p → Layout
pass_layout pass = pass.layout

-- the pass was made together with the lead
abbrev pub IsOf : {R P C A T X K : Type 0} {g : _} {t : _} {p : _} {h : _} → Pass R P C A T X K g t p → Lead R C A T X K h → Type 0
IsOf pass lead = (segment.table_of pass.seat ≡ lead_id lead) × ((pass_view pass).key ≡ Some (lead_key lead)) × (pass.layout ≡ lead_layout lead)

-- the home, the loose home and the lead are of the same segments
abbrev pub IsSameHome : {R C A T X K : Type 0} {g : _} {h : _} → Home R C A T X K g → Home R C A T X K h → Type 0
IsSameHome old new = IsSameOwned old.owned new.owned

abbrev pub IsLooseOf : {R C A T X K : Type 0} {g : _} {h : _} → Loose R C A T X K g → Home R C A T X K h → Type 0
IsLooseOf loose home = IsSameOwned home.owned loose.owned

abbrev pub IsSameLoose : {R C A T X K : Type 0} {g : _} {h : _} → Loose R C A T X K g → Loose R C A T X K h → Type 0
IsSameLoose old new = IsSameOwned old.owned new.owned

abbrev pub IsLeadOver : {R C A T X K : Type 0} {g : _} {h : _} → Lead R C A T X K g → Owned R C A T X K h → Type 0
IsLeadOver lead owned = (lead_id lead ≡ owned_id owned) × (lead_key lead ≡ owned_key owned) × (lead_layout lead ≡ owned_layout owned) × (lead_heads lead ≡ owned_heads owned)

abbrev pub IsLeadOf : {R C A T X K : Type 0} {g : _} {h : _} → Lead R C A T X K g → Home R C A T X K h → Type 0
IsLeadOf lead home = IsLeadOver lead home.owned

abbrev pub IsLooseLead : {R C A T X K : Type 0} {g : _} {h : _} → Lead R C A T X K g → Loose R C A T X K h → Type 0
IsLooseLead lead loose = IsLeadOver lead loose.owned

abbrev pub IsSameLead : {R C A T X K : Type 0} {g : _} {h : _} → Lead R C A T X K g → Lead R C A T X K h → Type 0
IsSameLead old new = (lead_id new ≡ lead_id old) × (lead_key new ≡ lead_key old) × (lead_layout new ≡ lead_layout old) × (lead_heads new ≡ lead_heads old)
