-- What the words of a command line ask for.
-- The first word names a mode, its numbers stand behind it, and then come options in any order, each at most once.
use Rattle.std.specs.Prelude.{◌≡◌, ℕ, ◌≤◌, ◌<◌, ◌^◌, ◌||◌, false, List, [], ◌∷◌, ◌++◌, Option, Some, None, unwrap_or, decimal, codes, if◌then◌else◌}
use Rattle.std.specs.Option.{is_some}
use Rattle.bcl_settings.specs.declared.mode.Mode.{Mode}
use Rattle.bcl_settings.specs.declared.mode.Mode.TheVariants as modes
use Rattle.bcl_settings.specs.declared.options.Options.{Options}
use Rattle.bcl_settings.specs.declared.settings.Settings.{Settings}
use Rattle.bcl_settings.specs.declared.settings.Settings.TheVariants.{Count, Contigs, Drill}
use Rattle.bcl_settings.specs.declared.settings.Choice.{Choice}
use Rattle.bcl_settings.specs.declared.settings.Choice.TheVariants.{Own, Any}
use Rattle.bcl_settings.specs.Options.{NamesOptions}

-- the words of a mode and its numbers
abbrev pub mode_words : Mode → List (List ℕ)
mode_words (modes.Count k) = codes "count" ∷ decimal k ∷ []
mode_words (modes.Contigs k) = codes "contigs" ∷ decimal k ∷ []
mode_words (modes.Drill number lines k) = codes "drill" ∷ decimal number ∷ decimal lines ∷ decimal k ∷ []

-- the numbers of a mode are in their ranges
abbrev pub ModeInRange : Mode → Type 0
ModeInRange (modes.Count k) = (1 ≤ k) × (k ≤ 31)
ModeInRange (modes.Contigs k) = (1 ≤ k) × (k ≤ 31)
ModeInRange (modes.Drill number lines k) = (number < 2 ^ 64) × (1 ≤ lines) × (lines ≤ 65536) × (1 ≤ k) × (k ≤ 31)

-- the settings of a mode with its options, where what none of them says has its default. There are none where an option is
-- of another mode
abbrev pub with_options : Mode → Options → Option Settings
with_options (modes.Count k) said = Some (Count k (unwrap_or said.ranks 4) (unwrap_or said.min 1) (unwrap_or said.choice Own) said.hist)
with_options (modes.Contigs k) said = if is_some said.min || said.hist then None else Some (Contigs k (unwrap_or said.ranks 4) (unwrap_or said.choice Own))
with_options (modes.Drill number lines k) said =
    if is_some said.min || said.hist then None else Some (Drill number lines k (unwrap_or said.ranks 4) (unwrap_or said.choice Own))

-- the words are those of a mode, and behind them those of its options
pub record Spells (words : List (List ℕ)) (mode : Mode) (said : Options) : Type 0 where
  pub in_range : ModeInRange mode
  pub behind : List (List ℕ)
  pub options_are : NamesOptions behind said
  pub words_are : words ≡ mode_words mode ++ behind

-- no option is said but the ranks
abbrev pub SaysRanksAlone : Options → Type 0
SaysRanksAlone said = (said.min ≡ None) × (said.choice ≡ None) × (said.hist ≡ false)

-- what is offered so far: a count and contigs, each with its ranks
abbrev pub IsOffered : Mode → Options → Type 0
IsOffered (modes.Count k) said = SaysRanksAlone said
IsOffered (modes.Contigs k) said = SaysRanksAlone said
IsOffered (modes.Drill number lines k) said = ⊥

-- the words ask for these settings
pub record AsksFor (words : List (List ℕ)) (settings : Settings) : Type 0 where
  pub mode : Mode
  pub said : Options
  pub spelled : Spells words mode said
  pub settings_are : with_options mode said ≡ Some settings
  pub offered : IsOffered mode said

-- some words ask for these settings
abbrev pub IsAsked : Settings → Type 0
IsAsked settings = (words : List (List ℕ)) × AsksFor words settings

abbrev pub choice_of : Settings → Choice
choice_of (Count k ranks min choice hist) = choice
choice_of (Contigs k ranks choice) = choice
choice_of (Drill number lines k ranks choice) = choice

-- the words ask for a run in which a rank changes any key
abbrev pub NamesAny : List (List ℕ) → Type 0
NamesAny words = (settings : Settings) × AsksFor words settings × (choice_of settings ≡ Any)

-- the settings that the words ask for, or none where they ask for none
abbrev pub Reads : List (List ℕ) → Option Settings → Type 0
Reads words (Some settings) = AsksFor words settings
Reads words None = (settings : Settings) → AsksFor words settings → ⊥
