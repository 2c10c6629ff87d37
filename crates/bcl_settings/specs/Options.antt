-- The options of a command line.
-- Each is named by its words, which stand next to one another, and each is said at most once.
use Rattle.std.specs.Prelude.{◌≡◌, ℕ, ◌≤◌, ◌<◌, ◌^◌, Bool, true, false, List, [], ◌∷◌, ◌++◌, Option, Some, None, All, decimal, codes}
use Rattle.std.specs.List.{flat_map}
use Rattle.std.specs.List.Sorted.{IsPermutation}
use Rattle.bcl_settings.specs.declared.settings.Choice.{Choice}
use Rattle.bcl_settings.specs.declared.settings.Choice.TheVariants.{Own, Any}
use Rattle.bcl_settings.specs.declared.options.CommandOption.{CommandOption}
use Rattle.bcl_settings.specs.declared.options.CommandOption.TheVariants.{Ranks, Min, Promise, Hist}
use Rattle.bcl_settings.specs.declared.options.Options.{Options}

abbrev pub choice_word : Choice → List ℕ
choice_word Own = codes "own"
choice_word Any = codes "any"

-- the words that name an option
abbrev pub option_words : CommandOption → List (List ℕ)
option_words (Ranks n) = codes "--ranks" ∷ decimal n ∷ []
option_words (Min n) = codes "--min" ∷ decimal n ∷ []
option_words (Promise choice) = codes "--promise" ∷ choice_word choice ∷ []
option_words Hist = codes "--hist" ∷ []

-- the number of an option is in its range
abbrev pub OptionInRange : CommandOption → Type 0
OptionInRange (Ranks n) = (1 ≤ n) × (n ≤ 64)
OptionInRange (Min n) = (1 ≤ n) × (n < 2 ^ 32)
OptionInRange (Promise choice) = Unit {0}
OptionInRange Hist = Unit {0}

-- an option with a value, where one is said
abbrev pub with_value : {X : Type 0} → (X → CommandOption) → Option X → List CommandOption
with_value option None = []
with_value option (Some value) = option value ∷ []

abbrev pub with_hist : Bool → List CommandOption
with_hist true = Hist ∷ []
with_hist false = []

-- the options that are said
abbrev pub options : Options → List CommandOption
options said = with_value Ranks said.ranks ++ (with_value Min said.min ++ (with_value Promise said.choice ++ with_hist said.hist))

-- the words name just the options that are said, in any order
pub record NamesOptions (words : List (List ℕ)) (said : Options) : Type 0 where
  pub named : List CommandOption
  pub any_order : IsPermutation (options said) named
  pub in_range : All OptionInRange named
  pub words_are : words ≡ flat_map option_words named
