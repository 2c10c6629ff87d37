-- What is known of settings that words ask for.
use Rattle.std.proofs.Common.{◌≡◌, ℕ, ◌≤◌, Bool, true, false, List, ◌++◌, Option, None, Some, unwrap_or, ◌||◌, cond, arith, ap, sym, subst, ◌∙◌}
use Rattle.std.specs.List.{All}
use Rattle.std.specs.Option.{is_some}
use Rattle.std.proofs.lemmas.List.Elements.{All-head}
use Rattle.std.proofs.lemmas.List.Sorted.{All-permutation, IsPermutation-sym}
use Rattle.std.proofs.lemmas.Option.{none-some}
use Rattle.bcl_settings.specs.declared.mode.Mode.{Mode}
use Rattle.bcl_settings.specs.declared.mode.Mode.TheVariants as modes
use Rattle.bcl_settings.specs.declared.options.CommandOption.{CommandOption}
use Rattle.bcl_settings.specs.declared.options.CommandOption.TheVariants.{Ranks, Min, Promise}
use Rattle.bcl_settings.specs.declared.options.Options.{Options}
use Rattle.bcl_settings.specs.declared.settings.Choice.{Choice}
use Rattle.bcl_settings.specs.declared.settings.Choice.TheVariants.{Own, Any}
use Rattle.bcl_settings.specs.declared.settings.Settings.{Settings}
use Rattle.bcl_settings.specs.declared.settings.Settings.TheVariants.{Count, Contigs, Drill}
use Rattle.bcl_settings.specs.Options.{OptionInRange, with_value, with_hist, options, NamesOptions}
use Rattle.bcl_settings.specs.Settings.{ModeInRange, with_options, IsOffered, AsksFor, NamesAny, choice_of}
use Rattle.bcl_settings.proofs.Reading.{later_in}

-- ---- settings tell their mode, and its numbers
abbrev mode_number : Settings → ℕ
mode_number (Count k ranks min choice hist) = 1
mode_number (Contigs k ranks choice) = 2
mode_number (Drill number lines k ranks choice) = 3

abbrev letters : Settings → ℕ
letters (Count k ranks min choice hist) = k
letters (Contigs k ranks choice) = k
letters (Drill number lines k ranks choice) = k

abbrev least : Settings → ℕ
least (Count k ranks min choice hist) = min
least (Contigs k ranks choice) = 0
least (Drill number lines k ranks choice) = 0

told : {X : Type 0} (f : Settings → X) (a b : Settings) → Some a ≡ Some b → f a ≡ f b
told f a b e = ap (λ o. f (unwrap_or o a)) e

-- settings that some options don't have, where there are any
told_if : {X : Type 0} (f : Settings → X) (b : Bool) (a other : Settings) → cond b None (Some a) ≡ Some other → f a ≡ f other
told_if f true a other e = absurd (none-some other e)
told_if f false a other e = told f a other e

-- ---- a minimum that is said is in its range
min_in_range : (min : Option ℕ) (rest : List CommandOption) → All OptionInRange (with_value Min min ++ rest) → 1 ≤ unwrap_or min 1
min_in_range None rest h = omega arith
min_in_range (Some n) rest h = (All-head OptionInRange (Min n) rest h).0

some_least : (words : List (List ℕ)) (said : Options) → NamesOptions words said → 1 ≤ unwrap_or said.min 1
some_least words said names =
    let rest = with_value Promise said.choice ++ with_hist said.hist in
    let all : All OptionInRange (options said) = All-permutation OptionInRange names.named (options said) (IsPermutation-sym _ _ names.any_order) names.in_range in
    min_in_range said.min rest (later_in (with_value Ranks said.ranks) (with_value Min said.min ++ rest) all)

count_mode : (mode : Mode) (said : Options) (k ranks min : ℕ) (choice : Choice) (hist : Bool) → ModeInRange mode → IsOffered mode said → 1 ≤ unwrap_or said.min 1
    → with_options mode said ≡ Some (Count k ranks min choice hist) → (1 ≤ k) × (k ≤ 31) × (1 ≤ min)
count_mode (modes.Count j) said k ranks min choice hist within offered some e =
    let same = told letters _ _ e in
    let fewest = told least _ _ e in
    (omega (arith, same, within.0), omega (arith, same, within.1), omega (arith, fewest, some))
count_mode (modes.Contigs j) said k ranks min choice hist within offered some e =
    let differ : 2 ≡ 1 = told_if mode_number (is_some said.min || said.hist) _ _ e in absurd (omega (arith, differ))
count_mode (modes.Drill number lines j) said k ranks min choice hist within offered some e = absurd offered

contigs_mode : (mode : Mode) (said : Options) (k ranks : ℕ) (choice : Choice) → ModeInRange mode → IsOffered mode said
    → with_options mode said ≡ Some (Contigs k ranks choice) → (1 ≤ k) × (k ≤ 31)
contigs_mode (modes.Count j) said k ranks choice within offered e = let differ : 1 ≡ 2 = told mode_number _ _ e in absurd (omega (arith, differ))
contigs_mode (modes.Contigs j) said k ranks choice within offered e =
    let same = told_if letters (is_some said.min || said.hist) _ _ e in
    (omega (arith, same, within.0), omega (arith, same, within.1))
contigs_mode (modes.Drill number lines j) said k ranks choice within offered e = absurd offered

drill_mode : (mode : Mode) (said : Options) (number lines k ranks : ℕ) (choice : Choice) → IsOffered mode said
    → with_options mode said ≡ Some (Drill number lines k ranks choice) → ⊥
drill_mode (modes.Count j) said number lines k ranks choice offered e = let differ : 1 ≡ 3 = told mode_number _ _ e in absurd (omega (arith, differ))
drill_mode (modes.Contigs j) said number lines k ranks choice offered e =
    let differ : 2 ≡ 3 = told_if mode_number (is_some said.min || said.hist) _ _ e in absurd (omega (arith, differ))
drill_mode (modes.Drill n l j) said number lines k ranks choice offered e = offered

pub count_asked : (words : List (List ℕ)) (k ranks min : ℕ) (choice : Choice) (hist : Bool) → AsksFor words (Count k ranks min choice hist) → (1 ≤ k) × (k ≤ 31) × (1 ≤ min)
count_asked words k ranks min choice hist p =
    count_mode p.mode p.said k ranks min choice hist p.spelled.in_range p.offered (some_least p.spelled.behind p.said p.spelled.options_are) p.settings_are

-- ---- a count has its ranks, and no minimum but the least

abbrev ranks_of : Settings → ℕ
ranks_of (Count k ranks min choice hist) = ranks
ranks_of (Contigs k ranks choice) = ranks
ranks_of (Drill number lines k ranks choice) = ranks

ranks_in_range : (ranks : Option ℕ) (rest : List CommandOption) → All OptionInRange (with_value Ranks ranks ++ rest) → (1 ≤ unwrap_or ranks 4) × (unwrap_or ranks 4 ≤ 64)
ranks_in_range None rest h = (omega arith, omega arith)
ranks_in_range (Some n) rest h = All-head OptionInRange (Ranks n) rest h

some_ranks : (words : List (List ℕ)) (said : Options) → NamesOptions words said → (1 ≤ unwrap_or said.ranks 4) × (unwrap_or said.ranks 4 ≤ 64)
some_ranks words said names = ranks_in_range said.ranks (with_value Min said.min ++ (with_value Promise said.choice ++ with_hist said.hist))
    (All-permutation OptionInRange names.named (options said) (IsPermutation-sym _ _ names.any_order) names.in_range)

plan_mode : (mode : Mode) (said : Options) (k ranks min : ℕ) (choice : Choice) (hist : Bool) → IsOffered mode said → (1 ≤ unwrap_or said.ranks 4) × (unwrap_or said.ranks 4 ≤ 64)
    → with_options mode said ≡ Some (Count k ranks min choice hist) → (1 ≤ ranks) × (ranks ≤ 64) × (min ≡ 1)
plan_mode (modes.Count j) said k ranks min choice hist offered some e =
    let same : unwrap_or said.ranks 4 ≡ ranks = told ranks_of _ _ e in
    let fewest : unwrap_or said.min 1 ≡ min = told least _ _ e in
    (subst (λ (n : ℕ). 1 ≤ n) same some.0, subst (λ (n : ℕ). n ≤ 64) same some.1, sym fewest ∙ ap (λ (o : Option ℕ). unwrap_or o 1) offered.0)
plan_mode (modes.Contigs j) said k ranks min choice hist offered some e =
    let differ : 2 ≡ 1 = told_if mode_number (is_some said.min || said.hist) _ _ e in absurd (omega (arith, differ))
plan_mode (modes.Drill number lines j) said k ranks min choice hist offered some e = absurd offered

pub plan_asked : (words : List (List ℕ)) (k ranks min : ℕ) (choice : Choice) (hist : Bool) → AsksFor words (Count k ranks min choice hist) → (1 ≤ ranks) × (ranks ≤ 64) × (min ≡ 1)
plan_asked words k ranks min choice hist p = plan_mode p.mode p.said k ranks min choice hist p.offered (some_ranks p.spelled.behind p.said p.spelled.options_are) p.settings_are

pub contigs_asked : (words : List (List ℕ)) (k ranks : ℕ) (choice : Choice) → AsksFor words (Contigs k ranks choice) → (1 ≤ k) × (k ≤ 31)
contigs_asked words k ranks choice p = contigs_mode p.mode p.said k ranks choice p.spelled.in_range p.offered p.settings_are

-- contigs have their ranks
contigs_plan_mode : (mode : Mode) (said : Options) (k ranks : ℕ) (choice : Choice) → IsOffered mode said → (1 ≤ unwrap_or said.ranks 4) × (unwrap_or said.ranks 4 ≤ 64)
    → with_options mode said ≡ Some (Contigs k ranks choice) → (1 ≤ ranks) × (ranks ≤ 64)
contigs_plan_mode (modes.Count j) said k ranks choice offered some e = let differ : 1 ≡ 2 = told mode_number _ _ e in absurd (omega (arith, differ))
contigs_plan_mode (modes.Contigs j) said k ranks choice offered some e =
    let same : unwrap_or said.ranks 4 ≡ ranks = told_if ranks_of (is_some said.min || said.hist) _ _ e in
    (subst (λ (n : ℕ). 1 ≤ n) same some.0, subst (λ (n : ℕ). n ≤ 64) same some.1)
contigs_plan_mode (modes.Drill number lines j) said k ranks choice offered some e = absurd offered

pub contigs_plan_asked : (words : List (List ℕ)) (k ranks : ℕ) (choice : Choice) → AsksFor words (Contigs k ranks choice) → (1 ≤ ranks) × (ranks ≤ 64)
contigs_plan_asked words k ranks choice p = contigs_plan_mode p.mode p.said k ranks choice p.offered (some_ranks p.spelled.behind p.said p.spelled.options_are) p.settings_are

-- no words ask for a drill yet
pub drill_unasked : (words : List (List ℕ)) (number lines k ranks : ℕ) (choice : Choice) → AsksFor words (Drill number lines k ranks choice) → ⊥
drill_unasked words number lines k ranks choice p = drill_mode p.mode p.said number lines k ranks choice p.offered p.settings_are

-- no words ask for a run in which a rank changes any key yet
own_alone : (mode : Mode) (said : Options) (settings : Settings) → IsOffered mode said → with_options mode said ≡ Some settings → choice_of settings ≡ Own
own_alone (modes.Count j) said settings offered e = sym (told choice_of _ _ e) ∙ ap (λ (o : Option Choice). unwrap_or o Own) offered.1
own_alone (modes.Contigs j) said settings offered e = sym (told_if choice_of (is_some said.min || said.hist) _ _ e) ∙ ap (λ (o : Option Choice). unwrap_or o Own) offered.1
own_alone (modes.Drill number lines j) said settings offered e = absurd offered

pub none_names_any : (words : List (List ℕ)) → NamesAny words → ⊥
none_names_any words any =
    let asks = any.1 in
    let same : Own ≡ Any = sym (own_alone asks.mode asks.said any.0 asks.offered asks.settings_are) ∙ any.2 in
    cc (same)
