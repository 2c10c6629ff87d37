-- What options are said, as a list in any order.
use Rattle.std.proofs.Common.{◌≡◌, ◌∙◌, ℕ, suc, ◌+◌, ◌≤◌, Bool, true, false, List, [], ◌∷◌, ◌++◌, cond, eqb, Option, None, Some, arith, sym, ap, refl, subst, append_assoc}
use Rattle.std.specs.List.{sum_by}
use Rattle.std.specs.List.Sorted.{IsPermutation}
use Rattle.std.specs.Option.{option_map_or}
use Rattle.std.proofs.lemmas.Option.{none-some}
use Rattle.std.proofs.lemmas.Bool.{cond-true, eq-eqb}
use Rattle.std.proofs.lemmas.List.Sums.{sum_by-cons, sum_by-append}
use Rattle.std.proofs.lemmas.List.Sorted.{IsPermutation-sym, IsPermutation-to_front, IsPermutation-append_right, sum_by-IsPermutation}
use Rattle.bcl_settings.specs.declared.settings.Choice.{Choice}
use Rattle.bcl_settings.specs.declared.settings.Choice.TheVariants.{Own, Any}
use Rattle.bcl_settings.specs.declared.options.CommandOption.{CommandOption}
use Rattle.bcl_settings.specs.declared.options.CommandOption.TheVariants.{Ranks, Min, Promise, Hist}
use Rattle.bcl_settings.specs.declared.options.Options.{Options}
use Rattle.bcl_settings.specs.Options.{with_value, with_hist, options}

-- ---- sums over the options that are said
with_value-sum : {X : Type 0} (g : CommandOption → ℕ) (option : X → CommandOption) (o : Option X) → sum_by g (with_value option o) ≡ option_map_or (λ x. g (option x)) o 0
with_value-sum g option None = refl
with_value-sum g option (Some x) = sum_by-cons g (option x) [] ∙ omega arith

with_hist-sum : (g : CommandOption → ℕ) (hist : Bool) → sum_by g (with_hist hist) ≡ cond hist (g Hist) 0
with_hist-sum g true = sum_by-cons g Hist [] ∙ omega arith
with_hist-sum g false = refl

options-sum : (g : CommandOption → ℕ) (said : Options) → sum_by g (options said)
    ≡ option_map_or (λ n. g (Ranks n)) said.ranks 0 + (option_map_or (λ n. g (Min n)) said.min 0 + (option_map_or (λ choice. g (Promise choice)) said.choice 0 + cond said.hist (g Hist) 0))
options-sum g said =
    let ranks = with_value Ranks said.ranks in
    let min = with_value Min said.min in
    let choice = with_value Promise said.choice in
    let hist = with_hist said.hist in
    omega (
      arith,
      sum_by-append g ranks (min ++ (choice ++ hist)),
      sum_by-append g min (choice ++ hist),
      sum_by-append g choice hist,
      with_value-sum g Ranks said.ranks,
      with_value-sum g Min said.min,
      with_value-sum g Promise said.choice,
      with_hist-sum g said.hist,
    )

-- ---- options that are alike
abbrev kind : CommandOption → ℕ
kind (Ranks n) = 0
kind (Min n) = 1
kind (Promise choice) = 2
kind Hist = 3

abbrev pub alike : CommandOption → CommandOption → ℕ
alike option other = cond (eqb (kind other) (kind option)) 1 0

alike-itself : (option : CommandOption) → alike option option ≡ 1
alike-itself option = cond-true (eqb (kind option) (kind option)) 1 0 (eq-eqb (kind option) (kind option) refl)

-- n where a value is there, and else 0
abbrev where_some : {X : Type 0} → ℕ → Option X → ℕ
where_some n o = option_map_or (λ x. n) o 0

abbrev where_true : ℕ → Bool → ℕ
where_true n b = cond b n 0

one-at-most : {X : Type 0} (o : Option X) → where_some 1 o ≤ 1
one-at-most None = omega arith
one-at-most (Some x) = omega arith

none-of : {X : Type 0} (o : Option X) → where_some 0 o ≡ 0
none-of None = refl
none-of (Some x) = refl

hist-at-most : (hist : Bool) → where_true 1 hist ≤ 1
hist-at-most true = omega arith
hist-at-most false = omega arith

no-hist : (hist : Bool) → where_true 0 hist ≡ 0
no-hist true = refl
no-hist false = refl

-- no two that are said are
lone : (option : CommandOption) (said : Options) → sum_by (alike option) (options said) ≤ 1
lone (Ranks n) said = omega (arith, options-sum (alike (Ranks n)) said, one-at-most said.ranks, none-of said.min, none-of said.choice, no-hist said.hist)
lone (Min n) said = omega (arith, options-sum (alike (Min n)) said, none-of said.ranks, one-at-most said.min, none-of said.choice, no-hist said.hist)
lone (Promise choice) said = omega (arith, options-sum (alike (Promise choice)) said, none-of said.ranks, none-of said.min, one-at-most said.choice, no-hist said.hist)
lone Hist said = omega (arith, options-sum (alike Hist) said, none-of said.ranks, none-of said.min, none-of said.choice, hist-at-most said.hist)

pub twice : (more said : Options) (option : CommandOption) (behind : List CommandOption) → 1 ≤ sum_by (alike option) (options said)
    → IsPermutation (options more) (options said ++ option ∷ behind) → ⊥
twice more said option behind has order =
    let g = alike option in
    let same = sum_by-IsPermutation g (options more) (options said ++ option ∷ behind) order in
    absurd (omega (arith, same, has, sum_by-append g (options said) (option ∷ behind), sum_by-cons g option behind, alike-itself option, lone option more))

some-one : {X : Type 0} (o : Option X) (x : X) → o ≡ Some x → where_some 1 o ≡ 1
some-one o x e = ap (where_some 1) e

pub has-ranks : (n : ℕ) (said : Options) (old : ℕ) → said.ranks ≡ Some old → 1 ≤ sum_by (alike (Ranks n)) (options said)
has-ranks n said old e = omega (arith, options-sum (alike (Ranks n)) said, some-one said.ranks old e)

pub has-min : (n : ℕ) (said : Options) (old : ℕ) → said.min ≡ Some old → 1 ≤ sum_by (alike (Min n)) (options said)
has-min n said old e = omega (arith, options-sum (alike (Min n)) said, some-one said.min old e)

pub has-choice : (choice : Choice) (said : Options) (old : Choice) → said.choice ≡ Some old → 1 ≤ sum_by (alike (Promise choice)) (options said)
has-choice choice said old e = omega (arith, options-sum (alike (Promise choice)) said, some-one said.choice old e)

pub has-hist : (said : Options) → said.hist ≡ true → 1 ≤ sum_by (alike Hist) (options said)
has-hist said e = omega (arith, options-sum (alike Hist) said, ap (where_true 1) e)

-- ---- one more is said
deeper : {X : Type 0} (front xs ys : List X) (x : X) → IsPermutation xs (ys ++ x ∷ []) → IsPermutation (front ++ xs) ((front ++ ys) ++ x ∷ [])
deeper front xs ys x order = subst (IsPermutation (front ++ xs)) (sym (append_assoc front ys (x ∷ []))) (IsPermutation-append_right front xs (ys ++ x ∷ []) order)

here : {X : Type 0} (option : X → CommandOption) (x : X) (o : Option X) (rest : List CommandOption) → o ≡ None
    → IsPermutation (option x ∷ rest) ((with_value option o ++ rest) ++ option x ∷ [])
here option x None rest e = IsPermutation-sym _ _ (IsPermutation-to_front rest (option x))
here option x (Some y) rest e = absurd (none-some y (sym e))

pub with-ranks : (n : ℕ) (said : Options) → said.ranks ≡ None
    → IsPermutation (options (record { ranks = Some n; min = said.min; choice = said.choice; hist = said.hist })) (options said ++ Ranks n ∷ [])
with-ranks n said e = here Ranks n said.ranks _ e

pub with-min : (n : ℕ) (said : Options) → said.min ≡ None
    → IsPermutation (options (record { ranks = said.ranks; min = Some n; choice = said.choice; hist = said.hist })) (options said ++ Min n ∷ [])
with-min n said e = deeper (with_value Ranks said.ranks) _ _ (Min n) (here Min n said.min _ e)

pub with-choice : (choice : Choice) (said : Options) → said.choice ≡ None
    → IsPermutation (options (record { ranks = said.ranks; min = said.min; choice = Some choice; hist = said.hist })) (options said ++ Promise choice ∷ [])
with-choice choice said e =
    deeper (with_value Ranks said.ranks) _ _ (Promise choice) (deeper (with_value Min said.min) _ _ (Promise choice) (here Promise choice said.choice _ e))

-- ---- the list tells what is said
abbrev ranks_code : CommandOption → ℕ
ranks_code (Ranks n) = suc n
ranks_code (Min n) = 0
ranks_code (Promise choice) = 0
ranks_code Hist = 0

abbrev min_code : CommandOption → ℕ
min_code (Ranks n) = 0
min_code (Min n) = suc n
min_code (Promise choice) = 0
min_code Hist = 0

abbrev choice_number : Choice → ℕ
choice_number Own = 1
choice_number Any = 2

abbrev choice_code : CommandOption → ℕ
choice_code (Ranks n) = 0
choice_code (Min n) = 0
choice_code (Promise choice) = choice_number choice
choice_code Hist = 0

same_number : (a b : Option ℕ) → option_map_or (λ n. suc n) a 0 ≡ option_map_or (λ n. suc n) b 0 → a ≡ b
same_number None None e = refl
same_number None (Some m) e = absurd (omega (arith, e))
same_number (Some n) None e = absurd (omega (arith, e))
same_number (Some n) (Some m) e = ap Some (omega (arith, e))

same_choice : (a b : Option Choice) → option_map_or choice_number a 0 ≡ option_map_or choice_number b 0 → a ≡ b
same_choice None None e = refl
same_choice None (Some Own) e = absurd (omega (arith, e))
same_choice None (Some Any) e = absurd (omega (arith, e))
same_choice (Some Own) None e = absurd (omega (arith, e))
same_choice (Some Any) None e = absurd (omega (arith, e))
same_choice (Some Own) (Some Own) e = refl
same_choice (Some Own) (Some Any) e = absurd (omega (arith, e))
same_choice (Some Any) (Some Own) e = absurd (omega (arith, e))
same_choice (Some Any) (Some Any) e = refl

same_hist : (a b : Bool) → where_true 1 a ≡ where_true 1 b → a ≡ b
same_hist true true e = refl
same_hist true false e = absurd (omega (arith, e))
same_hist false true e = absurd (omega (arith, e))
same_hist false false e = refl

module _ (named : List CommandOption) (a b : Options) (p : IsPermutation (options a) named) (q : IsPermutation (options b) named) where
  sums : (g : CommandOption → ℕ) → sum_by g (options a) ≡ sum_by g (options b)
  sums g = sym (sum_by-IsPermutation g (options a) named p) ∙ sum_by-IsPermutation g (options b) named q

  ranks_same : a.ranks ≡ b.ranks
  ranks_same = same_number a.ranks b.ranks (omega (
    arith,
    sums ranks_code,
    options-sum ranks_code a,
    options-sum ranks_code b,
    none-of a.min,
    none-of a.choice,
    no-hist a.hist,
    none-of b.min,
    none-of b.choice,
    no-hist b.hist,
  ))

  min_same : a.min ≡ b.min
  min_same = same_number a.min b.min (omega (
    arith,
    sums min_code,
    options-sum min_code a,
    options-sum min_code b,
    none-of a.ranks,
    none-of a.choice,
    no-hist a.hist,
    none-of b.ranks,
    none-of b.choice,
    no-hist b.hist,
  ))

  choice_same : a.choice ≡ b.choice
  choice_same = same_choice a.choice b.choice (omega (
    arith,
    sums choice_code,
    options-sum choice_code a,
    options-sum choice_code b,
    none-of a.ranks,
    none-of a.min,
    no-hist a.hist,
    none-of b.ranks,
    none-of b.min,
    no-hist b.hist,
  ))

  hist_same : a.hist ≡ b.hist
  hist_same = same_hist a.hist b.hist (omega (
    arith,
    sums (alike Hist),
    options-sum (alike Hist) a,
    options-sum (alike Hist) b,
    none-of a.ranks,
    none-of a.min,
    none-of a.choice,
    none-of b.ranks,
    none-of b.min,
    none-of b.choice,
  ))

  pub one_said : a ≡ b
  one_said = λ i. record { ranks = ranks_same i; min = min_same i; choice = choice_same i; hist = hist_same i }
