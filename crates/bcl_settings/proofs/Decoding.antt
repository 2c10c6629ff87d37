-- Words name options and modes in one way only.
use Rattle.std.proofs.Common.{◌≡◌, ◌∙◌, ℕ, ◌<◌, List, [], ◌∷◌, ◌++◌, length, drop, get_or, arith, sym, ap, refl, append_assoc}
use Rattle.std.specs.List.{flat_map, All}
use Rattle.std.proofs.lemmas.Fmt.{decimal_injective}
use Rattle.std.proofs.lemmas.List.{append-nil}
use Rattle.std.proofs.lemmas.List.Elements.{All-head, All-tail}
use Rattle.bcl_settings.specs.declared.settings.Choice.{Choice}
use Rattle.bcl_settings.specs.declared.settings.Choice.TheVariants.{Own, Any}
use Rattle.bcl_settings.specs.declared.options.CommandOption.{CommandOption}
use Rattle.bcl_settings.specs.declared.options.CommandOption.TheVariants.{Ranks, Min, Promise, Hist}
use Rattle.bcl_settings.specs.declared.mode.Mode.{Mode}
use Rattle.bcl_settings.specs.declared.mode.Mode.TheVariants as modes
use Rattle.bcl_settings.specs.Options.{choice_word, option_words, OptionInRange}
use Rattle.bcl_settings.specs.Settings.{mode_words, ModeInRange}

-- words in front that begin with names of different lengths
apart : {X : Type 0} (xs ys : List (List ℕ)) (m n : ℕ) → length (get_or xs 0 []) ≡ m → length (get_or ys 0 []) ≡ n → (m ≡ n → ⊥) → xs ≡ ys → X
apart xs ys m n p q ne e = absurd (ne (sym p ∙ (ap (λ ws. length (get_or ws 0 [])) e ∙ q)))

one_choice : (a b : Choice) → choice_word a ≡ choice_word b → a ≡ b
one_choice Own Own e = refl
one_choice Own Any e = let differ : 111 ≡ 97 = ap (λ w. get_or w 0 0) e in absurd (omega (arith, differ))
one_choice Any Own e = let differ : 97 ≡ 111 = ap (λ w. get_or w 0 0) e in absurd (omega (arith, differ))
one_choice Any Any e = refl

abbrev Same : {X : Type 0} → X → X → List (List ℕ) → List (List ℕ) → Type 0
Same a b xs ys = (a ≡ b) × (xs ≡ ys)

-- the option in front, and the words behind it
pub one_option : (a b : CommandOption) (xs ys : List (List ℕ)) → OptionInRange a → OptionInRange b → option_words a ++ xs ≡ option_words b ++ ys → Same a b xs ys
one_option (Ranks n) (Ranks m) xs ys p q e = (ap Ranks (decimal_injective n m (omega (arith, p.1)) (omega (arith, q.1)) (ap (λ ws. get_or ws 1 []) e)), ap (drop 2) e)
one_option (Ranks n) (Min m) xs ys p q e = apart _ _ 7 5 refl refl (λ d. omega (arith, d)) e
one_option (Ranks n) (Promise c) xs ys p q e = apart _ _ 7 9 refl refl (λ d. omega (arith, d)) e
one_option (Ranks n) Hist xs ys p q e = apart _ _ 7 6 refl refl (λ d. omega (arith, d)) e
one_option (Min n) (Ranks m) xs ys p q e = apart _ _ 5 7 refl refl (λ d. omega (arith, d)) e
one_option (Min n) (Min m) xs ys p q e = (ap Min (decimal_injective n m (omega (arith, p.1)) (omega (arith, q.1)) (ap (λ ws. get_or ws 1 []) e)), ap (drop 2) e)
one_option (Min n) (Promise c) xs ys p q e = apart _ _ 5 9 refl refl (λ d. omega (arith, d)) e
one_option (Min n) Hist xs ys p q e = apart _ _ 5 6 refl refl (λ d. omega (arith, d)) e
one_option (Promise c) (Ranks m) xs ys p q e = apart _ _ 9 7 refl refl (λ d. omega (arith, d)) e
one_option (Promise c) (Min m) xs ys p q e = apart _ _ 9 5 refl refl (λ d. omega (arith, d)) e
one_option (Promise c) (Promise d) xs ys p q e = (ap Promise (one_choice c d (ap (λ ws. get_or ws 1 []) e)), ap (drop 2) e)
one_option (Promise c) Hist xs ys p q e = apart _ _ 9 6 refl refl (λ d. omega (arith, d)) e
one_option Hist (Ranks m) xs ys p q e = apart _ _ 6 7 refl refl (λ d. omega (arith, d)) e
one_option Hist (Min m) xs ys p q e = apart _ _ 6 5 refl refl (λ d. omega (arith, d)) e
one_option Hist (Promise c) xs ys p q e = apart _ _ 6 9 refl refl (λ d. omega (arith, d)) e
one_option Hist Hist xs ys p q e = (refl, ap (drop 1) e)

pub some_words : (a : CommandOption) (xs : List (List ℕ)) → length xs < length (option_words a ++ xs)
some_words (Ranks n) xs = omega arith
some_words (Min n) xs = omega arith
some_words (Promise c) xs = omega arith
some_words Hist xs = omega arith

-- options of which the first are known
pub others : (done named : List CommandOption) (rest : List (List ℕ)) → All OptionInRange done → All OptionInRange named
    → flat_map option_words named ≡ flat_map option_words done ++ rest
    → (left : List CommandOption) × (named ≡ done ++ left) × (rest ≡ flat_map option_words left)
others [] named rest p q e = (named, refl, sym e)
others (a ∷ done) [] rest p q e =
    let long = some_words a (flat_map option_words done ++ rest) in
    absurd (omega (arith, long, ap length (e ∙ append_assoc (option_words a) (flat_map option_words done) rest)))
others (a ∷ done) (b ∷ named) rest p q e =
    let front = one_option b a (flat_map option_words named) (flat_map option_words done ++ rest) (All-head OptionInRange b named q) (All-head OptionInRange a done p)
    (e ∙ append_assoc (option_words a) (flat_map option_words done) rest) in
    let more = others done named rest (All-tail OptionInRange a done p) (All-tail OptionInRange b named q) front.1 in
    (more.0, (λ i. front.0 i ∷ more.1 i), more.2)

no_words : (left : List CommandOption) → [] ≡ flat_map option_words left → left ≡ []
no_words [] e = refl
no_words (a ∷ left) e = absurd (omega (arith, some_words a (flat_map option_words left), ap length e))

pub one_list : (a b : List CommandOption) → All OptionInRange a → All OptionInRange b → flat_map option_words a ≡ flat_map option_words b → a ≡ b
one_list a b p q e =
    let left = others b a [] q p (e ∙ sym (append-nil (flat_map option_words b))) in
    left.1 ∙ (ap (λ l. b ++ l) (no_words left.0 left.2) ∙ append-nil b)

-- the mode in front, and the words behind it
pub one_mode : (a b : Mode) (xs ys : List (List ℕ)) → ModeInRange a → ModeInRange b → mode_words a ++ xs ≡ mode_words b ++ ys → Same a b xs ys
one_mode (modes.Count k) (modes.Count j) xs ys p q e = (ap modes.Count (decimal_injective k j (omega (arith, p.1)) (omega (arith, q.1)) (ap (λ ws. get_or ws 1 []) e)), ap (drop 2) e)
one_mode (modes.Count k) (modes.Contigs j) xs ys p q e = apart _ _ 5 7 refl refl (λ d. omega (arith, d)) e
one_mode (modes.Count k) (modes.Drill n l j) xs ys p q e = let differ : 99 ≡ 100 = ap (λ ws. get_or (get_or ws 0 []) 0 0) e in absurd (omega (arith, differ))
one_mode (modes.Contigs k) (modes.Count j) xs ys p q e = apart _ _ 7 5 refl refl (λ d. omega (arith, d)) e
one_mode (modes.Contigs k) (modes.Contigs j) xs ys p q e = (ap modes.Contigs (decimal_injective k j (omega (arith, p.1)) (omega (arith, q.1)) (ap (λ ws. get_or ws 1 []) e)), ap (drop 2) e)
one_mode (modes.Contigs k) (modes.Drill n l j) xs ys p q e = apart _ _ 7 5 refl refl (λ d. omega (arith, d)) e
one_mode (modes.Drill n l k) (modes.Count j) xs ys p q e = let differ : 100 ≡ 99 = ap (λ ws. get_or (get_or ws 0 []) 0 0) e in absurd (omega (arith, differ))
one_mode (modes.Drill n l k) (modes.Contigs j) xs ys p q e = apart _ _ 5 7 refl refl (λ d. omega (arith, d)) e
one_mode (modes.Drill n l k) (modes.Drill m o j) xs ys p q e =
    let number = decimal_injective n m p.0 q.0 (ap (λ ws. get_or ws 1 []) e) in
    let lines = decimal_injective l o (omega (arith, p.2)) (omega (arith, q.2)) (ap (λ ws. get_or ws 2 []) e) in
    let letters = decimal_injective k j (omega (arith, p.4)) (omega (arith, q.4)) (ap (λ ws. get_or ws 3 []) e) in
    ((λ i. modes.Drill (number i) (lines i) (letters i)), ap (drop 4) e)
