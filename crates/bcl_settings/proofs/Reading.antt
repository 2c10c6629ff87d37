-- What is read so far, and that no list of words can be read in two ways.
use Rattle.std.proofs.Common.{◌≡◌, ◌∙◌, ℕ, List, [], ◌∷◌, ◌++◌, length, Option, Some, None, unwrap_or, IfNone, arith, sym, ap, refl, subst, append_assoc}
use Rattle.std.specs.List.{flat_map, All}
use Rattle.std.specs.List.Sorted.{IsPermutation}
use Rattle.std.proofs.lemmas.Grind.{flat_map-append}
use Rattle.std.proofs.lemmas.List.{append-nil}
use Rattle.std.proofs.lemmas.List.Elements.{All-push, All-head, All-tail}
use Rattle.std.proofs.lemmas.Option.{none-some}
use Rattle.std.proofs.lemmas.List.Sorted.{IsPermutation-sym, IsPermutation-trans, IsPermutation-append_left}
use Rattle.bcl_settings.specs.declared.options.CommandOption.{CommandOption}
use Rattle.bcl_settings.specs.declared.options.Options.{Options}
use Rattle.bcl_settings.specs.declared.mode.Mode.{Mode}
use Rattle.bcl_settings.specs.declared.settings.Settings.{Settings}
use Rattle.bcl_settings.specs.Options.{option_words, OptionInRange, options, NamesOptions}
use Rattle.bcl_settings.specs.Settings.{mode_words, ModeInRange, with_options, Spells, IsOffered, AsksFor, Reads}
use Rattle.bcl_settings.proofs.Said.{one_said}
use Rattle.bcl_settings.proofs.Decoding.{one_option, some_words, others, one_list, one_mode}

-- the options that are read, and the words that are left
pub record Read (words : List (List ℕ)) (said : Options) (rest : List (List ℕ)) : Type 0 where
  pub done : List CommandOption
  pub order : IsPermutation (options said) done
  pub in_range : All OptionInRange done
  pub words_are : words ≡ flat_map option_words done ++ rest

-- one more
pub read_more : (words rest behind : List (List ℕ)) (said more : Options) (option : CommandOption) → Read words said rest → OptionInRange option
    → rest ≡ option_words option ++ behind → IsPermutation (options more) (options said ++ option ∷ []) → Read words more behind
read_more words rest behind said more option r in_range front order =
    let one : flat_map option_words (option ∷ []) ≡ option_words option = append-nil (option_words option) in
    record {
      done = r.done ++ option ∷ [];
      order = IsPermutation-trans _ _ _ order (IsPermutation-append_left (option ∷ []) (options said) r.done r.order);
      in_range = All-push OptionInRange r.done option r.in_range in_range;
      words_are = r.words_are
          ∙ (ap (λ ws. flat_map option_words r.done ++ ws) front
          ∙ (sym (append_assoc (flat_map option_words r.done) (option_words option) behind)
          ∙ ap (λ ws. ws ++ behind) (ap (λ ws. flat_map option_words r.done ++ ws) (sym one) ∙ sym (flat_map-append option_words r.done (option ∷ [])))));
    }

-- all are read
pub read_all : (words rest : List (List ℕ)) (said : Options) → Read words said rest → rest ≡ [] → NamesOptions words said
read_all words rest said r none = record {
  named = r.done;
  any_order = r.order;
  in_range = r.in_range;
  words_are = r.words_are ∙ (ap (λ ws. flat_map option_words r.done ++ ws) none ∙ append-nil (flat_map option_words r.done));
}

pub later_in : (xs ys : List CommandOption) → All OptionInRange (xs ++ ys) → All OptionInRange ys
later_in [] ys h = h
later_in (x ∷ xs) ys h = later_in xs ys (All-tail OptionInRange x (xs ++ ys) h)

-- a list of options that begins with those that are read
module _ (rest : List (List ℕ)) (said all : Options) (done named : List CommandOption) (order : IsPermutation (options said) done)
    (any_order : IsPermutation (options all) named) (in_range : All OptionInRange named) where
  abbrev Next : Type 0
  Next = (option : CommandOption) × (later : List CommandOption) × OptionInRange option × (rest ≡ option_words option ++ flat_map option_words later)
      × IsPermutation (options all) (options said ++ option ∷ later)

  next : (left : List CommandOption) → (rest ≡ [] → ⊥) → named ≡ done ++ left → rest ≡ flat_map option_words left → Next
  next [] some e f = absurd (some f)
  next (option ∷ later) some e f =
      let P : List CommandOption → Type 0 = λ l. IsPermutation (options all) l in
      let within : All OptionInRange (done ++ option ∷ later) = subst (All OptionInRange) e in_range in
      let here : OptionInRange option = All-head OptionInRange option later (later_in done (option ∷ later) within) in
      (option, later, here, f, IsPermutation-trans _ _ _ (subst P e any_order) (IsPermutation-append_left (option ∷ later) done (options said) (IsPermutation-sym _ _ order)))

-- words that name options go on with an option, where some are left, and it is none like those that are read
pub goes_on : (words rest : List (List ℕ)) (said all : Options) → Read words said rest → NamesOptions words all → (rest ≡ [] → ⊥)
    → (option : CommandOption) × (later : List CommandOption) × OptionInRange option × (rest ≡ option_words option ++ flat_map option_words later)
    × IsPermutation (options all) (options said ++ option ∷ later)
goes_on words rest said all r names some =
    let left = others r.done names.named rest r.in_range names.in_range (sym names.words_are ∙ r.words_are) in
    next rest said all r.done names.named r.order names.any_order names.in_range left.0 some left.1 left.2

pub goes_on_with : (words rest behind : List (List ℕ)) (said all : Options) (option : CommandOption) → Read words said rest → NamesOptions words all → OptionInRange option
    → rest ≡ option_words option ++ behind → (later : List CommandOption) × IsPermutation (options all) (options said ++ option ∷ later)
goes_on_with words rest behind said all option r names in_range front =
    let some : rest ≡ [] → ⊥ = λ none. omega (arith, some_words option behind, ap length front, ap length none) in
    let on = goes_on words rest said all r names some in
    let same = one_option on.0 option (flat_map option_words on.1) behind on.2 in_range (sym on.3 ∙ front) in
    (on.1, subst (λ o. IsPermutation (options all) (options said ++ o ∷ on.1)) same.0 on.4)

one_naming : (words : List (List ℕ)) (a b : Options) → NamesOptions words a → NamesOptions words b → a ≡ b
one_naming words a b p q =
    one_said p.named a b p.any_order (subst (IsPermutation (options b)) (one_list q.named p.named q.in_range p.in_range (sym q.words_are ∙ p.words_are)) q.any_order)

-- words spell one mode with one set of options
pub one_spelling : (words : List (List ℕ)) (m n : Mode) (a b : Options) → Spells words m a → Spells words n b → (m ≡ n) × (a ≡ b)
one_spelling words m n a b p q =
    let front = one_mode m n p.behind q.behind p.in_range q.in_range (sym p.words_are ∙ q.words_are) in
    (front.0, one_naming q.behind a b (subst (λ ws. NamesOptions ws a) front.1 p.options_are) q.options_are)

pub named_behind : (words behind : List (List ℕ)) (mode other : Mode) (said : Options) → ModeInRange other → words ≡ mode_words other ++ behind → Spells words mode said
    → NamesOptions behind said
named_behind words behind mode other said in_range front p =
    let same = one_mode mode other p.behind behind p.in_range in_range (sym p.words_are ∙ front) in
    subst (λ ws. NamesOptions ws said) same.1 p.options_are

-- what a mode and options that are spelled are not offered as, or have no settings, the words do not ask for
module _ (words : List (List ℕ)) (mode : Mode) (said : Options) (spelled : Spells words mode said) where
  pub not_offered : (IsOffered mode said → ⊥) → (settings : Settings) → AsksFor words settings → ⊥
  not_offered refused settings p =
      let same = one_spelling words p.mode mode p.said said p.spelled spelled in
      refused (subst (λ m. IsOffered m said) same.0 (subst (IsOffered p.mode) same.1 p.offered))

  pub asks : (result : Option Settings) → IsOffered mode said → result ≡ with_options mode said → Reads words result
  asks (Some settings) offered e = record { mode = mode; said = said; spelled = spelled; settings_are = sym e; offered = offered }
  asks None offered e =
      λ (settings : Settings) (p : AsksFor words settings).
      let same = one_spelling words p.mode mode p.said said p.spelled spelled in
      none-some settings (e ∙ ((λ i. with_options (sym same.0 i) (sym same.1 i)) ∙ p.settings_are))

one_reading : (words : List (List ℕ)) (a b : Settings) → AsksFor words a → AsksFor words b → a ≡ b
one_reading words a b p q =
    let same = one_spelling words p.mode q.mode p.said q.said p.spelled q.spelled in
    let both : Some a ≡ Some b = sym p.settings_are ∙ ((λ i. with_options (same.0 i) (same.1 i)) ∙ q.settings_are) in
    ap (λ o. unwrap_or o a) both

pub once : (words : List (List ℕ)) (one other : Option Settings) → Reads words one → Reads words other → one ≡ other
once words None None p q = refl
once words None (Some b) p q = absurd (p b q)
once words (Some a) None p q = absurd (q a p)
once words (Some a) (Some b) p q = ap Some (one_reading words a b p q)

pub where_none : {X : Type 0} (o : Option X) (P : Type 0) → P → IfNone o P
where_none None P p = p
where_none (Some x) P p = tt
