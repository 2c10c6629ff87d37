-- The first line with another byte than a letter.
use Rattle.std.proofs.Common.{◌≡◌, ◌∙◌, ℕ, ◌^◌, ◌<◌, ◌≤◌, ◌↔◌, Bool, true, false, not, List, [], length, length-take-le, take, get_or, None, Some, Result, Err, IsErrOf, arith, sym, ap}
use Rattle.std.specs.List.{All, slice_get, position_or_len}
use Rattle.std.specs.Option.{option_map}
use Rattle.std.proofs.lemmas.Bool.{cond-true, cond-false, lt-ltb, le-ltb}
use Rattle.std.proofs.lemmas.List.{get_or-take}
use Rattle.std.proofs.lemmas.List.Sums.{position_or_len_is}
use Rattle.std.proofs.lemmas.Option.{get_or_from_slice_get, none-some}
use Rattle.kmer_text.specs.declared.fault.InputFault.{InputFault}
use Rattle.kmer_text.specs.declared.check.LetterFault.{LetterFault}
use Rattle.kmer_text.specs.declared.check.LetterFault.TheVariants.{Bad, TooManyWindows}
use Rattle.kmer_text.specs.Letters.{are_letters, bad_letter, bad_letter_at}

abbrev has_bad : List ℕ → Bool
has_bad line = not (are_letters line)

bad_place : (ls : List (List ℕ)) (i : ℕ) → i ≤ length ls → All (λ l. are_letters l ≡ true) (take i ls) → (i < length ls → has_bad (get_or ls i []) ≡ true)
    → position_or_len has_bad ls ≡ i
bad_place ls i h before here =
    position_or_len_is has_bad ls i [] h
    (λ k l. ap not (ap are_letters (sym (get_or-take i ls k [] l)) ∙ before k [] (omega (arith, length-take-le i ls h))))
    here

-- the lines before are of letters, and this one isn't
pub bad_letter-here : (ls : List (List ℕ)) (i : ℕ) (line : List ℕ) → i < length ls → slice_get ls i ≡ Some line
    → All (λ l. are_letters l ≡ true) (take i ls) → are_letters line ≡ false → bad_letter ls ≡ Some (bad_letter_at i)
bad_letter-here ls i line h at before bad =
    let place = bad_place ls i (omega arith) before (λ _. ap has_bad (get_or_from_slice_get ls i line [] at) ∙ ap not bad) in
    ap (option_map bad_letter_at) (cond-true _ _ _ (lt-ltb (position_or_len has_bad ls) (length ls) (omega (arith, place))))
    ∙ ap (λ n. Some (bad_letter_at n)) place

-- all lines are of letters
pub bad_letter-none : (ls : List (List ℕ)) (i : ℕ) → i ≡ length ls → All (λ l. are_letters l ≡ true) (take i ls) → bad_letter ls ≡ None
bad_letter-none ls i end all =
    let place = bad_place ls i (omega arith) all (λ l. absurd (omega arith)) in
    ap (option_map bad_letter_at) (cond-false _ _ _ (le-ltb (position_or_len has_bad ls) (length ls) (omega (arith, place))))

-- ---- what a check answers
-- a bad line is named, and no other answer names it
pub names_bad : (ls : List (List ℕ)) (known : InputFault) → bad_letter ls ≡ Some known
    → (fault : InputFault) → IsErrOf {T = ℕ} (Err (Bad known)) (Bad fault) ↔ (bad_letter ls ≡ Some fault)
names_bad ls known bad fault =
    (λ e. let same : known ≡ fault = cc in bad ∙ ap Some same, λ e. let same : known ≡ fault = cc in ap (λ f. Err (Bad f)) same)

pub not_many : (ls : List (List ℕ)) (known : InputFault) (n : ℕ) → bad_letter ls ≡ Some known
    → IsErrOf {T = ℕ} (Err (Bad known)) TooManyWindows ↔ ((bad_letter ls ≡ None) × (2 ^ 23 < n))
not_many ls known n bad = (λ e. absurd (cc), λ e. absurd (none-some known (sym e.0 ∙ bad)))

pub names_none : (ls : List (List ℕ)) (r : Result ℕ LetterFault) → bad_letter ls ≡ None → ((fault : InputFault) → r ≡ Err (Bad fault) → ⊥)
    → (fault : InputFault) → IsErrOf r (Bad fault) ↔ (bad_letter ls ≡ Some fault)
names_none ls r none other fault = (λ e. absurd (other fault e), λ e. absurd (none-some fault (sym none ∙ e)))
