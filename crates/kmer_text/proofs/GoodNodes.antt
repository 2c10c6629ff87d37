-- The first bad line of nodes, and what a line is like that isn't bad.
use Rattle.std.proofs.Common.{◌≡◌, ◌∙◌, ◌≢◌, ℕ, zero, suc, ◌+◌, ◌<◌, ◌≤◌, ◌↔◌, eqb, not, true, false, List, [], ◌∷◌, length, take, drop, get_or, Option, None, Some, Ok, Err, IsErrOf, arith, sym, ap, refl, ⊎_elim}
use Rattle.std.specs.List.{slice_get}
use Rattle.std.specs.Option.{option_map, option_or}
use Rattle.std.proofs.lemmas.Bool.{cond-false, cases_Bool, cases_eq, eq-eqb, ne_eqb}
use Rattle.std.proofs.lemmas.List.{drop_more, drop_all}
use Rattle.std.proofs.lemmas.Option.{none-some, get_or_from_slice_get}
use Rattle.bcl_words.specs.Reasons.{when}
use Rattle.bcl_words.proofs.ReasonsLemmas.{first_of-applies, first_of-passes}
use Rattle.kmer_text.specs.Letters.{are_letters}
use Rattle.kmer_text.specs.declared.fault.InputFault.{InputFault}
use Rattle.kmer_text.specs.declared.fault.Kind.{Kind}
use Rattle.kmer_text.specs.declared.fault.Kind.TheVariants as kind
use Rattle.kmer_text.specs.Nodes.{are_extensions, fault_at, line_fault, node_fault, bad_node, bad_node_from, line_at}

-- ---- the first bad line
-- a line that isn't bad is passed over
pub bad_node-passes : (k i : ℕ) (ls : List (List ℕ)) (line : List ℕ) → i < length ls → slice_get ls i ≡ Some line → line_fault k line ≡ None
    → bad_node_from k (i + 1) (drop i ls) ≡ bad_node_from k (i + 1 + 1) (drop (i + 1) ls)
bad_node-passes k i ls line h at good =
    let rest = bad_node_from k (i + 1 + 1) (drop (i + 1) ls) in
    ap (bad_node_from k (i + 1)) (drop_more ls i [] h)
    ∙ ap (λ o. option_or (option_map (fault_at (i + 1)) o) rest) (ap (line_fault k) (get_or_from_slice_get ls i line [] at) ∙ good)

-- a bad one is the first
pub bad_node-here : (k i : ℕ) (ls : List (List ℕ)) (line : List ℕ) (what : Kind) → i < length ls → slice_get ls i ≡ Some line → line_fault k line ≡ Some what
    → bad_node_from k (i + 1) (drop i ls) ≡ Some (fault_at (i + 1) what)
bad_node-here k i ls line what h at bad =
    let rest = bad_node_from k (i + 1 + 1) (drop (i + 1) ls) in
    ap (bad_node_from k (i + 1)) (drop_more ls i [] h)
    ∙ ap (λ o. option_or (option_map (fault_at (i + 1)) o) rest) (ap (line_fault k) (get_or_from_slice_get ls i line [] at) ∙ bad)

pub bad_node-end : (k n i : ℕ) (ls : List (List ℕ)) → length ls ≤ i → bad_node_from k n (drop i ls) ≡ None
bad_node-end k n i ls h = ap (bad_node_from k n) (drop_all i ls h)

-- ---- what a check answers
pub names_node : (o : Option InputFault) (known : InputFault) → o ≡ Some known → (fault : InputFault) → IsErrOf {T = Unit {0}} (Err known) fault ↔ (o ≡ Some fault)
names_node o known bad fault = (λ e. let same : known ≡ fault = cc in bad ∙ ap Some same, λ e. let same : known ≡ fault = cc in ap Err same)

pub names_no_node : (o : Option InputFault) → o ≡ None → (fault : InputFault) → IsErrOf {T = Unit {0}} (Ok tt) fault ↔ (o ≡ Some fault)
names_no_node o none fault = (λ e. absurd (cc), λ e. absurd (none-some fault (sym none ∙ e)))

-- ---- a line of a text without a bad one
none_of_both : (n : ℕ) (o : Option Kind) (rest : Option InputFault) → option_or (option_map (fault_at n) o) rest ≡ None → (o ≡ None) × (rest ≡ None)
none_of_both n None rest h = (refl, h)
none_of_both n (Some what) rest h = absurd (none-some (fault_at n what) (sym h))

good_from : (k n : ℕ) (ls : List (List ℕ)) (i : ℕ) → bad_node_from k n ls ≡ None → i < length ls → line_fault k (get_or ls i []) ≡ None
good_from k n [] i good h = absurd (omega arith)
good_from k n (line ∷ ls) zero good h = (none_of_both n (line_fault k line) (bad_node_from k (n + 1) ls) good).0
good_from k n (line ∷ ls) (suc i) good h = good_from k (n + 1) ls i (none_of_both n (line_fault k line) (bad_node_from k (n + 1) ls) good).1 (omega arith)

-- the reason behind the tab
abbrev last : ℕ → List ℕ → List (Option Kind)
last k line = when (not (are_extensions k line)) kind.Extension ∷ []

-- the reasons behind the letters
abbrev behind : ℕ → List ℕ → List (Option Kind)
behind k line = when (not (eqb (get_or line k 0) 9)) kind.Tab ∷ last k line

-- the reasons behind the length
abbrev later : ℕ → List ℕ → List (Option Kind)
later k line =
    when (not (are_letters (take k line))) kind.Letter ∷ behind k line

not_empty_fault : (k : ℕ) (line : List ℕ) → length line ≢ 0 → line_fault k line ≡ None → node_fault k line ≡ None
not_empty_fault k line some good = sym (cond-false (eqb (length line) 0) None (node_fault k line) (ne_eqb (length line) 0 some)) ∙ good

long_enough : (k : ℕ) (line : List ℕ) → length line ≢ 0 → line_fault k line ≡ None → length line ≡ k + 3
long_enough k line some good =
    ⊎_elim
    (λ (e : length line ≡ k + 3). e)
    (λ (ne : length line ≢ k + 3).
    let short : node_fault k line ≡ Some kind.Length = first_of-applies (not (eqb (length line) (k + 3))) kind.Length (later k line) (ap not (ne_eqb (length line) (k + 3) ne)) in
    absurd (none-some kind.Length (sym (not_empty_fault k line some good) ∙ short)))
    (cases_eq (length line) (k + 3))

of_letters : (k : ℕ) (line : List ℕ) → length line ≢ 0 → line_fault k line ≡ None → are_letters (take k line) ≡ true
of_letters k line some good =
    ⊎_elim
    (λ (yes : are_letters (take k line) ≡ true). yes)
    (λ (no : are_letters (take k line) ≡ false).
    let long = ap not (eq-eqb (length line) (k + 3) (long_enough k line some good)) in
    let other : node_fault k line ≡ Some kind.Letter =
    first_of-passes (not (eqb (length line) (k + 3))) kind.Length (later k line) long
    ∙ first_of-applies (not (are_letters (take k line))) kind.Letter (behind k line) (ap not no) in
    absurd (none-some kind.Letter (sym (not_empty_fault k line some good) ∙ other)))
    (cases_Bool (are_letters (take k line)))

has_tab : (k : ℕ) (line : List ℕ) → length line ≢ 0 → line_fault k line ≡ None → eqb (get_or line k 0) 9 ≡ true
has_tab k line some good =
    ⊎_elim
    (λ (yes : eqb (get_or line k 0) 9 ≡ true). yes)
    (λ (no : eqb (get_or line k 0) 9 ≡ false).
    let long = ap not (eq-eqb (length line) (k + 3) (long_enough k line some good)) in
    let other : node_fault k line ≡ Some kind.Tab =
    first_of-passes (not (eqb (length line) (k + 3))) kind.Length (later k line) long
    ∙ (first_of-passes (not (are_letters (take k line))) kind.Letter (behind k line) (ap not (of_letters k line some good))
    ∙ first_of-applies (not (eqb (get_or line k 0) 9)) kind.Tab (last k line) (ap not no)) in
    absurd (none-some kind.Tab (sym (not_empty_fault k line some good) ∙ other)))
    (cases_Bool (eqb (get_or line k 0) 9))

of_extensions : (k : ℕ) (line : List ℕ) → length line ≢ 0 → line_fault k line ≡ None → are_extensions k line ≡ true
of_extensions k line some good =
    ⊎_elim
    (λ (yes : are_extensions k line ≡ true). yes)
    (λ (no : are_extensions k line ≡ false).
    let long = ap not (eq-eqb (length line) (k + 3) (long_enough k line some good)) in
    let other : node_fault k line ≡ Some kind.Extension =
    first_of-passes (not (eqb (length line) (k + 3))) kind.Length (later k line) long
    ∙ (first_of-passes (not (are_letters (take k line))) kind.Letter (behind k line) (ap not (of_letters k line some good))
    ∙ (first_of-passes (not (eqb (get_or line k 0) 9)) kind.Tab (last k line) (ap not (has_tab k line some good))
    ∙ first_of-applies (not (are_extensions k line)) kind.Extension [] (ap not no))) in
    absurd (none-some kind.Extension (sym (not_empty_fault k line some good) ∙ other)))
    (cases_Bool (are_extensions k line))

-- a line that isn't empty has its k + 3 bytes
pub length-good : (k i : ℕ) (ls : List (List ℕ)) (line : List ℕ) → bad_node k ls ≡ None → i < length ls → slice_get ls i ≡ Some line → length line ≢ 0 → length line ≡ k + 3
length-good k i ls line good h at some =
    long_enough k line some (ap (line_fault k) (sym (get_or_from_slice_get ls i line [] at)) ∙ good_from k 1 ls i good h)

-- what a line at a place that isn't empty is like
pub node-good : (k i : ℕ) (ls : List (List ℕ)) → bad_node k ls ≡ None → i < length ls → length (line_at ls i) ≢ 0
    → (length (line_at ls i) ≡ k + 3) × (are_letters (take k (line_at ls i)) ≡ true)
node-good k i ls good h some =
    let fine = good_from k 1 ls i good h in
    (long_enough k (line_at ls i) some fine, of_letters k (line_at ls i) some fine)

-- the extensions of such a line
pub extensions-good : (k i : ℕ) (ls : List (List ℕ)) → bad_node k ls ≡ None → i < length ls → length (line_at ls i) ≢ 0 → are_extensions k (line_at ls i) ≡ true
extensions-good k i ls good h some = of_extensions k (line_at ls i) some (good_from k 1 ls i good h)

pub not_empty : (line : List ℕ) → false ≡ eqb (length line) 0 → length line ≢ 0
not_empty line h e = let full : eqb (length line) 0 ≡ true = eq-eqb (length line) 0 e in cc
