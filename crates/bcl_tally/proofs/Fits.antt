-- How the words of the tally fit as ranks come and go, and as they step.
use Rattle.std.proofs.Common.{◌≡◌, ◌≢◌, ℕ, ◌+◌, ◌*◌, ◌%◌, ◌^◌, ◌<◌, List, [], ◌∷◌, slice_index, slice_set, refl, sym, ap, ◌∙◌, subst, ⊎_elim, arith, length-set, set-set, get_or-set_other}
use Rattle.std.proofs.lemmas.List.Elements.{All-nil, All-cons}
use Rattle.std.proofs.lemmas.Bool.{false≢true, eq-eqb, ne_eqb, cond-true, cond-false, cases_eq}
use Rattle.bcl_phase.specs.Seats.{IsLaid}
use Rattle.std.specs.Prelude.{Option, true, ◌==◌, ◌-◌, if◌then◌else◌, bit_or, min, eqb}
use Rattle.std.specs.List.{All}
use Rattle.std.specs.Int.Bits.{or_zero_r}
use Rattle.std.proofs.lemmas.Bool.Decides.{nat_tests}
use mathlib.Core.Option.{some, some-ne-none}
use lib.ListN.{get_elem?}
use lib.Seq.{set-get_or}
use Rattle.atomic_table.proofs.Lists.{at_set, set_again}
use Rattle.bcl_segment.specs.declared.layout.Layout.{Layout}
use Rattle.bcl_segment.specs.declared.layout.Spot.TheVariants.{At}
use Rattle.bcl_segment.specs.Places.{word_at, IsSpot}
use Rattle.bcl_phase.specs.Rule.{Moves, Rests, Pairs}
use Rattle.bcl_event.specs.History.{state_by}
use Rattle.bcl_tally.specs.declared.tally.Call.{Call}
use Rattle.bcl_tally.specs.declared.tally.Call.TheVariants.{Add, Swap}
use Rattle.bcl_tally.specs.declared.tally.Reply.TheVariants.{Was}
use Rattle.bcl_tally.specs.declared.tally.Note.{Note}
use Rattle.bcl_tally.specs.declared.tally.Note.TheVariants.{Rest, Got}
use Rattle.bcl_tally.specs.Tally.{owning, anything, next, permits, is_rest, fits}
use Rattle.bcl_tally.specs.Calls.{Makes, Gets}
use Rattle.bcl_tally.specs.Guarded.{Exchanges}
use Rattle.bcl_tally.specs.Ranks.{not_rest}

-- where the number of a rank stands
pub place_is : (k heads : ℕ) (layout : Layout) (i : ℕ) → IsLaid true 0 (record { ranks = k; per_rank = 1 }) heads layout → word_at heads layout (At (record { rank = i; offset = 0 })) ≡ i
place_is k heads layout i laid = (λ j. laid.as_heads j + (i * (laid.as_layout j).per_rank + 0)) ∙ omega arith

pub spot_is : (k heads : ℕ) (layout : Layout) (i : ℕ) → IsLaid true 0 (record { ranks = k; per_rank = 1 }) heads layout → i < k → IsSpot heads layout (At (record { rank = i; offset = 0 }))
spot_is k heads layout i laid below = let r : layout.ranks ≡ k = λ j. (laid.as_layout j).ranks in let p : layout.per_rank ≡ 1 = λ j. (laid.as_layout j).per_rank in (omega arith, omega arith)

pub at_rest : (x : Note) → is_rest x ≡ true → x ≡ Rest
at_rest Rest e = refl
at_rest (Got m) e = absurd (false≢true e)

-- no call is in flight where a rank may add
no_got : (promise m : ℕ) → promise ≡ anything → promise ≡ owning → ⊥
no_got promise m any own = absurd (omega arith)

pub adds : (k promise rank i n : ℕ) → promise ≡ anything → Moves next permits fits k promise rank Rest i (λ m. (m + n) % 2 ^ 64) (λ m t did y. Makes (Add i n) (Was m) Rest t did y)
adds k promise rank i n any ws t xs at fit small = (
  Add i n ∷ [],
  Rest,
  All-cons (permits k promise rank) (Add i n) [] any (All-nil (permits k promise rank)),
  (
    length-set ws i ((slice_index ws i + n) % 2 ^ 64) ∙ fit.0,
    ap (λ (l : List ℕ). slice_set l i ((slice_index l i + n) % 2 ^ 64)) fit.1,
    λ r m e. ⊎_elim (λ (y : (r ≡ rank) × (Rest ≡ Got m)). absurd (not_rest m y.1))
        (λ (y : (r ≢ rank) × (get_elem? xs r ≡ some (Got m))). absurd (no_got promise m any (fit.2 r m y.1).0)) (at_set xs rank r Rest (Got m) e),
  ),
  (refl, ap (λ (l : List ℕ). Was (slice_index l i)) (sym fit.1), refl),
)

pub gets : (k promise rank i : ℕ) → promise ≡ owning → i ≡ rank → Moves next permits fits k promise rank Rest i (λ m. m) Gets
gets k promise rank i own is ws t xs at fit small = (
  [],
  Got (slice_index ws i),
  All-nil (permits k promise rank),
  subst (λ (l : List ℕ). fits k promise l t (slice_set xs rank (Got (slice_index ws i)))) (sym (set-get_or ws i 0)) (
    fit.0,
    fit.1,
    λ r m e. ⊎_elim (λ (y : (r ≡ rank) × (Got (slice_index ws i) ≡ Got m)). (own, ap (slice_index ws) (y.0 ∙ sym is) ∙ same_got (slice_index ws i) m y.1))
        (λ (y : (r ≢ rank) × (get_elem? xs r ≡ some (Got m))). fit.2 r m y.1) (at_set xs rank r (Got (slice_index ws i)) (Got m) e),
  ),
  (refl, refl),
)
  where
    same_got : (a b : ℕ) → Got a ≡ Got b → a ≡ b
    same_got a b e = cc

pub puts : (k promise rank i n old : ℕ) → promise ≡ owning → i ≡ rank → Moves next permits fits k promise rank (Got old) i (λ _. n) (λ _ t did y. Makes (Swap i n) (Was old) Rest t did y)
puts k promise rank i n old own is ws t xs at fit small = (
  Swap i n ∷ [],
  Rest,
  All-cons (permits k promise rank) (Swap i n) [] (own, is) (All-nil (permits k promise rank)),
  (
    length-set ws i n ∙ fit.0,
    ap (λ (l : List ℕ). slice_set l i n) fit.1,
    λ r m e. ⊎_elim (λ (y : (r ≡ rank) × (Rest ≡ Got m)). absurd (not_rest m y.1))
        (λ (y : (r ≢ rank) × (get_elem? xs r ≡ some (Got m))). let f = fit.2 r m y.1 in (f.0, get_or-set_other ws i r n 0 (λ same. y.0 (same ∙ is)) ∙ f.1)) (at_set xs rank r Rest (Got m) e),
  ),
  (refl, ap (λ (l : List ℕ). Was (slice_index l i)) (sym fit.1) ∙ ap (λ (m : ℕ). Was m) (ap (slice_index ws) is ∙ (fit.2 rank old at).1), refl),
)

-- the same at a word that is the number of the rank, with a note that is known
pub adds_at : (k promise rank i n w : ℕ) (note : Note) → w ≡ i → note ≡ Rest → promise ≡ anything → Moves next permits fits k promise rank note w (λ m. (m + n) % 2 ^ 64) (λ m t did y. Makes (Add i n) (Was m) Rest t did y)
adds_at k promise rank i n w note at resting any =
    subst (λ (z : ℕ × Note). Moves next permits fits k promise rank z.1 z.0 (λ m. (m + n) % 2 ^ 64) (λ m t did y. Makes (Add i n) (Was m) Rest t did y)) (λ j. (sym at j, sym resting j)) (adds k promise rank i n any)

pub gets_at : (k promise rank i w : ℕ) (note : Note) → w ≡ i → note ≡ Rest → promise ≡ owning → i ≡ rank → Moves next permits fits k promise rank note w (λ m. m) Gets
gets_at k promise rank i w note at resting own is = subst (λ (z : ℕ × Note). Moves next permits fits k promise rank z.1 z.0 (λ m. m) Gets) (λ j. (sym at j, sym resting j)) (gets k promise rank i own is)

pub puts_at : (k promise rank i n old w : ℕ) (note : Note) → w ≡ i → note ≡ Got old → promise ≡ owning → i ≡ rank
    → Moves next permits fits k promise rank note w (λ _. n) (λ _ t did y. Makes (Swap i n) (Was old) Rest t did y)
puts_at k promise rank i n old w note at got own is = subst (λ (z : ℕ × Note). Moves next permits fits k promise rank z.1 z.0 (λ _. n) (λ _ t did y. Makes (Swap i n) (Was old) Rest t did y)) (λ j. (sym at j, sym got j)) (puts k promise rank i n old own is)

-- what a home reads is its number in the state
pub reads : (k i w : ℕ) (known : Option (List ℕ)) → w ≡ i → Rests next permits fits k known w (λ m. m) (λ m t did. (did ≡ []) × (m ≡ slice_index t i))
reads k i w known at = subst (λ (z : ℕ). Rests next permits fits k known z (λ m. m) (λ m t did. (did ≡ []) × (m ≡ slice_index t i))) (sym at)
    (λ ws t are fit small. ([], subst (λ (l : List ℕ). fits k 0 l t []) (sym (set-get_or ws i 0)) fit, (refl, ap (λ (l : List ℕ). slice_index l i) fit.1)))

pub clears : (k i n w : ℕ) (known : Option (List ℕ)) → w ≡ i → Rests next permits fits k known w (λ _. n) (λ _ t did. did ≡ Swap i 0 ∷ Swap i n ∷ [])
clears k i n w known at = subst (λ (z : ℕ). Rests next permits fits k known z (λ _. n) (λ _ t did. did ≡ Swap i 0 ∷ Swap i n ∷ [])) (sym at)
    (λ ws t are fit small. (Swap i 0 ∷ Swap i n ∷ [], (length-set ws i n ∙ fit.0, ap (λ (l : List ℕ). slice_set l i n) fit.1 ∙ sym (set-set t i 0 n), λ r m e. absurd (some-ne-none (Got m) (sym e))), refl))

pub sets : (k i n j m w u : ℕ) (known : Option (List ℕ)) → w ≡ i → u ≡ j → Pairs next permits fits k known w n u m (λ t did. did ≡ Swap i n ∷ Swap j m ∷ [])
sets k i n j m w u known at at' = subst (λ (z : ℕ × ℕ). Pairs next permits fits k known z.0 n z.1 m (λ t did. did ≡ Swap i n ∷ Swap j m ∷ [])) (λ x. (sym at x, sym at' x)) (λ ws t are fit. (
  Swap i n ∷ Swap j m ∷ [],
  (length-set (slice_set ws i n) j m ∙ (length-set ws i n ∙ fit.0), ap (λ (l : List ℕ). slice_set (slice_set l i n) j m) fit.1, λ r q e. absurd (some-ne-none (Got q) (sym e))),
  refl,
))

-- a step that changes no word, and makes no call
pub stays : (k promise rank w : ℕ) (f : ℕ → ℕ) (note : Note) → ((m : ℕ) → m < 2 ^ 64 → f m ≡ m) → Moves next permits fits k promise rank note w f (λ _ _ did y. (did ≡ []) × (y ≡ note))
stays k promise rank w f note same ws t xs at fit small = (
  [],
  note,
  All-nil (permits k promise rank),
  subst (λ (z : List ℕ × List Note). fits k promise z.0 t z.1)
      (λ i. (sym (ap (slice_set ws w) (same (slice_index ws w) small) ∙ set-get_or ws w 0) i, sym (set_again xs rank note at) i)) fit,
  (refl, refl),
)

pub stays_at : (k promise rank w : ℕ) (f : ℕ → ℕ) (note : Note) → note ≡ Rest → ((m : ℕ) → m < 2 ^ 64 → f m ≡ m) → Moves next permits fits k promise rank note w f (λ _ _ did y. (did ≡ []) × (y ≡ Rest))
stays_at k promise rank w f note resting same = subst (λ (z : Note). Moves next permits fits k promise rank note w f (λ _ _ did y. (did ≡ []) × (y ≡ z))) resting (stays k promise rank w f note same)

-- the four ways to leave a word as it is
pub traded : (x m : ℕ) → (if m == x then x else m) ≡ m
traded x m = grind (arith, nat_tests)

pub lowered : (m : ℕ) → m < 2 ^ 64 → (m + (2 ^ 64 - 0)) % 2 ^ 64 ≡ m
lowered m small = omega arith

pub marked : (m : ℕ) → bit_or m 0 ≡ m
marked m = or_zero_r m

pub least : (m : ℕ) → m < 2 ^ 64 → min m 18446744073709551615 ≡ m
least m small = omega arith

-- an exchange of a number for a sum, whether it is won or lost
pub exchanges : (k promise rank i n got : ℕ) → promise ≡ anything → Moves next permits fits k promise rank Rest i (λ m. if m == got then (got + n) % 2 ^ 64 else m) (λ m t did y. Exchanges (Add i n) got m t did y)
exchanges k promise rank i n got any ws t xs at fit small = ⊎_elim won lost (cases_eq m got)
  where
    m : ℕ
    m = slice_index ws i

    becomes : ℕ → ℕ
    becomes m = if m == got then (got + n) % 2 ^ 64 else m

    Moved : Type 0
    Moved = (did : List Call) × (y : Note) × All (permits k promise rank) did × fits k promise (slice_set ws i (becomes m)) (state_by (next k) t did) (slice_set xs rank y) × Exchanges (Add i n) got m t did y

    won : m ≡ got → Moved
    won same = let r = adds k promise rank i n any ws t xs at fit small in
        (r.0, r.1, r.2, subst (λ (z : ℕ). fits k promise (slice_set ws i z) (state_by (next k) t r.0) (slice_set xs rank r.1)) (ap (λ (z : ℕ). (z + n) % 2 ^ 64) same ∙ sym (cond-true (eqb m got) _ _ (eq-eqb m got same))) r.3, (λ _. r.4, λ ne. absurd (ne same)))

    lost : m ≢ got → Moved
    lost ne = let r = stays k promise rank i (λ z. z) Rest (λ z _. refl) ws t xs at fit small in
        (r.0, r.1, r.2, subst (λ (z : ℕ). fits k promise (slice_set ws i z) (state_by (next k) t r.0) (slice_set xs rank r.1)) (sym (cond-false (eqb m got) _ _ (ne_eqb m got ne))) r.3, (λ same. absurd (ne same), λ _. r.4))

pub exchanges_at : (k promise rank i n got w : ℕ) (note : Note) → w ≡ i → note ≡ Rest → promise ≡ anything
    → Moves next permits fits k promise rank note w (λ m. if m == got then (got + n) % 2 ^ 64 else m) (λ m t did y. Exchanges (Add i n) got m t did y)
exchanges_at k promise rank i n got w note at resting any =
    subst (λ (z : ℕ × Note). Moves next permits fits k promise rank z.1 z.0 (λ m. if m == got then (got + n) % 2 ^ 64 else m) (λ m t did y. Exchanges (Add i n) got m t did y)) (λ j. (sym at j, sym resting j)) (exchanges k promise rank i n got any)
