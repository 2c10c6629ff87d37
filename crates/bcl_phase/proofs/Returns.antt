-- What a loop over passes has taken back, and what it has dealt.
use Rattle.std.proofs.Common.{◌≡◌, ℕ, ◌+◌, List, [], ◌∷◌, ◌++◌, map, length, refl, sym, ap, ◌∙◌, subst, ⊎_elim, arith, Bool, Option, Some, Result, Ok, Err, IfOk, IfErr}
use mathlib.Core.Option.{some}
use mathlib.Core.List.{IsPrefix, map-append, append_assoc, append-nil}
use lib.ListN.{get_elem?}
use Rattle.atomic_table.proofs.Lists.{at_longer, at_last, at_map}
use Rattle.std.proofs.lemmas.Option.{none-some}
use Rattle.bcl_segment.specs.declared.layout.Layout.{Layout}
use Rattle.bcl_event.specs.declared.event.Event.{Event}
use Rattle.bcl_segment.specs.declared.seat.Seat.{Seat}
use Rattle.bcl_segment.specs.Parts.{view_of}
use Rattle.bcl_phase.specs.Seats.{IsPassSeat, IsLaid, IsLaidBy}
use Rattle.bcl_phase.proofs.Keeps.{same_some}
use Rattle.bcl_phase.specs.declared.view.View.{View}
use Rattle.bcl_phase.specs.Views.{Tick, cut, cuts}
use Rattle.bcl_event.specs.History.{of}
use Rattle.bcl_phase.specs.Rule.{IsBack}
use Rattle.bcl_phase.specs.Told.{Took, Ends}
use Rattle.bcl_phase.specs.Phases.{begun, Returned, Ended}
use Rattle.bcl_phase.proofs.Homes.{snoc_cases}

-- the list comes first, so that a λ need not state its type
abbrev pub over : {Y Z : Type 0} → List Y → (Y → Z) → List Z
over ys f = map f ys

module _ {C A X K : Type 0} where
  abbrev pub told : View C A X K → List (Event C A) × List (Event C A)
  told v = (v.seen, v.mine)

  pub same_passes : (v : View C A X K) (n : ℕ) → v.passes ≡ n → v ≡ record v { passes = n }
  same_passes v n e = λ i. record v { passes = e i }

  pub recounted : (v0 v : View C A X K) (n m : ℕ) → v ≡ record v0 { passes = n } → m ≡ n + 1 → cuts v ≡ record v0 { passes = m }
  recounted v0 v n m e more = ap cuts e ∙ (λ i. record v0 { passes = sym more i })

  pub cut_is : (v0 v : View C A X K) (rest : X) (promise : ℕ) (key : K) (n : ℕ) → v0.promise ≡ promise → v0.key ≡ Some key → v ≡ record v0 { passes = n } → cut rest v ≡ begun rest promise key v0.seen n
  cut_is v0 v rest promise key n c k e = ap (cut rest) e ∙ (λ i. record (begun rest promise key v0.seen n) { promise = c i; key = k i })

  -- a pass knows its own rank's events from the first
  pub own_cut : (rest : X) (v w : View C A X K) → w ≡ cut rest v → of w.rank w.seen ≡ w.mine
  own_cut rest v w e = subst (λ (z : View C A X K). of z.rank z.seen ≡ z.mine) (sym e) refl

module _ {Y : Type 0} (Q : ℕ → Y → Type 0) where
  pub placed : (l m : List Y) (y : Y) → m ≡ l ++ y ∷ [] → ((i : ℕ) (p : Y) → get_elem? l i ≡ some p → Q i p) → Q (length l) y → (i : ℕ) (p : Y) → get_elem? m i ≡ some p → Q i p
  placed l m y is old new i p e = ⊎_elim (old i p) (λ (t : (i ≡ length l) × (y ≡ p)). subst (λ (z : ℕ × Y). Q z.0 z.1) (λ j. (sym t.0 j, t.1 j)) new)
      (snoc_cases l y p i (subst (λ (z : List Y). get_elem? z i ≡ some p) is e))

  pub last_placed : (l m : List Y) (y : Y) → m ≡ l ++ y ∷ [] → ((i : ℕ) (p : Y) → get_elem? m i ≡ some p → Q i p) → Q (length l) y
  last_placed l m y is all = all (length l) y (subst (λ (z : List Y). get_elem? z (length l) ≡ some y) (sym is) (at_last l y (length l) refl))

  pub rest_placed : (l m : List Y) (y : Y) → m ≡ l ++ y ∷ [] → ((i : ℕ) (p : Y) → get_elem? m i ≡ some p → Q i p) → (i : ℕ) (p : Y) → get_elem? l i ≡ some p → Q i p
  rest_placed l m y is all i p e = all i p (subst (λ (z : List Y). get_elem? z i ≡ some p) (sym is) (at_longer l (y ∷ []) i p e))

-- what was taken back, as one more is
pub told_more : {Y Z : Type 0} (f : Y → Z) (all m l : List Y) (y : Y) (back back' : List Z) → m ≡ l ++ y ∷ [] → map f all ≡ map f m ++ back → back' ≡ f y ∷ back → map f all ≡ map f l ++ back'
told_more {Y} {Z} f all m l y back back' is e came = e ∙ (ap (λ (z : List Y). map f z ++ back) is ∙ (ap (λ (z : List Z). z ++ back) (map-append f l (y ∷ [])) ∙ (append_assoc (map f l) (f y ∷ []) back ∙ ap (λ (z : List Z). map f l ++ z) (sym came))))

no_length : {Y : Type 0} (l : List Y) → length l ≡ 0 → l ≡ []
no_length [] e = refl
no_length (x ∷ xs) e = absurd (omega arith)

pub came_back : {Y Z : Type 0} (f : Y → Z) (all left : List Y) (back : List Z) → map f all ≡ map f left ++ back → length left ≡ 0 → (i : ℕ) (p : Y) → get_elem? all i ≡ some p → get_elem? back i ≡ some (f p)
came_back {Y} {Z} f all left back told none i p e =
    subst (λ (z : List Z). get_elem? z i ≡ some (f p)) (told ∙ ap (λ (z : List Y). map f z ++ back) (no_length left none)) (at_map f all i p e)

pub none_taken : {Z : Type 0} (all back : List Z) → back ≡ [] → all ≡ all ++ back
none_taken {Z} all back none = sym (append-nil all) ∙ ap (λ (z : List Z). all ++ z) (sym none)

module _ {C A X K : Type 0} where
  pub returned_of : (v : View C A X K) (start history : List (Event C A)) (rank : ℕ) (pass : View C A X K) → IsBack v v.seen rank (told pass) → v.start ≡ start → history ≡ v.seen → Returned start history rank pass
  returned_of v start history rank pass b begun seen = record {
    knew = subst (λ (z : List (Event C A)). IsPrefix z pass.seen) begun b.1;
    within = subst (λ (z : List (Event C A)). IsPrefix pass.seen z) (sym seen) b.0;
    own = ap (of rank) seen ∙ b.2;
  }

module _ {C A X K T : Type 0} (ranks : K → ℕ) (start : K → T) (next : K → T → C → A × T) (permits : K → ℕ → ℕ → C → Type 0) where
  pub ended_of : (k key : K) (v : View C A X K) (promise : ℕ) (before history : List (Event C A)) → Ends ranks start next permits k v → key ≡ k → v.promise ≡ promise → v.start ≡ before → history ≡ v.seen
      → Ended ranks start next permits key promise before history
  ended_of k key v promise before history e at same begun seen = subst (λ (z : K × ℕ × List (Event C A) × List (Event C A)). Ended ranks start next permits z.0 z.1 z.2 z.3) (λ i. (sym at i, same i, begun i, sym seen i)) now
    where
      now : Ended ranks start next permits k v.promise v.start v.seen
      now = record { legal = e.legal; named = e.named; late = e.late; since = e.since; permitted = e.permitted; home = e.own }

-- what a call that may fail says of its result
module _ {Y F : Type 0} where
  pub if_ok : (r : Result Y F) (P Q : Y → Type 0) → IfOk r P → ((y : Y) → P y → Q y) → IfOk r Q
  if_ok (Ok y) P Q p goes = goes y p
  if_ok (Err f) P Q p goes = tt

  pub if_both : (r : Result Y F) (P Q S : Y → Type 0) → IfOk r P → IfOk r Q → ((y : Y) → P y → Q y → S y) → IfOk r S
  if_both (Ok y) P Q S p q goes = goes y p q
  if_both (Err f) P Q S p q goes = tt

  pub if_err : (r : Result Y F) (P Q : F → Type 0) → IfErr r P → ((f : F) → P f → Q f) → IfErr r Q
  if_err (Ok y) P Q p goes = tt
  if_err (Err f) P Q p goes = goes f p

-- a layout is the one that a key says
module _ {K : Type 0} (sound_of : K → Bool) (heads_of : K → ℕ) (layout_of : K → Layout) where
  pub laid_as : (key : Option K) (k : K) (layout : Layout) → key ≡ Some k → IsLaid (sound_of k) (heads_of k) (layout_of k) (heads_of k) layout → IsLaidBy sound_of heads_of layout_of key layout
  laid_as key k layout is laid = record { some = λ none. none-some k (sym none ∙ is); laid = λ l at. subst (λ (z : K). IsLaid (sound_of z) (heads_of z) (layout_of z) (heads_of z) layout) (same_some k l (sym is ∙ at)) laid }

  pub laid_again : (old new : Option K) (layout : Layout) → new ≡ old → IsLaidBy sound_of heads_of layout_of old layout → IsLaidBy sound_of heads_of layout_of new layout
  laid_again old new layout same laid = subst (λ (z : Option K). IsLaidBy sound_of heads_of layout_of z layout) (sym same) laid

  pub laid_here : (k : K) (heads : ℕ) (layout layout' : Layout) → IsLaid (sound_of k) (heads_of k) (layout_of k) heads layout → layout' ≡ layout → IsLaid (sound_of k) (heads_of k) (layout_of k) (heads_of k) layout'
  laid_here k heads layout layout' laid same = subst (λ (z : ℕ × Layout). IsLaid (sound_of k) (heads_of k) (layout_of k) z.0 z.1) (λ i. (laid.as_heads i, sym same i)) laid

-- ---- what any step leaves of the pass that makes it

module _ {R C A X K T : Type 0} {ranks : K → ℕ} {start : K → T} {next : K → T → C → A × T} {permits : K → ℕ → ℕ → C → Type 0} (sound_of : K → Bool) (heads_of : K → ℕ) (layout_of : K → Layout) where
  pub stepped : (promise rank : ℕ) (layout : Layout) (k : K) (tick : Tick) (old new : Seat R (View C A X K) K) → Took ranks start next permits k tick (view_of old) (view_of new)
      → IsPassSeat promise rank old → IsLaidBy sound_of heads_of layout_of (view_of old).key layout → (view_of old).key ≡ Some k
      → IsPassSeat promise rank new × IsLaidBy sound_of heads_of layout_of (view_of new).key layout × ((view_of new).key ≡ Some k)
  stepped promise rank layout k tick old new took pass laid key = (
    (took.same_role ∙ pass.0, took.same_promise ∙ pass.1, took.same_rank ∙ pass.2),
    laid_again sound_of heads_of layout_of (view_of old).key (view_of new).key layout took.same_key laid,
    took.same_key ∙ key,
  )
