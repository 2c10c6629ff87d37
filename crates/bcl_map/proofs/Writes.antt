-- What the steps that put a word have in common.
use Rattle.std.proofs.Common.{◌≡◌, ◌≢◌, ℕ, ◌+◌, ◌*◌, ◌<◌, List, length, set, get_or, sym, ap, ◌∙◌, subst, ⊎_elim, arith, Some, ne_eqb, eq-eqb, cond, get_or-set_other, get_or-set_same}
use Rattle.std.specs.Prelude.{Bool, true, ◌==◌, if◌then◌else◌}
use native.Mathlib.Decide.{ℕ_discrete}
use mathlib.Core.Logic.{dite}
use Rattle.bcl_event.specs.History.{state_by}
use Rattle.bcl_event.specs.declared.map.MapCall.{MapCall}
use Rattle.bcl_event.specs.Map.{Pairs, value_at}
use Rattle.bcl_event.specs.Stored.{Stores as HasStored}
use Rattle.bcl_phase.specs.Rule.{Moves}
use Rattle.bcl_map.specs.declared.shape.Shape.{Shape}
use Rattle.bcl_map.specs.Map.{places, Words, next, permits, size, word}
use Rattle.bcl_map.specs.Cells.{free, used}
use Rattle.bcl_map.specs.Notes.{Note}
use Rattle.bcl_map.specs.Fits.{Fits, AreTyped, Holds}
use Rattle.bcl_map.specs.Steps.{Step}
use Rattle.bcl_map.proofs.Keys.{same_or_not}
use Rattle.bcl_map.proofs.Counts.{has_room, apart, inside}
use Rattle.bcl_map.proofs.Frames.{SameWords}

-- the two ways of an exchange
pub traded : (n old new : ℕ) (F : ℕ → Type 0) → (n ≡ old → F new) → (n ≢ old → F n) → F (if n == old then new else n)
traded n old new F hit miss = dite (ℕ_discrete n old) (λ e. subst (λ b. F (cond b new n)) (sym (eq-eqb n old e)) (hit e)) (λ ne. subst (λ b. F (cond b new n)) (sym (ne_eqb n old ne)) (miss ne))

-- ---- with the types of keys and values

-- a step that keeps the types of the pairs
pub holds_step : (kw vw : ℕ) (key value : List ℕ → Bool) (op : Words → Words → Words) (L : Shape) (p r : ℕ) (x : Note) (i : ℕ) (f : ℕ → ℕ) (tells : ℕ → Pairs → List (MapCall Words Words) → Note → Type 0)
    → Step kw vw op L p r x i f (λ n t did y. tells n t did y × (AreTyped key value t → AreTyped key value (state_by (next op L) t did))) → Moves (next op) permits (Holds kw vw key value) L p r x i f tells
holds_step kw vw key value op L p r x i f tells step ws t xs is h small = let s = step ws t xs is h.places small in
    (s.0, s.1, s.2, record { places = s.3; typed = s.4.1 h.typed }, s.4.0)

-- a typed pair is stored
pub typed_stored : (key value : List ℕ → Bool) (k v : Words) (t t' : Pairs) (m : ℕ) → HasStored k v t t' m → key k ≡ true → value v ≡ true → AreTyped key value t → AreTyped key value t'
typed_stored key value k v t t' m st typed_k typed_v typed a u e = ⊎_elim
    (λ (z : a ≡ k). let same : Some v ≡ Some u = sym st.there ∙ (ap (λ (o : Words). value_at o t') (sym z) ∙ e) in let value_is : v ≡ u = cc in
    (ap key z ∙ typed_k, ap value (sym value_is) ∙ typed_v))
    (λ (ne : a ≢ k). typed a u (sym (st.others a ne) ∙ e)) (same_or_not a k)

module _ (kw vw : ℕ) (L : Shape) where
  -- ---- one word of one place is put

  -- it is there
  pub that_word : (p : ℕ) (ws : List ℕ) (t : Pairs) (notes : List Note) (f : Fits kw vw L p ws t notes) (i b w n : ℕ) → i < places L → b < size kw vw → w ≡ size kw vw * i + b → word kw vw (set ws w n) i b ≡ n
  that_word p ws t notes f i b w n l lb is = subst (λ (z : ℕ). get_or (set ws w n) z 0 ≡ n) is (get_or-set_same ws w n 0 (subst (λ (z : ℕ). z < length ws) (sym is) (subst (λ (z : ℕ). size kw vw * i + b < z) (sym f.wide) (inside (size kw vw) i (places L) b l lb))))

  -- the others of the place stay
  pub same_word : (ws : List ℕ) (i a b w n : ℕ) → w ≡ size kw vw * i + b → a ≢ b → word kw vw (set ws w n) i a ≡ word kw vw ws i a
  same_word ws i a b w n is ne = get_or-set_other ws w (size kw vw * i + a) n 0 (λ e. let base : ℕ = size kw vw * i in let e' : base + a ≡ base + b = e ∙ is in ne (omega arith))

  -- those of the other places stay
  pub same_words : (ws : List ℕ) (i b w n : ℕ) → b < size kw vw → w ≡ size kw vw * i + b → (j : ℕ) → j ≢ i → SameWords kw vw L ws (set ws w n) j
  same_words ws i b w n lb is j ne a la = get_or-set_other ws w (size kw vw * j + a) n 0 (λ e. apart (size kw vw) j i a b ne la lb (e ∙ is))

  -- where a place is free there are fewer keys than places
  pub less_where_free : (p : ℕ) (ws : List ℕ) (t : Pairs) (notes : List Note) (f : Fits kw vw L p ws t notes) (i : ℕ) → i < places L → used (get_or f.cells i free) ≡ 0 → length t < places L
  less_where_free p ws t notes f i l hollow = let room : length f.cells ≡ places L = f.room in let a = has_room f.cells i (omega arith) hollow in let b = f.as_many in omega arith
