-- A get of a word of the value of a key, in a call that isn't done with it.
use Rattle.std.proofs.Common.{◌≡◌, ℕ, ◌+◌, ◌*◌, ◌<◌, ◌≤◌, List, get_or, length, slice_index, refl, sym, ap, ◌∙◌, subst, ⊎_elim, arith, Some, true}
use Rattle.std.specs.Prelude.{Bool}
use Rattle.std.proofs.lemmas.Bool.{cases_lt}
use Rattle.std.proofs.lemmas.Grind.{same_number_lists}
use Rattle.bcl_words.specs.Words.{IsWords}
use Rattle.bcl_words.proofs.Fitting.{past}
use Rattle.bcl_phase.specs.Flights.{Lies}
use Rattle.bcl_phase.specs.Views.{get}
use Rattle.bcl_phase.specs.Told.{Took, Told}
use Rattle.bcl_phase.specs.Stands.{Still}
use Rattle.bcl_phase.proofs.Calls.{still_by}
use Rattle.bcl_map.specs.Calls.{MapView}
use Rattle.bcl_phase.specs.Rule.{Moves}
use Rattle.bcl_map.specs.declared.shape.Shape.{Shape}
use Rattle.bcl_map.specs.Map.{Words, Lawful, ranks, first_pairs, path, next, permits, size}
use Rattle.bcl_map.specs.Cells.{free}
use Rattle.bcl_map.specs.Notes.{Note, AllSay}
use Rattle.bcl_map.specs.Fits.{Holds}
use Rattle.bcl_map.specs.Steps.{Step}
use Rattle.bcl_map.specs.Finds.{Typed, MaySee, reading, value_of}
use Rattle.bcl_map.specs.OldValue.{ReadsValue}
use Rattle.bcl_map.proofs.Gets.{near}
use Rattle.bcl_map.proofs.Finds.{ArePlain, value_word, own_words, on, whole, typed_step}

module _ (kw vw : ℕ) (op : Words → Words → Words) (L : Shape) (law : Lawful L) (p r : ℕ) (k : Words) (d : ℕ) (see : MaySee L p r k) where
  reads_value : (v : Words) (g : ℕ) (x : Note) → kw ≤ 8 → g < vw → x.claims ≡ reading k d v → Step kw vw op L p r x (size kw vw * path L k d + (1 + (kw + g))) (λ n. n) (ReadsValue kw vw op L k d v g x)
  reads_value v g x room low at ws t notes is f small =
      let i : ℕ = path L k d in
      let w : ℕ = size kw vw * path L k d + (1 + (kw + g)) in
      let plain : ArePlain (reading k d v) = (tt, (tt, tt)) in
      let says : AllSay L p t f.cells r (reading k d v) = subst (AllSay L p t f.cells r) at (f.noted r x is) in
      let got = whole kw vw op L law p r k d see x (reading k d v) at plain ws t notes is k refl i (get_or f.cells i free) says.0 (f.each i (near L law k d)).content in
      let same_value : Some got.0 ≡ Some v = sym got.1.2 ∙ says.1.0.1 in
      let same : got.0 ≡ v = cc in
      let word_is : slice_index ws w ≡ slice_index v g = got.2 (kw + g) (omega arith) ∙ (value_word kw vw k got.0 (own_words kw k room got.1.0) g low ∙ ap (λ (l : Words). slice_index l g) same) in
      on kw vw op L law p r k d see x (reading k d v) at plain ws t notes is f w (ReadsValue kw vw op L k d v g x) (reading k d v) plain says (record {
        still = refl;
        there = says.1.0.1;
        word = word_is;
        on = (refl, refl);
      })

module _ (kw vw : ℕ) (key value : List ℕ → Bool) (op : Words → Words → Words) (L : Shape) (law : Lawful L) (p r : ℕ) (k : Words) (d : ℕ) (see : MaySee L p r k) where
  pub read_step : (j w : ℕ) (x : Note) → kw ≤ 8 → j < vw → x.claims ≡ reading k d (value_of x.claims) → w ≡ size kw vw * path L k d + (1 + (kw + j))
      → Moves (next op) permits (Holds kw vw key value) L p r x w (λ n. n) (Typed key value (ReadsValue kw vw op L k d (value_of x.claims) j x))
  read_step j w x room low at is = subst (λ (z : ℕ). Moves (next op) permits (Holds kw vw key value) L p r x z (λ n. n) (Typed key value (ReadsValue kw vw op L k d (value_of x.claims) j x))) (sym is)
      (typed_step kw vw key value op L p r x _ (ReadsValue kw vw op L k d (value_of x.claims) j x) (λ n t did y told. told.still) (reads_value kw vw op L law p r k d see (value_of x.claims) j x room low at))

-- an item of which all words were got
pub got_all : (width : ℕ) (got item : List ℕ) → length got ≡ 8 → Lies got 0 item width → ((k : ℕ) → width ≤ k → slice_index got k ≡ 0) → IsWords width item → got ≡ item
got_all width got item long lies zeros words = same_number_lists got item (long ∙ sym words.len)
    (λ k below. ⊎_elim (λ (less : k < width). let same : k ≡ 0 + k = omega arith in ap (slice_index got) same ∙ lies k less)
    (λ (most : width ≤ k). zeros k most ∙ sym (past width item words k most (omega arith))) (cases_lt k width))

-- a get that isn't the call's
module _ (kw vw : ℕ) (key value : List ℕ → Bool) (op : Words → Words → Words) (L : Shape) (k : Words) (d : ℕ) (v w : MapView) where
  pub read_on : (old : Words) (j n : ℕ) → Took ranks first_pairs (next op) permits L get v w → Told first_pairs (next op) L v (Typed key value (ReadsValue kw vw op L k d old j v.note)) n w
      → Still v w × (w.note.claims ≡ reading k d old) × (n ≡ slice_index old j) × (value old ≡ true)
  read_on old j n took told = let fact = told.fact.0 in (
    still_by ranks first_pairs (next op) permits L get v w (Typed key value (ReadsValue kw vw op L k d old j v.note)) n took told fact.on.0,
    ap (λ (x : Note). x.claims) fact.on.1,
    fact.word,
    (told.fact.1 k old fact.there).1,
  )
