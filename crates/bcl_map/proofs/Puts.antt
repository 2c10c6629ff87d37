-- A put of a word of the content, by the rank that writes the place.
use Rattle.std.proofs.Common.{◌≡◌, ◌≢◌, ℕ, suc, ◌+◌, ◌*◌, ◌<◌, inl, inr, List, [], length, set, get_or, slice_index, slice_set, refl, sym, ap, ◌∙◌, subst, ⊎_elim, arith, length-set}
use Rattle.std.specs.Prelude.{Bool}
use Rattle.std.proofs.lemmas.List.Elements.{All-nil}
use Rattle.std.specs.List.{All}
use native.Mathlib.Decide.{ℕ_discrete}
use mathlib.Core.Logic.{dite}
use mathlib.Core.Option.{some}
use Rattle.bcl_event.specs.History.{state_by}
use Rattle.bcl_event.specs.declared.map.MapCall.{MapCall}
use Rattle.bcl_event.specs.Map.{Pairs}
use Rattle.bcl_phase.specs.Rule.{Moves}
use Rattle.bcl_map.specs.declared.shape.Shape.{Shape}
use Rattle.bcl_map.specs.declared.note.Lock.{Lock}
use Rattle.bcl_map.specs.declared.note.Lock.TheVariants.{Shown as shown, Reserved as reserved}
use Rattle.bcl_map.specs.declared.note.Before.{Before}
use Rattle.bcl_map.specs.declared.note.Before.TheVariants.{Nothing, Value as before}
use Rattle.bcl_map.specs.Map.{places, Words, Lawful, owning, home, path, next, permits, size, word, Lies, content}
use Rattle.bcl_map.specs.Cells.{Cell, free, kept, busy, key_of, used, IsSettled}
use Rattle.bcl_map.specs.Notes.{Claim, passed, keyed, alike, settled, certain, lacking, lent, grips, many, met, Note, Has, reads_all, readers, AllSay}
use Rattle.bcl_map.specs.Fits.{Behind, PlaceOk, fits, AreTyped, Holds}
use Rattle.bcl_map.specs.Steps.{with_claims, Step}
use Rattle.bcl_map.specs.Inserts.{writing, PutsWord}
use Rattle.bcl_map.proofs.Counts.{set_here, bars_key, in_use, readers_set}
use Rattle.bcl_map.proofs.Frames.{SameAt, Stays, here, changes}
use Rattle.bcl_map.proofs.Gets.{near}
use Rattle.bcl_map.proofs.Writes.{holds_step, that_word, same_word, same_words}

-- the claims of other ranks stay, as a rank goes on or ends with a place that it writes
pub held_stays : (kw vw : ℕ) (L : Shape) (i r q : ℕ) (t : Pairs) (l : Lock) (k : Words) (old : Before) (v : Words) (n : ℕ) (c : Cell) → q ≢ r → key_of c ≡ some k → ((l ≢ reserved) → IsSettled c) → (a : Claim) → Stays kw vw L q i t t (busy l r k old v n) c a
held_stays kw vw L i r q t l k old v n c ne same set (passed a d) = λ h. bars_key a k c same h
held_stays kw vw L i r q t l k old v n c ne same set (keyed a d) = λ h. same ∙ h
held_stays kw vw L i r q t l k old v n c ne same set (alike a d g) = λ _ _ h. same ∙ h
held_stays kw vw L i r q t l k old v n c ne same set (settled a d) = set
held_stays kw vw L i r q t l k old v n c ne same set (certain a u) = λ h. h
held_stays kw vw L i r q t l k old v n c ne same set (lacking a) = λ h. h
held_stays kw vw L i r q t l k old v n c ne same set (lent j a u) = ((λ _ z. absurd cc), λ h. h)
held_stays kw vw L i r q t l k old v n c ne same set (grips j m a w u g) = λ _ z. let e : r ≡ q = cc in absurd (ne (sym e))
held_stays kw vw L i r q t l k old v n c ne same set (many b) = λ h. h
held_stays kw vw L i r q t l k old v n c ne same set (met j b) = ((λ _ h. let one = in_use c k same in omega arith), omega arith)

module _ (kw vw : ℕ) (key value : List ℕ → Bool) (op : Words → Words → Words) (L : Shape) (law : Lawful L) (r : ℕ) (k v : Words) (d : ℕ) (old : Before) where
  puts_word : (n : ℕ) (x : Note) → n < kw + vw → x.claims ≡ writing L k d old v n
      → Step kw vw op L owning r x (size kw vw * path L k d + (1 + n)) (λ _. slice_index (content kw vw k v) n) (λ _ t did y. PutsWord kw vw op L k v d old n x t did y × (AreTyped key value t → AreTyped key value (state_by (next op L) t did)))
  puts_word n x short at_claims ws t notes is f small = dite (ℕ_discrete (suc n) (kw + vw)) last more
    where
      i : ℕ
      i = path L k d

      w : ℕ
      w = size kw vw * path L k d + (1 + n)

      m : ℕ
      m = slice_index (content kw vw k v) n

      us : List ℕ
      us = set ws w m

      tells : ℕ → Pairs → List (MapCall Words Words) → Note → Type 0
      tells _ t' did y = PutsWord kw vw op L k v d old n x t' did y × (AreTyped key value t' → AreTyped key value (state_by (next op L) t' did))

      Outcome : Type 0
      Outcome = (did : List (MapCall Words Words)) × (y : Note) × All (permits L owning r) did × fits kw vw L owning (slice_set ws w m) (state_by (next op L) t did) (set notes r y) × tells (slice_index ws w) t did y

      l : i < places L
      l = near L law k d

      e : get_or f.cells i free ≡ busy shown r k old v n
      e = (subst (AllSay L owning t f.cells r) at_claims (f.noted r x is)).0

      ok : PlaceOk kw vw L owning ws t notes i (busy shown r k old v n)
      ok = subst (PlaceOk kw vw L owning ws t notes i) e (f.each i l)

      grip_is : (j : ℕ) (lo : Lock) (a : Words) (was : Before) (u : Words) (g : ℕ) → Has (grips j lo a was u g) x.claims → j ≡ i
      grip_is j lo a was u g h = ⊎_elim (λ z. cc) (λ z. absurd z) (subst (Has (grips j lo a was u g)) at_claims h)

      else_same : (claims : List Claim) → ((j : ℕ) → reads_all j claims ≡ 0) → (j : ℕ) → j ≢ i → SameAt j x (with_claims x claims)
      else_same claims none_read j ne = (none_read j ∙ sym (ap (reads_all j) at_claims), λ lo a was u g h. absurd (ne (grip_is j lo a was u g h)))

      still : (claims : List Claim) → reads_all i claims ≡ 0 → readers i (set notes r (with_claims x claims)) ≡ 0
      still claims none_read = let had : reads_all i x.claims ≡ 0 = ap (reads_all i) at_claims in let s = readers_more claims in let z = ok.read in omega arith
        where
          readers_more : (claims : List Claim) → readers i (set notes r (with_claims x claims)) + reads_all i x.claims ≡ readers i notes + reads_all i claims
          readers_more claims = readers_set i notes r x (with_claims x claims) is

      lies : Lies kw vw us i (content kw vw k v) (suc n)
      lies b lb = dite (ℕ_discrete b n)
          (λ (same : b ≡ n). ap (λ (z : ℕ). word kw vw us i (1 + z)) same ∙ (that_word kw vw L owning ws t notes f i (1 + n) w m l (omega arith) refl ∙ ap (λ (z : ℕ). get_or (content kw vw k v) z 0) (sym same)))
          (λ ne. same_word kw vw L ws i (1 + b) (1 + n) w m refl (λ z. ne (omega arith)) ∙ ok.content.1 b (omega arith))

      behind : (o : Before) → Behind kw vw L ws i k o n → Behind kw vw L us i k o (suc n)
      behind Nothing h = tt
      behind (before o) h = λ b le lt. same_word kw vw L ws i (1 + b) (1 + n) w m refl (λ z. omega arith) ∙ h b (omega arith) lt

      puts : (c : Cell) (claims : List Claim) → key_of c ≡ some k → used c ≡ 1 → IsSettled c → ((j : ℕ) → reads_all j claims ≡ 0) → PlaceOk kw vw L owning us t (set notes r (with_claims x claims)) i c
          → AllSay L owning t (set f.cells i c) r claims → tells (slice_index ws w) t [] (with_claims x claims) → Outcome
      puts c claims same one settled_there none_read place says told = (
        [],
        with_claims x claims,
        All-nil (permits L owning r),
        changes kw vw L owning ws us t t notes f r x (with_claims x claims) i c is (else_same claims none_read) l (length-set ws w m) (same_words kw vw L ws i (1 + n) w m (omega arith) refl)
            place (λ _ _ _ _. refl) (let was : used (get_or f.cells i free) ≡ 1 = ap used e in omega arith) (let was : used (get_or f.cells i free) ≡ 1 = ap used e in omega arith)
            (λ q _ g. same ∙ (sym (ap key_of e) ∙ g))
            (λ j q g g'. f.once i j q (ap key_of e ∙ (sym same ∙ g)) g')
            (λ q has. inr (f.placed q has))
            (λ q u a ne at_q has h. subst (λ (s : Cell). Stays kw vw L q i t t s c a) (sym e) (held_stays kw vw L i r q t shown k old v n c ne same (λ _. settled_there) a))
            says (λ j. let z = none_read j in omega arith),
        told,
      )

      more : suc n ≢ kw + vw → Outcome
      more ne = let c : Cell = busy shown r k old v (suc n) in let claims : List Claim = writing L k d old v (suc n) in let room : length f.cells ≡ places L = f.room in
          puts c claims refl refl (λ z. cc) (λ _. refl)
          (record {
            shows = same_word kw vw L ws i 0 (1 + n) w m refl (λ z. omega arith) ∙ ok.shows;
            read = still claims refl;
            content = (ok.content.0, lies, omega arith, behind old ok.content.3, ok.content.4, record { note = with_claims x claims; there = set_here notes r (with_claims x claims) x is; says = inl refl });
          })
          (here kw vw L f.cells i c (omega arith), tt)
          (record { more = λ _. (refl, refl); all = λ z. absurd (ne z) }, λ typed. typed)

      last : suc n ≡ kw + vw → Outcome
      last all = let c : Cell = kept k in
          puts c [] refl refl tt (λ _. refl)
          (record {
            shows = same_word kw vw L ws i 0 (1 + n) w m refl (λ z. omega arith) ∙ (ok.shows ∙ no_more (readers i (set notes r (with_claims x []))) (still [] refl));
            read = tt;
            content = (v, ok.content.0, subst (Lies kw vw us i (content kw vw k v)) all lies);
          })
          tt
          (record { more = λ z. absurd (omega arith); all = λ _. (refl, refl) }, λ typed. typed)
        where
          no_more : (z : ℕ) → z ≡ 0 → 2 + home L k * 256 ≡ 2 + home L k * 256 + z * 65536
          no_more z is_zero = omega arith

  -- a put of the word b of the content
  pub put_step : (b w n : ℕ) (x : Note) → b < kw + vw → x.claims ≡ writing L k d old v b → w ≡ size kw vw * path L k d + (1 + b) → n ≡ slice_index (content kw vw k v) b
      → Moves (next op) permits (Holds kw vw key value) L owning r x w (λ _. n) (λ _. PutsWord kw vw op L k v d old b x)
  put_step b w n x short at_claims at_word is_word =
      subst (λ (z : ℕ × ℕ). Moves (next op) permits (Holds kw vw key value) L owning r x z.0 (λ _. z.1) (λ _. PutsWord kw vw op L k v d old b x)) (λ j. (sym at_word j, sym is_word j))
      (holds_step kw vw key value op L owning r x _ (λ _. slice_index (content kw vw k v) b) (λ _. PutsWord kw vw op L k v d old b x) (puts_word b x short at_claims))
