-- A write of an item of the rank's own: a put of each of its words.
use Rattle.std.proofs.Common.{◌≡◌, ◌≢◌, ℕ, zero, suc, ◌+◌, ◌*◌, ◌/◌, ◌<◌, ◌≤◌, List, [], ◌∷◌, length, slice_index, slice_set, refl, sym, ap, ◌∙◌, subst, ⊎_elim, arith, get_or-set_same, get_or-set_other}
use Rattle.std.specs.Prelude.{Bool, true, false, ◌==◌, if◌then◌else◌}
use Rattle.std.proofs.lemmas.Bool.{false≢true}
use Rattle.std.proofs.lemmas.Bool.Decides.{Decides-eqb}
use Rattle.std.proofs.lemmas.List.Elements.{All-nil, All-cons}
use Rattle.std.proofs.Math.Nat.{mul-le-mul_right}
use mathlib.Core.Option as plain
use lib.ListN.{get_elem?}
use lib.Seq.{set-get_or}
use Rattle.atomic_table.proofs.Lists.{at_set, set_here}
use Rattle.bcl_event.specs.declared.array.ArrayCall.TheVariants.{Write}
use Rattle.bcl_event.specs.declared.array.ArrayReply.TheVariants.{Done}
use Rattle.bcl_event.specs.Array.{item_at}
use Rattle.bcl_phase.specs.Rule.{Moves}
use Rattle.bcl_phase.specs.Flights.{Lies}
use Rattle.bcl_phase.proofs.Flights.{lies_put}
use Rattle.bcl_darray.specs.declared.array.Shape.{Shape}
use Rattle.bcl_darray.specs.declared.array.Note.{Note}
use Rattle.bcl_darray.specs.declared.array.Note.TheVariants.{Rest, Getting, Putting}
use Rattle.bcl_darray.specs.Array.{size, next, permits}
use Rattle.bcl_darray.specs.Fits.{owning, reading, put_by, Flies, Fits}
use Rattle.bcl_darray.specs.Calls.{flight, putting, Makes, Puts, PutsWord}
use Rattle.bcl_darray.proofs.Frames.{put_again, changed}

-- ---- what a note of a write says

choice : (width place count p : ℕ) (object : List ℕ) (b : Bool) → (count == width) ≡ b → (if b then width else (if place == p then count else width)) ≡ put_by width (plain.some (putting width place object count)) p
choice width place count p object b e = subst (λ (c : Bool). (if b then width else (if place == p then count else width)) ≡ put_by width (plain.some (if c then Rest else Putting (flight place object count))) p) (sym e) (both b)
  where
    both : (c : Bool) → (if c then width else (if place == p then count else width)) ≡ put_by width (plain.some (if c then Rest else Putting (flight place object count))) p
    both true = refl
    both false = refl

-- so many words of the item are put
put_here : (width place count : ℕ) (object : List ℕ) → count ≤ width → put_by width (plain.some (putting width place object count)) place ≡ count
put_here width place count object most = sym (choice width place count place object (count == width) refl) ∙ here (count == width) refl
  where
    here : (b : Bool) → (count == width) ≡ b → (if b then width else (if place == place then count else width)) ≡ count
    here true e = sym ((Decides-eqb count width).0 e)
    here false e = ap (λ (c : Bool). if c then count else width) ((Decides-eqb place place).1 refl)

-- all words of another are
put_there : (width place count i : ℕ) (object : List ℕ) → i ≢ place → put_by width (plain.some (putting width place object count)) i ≡ width
put_there width place count i object apart = sym (choice width place count i object (count == width) refl) ∙ there (count == width)
  where
    elsewhere : (c : Bool) → (place == i) ≡ c → (if c then count else width) ≡ width
    elsewhere true e = absurd (apart (sym ((Decides-eqb place i).0 e)))
    elsewhere false e = refl

    there : (b : Bool) → (if b then width else (if place == i then count else width)) ≡ width
    there true = refl
    there false = elsewhere (place == i) refl

flies_on : (width place count promise rank : ℕ) (object : List ℕ) (shape : Shape) (items : List (List ℕ)) → count ≤ width → promise ≡ owning → place / shape.per_rank ≡ rank → item_at place items ≡ object
    → Flies width shape promise rank items (putting width place object count)
flies_on width place count promise rank object shape items most own mine is = by (count == width) refl
  where
    by : (b : Bool) → (count == width) ≡ b → Flies width shape promise rank items (if b then Rest else Putting (flight place object count))
    by true e = tt
    by false e = (own, mine, is, left)
      where
        left : count < width
        left = let apart : count ≢ width = λ same. false≢true (sym e ∙ (Decides-eqb count width).1 same) in omega arith

-- ---- steps

at_within : {Y : Type 0} (l : List Y) (i : ℕ) (y : Y) → get_elem? l i ≡ plain.some y → i < length l
at_within [] i y e = absurd (plain.some-ne-none y (sym e))
at_within (x ∷ xs) zero y e = omega arith
at_within (x ∷ xs) (suc i) y e = let r = at_within xs i y e in omega arith

pub spot_within : (width n place j : ℕ) → place < n → j < width → place * width + j < n * width
spot_within width n place j within low = let room : (place + 1) * width ≤ n * width = mul-le-mul_right width (omega arith) in let spread : (place + 1) * width ≡ place * width + width = omega arith in omega arith

module _ (width : ℕ) (passes : List ℕ → Bool) (shape : Shape) (promise rank place j : ℕ) (item : List ℕ) (own : promise ≡ owning) (mine : place / shape.per_rank ≡ rank) (within : place < size shape) (low : j < width) where
  -- the items of other ranks don't change
  flies_still : (items : List (List ℕ)) (r : ℕ) (z : Note) → r ≢ rank → Flies width shape promise r items z → Flies width shape promise r (slice_set items place item) z
  flies_still items r Rest apart fly = tt
  flies_still items r (Getting f) apart fly = ⊎_elim
      (λ (t : (promise ≡ owning) × (f.place / shape.per_rank ≡ r)). (fly.0, get_or-set_other items place f.place item [] (λ same. apart (sym t.1 ∙ (ap (λ (p : ℕ). p / shape.per_rank) same ∙ mine))) ∙ fly.1, fly.2))
      (λ (t : promise ≡ reading). absurd (omega arith)) fly.0
  flies_still items r (Putting f) apart fly = (fly.0, fly.1, get_or-set_other items place f.place item [] (λ same. apart (sym fly.1 ∙ (ap (λ (p : ℕ). p / shape.per_rank) same ∙ mine))) ∙ fly.2, fly.3)

  -- the word j of the item is put, behind those before it
  put_word : (ws : List ℕ) (items : List (List ℕ)) (xs : List Note) → Fits width passes shape promise ws items xs → passes item ≡ true → (x : Note) → get_elem? xs rank ≡ plain.some x
      → ((i : ℕ) → i ≢ place → put_by width (plain.some x) i ≡ width) → Lies ws (place * width) item j
      → Fits width passes shape promise (slice_set ws (place * width + j) (slice_index item j)) (slice_set items place item) (slice_set xs rank (putting width place item (j + 1)))
  put_word ws items xs fit passed x at elsewhere before = changed width passes shape promise ws items xs fit (slice_set xs rank (putting width place item (j + 1))) place j (slice_index item j) item within low passed
      (λ i apart. put_again width i xs rank (i / shape.per_rank) x (putting width place item (j + 1)) at (put_there width place (j + 1) i item apart ∙ sym (elsewhere i apart)))
      (subst (Lies (slice_set ws (place * width + j) (slice_index item j)) (place * width) item) (sym put) (lies_put ws (place * width) item j (subst (λ (n : ℕ). place * width + j < n) (sym fit.count) (spot_within width (size shape) place j within low)) before))
      (λ r z e. ⊎_elim
      (λ (t : (r ≡ rank) × (putting width place item (j + 1) ≡ z)). subst (λ (w : ℕ × Note). Flies width shape promise w.0 (slice_set items place item) w.1) (λ k. (sym t.0 k, t.1 k))
      (flies_on width place (j + 1) promise rank item shape (slice_set items place item) (omega arith) own mine (get_or-set_same items place item [] (subst (λ (n : ℕ). place < n) (sym fit.all) within))))
      (λ (t : (r ≢ rank) × (get_elem? xs r ≡ plain.some z)). flies_still items r z t.0 (fit.flies r z t.1)) (at_set xs rank r (putting width place item (j + 1)) z e))
    where
      there : get_elem? (slice_set xs rank (putting width place item (j + 1))) (place / shape.per_rank) ≡ plain.some (putting width place item (j + 1))
      there = ap (get_elem? (slice_set xs rank (putting width place item (j + 1)))) mine ∙ set_here xs rank (putting width place item (j + 1)) (at_within xs rank x at)

      put : put_by width (get_elem? (slice_set xs rank (putting width place item (j + 1))) (place / shape.per_rank)) place ≡ j + 1
      put = ap (λ (o : plain.Option Note). put_by width o place) there ∙ put_here width place (j + 1) item (omega arith)

-- the first word: the write takes place there
pub puts_first : (width : ℕ) (passes : List ℕ → Bool) (shape : Shape) (promise rank place : ℕ) (item : List ℕ) → promise ≡ owning → place / shape.per_rank ≡ rank → place < size shape → 0 < width → passes item ≡ true
    → Moves next permits (Fits width passes) shape promise rank Rest (place * width + 0) (λ _. slice_index item 0) (λ _ items did y. Makes (Write place item) Done (putting width place item 1) items did y)
puts_first width passes shape promise rank place item own mine within some passed ws items xs at fit small = (
  Write place item ∷ [],
  putting width place item 1,
  All-cons (permits shape promise rank) (Write place item) [] (subst (λ (p : ℕ). permits shape p rank (Write place item)) (sym own) mine) (All-nil (permits shape promise rank)),
  put_word width passes shape promise rank place 0 item own mine within some ws items xs fit passed Rest at (λ i apart. refl) (λ k less. absurd (omega arith)),
  record { one = refl; answer = refl; left = refl },
)

-- each of the others
pub puts_next : (width : ℕ) (passes : List ℕ → Bool) (shape : Shape) (promise rank place j : ℕ) (item : List ℕ) → place < size shape
    → Moves next permits (Fits width passes) shape promise rank (Putting (flight place item j)) (place * width + j) (λ _. slice_index item j) (λ _ items did y. Puts (putting width place item (j + 1)) did y)
puts_next width passes shape promise rank place j item within ws items xs at fit small =
    let fly = fit.flies rank (Putting (flight place item j)) at in
    let same : slice_set items place item ≡ items = ap (slice_set items place) (sym fly.2) ∙ set-get_or items place [] in (
      [],
      putting width place item (j + 1),
      All-nil (permits shape promise rank),
      subst (λ (l : List (List ℕ)). Fits width passes shape promise (slice_set ws (place * width + j) (slice_index item j)) l (slice_set xs rank (putting width place item (j + 1)))) same
          (put_word width passes shape promise rank place j item fly.0 fly.1 within fly.3 ws items xs fit (ap passes (sym fly.2) ∙ fit.whole place within) (Putting (flight place item j)) at elsewhere
          (subst (λ (w : List ℕ × ℕ). Lies ws (place * width) w.0 w.1) (λ k. (fly.2 k, put fly.1 k)) (fit.lies place within))),
      record { none = refl; left = refl },
    )
  where
    elsewhere : (i : ℕ) → i ≢ place → put_by width (plain.some (Putting (flight place item j))) i ≡ width
    elsewhere i apart = by (place == i) refl
      where
        by : (c : Bool) → (place == i) ≡ c → (if c then j else width) ≡ width
        by true e = absurd (apart (sym ((Decides-eqb place i).0 e)))
        by false e = refl

    put : place / shape.per_rank ≡ rank → put_by width (get_elem? xs (place / shape.per_rank)) place ≡ j
    put mine = ap (λ (o : plain.Option Note). put_by width o place) (ap (get_elem? xs) mine ∙ at) ∙ ap (λ (c : Bool). if c then j else width) ((Decides-eqb place place).1 refl)

-- ---- what a note of a write is

pub still_putting : (width place j : ℕ) (item : List ℕ) → j < width → putting width place item j ≡ Putting (flight place item j)
still_putting width place j item less = by (j == width) refl
  where
    by : (b : Bool) → (j == width) ≡ b → (if b then Rest else Putting (flight place item j)) ≡ Putting (flight place item j)
    by true e = let same : j ≡ width = (Decides-eqb j width).0 e in absurd (omega arith)
    by false e = refl

pub done_putting : (width place j : ℕ) (item : List ℕ) → j ≡ width → putting width place item j ≡ Rest
done_putting width place j item all = ap (λ (b : Bool). if b then Rest else Putting (flight place item j)) ((Decides-eqb j width).1 all)

-- ---- the steps, by the note

pub puts_at_first : (width : ℕ) (passes : List ℕ → Bool) (shape : Shape) (promise rank place w v : ℕ) (item : List ℕ) (x : Note) → promise ≡ owning → place / shape.per_rank ≡ rank → place < size shape → 0 < width → passes item ≡ true
    → w ≡ place * width + 0 → v ≡ slice_index item 0 → x ≡ Rest → Moves next permits (Fits width passes) shape promise rank x w (λ _. v) (λ _ items did after. PutsWord width place item x items did after)
puts_at_first width passes shape promise rank place w v item x own mine within some passed at word rest =
    subst (λ (z : ℕ × ℕ × Note). Moves next permits (Fits width passes) shape promise rank z.2 z.0 (λ _. z.1) (λ _ items did after. PutsWord width place item z.2 items did after)) (λ i. (sym at i, sym word i, sym rest i))
    (puts_first width passes shape promise rank place item own mine within some passed)

pub puts_at_next : (width : ℕ) (passes : List ℕ → Bool) (shape : Shape) (promise rank place j w v : ℕ) (item : List ℕ) (x : Note) → place < size shape → j < width
    → w ≡ place * width + j → v ≡ slice_index item j → x ≡ putting width place item j → Moves next permits (Fits width passes) shape promise rank x w (λ _. v) (λ _ items did after. PutsWord width place item x items did after)
puts_at_next width passes shape promise rank place j w v item x within low at word is =
    subst (λ (z : ℕ × ℕ × Note). Moves next permits (Fits width passes) shape promise rank z.2 z.0 (λ _. z.1) (λ _ items did after. PutsWord width place item z.2 items did after)) (λ i. (sym at i, sym word i, sym (is ∙ still_putting width place j item low) i))
    (puts_next width passes shape promise rank place j item within)

pub first_told : (width place : ℕ) (item : List ℕ) (x after : Note) (items : List (List ℕ)) (did : _) → x ≡ Rest → PutsWord width place item x items did after → Makes (Write place item) Done (putting width place item 1) items did after
first_told width place item x after items did rest fact = subst (λ (z : Note). PutsWord width place item z items did after) rest fact

pub next_told : (width place j : ℕ) (item : List ℕ) (x after : Note) (items : List (List ℕ)) (did : _) → j < width → x ≡ putting width place item j → PutsWord width place item x items did after → Puts (putting width place item (j + 1)) did after
next_told width place j item x after items did low is fact = subst (λ (z : Note). PutsWord width place item z items did after) (is ∙ still_putting width place j item low) fact
