-- What a flush comes to: the buffers change their lanes, and each rank merges what it has then.
use Rattle.std.proofs.Common.{◌≡◌, ℕ, zero, suc, ◌<◌, List, [], ◌∷◌, ◌++◌, Some, length, map, get_or, replicate, refl, sym, ap, ap₂, ◌∙◌, subst, arith}
use Rattle.std.specs.Prelude.{All, slice_index_or}
use Rattle.std.specs.List.{AllZip, flat_map}
use Rattle.std.proofs.lemmas.List.{length-map}
use Rattle.std.proofs.lemmas.List.Elements.{All-nil, All-append}
use mathlib.Core.Option.{some, some-injective, some-ne-none}
use lib.ListN.{get_elem?}
use Rattle.bcl_words.specs.declared.pair.Pair.{Pair}
use Rattle.bcl_phase.proofs.Zips.{zip_long, zip_at}
use Rattle.bcl_map.specs.declared.shape.Shape.{Shape}
use Rattle.bcl_map.specs.Map.{Words}
use Rattle.bcl_map.specs.Calls.{MapView}
use Rattle.bcl_buffer.specs.declared.buffer.State.TheVariants.{Exchanged}
use Rattle.bcl_buffer.specs.Lanes.{Lanes, lane, items}
use Rattle.bcl_buffer.specs.Exchanges.{at, AllFill, Exchanges}
use Rattle.bcl_buffer.specs.Drains.{IsFor, shape_in}
use Rattle.bcl_buffer.specs.Flushes.{column, emptied, MergedOnce}

-- ---- places

module _ {X : Type 0} where
  pub there : (xs : List X) (i : ℕ) (d : X) → i < length xs → get_elem? xs i ≡ some (get_or xs i d)
  there [] i d low = absurd (omega arith)
  there (x ∷ xs) zero d low = refl
  there (x ∷ xs) (suc i) d low = there xs i d (omega arith)

  found : (xs : List X) (i : ℕ) (x d : X) → get_elem? xs i ≡ some x → (i < length xs) × (get_or xs i d ≡ x)
  found [] i x d e = absurd (some-ne-none x (sym e))
  found (y ∷ xs) zero x d e = (omega arith, some-injective y x e)
  found (y ∷ xs) (suc i) x d e = let more = found xs i x d e in let low = more.0 in (omega arith, more.1)

  pub from_map : {Y : Type 0} (f : X → Y) (xs : List X) (i : ℕ) (y : Y) → get_elem? (map f xs) i ≡ some y → (x : X) × (get_elem? xs i ≡ some x) × (y ≡ f x)
  from_map f [] i y e = absurd (some-ne-none y (sym e))
  from_map f (x ∷ xs) zero y e = (x, refl, sym (some-injective (f x) y e))
  from_map f (x ∷ xs) (suc i) y e = from_map f xs i y e

  at_map : {Y : Type 0} (f : X → Y) (xs : List X) (i : ℕ) (x : X) → get_elem? xs i ≡ some x → get_elem? (map f xs) i ≡ some (f x)
  at_map f [] i x e = absurd (some-ne-none x (sym e))
  at_map f (y ∷ xs) zero x e = ap (λ z. some (f z)) (some-injective y x e)
  at_map f (y ∷ xs) (suc i) x e = at_map f xs i x e

-- ---- columns

module _ {P : Type 0} where
  side_by_side : (rank : ℕ) (ls : List (List P)) (bs : List (Lanes P)) → length ls ≡ length bs → ((s : ℕ) → s < length bs → slice_index_or ls s [] ≡ lane (at bs s) rank) → flat_map (λ l. l) ls ≡ column rank bs
  side_by_side rank [] [] long each = refl
  side_by_side rank [] (b ∷ bs) long each = absurd (omega arith)
  side_by_side rank (l ∷ ls) [] long each = absurd (omega arith)
  side_by_side rank (l ∷ ls) (b ∷ bs) long each = ap₂ ◌++◌ (each zero (omega arith)) (side_by_side rank ls bs (omega arith) (λ s low. each (suc s) (omega arith)))

  -- what holds of each buffer's lane holds of all
  pub all_of_column : (Q : P → Type 0) (rank : ℕ) (bs : List (Lanes P)) → ((s : ℕ) → s < length bs → All Q (lane (at bs s) rank)) → All Q (column rank bs)
  all_of_column Q rank [] each = All-nil Q
  all_of_column Q rank (b ∷ bs) each = All-append Q (lane b rank) (column rank bs) (each 0 (omega arith)) (all_of_column Q rank bs (λ s low. each (suc s) (omega arith)))

  module _ (old new : List (Lanes P)) (turns : Exchanges old new) where
    -- an exchanged buffer has what all had for its rank
    own_column : (r : ℕ) → r < length old → items (at new r) ≡ column r old
    own_column r low = side_by_side r (at new r).lanes old (turns.wide r low) (λ s less. turns.lanes r s low less)

    same_emptied : (r : ℕ) → r < length old → emptied (at new r) ≡ emptied (at old r)
    same_emptied r low i = record {
      rank = turns.rank r low i;
      shape = turns.shape r low i;
      state = (emptied (at old r)).state;
      lanes = replicate (turns.shape r low i).ranks [];
    }

-- ---- the parts of all ranks

module _ {D W K V : Type 0} (pass : D → W) (buffer : D → Lanes (Pair K V)) (Of : W → Type 0) (view : W → MapView) (shape : Shape) (width : ℕ) (passes : List W) (old new : List (Lanes (Pair K V))) (kits : List D)
    (passes_are : map pass kits ≡ passes) (buffers_are : map buffer kits ≡ new) (turns : Exchanges old new) (many : length old ≡ length passes) where
  long : length kits ≡ length old
  long = sym (length-map kits pass) ∙ (ap length passes_are ∙ sym many)

  pass_there : (i : ℕ) (k : D) → get_elem? kits i ≡ some k → get_elem? passes i ≡ some (pass k)
  pass_there i k e = subst (λ (l : List W). get_elem? l i ≡ some (pass k)) passes_are (at_map pass kits i k e)

  buffer_there : (i : ℕ) (k : D) → get_elem? kits i ≡ some k → (i < length old) × (at new i ≡ buffer k)
  buffer_there i k e = let b = found new i (buffer k) _ (subst (λ (l : List (Lanes (Pair K V))). get_elem? l i ≡ some (buffer k)) buffers_are (at_map buffer kits i k e)) in (subst (λ n. i < n) turns.count b.0, b.1)

  module _ (fill : AllFill old) (is : shape ≡ shape_in width (at old 0).shape) (of : (i : ℕ) (w : W) → get_elem? passes i ≡ some w → Of w × ((view w).rank ≡ i)) (key : (w : W) → Of w → (view w).key ≡ Some shape) where
    pub all_ready : All (λ k. Of (pass k) × ((buffer k).state ≡ Exchanged) × IsFor width (buffer k) (view (pass k))) kits
    all_ready i d low =
        let k = get_or kits i d in
        let e = there kits i d low in
        let p = of i (pass k) (pass_there i k e) in
        let b = buffer_there i k e in (
          p.0,
          ap (λ (z : Lanes (Pair K V)). z.state) (sym b.1) ∙ turns.exchanged i b.0,
          record {
            of = key (pass k) p.0 ∙ ap (λ (s : Shape). Some s) (is ∙ ap (shape_in width) (sym (fill.shape i b.0) ∙ (sym (turns.shape i b.0) ∙ ap (λ (z : Lanes (Pair K V)). z.shape) b.1)));
            rank = p.1 ∙ (sym (fill.rank i b.0) ∙ (sym (turns.rank i b.0) ∙ ap (λ (z : Lanes (Pair K V)). z.rank) b.1));
          },
        )

  module _ (key : K → Words) (value : V → Words) (op : Words → Words → Words) (after : List D) where
    abbrev Step : D → D → Type 0
    Step k l = Of (pass l) × (buffer l ≡ emptied (buffer k)) × MergedOnce key value op shape (items (buffer k)) (view (pass k)) (view (pass l))

    module _ (steps : AllZip Step kits after) where
      -- a pass that came back, and the one that it was
      pub came_back : (i : ℕ) (q : W) → get_elem? (map pass after) i ≡ some q → (p : W) × (get_elem? passes i ≡ some p) × Of q × MergedOnce key value op shape (column i old) (view p) (view q)
      came_back i q e =
          let l = from_map pass after i q e in
          let was = zip_at Step kits after steps i l.0 l.1 in
          let k = was.0 in
          let b = buffer_there i k was.1 in (
            pass k,
            pass_there i k was.1,
            subst Of (sym l.2) was.2.0,
            subst (λ (z : List (Pair K V) × W). MergedOnce key value op shape z.0 (view (pass k)) (view z.1))
                (λ j. ((ap items (sym b.1) ∙ own_column old new turns i b.0) j, sym l.2 j)) was.2.2,
          )

      pub all_back : length (map pass after) ≡ length passes
      all_back = length-map after pass ∙ (zip_long Step kits after steps ∙ (long ∙ many))

      pub merged_once : (i : ℕ) (p q : W) → get_elem? passes i ≡ some p → get_elem? (map pass after) i ≡ some q → MergedOnce key value op shape (column i old) (view p) (view q)
      merged_once i p q e f = let it = came_back i q f in subst (λ (z : W). MergedOnce key value op shape (column i old) (view z) (view q)) (some-injective it.0 p (sym it.1 ∙ e)) it.3

      pub in_place : ((i : ℕ) (w : W) → get_elem? passes i ≡ some w → (view w).rank ≡ i) → (i : ℕ) (q : W) → get_elem? (map pass after) i ≡ some q → Of q × ((view q).rank ≡ i)
      in_place ranks i q e = let it = came_back i q e in (it.2, it.3.ran.same.same_rank ∙ ranks i it.0 it.1)

      -- all buffers are empty
      pub all_emptied_again : map buffer after ≡ map emptied old
      all_emptied_again = emptied_each kits after steps ∙ (ap (map emptied) buffers_are ∙ same_each new old turns.count (λ i low. same_emptied old new turns i low))
        where
          emptied_each : (ks ls : List D) → AllZip Step ks ls → map buffer ls ≡ map emptied (map buffer ks)
          emptied_each [] [] z = refl
          emptied_each [] (l ∷ ls) z = absurd z
          emptied_each (k ∷ ks) [] z = absurd z
          emptied_each (k ∷ ks) (l ∷ ls) z = ap₂ ◌∷◌ z.0.1 (emptied_each ks ls z.1)

          same_each : (xs ys : List (Lanes (Pair K V))) → length xs ≡ length ys → ((i : ℕ) → i < length ys → emptied (at xs i) ≡ emptied (at ys i)) → map emptied xs ≡ map emptied ys
          same_each [] [] same each = refl
          same_each [] (y ∷ ys) same each = absurd (omega arith)
          same_each (x ∷ xs) [] same each = absurd (omega arith)
          same_each (x ∷ xs) (y ∷ ys) same each = ap₂ ◌∷◌ (each 0 (omega arith)) (same_each xs ys (omega arith) (λ i low. each (suc i) (omega arith)))
