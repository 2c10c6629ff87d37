-- The buffers of all ranks, in the order of their ranks.
use Rattle.std.proofs.Common.{◌≡◌, ℕ, ◌<◌, List, length, map, sym, ap, ◌∙◌, subst}
use Rattle.std.specs.List.{AllZip}
use Rattle.std.proofs.lemmas.List.{length-map}
use mathlib.Core.Option.{some}
use lib.ListN.{get_elem?}
use Rattle.bcl_phase.proofs.Zips.{zip_long, zip_at}
use Rattle.bcl_segment.specs.declared.layout.Layout.{Layout}
use Rattle.bcl_buffer.specs.declared.buffer.State.TheVariants.{Filling}
use Rattle.bcl_buffer.specs.Lanes.{Lanes}
use Rattle.bcl_buffer.specs.Exchanges.{at, AllFill}
use Rattle.bcl_buffer.proofs.Flushed.{there, from_map}

module _ {P : Type 0} (bs : List (Lanes P)) (shape : Layout) where
  -- where the buffer of each rank stands at its place, all fill
  pub all_fill : 0 < length bs → length bs ≡ shape.ranks → ((i : ℕ) (b : Lanes P) → get_elem? bs i ≡ some b → (b.rank ≡ i) × (b.shape ≡ shape) × (b.state ≡ Filling)) → AllFill bs
  all_fill some_rank long each = record {
    rank = λ r low. (here r low).0;
    shape = λ r low. (here r low).1 ∙ sym (here 0 some_rank).1;
    ranks = ap (λ (s : Layout). s.ranks) (here 0 some_rank).1 ∙ sym long;
    fills = λ r low. (here r low).2;
  }
    where
      here : (r : ℕ) → r < length bs → ((at bs r).rank ≡ r) × ((at bs r).shape ≡ shape) × ((at bs r).state ≡ Filling)
      here r low = each r (at bs r) (there bs r _ low)

  pub first_shape : 0 < length bs → ((i : ℕ) (b : Lanes P) → get_elem? bs i ≡ some b → (b.rank ≡ i) × (b.shape ≡ shape) × (b.state ≡ Filling)) → (at bs 0).shape ≡ shape
  first_shape some_rank each = (each 0 (at bs 0) (there bs 0 _ some_rank)).1

-- the buffers of kits, behind a superstep that fills them
module _ {D P : Type 0} (buffer : D → Lanes P) (shape : Layout) (kits after : List D) (bs : List (Lanes P)) where
  abbrev Fills : D → D → Type 0
  Fills k l = ((buffer l).rank ≡ (buffer k).rank) × ((buffer l).shape ≡ (buffer k).shape) × ((buffer l).state ≡ Filling)

  module _ (steps : AllZip Fills kits after) (taken : bs ≡ map buffer after) where
    pub as_many : length bs ≡ length kits
    as_many = ap length taken ∙ (length-map after buffer ∙ zip_long Fills kits after steps)

    pub each_fills : ((i : ℕ) (k : D) → get_elem? kits i ≡ some k → ((buffer k).rank ≡ i) × ((buffer k).shape ≡ shape)) → (i : ℕ) (b : Lanes P) → get_elem? bs i ≡ some b → (b.rank ≡ i) × (b.shape ≡ shape) × (b.state ≡ Filling)
    each_fills made i b at =
        let l = from_map buffer after i b (subst (λ (z : List (Lanes P)). get_elem? z i ≡ some b) taken at) in
        let was = zip_at Fills kits after steps i l.0 l.1 in
        let it = made i was.0 was.1 in
        (ap (λ (z : Lanes P). z.rank) l.2 ∙ (was.2.0 ∙ it.0), ap (λ (z : Lanes P). z.shape) l.2 ∙ (was.2.1 ∙ it.1), ap (λ (z : Lanes P). z.state) l.2 ∙ was.2.2)
