-- The buffers of all ranks, where each rank has filled its own.
use Rattle.std.proofs.Common.{◌≡◌, ℕ, zero, suc, ◌<◌, List, [], ◌∷◌, get_or, length, map, replicate, refl, sym, ap, ◌∙◌, subst, arith, Result, Ok, Err}
use Rattle.std.specs.Prelude.{All, IsOk, OnOk, slice_index_or}
use Rattle.std.specs.List.{AllZip}
use mathlib.Core.Option.{some, some-injective, some-ne-none}
use lib.ListN.{get_elem?}
use Rattle.bcl_segment.specs.declared.layout.Layout.{Layout}
use Rattle.bcl_phase.proofs.Zips.{zip_long, zip_at}
use Rattle.bcl_buffer.specs.declared.buffer.State.TheVariants.{Filling}
use Rattle.bcl_buffer.specs.Lanes.{Lanes}
use Rattle.bcl_buffer.specs.Exchanges.{at, AllFill}

-- ---- places of a list

pub there : {X : Type 0} (xs : List X) (i : ℕ) → i < length xs → (x : X) × (get_elem? xs i ≡ some x)
there [] i low = absurd (omega arith)
there (x ∷ xs) zero low = (x, refl)
there (x ∷ xs) (suc i) low = there xs i (omega arith)

pub within : {X : Type 0} (xs : List X) (i : ℕ) (x : X) → get_elem? xs i ≡ some x → i < length xs
within [] i x e = absurd (some-ne-none x (sym e))
within (y ∷ xs) zero x e = omega arith
within (y ∷ xs) (suc i) x e = let low = within xs i x e in omega arith

place : {X : Type 0} (xs : List X) (i : ℕ) (x d : X) → get_elem? xs i ≡ some x → get_or xs i d ≡ x
place [] i x d e = absurd (some-ne-none x (sym e))
place (y ∷ xs) zero x d e = some-injective y x e
place (y ∷ xs) (suc i) x d e = place xs i x d e

pub on_ok : {E P : Type 0} (r : Result (Unit {0}) E) → IsOk r → OnOk r P → P
on_ok (Ok x) ok p = p
on_ok (Err e) ok p = absurd cc

-- a new buffer has nothing for a rank
pub none_there : {X : Type 0} (n rank : ℕ) → slice_index_or (replicate {A = List X} n []) rank [] ≡ []
none_there zero rank = refl
none_there (suc n) zero = refl
none_there (suc n) (suc rank) = none_there n rank

-- ---- kits, each with a buffer, before a superstep and behind it

module _ {F P : Type 0} (buffer : F → Lanes P) where
  buffer_at : (fs : List F) (i : ℕ) (f : F) → get_elem? fs i ≡ some f → at (map buffer fs) i ≡ buffer f
  buffer_at [] i f e = absurd (some-ne-none f (sym e))
  buffer_at (x ∷ fs) zero f e = ap buffer (some-injective x f e)
  buffer_at (x ∷ fs) (suc i) f e = buffer_at fs i f e

  -- what holds of each rank's kit, and where its buffer is
  pub each_kit : (IsMade : ℕ → F → Type 0) (Step : F → F → Type 0) (IsDone : F → Type 0) (kits kits' : List F) → ((r : ℕ) (f : F) → get_elem? kits r ≡ some f → IsMade r f) → AllZip Step kits kits' → All IsDone kits'
      → (r : ℕ) → r < length kits → (old : F) × (new : F) × IsMade r old × Step old new × IsDone new × (at (map buffer kits') r ≡ buffer new)
  each_kit IsMade Step IsDone kits kits' made steps done r low =
      let same = zip_long Step kits kits' steps in
      let now = there kits' r (omega arith) in
      let was = zip_at Step kits kits' steps r now.0 now.1 in
      (was.0, now.0, made r was.0 was.1, was.2, subst IsDone (place kits' r now.0 now.0 now.1) (done r now.0 (omega arith)), buffer_at kits' r now.0 now.1)

module _ {P : Type 0} (shape : Layout) (some_rank : 0 < shape.ranks) (buffers : List (Lanes P)) (long : length buffers ≡ shape.ranks)
    (each : (r : ℕ) → r < shape.ranks → ((at buffers r).rank ≡ r) × ((at buffers r).shape ≡ shape) × ((at buffers r).state ≡ Filling)) where
  pub all_fill : AllFill buffers
  all_fill = record {
    rank = λ r low. (let all = long in each r (omega arith)).0;
    shape = λ r low. (let all = long in each r (omega arith)).1 ∙ sym (each 0 some_rank).1;
    ranks = ap (λ (s : Layout). s.ranks) (each 0 some_rank).1 ∙ sym long;
    fills = λ r low. (let all = long in each r (omega arith)).2;
  }
