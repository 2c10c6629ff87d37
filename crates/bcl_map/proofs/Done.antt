-- What a call on a key leaves, from its begin on.
use Rattle.std.proofs.Common.{◌≡◌, ℕ, ◌+◌, ◌*◌, ◌<◌, ◌≤◌, ◌⊎◌, inl, inr, sym, ap, subst, ⊎_elim, arith}
use Rattle.std.proofs.Math.Nat.{mul-le-mul_right}
use Rattle.bcl_segment.specs.declared.layout.Layout.{Layout}
use Rattle.bcl_event.specs.declared.map.MapCall.{MapCall}
use Rattle.bcl_event.specs.declared.map.MapReply.{MapReply}
use Rattle.bcl_event.specs.declared.map.MapReply.TheVariants.{New, Full}
use Rattle.bcl_map.specs.declared.shape.Shape.{Shape}
use Rattle.bcl_map.specs.declared.place.Place.{Place}
use Rattle.bcl_map.specs.declared.place.Place.TheVariants.{New as place_new, Here as place_here, Full as place_full}
use Rattle.bcl_map.specs.Map.{Words}
use Rattle.bcl_map.specs.Calls.{MapView}
use Rattle.bcl_map.specs.Costs.{taken}
use Rattle.bcl_map.specs.Notes.{Knows}
use Rattle.bcl_map.specs.Walking.{Walker, strays, least}
use Rattle.bcl_map.specs.Reaches.{Comes, Ends, IsHeading, HasPassed, IsFree, IsPast, IsPlaceOf}
use Rattle.bcl_map.proofs.Known.{heading_knows}
use Rattle.bcl_map.proofs.Reached.{comes_trans, ends_behind, covered}

-- no step yet, or steps that make no call
abbrev pub Came : (Words → Words → Words) → Shape → MapView → MapView → Type 0
Came op L u v = (v ≡ u) ⊎ Comes op L u v

module _ (op : Words → Words → Words) (L : Shape) (u v w : MapView) (came : Came op L u v) where
  pub came_through : Comes op L v w → Comes op L u w
  came_through on = ⊎_elim (λ (same : v ≡ u). subst (λ (z : MapView). Comes op L z w) same on) (λ (c : Comes op L u v). comes_trans op L u v w c on) came

  pub came_on : Comes op L v w → Came op L u w
  came_on on = inr (came_through on)

  pub ends_from : (call : MapCall Words Words) (reply : MapReply Words) → Ends op L call reply v w → Ends op L call reply u w
  ends_from call reply ends = ⊎_elim (λ (same : v ≡ u). subst (λ (z : MapView). Ends op L call reply z w) same ends) (λ (c : Comes op L u v). ends_behind op L call reply u v w c ends) came

  pub free_from : (c : Walker) (k : Words) (d : ℕ) → IsFree op L c k d v w → IsFree op L c k d u w
  free_from c k d free = record {
    ends = λ stops. let end = free.ends stops in (ends_from c.call c.past end.0, end.1);
    on = λ goes. let on = free.on goes in (came_through on.0, on.1);
  }

  pub past_from : (c : Walker) (k : Words) (d : ℕ) → IsPast op L c k d v w → IsPast op L c k d u w
  past_from c k d past = record {
    on = λ more. let on = past.on more in (came_through on.0, on.1);
    ends = λ last. let end = past.ends last in (ends_from c.call c.past end.0, end.1);
  }

-- a walk from the place `from` on stands before the place with this number
abbrev pub Stood : (Words → Words → Words) → Shape → ℕ → ℕ → MapView → MapView → Type 0
Stood op L from number u v = ((number ≡ from) × (v ≡ u)) ⊎ ((from < number) × Comes op L u v)

pub stood_came : (op : Words → Words → Words) (L : Shape) (from number : ℕ) (u v : MapView) → Stood op L from number u v → Came op L u v
stood_came op L from number u v stood = ⊎_elim (λ (h : (number ≡ from) × (v ≡ u)). inl h.1) (λ (h : (from < number) × Comes op L u v). inr h.1) stood

-- a call that stores a value stands before the place with this number: no exchange is lost, or that at this place was the last, and no more than there are places so far
pub record Tries (op : Words → Words → Words) (L : Shape) (k : Words) (number : ℕ) (u v : MapView) : Type 0 where
  pub came : Came op L u v
  pub heads : HasPassed k number v
  pub lost : (v.atomics ≡ u.atomics) ⊎ (Knows k (number + 1) v.note.claims × (v.atomics ≤ u.atomics + (number + 1)))

-- one more is lost, at a place from which the walk went on
pub tried : (op : Words → Words → Words) (L : Shape) (k : Words) (from number : ℕ) (u v w z : MapView) → Tries op L k from u v → (Knows k (from + 1) v.note.claims → from < number)
    → Comes op L v w → w.atomics ≡ v.atomics → Comes op L w z → IsHeading k (number + 1) z → z.atomics ≡ w.atomics + 1 → Tries op L k number u z
tried op L k from number u v w z tries further on same lost heads one_more = record {
  came = came_on op L u v z tries.came (comes_trans op L v w z on lost);
  heads = (number + 1, omega arith, heads);
  lost = inr (
    subst (Knows k (number + 1)) (sym heads) (heading_knows (strays z.note.claims) k (number + 1) (least z.note.claims)),
    ⊎_elim
        (λ (none : v.atomics ≡ u.atomics). omega arith)
        (λ (some : Knows k (from + 1) v.note.claims × (v.atomics ≤ u.atomics + (from + 1))). let less = further some.0 in let few = some.1 in omega arith)
        tries.lost,
  );
}

-- how many exchanges a call makes at most that finds the place of its key
abbrev pub most_placed : ℕ → Place → ℕ
most_placed taken place_new = taken + 1
most_placed taken (place_here bucket) = 0
most_placed taken place_full = taken

-- of the exchanges at most one is won
pub placed_most : (op : Words → Words → Words) (L : Shape) (u w : MapView) (words : ℕ) (layout : Layout) (call : MapCall Words Words) (k : Words) (r : Place) → IsPlaceOf op L words layout call k u w r → w.atomics ≤ u.atomics + most_placed (taken u w) r
placed_most op L u w words layout call k place_new h = covered op L call New u w h.0
placed_most op L u w words layout call k (place_here bucket) h = let same = (h.1.fresh (ap strays h.2)).1 in omega arith
placed_most op L u w words layout call k place_full h = let all = covered op L call Full u w h.0 in omega arith

-- ---- sums

-- the gets of all places
pub gets_all : (number n width from a b h : ℕ) → number < n → b + from * (1 + width) ≤ a + number * (1 + width) → h ≤ b + (1 + width) → h + from * (1 + width) ≤ a + n * (1 + width)
gets_all number n width from a b h low before here = let upto : (number + 1) * (1 + width) ≤ n * (1 + width) = mul-le-mul_right (1 + width) (omega arith) in
    let one : (number + 1) * (1 + width) ≡ number * (1 + width) + (1 + width) = omega arith in omega arith

-- those of a walk that lost exchanges, and those of one that lost none and of a value
pub gets_of_lost : (a b c h i t width : ℕ) → h + c ≤ a + b + i → i ≤ c + (t + 1) → 1 ≤ width → h ≤ a + (b + width + t)
gets_of_lost a b c h i t width all few some = omega arith

pub gets_of_value : (a b c h i t width : ℕ) → h + c ≤ a + b + i → i ≡ c → h + width ≤ a + (b + width + t)
gets_of_value a b c h i t width all same = omega arith
