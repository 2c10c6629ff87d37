-- The calls that walk, each with what it is answered where its walk ends without the key, and who may make it.
-- The laws of `Walking` and `Storing` at a find, an insertion and a merge are these.
use Rattle.std.proofs.Common.{◌≡◌, ℕ, length, None, refl, ap, ◌∙◌, inl, inr, sym, subst, cond, eq-eqb}
use Rattle.std.specs.Prelude.{Bool, true, false}
use Rattle.bcl_event.specs.declared.map.MapCall.TheVariants.{Find, Insert, Merge}
use Rattle.bcl_event.specs.declared.map.MapReply.TheVariants.{Absent, New, Full}
use Rattle.bcl_event.specs.Map.{Pairs, value_at, with_pair, found, stored}
use Rattle.bcl_map.specs.declared.shape.Shape.{Shape}
use Rattle.bcl_map.specs.Map.{Words, places, owning, home, permits}
use Rattle.bcl_map.specs.Finds.{MaySee}
use Rattle.bcl_map.specs.Walking.{Walker, IsAnswered}
use Rattle.bcl_map.specs.Inserts.{IsStoring}

-- ---- a find

abbrev pub find_walker : Words → Walker
find_walker k = record { call = Find k; past = Absent; stops = true }

pub find_sees : (L : Shape) (p r : ℕ) (k : Words) → MaySee L p r k → MaySee L p r k
find_sees L p r k see = see

pub find_permitted : (L : Shape) (p r : ℕ) (k : Words) → MaySee L p r k → permits L p r (Find k)
find_permitted L p r k (inl e) = subst (λ (q : ℕ). permits L q r (Find k)) (sym e) tt
find_permitted L p r k (inr own) = subst (λ (q : ℕ). permits L q r (Find k)) (sym own.0) own.1

pub find_answered : (k : Words) → IsAnswered (find_walker k) k
find_answered k op L t none full = λ i. (found (none i), t)

-- ---- an insertion and a merge

-- under Own, the rank of the key's home
abbrev pub MayStore : Shape → ℕ → ℕ → Words → Type 0
MayStore L p r k = (p ≡ owning) × (home L k ≡ r)

pub store_may : (L : Shape) (r : ℕ) (k : Words) → home L k ≡ r → MayStore L owning r k
store_may L r k own = (refl, own)

pub store_sees : (L : Shape) (p r : ℕ) (k : Words) → MayStore L p r k → MaySee L p r k
store_sees L p r k may = inr may

full_stored : (room : ℕ) (k v : Words) (merged : Words → Words) (t : Pairs) → value_at k t ≡ None → length t ≡ room → stored room k v merged t (value_at k t) ≡ (Full, t)
full_stored room k v merged t none same = ap (stored room k v merged t) none ∙ ap (λ (z : Bool). cond z (Full, t) (New, with_pair k v t)) (eq-eqb (length t) room same)

abbrev pub insert_walker : Words → Words → Walker
insert_walker k v = record { call = Insert k v; past = Full; stops = false }

pub insert_stores : (k v : Words) → IsStoring k v (insert_walker k v)
insert_stores k v = record { stores = inl refl; full = refl; on = refl }

pub insert_permitted : (v : Words) (L : Shape) (p r : ℕ) (k : Words) → MayStore L p r k → permits L p r (Insert k v)
insert_permitted v L p r k may = subst (λ (q : ℕ). permits L q r (Insert k v)) (sym may.0) may.1

pub insert_answered : (k v : Words) → IsAnswered (insert_walker k v) k
insert_answered k v op L t none full = full_stored (places L) k v (λ old. v) t none (full refl)

abbrev pub merge_walker : Words → Words → Walker
merge_walker k v = record { call = Merge k v; past = Full; stops = false }

pub merge_stores : (k v : Words) → IsStoring k v (merge_walker k v)
merge_stores k v = record { stores = inr refl; full = refl; on = refl }

pub merge_permitted : (v : Words) (L : Shape) (p r : ℕ) (k : Words) → MayStore L p r k → permits L p r (Merge k v)
merge_permitted v L p r k may = subst (λ (q : ℕ). permits L q r (Merge k v)) (sym may.0) may.1

pub merge_answered : (k v : Words) → IsAnswered (merge_walker k v) k
merge_answered k v op L t none full = full_stored (places L) k v (λ old. op old v) t none (full refl)
