-- That a map with room for so many pairs has twice as many buckets, and a home for each key.
use Rattle.std.proofs.Common.{ℕ, ◌+◌, ◌*◌, ◌-◌, ◌/◌, ◌%◌, ◌<◌, ◌≤◌, arith}
use Rattle.std.proofs.Math.Nat.{div-add-mod, div-lt_iff_lt-mul, mod-lt, mul-le-mul_left}
use Rattle.bcl_map.specs.Map.{Words, places, begins_at, home}
use Rattle.bcl_map.specs.Room.{buckets, shape_for}

module _ (width ranks pairs : ℕ) (some : 0 < ranks) where
  twice : 2 * pairs ≤ ranks * ((2 * pairs + (ranks - 1)) / ranks)
  twice =
      let d = div-add-mod (2 * pairs + (ranks - 1)) ranks in
      let r : (2 * pairs + (ranks - 1)) % ranks < ranks = mod-lt (2 * pairs + (ranks - 1)) some in
      omega arith

  pub some_buckets : 1 ≤ buckets ranks pairs
  some_buckets = omega arith

  pub room : 2 * pairs ≤ places (shape_for width ranks pairs)
  room =
      let up : ranks * ((2 * pairs + (ranks - 1)) / ranks) ≤ ranks * buckets ranks pairs = mul-le-mul_left ranks (omega arith) in
      let two = twice in
      omega arith

  some_places : 0 < places (shape_for width ranks pairs)
  some_places = let up : ranks * 1 ≤ ranks * buckets ranks pairs = mul-le-mul_left ranks some_buckets in omega arith

  -- the home of a key is a rank
  pub home_low : (key : Words) → home (shape_for width ranks pairs) key < ranks
  home_low key = (div-lt_iff_lt-mul {k = buckets ranks pairs} {x = begins_at (shape_for width ranks pairs) key} {y = ranks} some_buckets).1 (mod-lt _ some_places)
