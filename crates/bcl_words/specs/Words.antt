-- Lists of eight words.
-- An object has some words of its own, and zeros behind them.
use Rattle.std.specs.Prelude.{◌≡◌, ℕ, ◌-◌, ◌^◌, ◌<◌, ◌≤◌, List, Bool, ◌&&◌, ◌==◌, nat_lt, nat_le, length, replicate, drop}
use Rattle.std.specs.List.{All, list_all}

-- so many words are those of an object that can stand in a container
pub record Fits (n : ℕ) : Type 0 where
  pub least : 1 ≤ n
  pub most : n ≤ 8

-- the same as a test
abbrev pub is_fit : ℕ → Bool
is_fit n = nat_le 1 n && nat_le n 8

-- eight words, and zeros past the first n
pub record IsWords (n : ℕ) (w : List ℕ) : Type 0 where
  pub len : length w ≡ 8
  pub in_range : All (λ x. x < 2 ^ 64) w
  pub zeros : drop n w ≡ replicate (8 - n) 0

-- the same as a test
abbrev pub is_words : ℕ → List ℕ → Bool
is_words n w = (length w == 8) && (list_all (λ x. nat_lt x (2 ^ 64)) w && list_all (λ x. x == 0) (drop n w))
