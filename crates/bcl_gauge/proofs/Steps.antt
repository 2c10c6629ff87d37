-- How the word of the gauge steps, and how a phase of it ends.
use Rattle.std.proofs.Common.{◌≡◌, ◌≢◌, ℕ, ◌<◌, ◌≤◌, List, [], ◌∷◌, length, slice_index, slice_set, refl, sym, ap, ◌∙◌, subst, arith, length-set}
use Rattle.std.specs.Prelude.{◌^◌, min, Option}
use Rattle.std.proofs.lemmas.List.Elements.{All-nil, All-cons}
use Rattle.bcl_phase.specs.Rule.{Moves, Rests}
use lib.Seq.{set-get_or}
use Rattle.bcl_gauge.specs.declared.gauge.Shape.{Shape}
use Rattle.bcl_gauge.specs.declared.gauge.Call.TheVariants.{Lower}
use Rattle.bcl_gauge.specs.Gauge.{next, permits, fits}

at_first : (ws : List ℕ) (n : ℕ) → length ws ≡ 1 → slice_index (slice_set ws 0 n) 0 ≡ n
at_first [] n e = absurd (omega arith)
at_first (x ∷ ws) n e = refl

-- a phase may leave the word below the floor, so it doesn't end at home by itself
pub not_settled : ((shape : Shape) (p : ℕ) (ws : List ℕ) (t : ℕ) → fits shape p ws t [] → fits shape 0 ws t []) → ⊥
not_settled settles = let low : 5 ≤ 0 = (settles (record { ranks = 1; floor = 5 }) 9 (0 ∷ []) 5 (record { one = refl; small = omega arith; number = refl; home = λ e. absurd (omega arith) })).home refl in omega arith

pub lowers : (shape : Shape) (promise rank n : ℕ) → promise ≢ 0 → Moves next permits fits shape promise rank tt 0 (λ m. min m n) (λ _ _ did _. did ≡ Lower n ∷ [])
lowers shape promise rank n phase ws t xs at fit small = (
  Lower n ∷ [],
  tt,
  All-cons (permits shape promise rank) (Lower n) [] tt (All-nil (permits shape promise rank)),
  record {
    one = length-set ws 0 (min (slice_index ws 0) n) ∙ fit.one;
    small = fit.small;
    number = let w = at_first ws (min (slice_index ws 0) n) fit.one in let e = fit.number in omega arith;
    home = λ e. absurd (phase e);
  },
  refl,
)

pub reads : (shape : Shape) (known : Option (List ℕ)) → Rests next permits fits shape known 0 (λ m. m) (λ m t did. (did ≡ []) × (m ≡ t))
reads shape known ws t are fit small = ([], subst (λ (l : List ℕ). fits shape 0 l t []) (sym (set-get_or ws 0 0)) fit, (refl, (let high = fit.home refl in let e = fit.number in omega arith)))

-- what a phase left is as it has to be at home
pub settled : (shape : Shape) (p : ℕ) (ws : List ℕ) (t : ℕ) → shape.floor ≤ slice_index ws 0 → fits shape p ws t [] → fits shape 0 ws t []
settled shape p ws t high fit = record { one = fit.one; small = fit.small; number = fit.number; home = λ _. high }

-- what a phase left too low is as it has to be at home once it is lifted
pub lifted : (shape : Shape) (p : ℕ) (ws : List ℕ) (t : ℕ) → slice_index ws 0 < shape.floor → fits shape p ws t [] → fits shape 0 (slice_set ws 0 shape.floor) t []
lifted shape p ws t low fit = let w = at_first ws shape.floor fit.one in let e = fit.number in record {
  one = length-set ws 0 shape.floor ∙ fit.one;
  small = fit.small;
  number = omega arith;
  home = λ _. omega arith;
}

-- a new gauge
pub fresh : (shape : Shape) (ws : List ℕ) → ws ≡ 18446744073709551615 ∷ [] → shape.floor < 2 ^ 64 → fits shape 0 ws 18446744073709551615 []
fresh shape ws is small = let first : slice_index ws 0 ≡ 18446744073709551615 = ap (λ (l : List ℕ). slice_index l 0) is in record { one = ap length is; small = small; number = omega arith; home = λ _. omega arith }
