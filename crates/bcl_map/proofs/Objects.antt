-- The object that stands from a word on.
use Rattle.std.proofs.Common.{◌≡◌, ℕ, ◌+◌, ◌-◌, ◌<◌, ◌≤◌, List, length, take, drop, replicate, slice_index, sym, ap, ◌∙◌, subst, ⊎_elim, arith, length-append}
use Rattle.std.proofs.lemmas.List.{length-take-le, length-drop, length-replicate, get_or_append_left, get_or-append-add, get_or-take, get_or-drop, get_or-replicate}
use Rattle.std.proofs.lemmas.Grind.{same_number_lists}
use Rattle.std.proofs.lemmas.Bool.{cases_lt}
use Rattle.bcl_words.specs.Words.{IsWords}
use Rattle.bcl_map.specs.Map.{Words}
use Rattle.bcl_map.specs.Closed.{object}
use Rattle.bcl_words.proofs.Fitting.{past}

module _ (width : ℕ) (most : width ≤ 8) (ws : List ℕ) (from : ℕ) (long : from + width ≤ length ws) where
  abbrev own : List ℕ
  own = take width (drop from ws)

  own_length : length own ≡ width
  own_length = length-take-le width (drop from ws) (let e = length-drop from ws in omega arith)

  pub object_length : length (object width ws from) ≡ 8
  object_length = length-append own (replicate (8 - width) 0) ∙ (let e = own_length in let zeros : List ℕ = replicate (8 - width) 0 in let z : length zeros ≡ 8 - width = length-replicate (8 - width) 0 in omega arith)

  pub own_word : (b : ℕ) → b < width → slice_index (object width ws from) b ≡ slice_index ws (from + b)
  own_word b low = get_or_append_left own (replicate (8 - width) 0) 0 b (subst (λ (n : ℕ). b < n) (sym own_length) low) ∙ (get_or-take width (drop from ws) b 0 low ∙ get_or-drop from ws b 0)

  pub later_word : (b : ℕ) → width ≤ b → b < 8 → slice_index (object width ws from) b ≡ 0
  later_word b late low =
      let at : b ≡ length own + (b - width) = (let e = own_length in omega arith) in
      ap (slice_index (object width ws from)) at ∙ (get_or-append-add own (replicate (8 - width) 0) (b - width) 0 ∙ get_or-replicate (8 - width) (b - width) 0 0 (omega arith))

  -- any eight words that agree with it
  same_as : (x : List ℕ) → length x ≡ 8 → ((b : ℕ) → b < width → slice_index ws (from + b) ≡ slice_index x b) → ((b : ℕ) → width ≤ b → b < 8 → slice_index x b ≡ 0) → object width ws from ≡ x
  same_as x len words zeros = same_number_lists (object width ws from) x (object_length ∙ sym len) (λ b below. let short : b < 8 = subst (λ (n : ℕ). b < n) object_length below in ⊎_elim
      (λ (low : b < width). own_word b low ∙ words b low)
      (λ (late : width ≤ b). later_word b late short ∙ sym (zeros b late short)) (cases_lt b width))

  pub object_is : (x : Words) → IsWords width x → ((b : ℕ) → b < width → slice_index ws (from + b) ≡ slice_index x b) → object width ws from ≡ x
  object_is x is words = same_as x is.len words (λ b late low. past width x is b late low)

  -- what was read, word by word
  pub object_read : (got : List ℕ) → length got ≡ 8 → ((b : ℕ) → b < width → slice_index got b ≡ slice_index ws (from + b)) → ((b : ℕ) → width ≤ b → slice_index got b ≡ 0) → got ≡ object width ws from
  object_read got len words zeros = sym (same_as got len (λ b low. sym (words b low)) (λ b late _. zeros b late))
