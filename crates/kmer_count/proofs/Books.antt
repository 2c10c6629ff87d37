-- The book of a count, from what the home knows at the end of the phase, and what the map has in the end.
use Rattle.std.proofs.Common.{◌≡◌, ℕ, zero, suc, ◌+◌, ◌^◌, ◌%◌, ◌<◌, List, [], ◌∷◌, Bool, true, false, cond, length, map, replicate, refl, sym, ap, ◌∙◌, subst, arith, Some, None}
use Rattle.std.specs.Prelude.{All, fold}
use Rattle.std.specs.List.Sorted.{IsPermutation}
use Rattle.std.specs.Option.{option_map}
use Rattle.std.specs.Str.{bytes_eq}
use Rattle.std.proofs.lemmas.List.{length-map}
use Rattle.std.proofs.lemmas.List.Elements.{All-nil, All-cons, All-head, All-tail, All-weaker, All-append}
use Rattle.bcl_words.specs.Numbers.{one_word}
use Rattle.bcl_merge.specs.Sum.{sum_of}
use Rattle.bcl_event.specs.declared.event.Event.{Event}
use Rattle.bcl_event.specs.declared.map.MapCall.{MapCall}
use Rattle.bcl_event.specs.declared.map.MapReply.{MapReply}
use Rattle.bcl_event.specs.History.{of, state_after}
use Rattle.bcl_event.specs.Map.{value_at, map_step}
use Rattle.bcl_event.specs.Merged.{MapHistory, Merges, merged_by, merged_for, folded}
use Rattle.bcl_event.proofs.Folds.{values_are_folds}
use Rattle.bcl_phase.specs.Phases.{Ended}
use Rattle.bcl_map.specs.declared.shape.Shape.{Shape}
use Rattle.bcl_map.specs.Map.{Words, places, owning, home, ranks as ranks_of, first_pairs, next, permits}
use Rattle.bcl_buffer.proofs.Dealt.{call_of, those_at}
use Rattle.bcl_buffer.proofs.Homes.{merged_at_home}
use Rattle.kmer_text.specs.Kmers.{number_of}
use Rattle.kmer_text.specs.Windows.{all_windows, total}
use Rattle.kmer_rows.specs.Counts.{times, noted}
use Rattle.kmer_count.specs.Book.{shape_of, one_more, IsAtHome, CountBook}
use Rattle.kmer_count.proofs.Times.{times-le-length}
use Rattle.kmer_count.proofs.Merges.{each_is}

abbrev Made : Type 0
Made = Event (MapCall Words Words) (MapReply Words)

-- ---- ones that are summed up

sums : (a n : ℕ) → a < 2 ^ 64 → fold sum_of (one_word a) (replicate n (one_word 1)) ≡ one_word ((a + n) % 2 ^ 64)
sums a zero low = ap one_word (omega arith)
sums a (suc n) low = sums ((a + 1) % 2 ^ 64) n (omega arith) ∙ ap one_word (omega arith)

ones_are : (n : ℕ) → n < 2 ^ 64 → folded sum_of None (replicate n (one_word 1)) ≡ option_map one_word (noted n)
ones_are zero low = refl
ones_are (suc n) low = ap (λ (v : Words). Some v) (sums 1 n (omega arith) ∙ ap one_word (omega arith))

-- ---- ones that are merged for a key

abbrev IsOne : Words → Type 0
IsOne value = value ≡ one_word 1

abbrev IsOneMore : Made → Type 0
IsOneMore e = (q : ℕ) × (e.call ≡ one_more q)

as_many : (values : List Words) → All IsOne values → values ≡ replicate (length values) (one_word 1)
as_many [] all = refl
as_many (v ∷ vs) all = λ i. All-head IsOne v vs all i ∷ as_many vs (All-tail IsOne v vs all) i

merged_are_ones : (key : Words) (history : MapHistory) → All IsOneMore history → All IsOne (merged_for key history)
merged_are_ones key [] all = All-nil IsOne
merged_are_ones key (e ∷ history) all =
    let it = All-head IsOneMore e history all in
    All-append IsOne (merged_by key e.call) (merged_for key history) (subst (λ c. All IsOne (merged_by key c)) (sym it.1) (one (bytes_eq key (one_word it.0)))) (merged_are_ones key history (All-tail IsOneMore e history all))
  where
    one : (b : Bool) → All IsOne (cond b (one_word 1 ∷ []) [])
    one true = All-cons IsOne (one_word 1) [] refl (All-nil IsOne)
    one false = All-nil IsOne

module _ (k ranks : ℕ) (lines : List (List ℕ)) where
  abbrev shape : Shape
  shape = shape_of ranks (total k lines)

  abbrev numbers : List ℕ
  numbers = map number_of (all_windows k lines)

  abbrev pub home_of : ℕ → ℕ
  home_of q = home shape (one_word q)

  -- what the home of the end knows of a phase that began with an empty map, in which each rank has merged the numbers whose home it is
  pub book_of_phase : (some : 0 < ranks) (history : MapHistory) → Ended ranks_of first_pairs (next sum_of) permits shape owning [] history
      → ((r : ℕ) → r < ranks → IsPermutation (map one_more (those_at home_of r numbers)) (map call_of (of r history))) → CountBook k ranks lines history
  book_of_phase some history ended own =
      let long = length-map (all_windows k lines) number_of in
      let merged = merged_at_home one_word (λ (q : ℕ). one_word 1) sum_of 1 ranks (total k lines) some numbers (omega arith) history ended own in
      record { legal = merged.legal; ranked = merged.ranked; none_full = merged.none_full; at_home = merged.at_home; each = each_is numbers history merged.each }

  -- ---- what the map has in the end

  module _ (few : total k lines < 2 ^ 64) (history : MapHistory) (book : CountBook k ranks lines history) where
    ones_at_home : All IsOneMore history
    ones_at_home = All-weaker (IsAtHome shape) IsOneMore (λ e it. (it.0, it.1)) history book.at_home

    -- each number has how often it is among those of the windows
    pub counts_are : (q : ℕ) → value_at (one_word q) (state_after (map_step (places shape) sum_of) [] history) ≡ option_map one_word (noted (times q numbers))
    counts_are q =
        values_are_folds sum_of (places shape) (one_word q) [] history (record {
          legal = book.legal;
          merges = All-weaker IsOneMore (λ e. Merges e.call) (λ e it. subst Merges (sym it.1) tt) history ones_at_home;
          none_full = book.none_full;
        })
        ∙ (ap (folded sum_of None) (as_many (merged_for (one_word q) history) (merged_are_ones (one_word q) history ones_at_home) ∙ ap (λ (n : ℕ). replicate n (one_word 1)) (book.each q))
        ∙ ones_are (times q numbers) (let most = times-le-length q (all_windows k lines) in omega arith))
