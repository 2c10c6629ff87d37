-- The first line of a text, and the lines after it.
use Rattle.std.proofs.Common.{◌≡◌, ◌∙◌, ℕ, ◌+◌, ◌-◌, ◌<◌, ◌≤◌, Bool, List, [], ◌∷◌, ◌++◌, length, take, drop, map, not, None, arith, sym, ap, refl, ⊎_elim, length-drop, append_assoc}
use Rattle.std.specs.List.{slice_split, slice_range, position, position_or_len, before_first, after_first}
use Rattle.std.specs.Str.Lines.{strip_carriage_return}
use Rattle.std.proofs.lemmas.Bool.{cases_lt, ne_eqb, cond-true, cond-false, lt-ltb}
use Rattle.std.proofs.lemmas.List.{take_all, drop_all, drop-drop, map_push}
use Rattle.std.proofs.lemmas.Option.{none-some}
use Rattle.std.proofs.lemmas.List.Splits.{slice_split_first, slice_split_none, length-slice_split}
use Rattle.std.proofs.lemmas.List.Sums.{fails_before_first, prefix_len-le-length}
use Rattle.kmer_text.specs.Lines.{lines, is_newline, drop_empty_last}

dropped_none : (part : List ℕ) (parts : List (List ℕ)) → 0 < length parts → drop_empty_last (part ∷ parts) ≡ part ∷ drop_empty_last parts
dropped_none part [] h = absurd (omega arith)
dropped_none part (next ∷ parts) h = refl

dropped_last : (part : List ℕ) → 0 < length part → drop_empty_last (part ∷ []) ≡ part ∷ []
dropped_last part h = cond-false _ _ _ (ne_eqb (length part) 0 (λ e. omega arith))

-- a text with bytes has a first line, which ends before the first newline
pub lines_more : (text : List ℕ) → 0 < length text →
    lines text ≡ strip_carriage_return (take (position_or_len is_newline text) text) ∷ lines (drop (position_or_len is_newline text + 1) text)
lines_more text some = ⊎_elim cut last (cases_lt (position_or_len is_newline text) (length text))
  where
    cut : position_or_len is_newline text < length text → lines text ≡ strip_carriage_return (take (position_or_len is_newline text) text) ∷ lines (drop (position_or_len is_newline text + 1) text)
    cut h =
        ap (λ ps. map strip_carriage_return (drop_empty_last ps)) (slice_split_first is_newline text 0 h)
        ∙ ap (map strip_carriage_return) (dropped_none (before_first is_newline text) (slice_split is_newline (after_first is_newline text)) (omega (arith, length-slice_split is_newline (after_first is_newline text))))

    last : length text ≤ position_or_len is_newline text → lines text ≡ strip_carriage_return (take (position_or_len is_newline text) text) ∷ lines (drop (position_or_len is_newline text + 1) text)
    last h =
        ap (λ ps. map strip_carriage_return (drop_empty_last ps)) (slice_split_none is_newline text (λ k d l. fails_before_first is_newline text k d (omega arith)))
        ∙ (ap (map strip_carriage_return) (dropped_last text some)
        ∙ (ap (λ x. strip_carriage_return x ∷ []) (sym (take_all _ text h)) ∙ ap (λ x. strip_carriage_return (take (position_or_len is_newline text) text) ∷ lines x) (sym (drop_all _ text (omega arith)))))

-- where nothing passes, the first place is the end
pub position_or_len-None : (p : ℕ → Bool) (xs : List ℕ) → position p xs ≡ None → position_or_len p xs ≡ length xs
position_or_len-None p xs none =
    ⊎_elim
    (λ (l : position_or_len p xs < length xs). absurd (none-some _ (sym none ∙ cond-true _ _ _ (lt-ltb (position_or_len p xs) (length xs) l))))
    (λ (h : length xs ≤ position_or_len p xs). omega (arith, prefix_len-le-length (λ x. not (p x)) xs))
    (cases_lt (position_or_len p xs) (length xs))

-- one more line is cut off
pub cut_more : {S : Type 0} (view : S → List ℕ) (spans new : List S) (s : S) (text : List ℕ) (start stop : ℕ)
    → map view spans ++ lines (drop start text) ≡ lines text → start < length text → stop ≡ start + position_or_len is_newline (drop start text)
    → view s ≡ strip_carriage_return (slice_range text start stop) → new ≡ spans ++ s ∷ []
    → map view new ++ lines (drop (stop + 1) text) ≡ lines text
cut_more view spans new s text start stop so_far some place seen more =
    let rest = drop start text in
    let n = position_or_len is_newline rest in
    let first : lines rest ≡ strip_carriage_return (take n rest) ∷ lines (drop (n + 1) rest) = lines_more rest (omega (arith, length-drop start text)) in
    let width : stop - start ≡ n = omega arith in
    let line : view s ≡ strip_carriage_return (take n rest) = seen ∙ ap (λ m. strip_carriage_return (take m rest)) width in
    let next : drop (stop + 1) text ≡ drop (n + 1) rest = ap (λ m. drop m text) (omega arith) ∙ sym (drop-drop (n + 1) start text) in
    ap (λ ss. map view ss ++ lines (drop (stop + 1) text)) more
    ∙ (ap (λ ls. ls ++ lines (drop (stop + 1) text)) (map_push view spans s)
    ∙ (append_assoc (map view spans) (view s ∷ []) (lines (drop (stop + 1) text))
    ∙ (ap (λ ls. map view spans ++ ls) (ap (λ l. l ∷ lines (drop (stop + 1) text)) line ∙ (ap (λ t. strip_carriage_return (take n rest) ∷ lines t) next ∙ sym first))
    ∙ so_far)))

-- where a text has bytes left, the rest behind the next line has one line less
pub one_less : (text : List ℕ) (start stop : ℕ) → start < length text → stop ≡ start + position_or_len is_newline (drop start text)
    → length (lines (drop start text)) ≡ length (lines (drop (stop + 1) text)) + 1
one_less text start stop some place =
    let rest = drop start text in
    let n = position_or_len is_newline rest in
    let next : drop (n + 1) rest ≡ drop (stop + 1) text = drop-drop (n + 1) start text ∙ ap (λ m. drop m text) (omega arith) in
    omega (arith, ap length (lines_more rest (omega (arith, length-drop start text))), ap (λ t. length (lines t)) next)
