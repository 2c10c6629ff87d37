-- The windows of a line, one place after another.
use Rattle.std.proofs.Common.{◌≡◌, ◌∙◌, ℕ, suc, ◌+◌, ◌-◌, ◌*◌, ◌%◌, ◌^◌, ◌<◌, ◌≤◌, true, List, [], ◌∷◌, ◌++◌, length, map, take, drop, get_or, slice_range, arith, sym, ap, length-drop, length-take-le, append-nil}
use Rattle.std.specs.List.{All, slice_get, range_with_len}
use Rattle.std.proofs.Common.{Some}
use Rattle.std.proofs.lemmas.List.{drop_more, take_more, get_or-drop}
use Rattle.std.proofs.lemmas.List.Concat.{flat_map-append}
use Rattle.std.proofs.lemmas.List.Elements.{All-more}
use Rattle.std.proofs.lemmas.List.FromFn.{length-map-range_with_len}
use Rattle.std.proofs.lemmas.Option.{get_or_from_slice_get}
use Rattle.kmer_text.specs.Kmers.{digit_of, number_of}
use Rattle.kmer_text.specs.Letters.{are_letters}
use Rattle.kmer_text.specs.Windows.{windows, all_windows}
use Rattle.kmer_text.proofs.Ranges.{map_range}
use Rattle.kmer_text.proofs.Numbers.{number_of-push, number_of-rest}

pub length-windows : (k : ℕ) (line : List ℕ) → length (windows k line) ≡ length line + 1 - k
length-windows k line = length-map-range_with_len (λ place. slice_range line place (place + k)) 0 (length line + 1 - k)

-- a line that is too short has none
pub windows_none : (k : ℕ) (line : List ℕ) → length line < k → windows k line ≡ []
windows_none k line short =
    let none : length line + 1 - k ≡ 0 = omega arith in
    ap (λ n. map (λ place. slice_range line place (place + k)) (range_with_len 0 n)) none

-- the first window of a line, and those behind it
pub windows_first : (k x : ℕ) (line : List ℕ) → k ≤ length (x ∷ line) → windows k (x ∷ line) ≡ take k (x ∷ line) ∷ windows k line
windows_first k x line fits =
    let run = λ (place : ℕ). slice_range (x ∷ line) place (place + k) in
    let places : length (x ∷ line) + 1 - k ≡ suc (length line + 1 - k) = omega arith in
    let here : 0 + k - 0 ≡ k = omega arith in
    ap (λ n. map run (range_with_len 0 n)) places
    ∙ (ap (λ n. take n (x ∷ line) ∷ map run (range_with_len (0 + 1) (length line + 1 - k))) here
    ∙ ap (λ ws. take k (x ∷ line) ∷ ws) (map_range run (λ place. slice_range line place (place + k)) (0 + 1) 0 (length line + 1 - k) (λ i l.
    let place : 0 + 1 + i ≡ suc (0 + i) = omega arith in
    let wide : suc (0 + i) + k - suc (0 + i) ≡ 0 + i + k - (0 + i) = omega arith in
    ap run place ∙ ap (λ n. take n (drop (0 + i) line)) wide)))

-- the window at a place, and those behind it
pub windows_more : (k : ℕ) (line : List ℕ) (i : ℕ) → i < length line → i + k ≤ length line → windows k (drop i line) ≡ take k (drop i line) ∷ windows k (drop (i + 1) line)
windows_more k line i some h =
    let e : drop i line ≡ get_or line i 0 ∷ drop (i + 1) line = drop_more line i 0 some in
    rw e (windows_first k (get_or line i 0) (drop (i + 1) line) (omega (arith, length-drop (i + 1) line)))

-- ---- the number of a window, from that of the one before it
-- the last letter joins the letters before it
pub joined : (k from last : ℕ) (line : List ℕ) → from + k ≡ last + 1 → 1 ≤ k → last < length line
    → number_of (take k (drop from line)) ≡ number_of (slice_range line from last) * 4 + digit_of (get_or line last 0)
joined k from last line is some h =
    let before : last - from + 1 ≡ k = omega arith in
    let room : last - from < length (drop from line) = omega (arith, length-drop from line) in
    let here : from + (last - from) ≡ last = omega arith in
    ap (λ n. number_of (take n (drop from line))) (sym before)
    ∙ (ap number_of (take_more (drop from line) (last - from) 0 room)
    ∙ (number_of-push (slice_range line from last) (get_or (drop from line) (last - from) 0)
    ∙ ap (λ x. number_of (slice_range line from last) * 4 + digit_of x) (get_or-drop from line (last - from) 0 ∙ ap (λ i. get_or line i 0) here)))

-- the first letter goes
pub shifted : (k from last : ℕ) (line : List ℕ) → from + k ≡ last + 1 → 1 ≤ k → last < length line
    → number_of (take k (drop from line)) % 4 ^ (k - 1) ≡ number_of (slice_range line (from + 1) (last + 1))
shifted k from last line is some h =
    let first : drop from line ≡ get_or line from 0 ∷ drop (from + 1) line = drop_more line from 0 (omega arith) in
    let one_less : k ≡ suc (k - 1) = omega arith in
    let rest = take (k - 1) (drop (from + 1) line) in
    let wide : length rest ≡ k - 1 = length-take-le (k - 1) (drop (from + 1) line) (omega (arith, length-drop (from + 1) line)) in
    let places : k - 1 ≡ last + 1 - (from + 1) = omega arith in
    ap (λ n. number_of (take n (drop from line)) % 4 ^ (k - 1)) one_less
    ∙ (ap (λ xs. number_of (take (suc (k - 1)) xs) % 4 ^ (k - 1)) first
    ∙ (ap (λ n. number_of (get_or line from 0 ∷ rest) % 4 ^ n) (sym wide)
    ∙ (number_of-rest (get_or line from 0) rest
    ∙ ap (λ n. number_of (take n (drop (from + 1) line))) places)))

-- ---- the windows of several lines
pub all_windows_more : (k : ℕ) (ls : List (List ℕ)) (i : ℕ) (line : List ℕ) → i < length ls → slice_get ls i ≡ Some line
    → all_windows k (take (i + 1) ls) ≡ all_windows k (take i ls) ++ windows k line
all_windows_more k ls i line h at =
    let e : take (i + 1) ls ≡ take i ls ++ line ∷ [] = take_more ls i [] h ∙ ap (λ l. take i ls ++ l ∷ []) (get_or_from_slice_get ls i line [] at) in
    ap (all_windows k) e ∙ (flat_map-append (windows k) (take i ls) (line ∷ []) ∙ ap (λ ws. all_windows k (take i ls) ++ ws) (append-nil (windows k line)))

pub letters_more : (ls : List (List ℕ)) (i : ℕ) (line : List ℕ) → i < length ls → slice_get ls i ≡ Some line
    → All (λ l. are_letters l ≡ true) (take i ls) → are_letters line ≡ true → All (λ l. are_letters l ≡ true) (take (i + 1) ls)
letters_more ls i line h at so_far here =
    All-more (λ l. are_letters l ≡ true) ls i [] h so_far (ap are_letters (get_or_from_slice_get ls i line [] at) ∙ here)
