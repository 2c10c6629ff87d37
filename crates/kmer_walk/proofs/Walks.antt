-- A walk on its way: the path so far, the letters that it gave, and the marks of its lines.
use Rattle.std.proofs.Common.{◌≡◌, ◌≢◌, ◌∙◌, ℕ, suc, ◌+◌, ◌-◌, ◌<◌, Bool, true, false, eqb, ◌||◌, List, [], ◌∷◌, ◌++◌, length, map, take, drop, get_or, Option, Some, None, arith, sym, ap, refl, append_assoc, length-append, length-take, length-take-le}
use Rattle.std.specs.List.{list_any}
use Rattle.std.proofs.lemmas.Bool.{cond_both}
use Rattle.std.proofs.lemmas.List.{take_more, take_all, append-nil, length-map, map-append}
use Rattle.std.proofs.lemmas.List.Quantifiers.{position-Some}
use Rattle.std.proofs.lemmas.Option.{none-some}
use Rattle.std.proofs.lemmas.Slice.Eq.{bytes_eq-Decides}
use Rattle.std.proofs.Math.Seq.{get_or-append_seam}
use Rattle.kmer_text.specs.Nodes.{line_at}
use Rattle.kmer_paths.specs.Keys.{has_key, first_place}
use Rattle.kmer_paths.specs.Walks.{forward, next_key, next_place, path, repeats_nothing, walk}
use Rattle.kmer_paths.specs.Contigs.{contig}
use Rattle.kmer_paths.proofs.Repeats.{any_push, repeats-push}
use Rattle.kmer_paths.proofs.Paths.{path-one, path-more, take-path, longest-most, stays, comes_back}
use Rattle.kmer_paths.proofs.Walks.{next-below}

-- a line behind another isn't empty
pub next-line : (k : ℕ) (ls : List (List ℕ)) (y z : ℕ) → next_place k ls y ≡ Some z → length (line_at ls z) ≢ 0
next-line k ls y z =
    let key = next_key k (line_at ls y) in
    cond_both (eqb (forward k (line_at ls y)) 70) None (first_place k ls key) (λ o. o ≡ Some z → length (line_at ls z) ≢ 0)
    (λ _ e. absurd (none-some z e))
    (λ _ e none.
    let at = position-Some (has_key k key) ls z [] e in
    let same : length (take k (line_at ls z)) ≡ length key = ap length ((bytes_eq-Decides (take k (line_at ls z)) key).0 at.1) in
    omega (arith, same, none, length-take k (line_at ls z), length-append (drop 1 (take k (line_at ls y))) (forward k (line_at ls y) ∷ [])))

module _ (k : ℕ) (ls : List (List ℕ)) (start : ℕ) where
  abbrev next : ℕ → Option ℕ
  next = next_place k ls

  abbrev letter_at : ℕ → ℕ
  letter_at place = forward k (line_at ls place)

  -- the walk came to `at` in so many steps, with these letters, and has marked these places
  pub record Walking (steps at : ℕ) (text : List ℕ) (marked : ℕ → Bool) : Type 0 where
    pub whole : length (path next (suc steps) start) ≡ suc steps
    pub last : get_or (path next (suc steps) start) steps 0 ≡ at
    pub once : repeats_nothing (path next (suc steps) start) ≡ true
    pub letters : text ≡ take k (line_at ls start) ++ map letter_at (take steps (path next (suc steps) start))
    pub marks : (q : ℕ) → marked q ≡ list_any (eqb q) (path next (suc steps) start)

  pub begins : (text : List ℕ) (marked : ℕ → Bool) → text ≡ take k (line_at ls start) → ((q : ℕ) → marked q ≡ eqb q start) → Walking 0 start text marked
  begins text marked is mark =
      let one = path-one next start in
      record {
        whole = ap length one;
        last = ap (λ xs. get_or xs 0 0) one;
        once = ap repeats_nothing one;
        letters = is ∙ sym (append-nil (take k (line_at ls start)));
        marks = λ q. mark q ∙ (or_false (eqb q start) ∙ sym (ap (list_any (eqb q)) one));
      }
    where
      or_false : (b : Bool) → b ≡ (b || false)
      or_false true = refl
      or_false false = refl

  module _ (steps at : ℕ) (text : List ℕ) (marked : ℕ → Bool) (so_far : Walking steps at text marked) where
    abbrev walked : List ℕ
    walked = path next (suc steps) start

    on : (y : ℕ) → next at ≡ Some y → next (get_or walked steps 0) ≡ Some y
    on y e = ap next so_far.last ∙ e

    pub longer : (y : ℕ) → next at ≡ Some y → path next (suc (suc steps)) start ≡ walked ++ y ∷ []
    longer y e = path-more next steps start y so_far.whole (on y e)

    new_once : (y : ℕ) → next at ≡ Some y → marked y ≡ false → repeats_nothing (path next (suc (suc steps)) start) ≡ true
    new_once y e new = ap repeats_nothing (longer y e) ∙ repeats-push walked y so_far.once (sym (so_far.marks y) ∙ new)

    split : take steps walked ++ at ∷ [] ≡ walked
    split =
        sym (ap (λ n. take steps walked ++ n ∷ []) so_far.last)
        ∙ (sym (take_more walked steps 0 (omega (arith, so_far.whole))) ∙ take_all (steps + 1) walked (omega (arith, so_far.whole)))

    pub goes_on : (y : ℕ) (more : ℕ → Bool) → next at ≡ Some y → marked y ≡ false → ((q : ℕ) → more q ≡ (eqb q y || marked q)) → Walking (suc steps) y (text ++ letter_at at ∷ []) more
    goes_on y more_marks e new mark =
        let more = longer y e in
        let front = take-path next (suc steps) (suc (suc steps)) start (omega arith) in
        record {
          whole = omega (arith, ap length more, length-append walked (y ∷ []), so_far.whole);
          last = ap (λ xs. get_or xs (suc steps) 0) more ∙ (ap (λ n. get_or (walked ++ y ∷ []) n 0) (sym so_far.whole) ∙ get_or-append_seam walked y [] 0);
          once = new_once y e new;
          letters = ap (λ xs. xs ++ letter_at at ∷ []) so_far.letters
              ∙ (append_assoc (take k (line_at ls start)) (map letter_at (take steps walked)) (letter_at at ∷ [])
              ∙ ap (λ xs. take k (line_at ls start) ++ xs) (sym (map-append letter_at (take steps walked) (at ∷ [])) ∙ ap (map letter_at) (split ∙ sym front)));
          marks = λ q. mark q ∙ (ap (λ b. eqb q y || b) (so_far.marks q) ∙ sym (ap (list_any (eqb q)) more ∙ any_push (eqb q) walked y));
        }

    long : length text ≡ length (take k (line_at ls start)) + steps
    long =
        omega (
          arith,
          ap length so_far.letters,
          length-append (take k (line_at ls start)) (map letter_at (take steps walked)),
          length-map (take steps walked) letter_at,
          length-take-le steps walked (omega (arith, so_far.whole)),
        )

    -- once the path is the whole walk, its letters are the contig
    pub whole_contig : walk k ls start ≡ walked → text ≡ contig k ls start
    whole_contig e =
        let few : length (walk k ls start) - 1 ≡ steps = omega (arith, ap length e, so_far.whole) in
        so_far.letters ∙ ap (λ xs. take k (line_at ls start) ++ map letter_at xs) (ap (take steps) (sym e) ∙ ap (λ n. take n (walk k ls start)) (sym few))

    module _ (h : start < length ls) where
      pub ended : next at ≡ None → walk k ls start ≡ walked
      ended none = stays next (length ls) (next-below k ls) steps start h so_far.whole so_far.once (ap next so_far.last ∙ none)

      pub came_back : (y : ℕ) → next at ≡ Some y → marked y ≡ true → walk k ls start ≡ walked
      came_back y e again = comes_back next (length ls) (next-below k ls) steps start h so_far.whole so_far.once y (on y e) (sym (so_far.marks y) ∙ again)

      pub too_long : (y : ℕ) → next at ≡ Some y → marked y ≡ false → length text < length (contig k ls start)
      too_long y e new =
          let w = walk k ls start in
          let n = length w - 1 in
          omega (
            arith,
            long,
            ap length (longer y e),
            length-append walked (y ∷ []),
            so_far.whole,
            longest-most next (length ls) (next-below k ls) (suc (suc steps)) start h (new_once y e new),
            length-append (take k (line_at ls start)) (map letter_at (take n w)),
            length-map (take n w) letter_at,
            length-take-le n w (omega arith),
          )
