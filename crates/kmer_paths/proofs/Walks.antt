-- A walk is the longest.
use Rattle.std.proofs.Common.{◌≡◌, ◌∙◌, ℕ, zero, suc, ◌<◌, ◌≤◌, eqb, List, [], length, get_or, Option, Some, None, arith, sym, ap, refl, subst, add-one}
use Rattle.std.specs.List.{slice_get}
use Rattle.std.proofs.lemmas.Bool.{cond_both}
use Rattle.std.proofs.lemmas.List.Quantifiers.{position-Some}
use Rattle.std.proofs.lemmas.Option.{none-some}
use Rattle.kmer_text.specs.Nodes.{line_at}
use Rattle.kmer_paths.specs.Keys.{has_key, first_place}
use Rattle.kmer_paths.specs.Walks.{forward, next_key, next_place, path, repeats_nothing, walk, GoesFrom}
use Rattle.kmer_paths.proofs.Paths.{longest-once, longest-own, longest-most, path-one, path-goes, only-path}

-- the next place is one of a line
pub next-below : (k : ℕ) (ls : List (List ℕ)) (y z : ℕ) → next_place k ls y ≡ Some z → z < length ls
next-below k ls y z =
    cond_both (eqb (forward k (line_at ls y)) 70) None (first_place k ls (next_key k (line_at ls y))) (λ o. o ≡ Some z → z < length ls)
    (λ _ e. absurd (none-some z e)) (λ _ e. (position-Some (has_key k (next_key k (line_at ls y))) ls z [] e).0)

module _ (k place : ℕ) (ls : List (List ℕ)) where
  abbrev next : ℕ → Option ℕ
  next = next_place k ls

  abbrev walked : List ℕ
  walked = walk k ls place

  one_long : place < length ls → 1 ≤ length walked
  one_long h =
      let one = path-one next place in
      omega (arith, ap length one, longest-most next (length ls) (next-below k ls) 1 place h (ap repeats_nothing one))

  begins_at : (n : ℕ) → 1 ≤ n → slice_get (path next n place) 0 ≡ Some place
  begins_at zero h = absurd (omega arith)
  begins_at (suc n) h = refl

  pub walk-goes : place < length ls → GoesFrom k ls place walked
  walk-goes h =
      let own = longest-own next (length ls) place in
      record {
        begins = ap (λ xs. slice_get xs 0) (sym own) ∙ begins_at (length walked) (one_long h);
        goes_on = λ i l.
            subst (λ j. next (get_or walked i 0) ≡ Some (get_or walked j 0)) (sym (add-one i))
            (subst (λ xs. suc i < length xs → next (get_or xs i 0) ≡ Some (get_or xs (suc i) 0)) own (path-goes next (length walked) place i) (omega (arith, l)));
        once = longest-once next (length ls) place;
      }

  pub walk-longest : (other : List ℕ) → place < length ls → GoesFrom k ls place other → length other ≤ length walked
  walk-longest other h goes =
      let own : path next (length other) place ≡ other =
      only-path next place other goes.begins (λ i l. subst (λ j. next (get_or other i 0) ≡ Some (get_or other j 0)) (add-one i) (goes.goes_on i (omega (arith, l)))) in
      omega (arith, ap length own, longest-most next (length ls) (next-below k ls) (length other) place h (ap repeats_nothing own ∙ goes.once))
