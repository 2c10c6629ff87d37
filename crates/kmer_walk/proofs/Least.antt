-- Lists of words that begin with their places: of several the least one has the least place.
use Rattle.std.proofs.Common.{◌≡◌, ℕ, ◌+◌, ◌<◌, ◌≤◌, List, [], ◌∷◌, Bool, true, false, cond, ltb, eqb, get_or, length, map, refl, sym, ap, ◌∙◌, subst, arith, Option, Some, None, ⊎_elim, lt-ltb, le-ltb, ltb-true, ltb-false}
use Rattle.std.specs.Prelude.{All, Contains, fold, position}
use Rattle.std.specs.Ordering.{nat_cmp, is_gt, ordering_then}
use Rattle.std.specs.declared.cmp.Ordering.{Ordering}
use Rattle.std.specs.declared.cmp.Ordering.TheVariants.{Less, Equal, Greater}
use Rattle.std.specs.Cmp.Lexicographic.{slice_cmp}
use Rattle.std.specs.Option.{option_map}
use Rattle.std.specs.List.{position_or_len}
use Rattle.std.proofs.lemmas.Bool.{cond-true, cond-false, cond_both, cases_order, false_from_ne_true, ne_eqb}
use Rattle.std.proofs.lemmas.List.Elements.{All-nil, All-cons, All-head, All-tail, All-contains}
use Rattle.std.proofs.lemmas.List.Sums.{position_or_len_is}
use Rattle.bcl_merge.specs.LeastWords.{comes_after, least_of}
use Rattle.bcl_event.specs.Merged.{folded}

-- ---- the least of some places
abbrev pub lesser : ℕ → ℕ → ℕ
lesser p q = cond (ltb q p) q p

abbrev pub least : List ℕ → Option ℕ
least [] = None
least (p ∷ ps) = Some (fold lesser p ps)

lesser-under : (p q : ℕ) → (lesser p q ≤ p) × (lesser p q ≤ q)
lesser-under p q = cond_both (ltb q p) q p (λ n. (n ≤ p) × (n ≤ q)) (λ e. (omega (arith, ltb-true q p e), omega arith)) (λ e. (omega arith, omega (arith, ltb-false q p e)))

-- it is at most each of them
least-under : (p : ℕ) (ps : List ℕ) → All (λ q. fold lesser p ps ≤ q) (p ∷ ps)
least-under p [] = All-cons (λ q. p ≤ q) p [] (omega arith) (All-nil (λ q. p ≤ q))
least-under p (x ∷ ps) =
    let m : ℕ = fold lesser (lesser p x) ps in
    let rest = least-under (lesser p x) ps in
    let here : m ≤ lesser p x = All-head (λ q. m ≤ q) (lesser p x) ps rest in
    let under = lesser-under p x in
    All-cons (λ q. m ≤ q) p (x ∷ ps) (omega (arith, here, under.0)) (All-cons (λ q. m ≤ q) x ps (omega (arith, here, under.1)) (All-tail (λ q. m ≤ q) (lesser p x) ps rest))

-- and one of them
least-is_one : (P : ℕ → Type 0) (p : ℕ) (ps : List ℕ) → P p → All P ps → P (fold lesser p ps)
least-is_one P p [] here all = here
least-is_one P p (x ∷ ps) here all =
    least-is_one P (lesser p x) ps (cond_both (ltb x p) x p P (λ _. All-head P x ps all) (λ _. here)) (All-tail P x ps all)

-- among places that pass, and all that do, it is the first
pub least-position : {X : Type 0} (test : X → Bool) (xs : List X) (d : X) (ps : List ℕ) → All (λ p. (p < length xs) × (test (get_or xs p d) ≡ true)) ps
    → ((p : ℕ) → p < length xs → test (get_or xs p d) ≡ true → Contains ps p) → least ps ≡ position test xs
least-position test xs d [] each all =
    let n : ℕ = position_or_len test xs in
    let end : n ≡ length xs = position_or_len_is test xs (length xs) d (omega arith)
    (λ i low. false_from_ne_true (test (get_or xs i d)) (λ passes. let it = all i low passes in absurd (omega (arith, it.1))))
    (λ low. absurd (omega arith)) in
    sym (cond-false (ltb n (length xs)) (Some n) None (le-ltb n (length xs) (omega (arith, end))))
least-position test xs d (p ∷ ps) each all =
    let Passes : ℕ → Type 0 = λ q. (q < length xs) × (test (get_or xs q d) ≡ true) in
    let n : ℕ = position_or_len test xs in
    let m : ℕ = fold lesser p ps in
    let it : Passes m = least-is_one Passes p ps (All-head Passes p ps each) (All-tail Passes p ps each) in
    let first : n ≡ m = position_or_len_is test xs m d (omega (arith, it.0))
    (λ i low. false_from_ne_true (test (get_or xs i d)) (λ passes.
    let under : m ≤ i = All-contains (λ q. m ≤ q) (p ∷ ps) i (least-under p ps) (all i (omega (arith, it.0, low)) passes) in
    omega (arith, under, low)))
    (λ low. it.1) in
    ap (λ (q : ℕ). Some q) (sym first) ∙ sym (cond-true (ltb n (length xs)) (Some n) None (lt-ltb n (length xs) (omega (arith, first, it.0))))

-- ---- the least of such words
module _ (rest : ℕ → List ℕ) where
  abbrev pub words : ℕ → List ℕ
  words p = (p + 1) ∷ rest p

  -- the first words decide
  least_of-words : (p q : ℕ) → least_of (words p) (words q) ≡ words (lesser p q)
  least_of-words p q = ⊎_elim same (⊎_elim before behind) (cases_order p q)
    where
      chosen : Ordering → List ℕ
      chosen o = cond (is_gt (ordering_then o (slice_cmp nat_cmp (rest p) (rest q)))) (words q) (words p)

      either : (b : Bool) → cond b (words p) (words p) ≡ words p
      either true = refl
      either false = refl

      same : p ≡ q → least_of (words p) (words q) ≡ words (lesser p q)
      same e =
          subst (λ (n : ℕ). least_of (words p) (words n) ≡ words (lesser p n)) e
          (either (comes_after (words p) (words p)) ∙ ap words (sym (cond-false (ltb p p) p p (le-ltb p p (omega arith)))))

      before : p < q → least_of (words p) (words q) ≡ words (lesser p q)
      before low =
          ap chosen (cond-true (ltb (p + 1) (q + 1)) Less (cond (eqb (p + 1) (q + 1)) Equal Greater) (lt-ltb (p + 1) (q + 1) (omega arith)))
          ∙ ap words (sym (cond-false (ltb q p) q p (le-ltb q p (omega arith))))

      behind : q < p → least_of (words p) (words q) ≡ words (lesser p q)
      behind low =
          ap chosen
          (cond-false (ltb (p + 1) (q + 1)) Less (cond (eqb (p + 1) (q + 1)) Equal Greater) (le-ltb (p + 1) (q + 1) (omega arith))
          ∙ cond-false (eqb (p + 1) (q + 1)) Equal Greater (ne_eqb (p + 1) (q + 1) (λ e. omega (arith, e))))
          ∙ ap words (sym (cond-true (ltb q p) q p (lt-ltb q p low)))

  fold-words : (p : ℕ) (ps : List ℕ) → fold least_of (words p) (map words ps) ≡ words (fold lesser p ps)
  fold-words p [] = refl
  fold-words p (q ∷ ps) = ap (λ (v : List ℕ). fold least_of v (map words ps)) (least_of-words p q) ∙ fold-words (lesser p q) ps

  pub folded-words : (ps : List ℕ) → folded least_of None (map words ps) ≡ option_map words (least ps)
  folded-words [] = refl
  folded-words (p ∷ ps) = ap (λ (v : List ℕ). Some v) (fold-words p ps)
