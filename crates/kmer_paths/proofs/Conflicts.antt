-- Whether a line conflicts with the first line of its key.
use Rattle.std.proofs.Common.{◌≡◌, ◌≢◌, ◌∙◌, ℕ, eqb, not, false, List, length, take, Option, ap}
use Rattle.std.specs.Option.{option_map_or}
use Rattle.std.proofs.lemmas.Bool.{cond-true, cond-false, eq-eqb, ne_eqb}
use Rattle.kmer_text.specs.Nodes.{line_at}
use Rattle.kmer_paths.specs.Keys.{first_place, agree, conflicts}

pub conflicts-empty : (k : ℕ) (ls : List (List ℕ)) (line : List ℕ) → length line ≡ 0 → conflicts k ls line ≡ false
conflicts-empty k ls line none =
    cond-true (eqb (length line) 0) false (option_map_or (λ place. not (agree k line (line_at ls place))) (first_place k ls (take k line)) false) (eq-eqb (length line) 0 none)

pub conflicts-is : (k : ℕ) (ls : List (List ℕ)) (line : List ℕ) (first : Option ℕ) → length line ≢ 0 → first_place k ls (take k line) ≡ first
    → conflicts k ls line ≡ option_map_or (λ place. not (agree k line (line_at ls place))) first false
conflicts-is k ls line first some found =
    cond-false (eqb (length line) 0) false (option_map_or (λ place. not (agree k line (line_at ls place))) (first_place k ls (take k line)) false) (ne_eqb (length line) 0 some)
    ∙ ap (λ o. option_map_or (λ place. not (agree k line (line_at ls place))) o false) found
