-- What the walkers of all ranks come to.
use Rattle.std.proofs.Common.{◌≡◌, ◌∙◌, ℕ, zero, suc, ◌+◌, ◌-◌, ◌<◌, ◌≤◌, ◌^◌, List, [], length, map, true, sym, ap, subst, arith}
use Rattle.std.specs.Prelude.{IsOk, OnOk, IsErrOf}
use Rattle.std.specs.List.{All, AllZip, flat_map, range_with_len}
use Rattle.std.proofs.lemmas.List.{length-map}
use Rattle.std.proofs.lemmas.List.Elements.{All-nil, All-cons, All-filter, filter_passes}
use mathlib.Core.Option.{some, some-injective}
use lib.ListN.{get_elem?}
use Rattle.bcl_phase.specs.Parts.{lead_view}
use Rattle.bcl_phase.proofs.Zips.{zip_long, all_at}
use Rattle.bcl_map.specs.Parts.{lead_key, pass_view, IsOf}
use Rattle.bcl_buffer.proofs.Flushed.{from_map}
use Rattle.bcl_buffer.proofs.Shares.{within}
use Rattle.kmer_blocks.specs.Blocks.{begins_at}
use Rattle.kmer_blocks.proofs.Blocks.{block_within}
use Rattle.kmer_paths.specs.Contigs.{is_start, starts, contig, text_of}
use Rattle.kmer_paths.specs.declared.fault.WalkFault.TheVariants as faults
use Rattle.kmer_paths.proofs.Bytes.{bytes-append}
use Rattle.kmer_walk.specs.declared.walker.Walker.{Walker}
use Rattle.kmer_walk.specs.declared.nodes.Nodes.{Nodes}
use Rattle.kmer_walk.specs.Nodes.{starts_of}
use Rattle.kmer_walk.specs.Finds.{Asks}
use Rattle.kmer_walk.specs.Texts.{AreTexts, MakesWalks}
use Rattle.kmer_walk.specs.Faults.{FirstFault}
use Rattle.kmer_walk.proofs.Kits.{all_there, at_map, behind_front, each}
use Rattle.kmer_walk.proofs.Checks.{ok_of, error_of}
use Rattle.kmer_walk.proofs.Flat.{contigs_of, whole_contigs}

-- ---- the starts of a rank's block

range_below : (first n most : ℕ) → first + n ≤ most → All (λ (place : ℕ). place < most) (range_with_len first n)
range_below first zero most low = All-nil (λ (place : ℕ). place < most)
range_below first (suc n) most low = All-cons (λ (place : ℕ). place < most) first (range_with_len (first + 1) n) (omega arith) (range_below (first + 1) n most (omega arith))

-- they are starts among the lines
pub block_starts : (k rank ranks : ℕ) (lines : List (List ℕ)) → rank < ranks → All (λ start. (start < length lines) × (is_start k lines start ≡ true)) (starts_of k rank ranks lines)
block_starts k rank ranks lines low i d inside =
    let first = begins_at rank ranks lines in
    let end = begins_at (rank + 1) ranks lines in
    let is = block_within rank ranks lines low in
    let up = is.0 in
    let most = is.1 in (
      All-filter (is_start k lines) (λ (place : ℕ). place < length lines) (range_with_len first (end - first)) (range_below first (end - first) (length lines) (omega arith)) i d inside,
      filter_passes (is_start k lines) (range_with_len first (end - first)) i d inside,
    )

-- what one has is no longer than what all have
one_below : (has : ℕ → List (List ℕ)) (first n r : ℕ) → r < n → length (text_of (has (first + r))) ≤ length (text_of (flat_map (λ own. own) (map has (range_with_len first n))))
one_below has first zero r low = absurd (omega arith)
one_below has first (suc n) zero low =
    let sum = bytes-append (has first) (flat_map (λ own. own) (map has (range_with_len (first + 1) n))) in
    let same : length (text_of (has (first + 0))) ≡ length (text_of (has first)) = ap (λ (m : ℕ). length (text_of (has m))) (omega arith) in
    omega arith
one_below has first (suc n) (suc r) low =
    let sum = bytes-append (has first) (flat_map (λ own. own) (map has (range_with_len (first + 1) n))) in
    let same : length (text_of (has (first + suc r))) ≡ length (text_of (has (first + 1 + r))) = ap (λ (m : ℕ). length (text_of (has m))) (omega arith) in
    let rest = one_below has (first + 1) n r (omega arith) in
    omega arith

-- their contigs are no longer than those of all starts
pub block_below : (k rank ranks : ℕ) (lines : List (List ℕ)) → rank < ranks → length (text_of (map (contig k lines) (starts_of k rank ranks lines))) ≤ length (text_of (map (contig k lines) (starts k lines)))
block_below k rank ranks lines low =
    let some : 0 < ranks = omega arith in
    let same : length (text_of (contigs_of k lines ranks some (0 + rank))) ≡ length (text_of (contigs_of k lines ranks some rank)) = ap (λ (m : ℕ). length (text_of (contigs_of k lines ranks some m))) (omega arith) in
    let one = one_below (contigs_of k lines ranks some) 0 ranks rank low in
    let all = ap (λ (texts : List (List ℕ)). length (text_of texts)) (whole_contigs k lines ranks some) in
    omega arith

-- ---- the walkers

abbrev pub Env : Type 0
Env = Nodes × List ℕ

abbrev pub env : Walker → Env
env w = (w.nodes.now, w.starts.items)

abbrev pub Step : Env → Walker → Walker → Type 0
Step z w v =
    OnOk v.walked (AreTexts (map (contig z.0.k z.0.lines.now) z.1) v.texts.bytes.items v.texts.ends.items)
    × (IsErrOf v.walked faults.TooLong → 2 ^ 26 < length (text_of (map (contig z.0.k z.0.lines.now) z.1)))
    × ((n : ℕ) → IsErrOf v.walked (faults.Conflict n) → ⊥)
    × OnOk v.walked (MakesWalks z.0.k z.0.lines.now (lead_key z.0.lead.now) z.1 (pass_view w.pass) (pass_view v.pass))
    × OnOk v.walked (IsOf v.pass z.0.lead.now)

abbrev pub IsMade : Nodes → Walker → Type 0
IsMade nodes w = (w.nodes.now ≡ nodes) × (w.texts.bytes.items ≡ []) × (w.texts.ends.items ≡ [])

abbrev AreStarts : Env → Type 0
AreStarts z = All (λ start. (start < length z.0.lines.now) × (is_start z.0.k z.0.lines.now start ≡ true)) z.1

abbrev pub IsReady : Walker → Type 0
IsReady w = IsOf w.pass w.nodes.now.lead.now × Asks (lead_view w.nodes.now.lead.now.lead).start (pass_view w.pass)
    × All (λ start. (start < length w.nodes.now.lines.now) × (is_start w.nodes.now.k w.nodes.now.lines.now start ≡ true)) w.starts.items
    × (w.texts.bytes.items ≡ []) × (w.texts.ends.items ≡ [])

module _ (nodes : Nodes) (ranks : ℕ) (passes : List _) (own : List _) (kits : List Walker) (passes_are : map (λ (w : Walker). w.pass) kits ≡ passes) (own_are : map (λ (w : Walker). w.starts) kits ≡ own)
    (made : All (IsMade nodes) kits) (count : length passes ≡ ranks) (starts_are : (i : ℕ) (s : _) → get_elem? own i ≡ some s → s.items ≡ starts_of nodes.k i ranks nodes.lines.now) where
  abbrev given : ℕ → Env
  given i = (nodes, starts_of nodes.k i ranks nodes.lines.now)

  as_given : (i : ℕ) (w : Walker) → get_elem? kits i ≡ some w → env w ≡ given i
  as_given i w at =
      let is = all_there (IsMade nodes) kits i w made at in
      let from = starts_are i w.starts (subst (λ l. get_elem? l i ≡ some w.starts) own_are (at_map (λ (w : Walker). w.starts) kits i w at)) in
      λ j. (is.0 j, from j)

  pub ready : (asks : (i : ℕ) (p : _) → get_elem? passes i ≡ some p → Asks (lead_view nodes.lead.now.lead).start (pass_view p)) → ((i : ℕ) (p : _) → get_elem? passes i ≡ some p → IsOf p nodes.lead.now) → All IsReady kits
  ready asks of = all_at IsReady kits (λ i w at.
      let is = all_there (IsMade nodes) kits i w made at in
      let p = subst (λ l. get_elem? l i ≡ some w.pass) passes_are (at_map (λ (w : Walker). w.pass) kits i w at) in
      let low : i < ranks = subst (λ (m : ℕ). i < m) count (within passes i w.pass p) in (
        subst (λ (n : Nodes). IsOf w.pass n.lead.now) (sym is.0) (of i w.pass p),
        subst (λ (n : Nodes). Asks (lead_view n.lead.now.lead).start (pass_view w.pass)) (sym is.0) (asks i w.pass p),
        subst AreStarts (sym (as_given i w at)) (block_starts nodes.k i ranks nodes.lines.now low),
        is.1,
        is.2,
      ))

  module _ (after : List Walker) (steps : AllZip (λ w v. Step (env w) w v) kits after) where
    long : length after ≡ ranks
    long = zip_long (λ w v. Step (env w) w v) kits after steps ∙ (sym (length-map kits (λ (w : Walker). w.pass)) ∙ (ap length passes_are ∙ count))

    step_at : (i : ℕ) (v : Walker) → get_elem? after i ≡ some v → (w : Walker) × (get_elem? passes i ≡ some w.pass) × (get_elem? kits i ≡ some w) × Step (given i) w v
    step_at i v at = each (λ (w : Walker). w.pass) env Step given passes kits after passes_are as_given steps i v at

    pub no_conflict : (n : ℕ) → FirstFault (λ (w : Walker). w.walked) (faults.Conflict n) after → ⊥
    no_conflict n f =
        let at = subst (λ (l : List Walker). get_elem? l (length f.before) ≡ some f.here) (sym f.all) (behind_front f.before f.behind f.here) in
        let it = step_at (length f.before) f.here at in
        it.3.2 n (error_of f.here.walked (faults.Conflict n) f.met)

    -- the contigs of all are no shorter than those of the one whose contigs are too long
    pub too_long : FirstFault (λ (w : Walker). w.walked) faults.TooLong after → 2 ^ 26 < length (text_of (map (contig nodes.k nodes.lines.now) (starts nodes.k nodes.lines.now)))
    too_long f =
        let at = subst (λ (l : List Walker). get_elem? l (length f.before) ≡ some f.here) (sym f.all) (behind_front f.before f.behind f.here) in
        let it = step_at (length f.before) f.here at in
        let low : length f.before < ranks = subst (λ (m : ℕ). length f.before < m) long (within after (length f.before) f.here at) in
        let here = it.3.1 (error_of f.here.walked faults.TooLong f.met) in
        let below = block_below nodes.k (length f.before) ranks nodes.lines.now low in
        omega arith

    module _ (good : All (λ (w : Walker). IsOk w.walked) after) where
      good_at : (i : ℕ) (v : Walker) → get_elem? after i ≡ some v → IsOk v.walked
      good_at i v at = all_there (λ (w : Walker). IsOk w.walked) after i v good at

      pub back : ((i : ℕ) (p : _) → get_elem? passes i ≡ some p → (pass_view p).rank ≡ i) → (i : ℕ) (q : _) → get_elem? (map (λ (w : Walker). w.pass) after) i ≡ some q → IsOf q nodes.lead.now × ((pass_view q).rank ≡ i)
      back placed i q at =
          let d = from_map (λ (w : Walker). w.pass) after i q at in
          let it = step_at i d.0 d.1 in
          let ok = good_at i d.0 d.1 in
          subst (λ q. IsOf q nodes.lead.now × ((pass_view q).rank ≡ i)) (sym d.2) (
            ok_of d.0.walked _ ok it.3.4,
            (ok_of d.0.walked _ ok it.3.3).makes.ran.same.same_rank ∙ placed i it.0.pass it.1,
          )

      pub walks : (i : ℕ) (p q : _) → get_elem? passes i ≡ some p → get_elem? (map (λ (w : Walker). w.pass) after) i ≡ some q
          → MakesWalks nodes.k nodes.lines.now (lead_key nodes.lead.now) (starts_of nodes.k i ranks nodes.lines.now) (pass_view p) (pass_view q)
      walks i p q was at =
          let d = from_map (λ (w : Walker). w.pass) after i q at in
          let it = step_at i d.0 d.1 in
          let same = some-injective it.0.pass p (sym it.1 ∙ was) in
          subst (λ z. MakesWalks nodes.k nodes.lines.now (lead_key nodes.lead.now) (starts_of nodes.k i ranks nodes.lines.now) (pass_view p) (pass_view z)) (sym d.2)
          (subst (λ z. MakesWalks nodes.k nodes.lines.now (lead_key nodes.lead.now) (starts_of nodes.k i ranks nodes.lines.now) (pass_view z) (pass_view d.0.pass)) same
          (ok_of d.0.walked _ (good_at i d.0 d.1) it.3.3))

      pub texts_are : (i : ℕ) (t : _) → get_elem? (map (λ (w : Walker). w.texts) after) i ≡ some t → AreTexts (map (contig nodes.k nodes.lines.now) (starts_of nodes.k i ranks nodes.lines.now)) t.bytes.items t.ends.items
      texts_are i t at =
          let d = from_map (λ (w : Walker). w.texts) after i t at in
          let it = step_at i d.0 d.1 in
          subst (λ z. AreTexts (map (contig nodes.k nodes.lines.now) (starts_of nodes.k i ranks nodes.lines.now)) z.bytes.items z.ends.items) (sym d.2) (ok_of d.0.walked _ (good_at i d.0 d.1) it.3.0)

    pub back_count : length (map (λ (w : Walker). w.pass) after) ≡ ranks
    back_count = length-map after (λ (w : Walker). w.pass) ∙ long

    pub texts_count : length (map (λ (w : Walker). w.texts) after) ≡ ranks
    texts_count = length-map after (λ (w : Walker). w.texts) ∙ long
