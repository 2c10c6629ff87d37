-- What the checkers of all ranks come to.
use Rattle.std.proofs.Common.{◌≡◌, ◌∙◌, ℕ, ◌+◌, ◌<◌, List, [], ◌∷◌, length, map, None, Some, Result, Ok, Err, refl, sym, ap, subst, arith}
use Rattle.std.specs.Prelude.{IsOk, IfOk, OnOk, IsErrOf}
use Rattle.std.specs.List.{All, AllZip}
use Rattle.std.specs.Option.{option_map}
use Rattle.std.proofs.lemmas.List.{length-map}
use mathlib.Core.Option.{some, some-injective}
use lib.ListN.{get_elem?}
use Rattle.bcl_phase.specs.Parts.{lead_view}
use Rattle.bcl_phase.proofs.Zips.{zip_long, all_at}
use Rattle.bcl_map.specs.Parts.{lead_key, pass_view, IsOf}
use Rattle.bcl_buffer.proofs.Flushed.{from_map}
use Rattle.bcl_buffer.proofs.Shares.{there, within}
use Rattle.kmer_blocks.specs.Blocks.{begins_at}
use Rattle.kmer_paths.specs.Keys.{first_conflict}
use Rattle.kmer_paths.specs.declared.fault.WalkFault.{WalkFault}
use Rattle.kmer_paths.specs.declared.fault.WalkFault.TheVariants as faults
use Rattle.kmer_walk.specs.declared.checker.Checker.{Checker}
use Rattle.kmer_walk.specs.declared.nodes.Nodes.{Nodes}
use Rattle.kmer_walk.specs.Nodes.{nodes_of, starts_of}
use Rattle.kmer_walk.specs.Book.{find_of}
use Rattle.kmer_walk.specs.Finds.{Asks, Makes}
use Rattle.kmer_walk.specs.Checks.{AreConsistent, IsConflict}
use Rattle.kmer_walk.specs.Faults.{FirstFault}
use Rattle.kmer_walk.proofs.Kits.{all_there, at_map, behind_front, in_front, each}
use Rattle.kmer_walk.proofs.Consistent.{all_blocks, first_of_blocks}

-- what was good is no fault
pub ok_of : (r : Result (Unit {0}) WalkFault) (P : Type 0) → IsOk r → OnOk r P → P
ok_of (Ok x) P ok p = p
ok_of (Err e) P ok p = absurd cc

pub error_of : (r : Result (Unit {0}) WalkFault) (fault : WalkFault) → r ≡ Err fault → IsErrOf r fault
error_of r fault e = subst (λ (z : Result (Unit {0}) WalkFault). IsErrOf z fault) (sym e) refl

pub on_result : {T E : Type 0} (r : Result T E) (Q P : Type 0) → IfOk r (λ _. Q) → (Q → P) → OnOk r P
on_result (Ok x) Q P q goes = goes q
on_result (Err e) Q P q goes = tt

abbrev pub Env : Type 0
Env = Nodes × ℕ × ℕ

abbrev pub env : Checker → Env
env c = (c.nodes.now, c.ranks, (pass_view c.pass).rank)

abbrev pub Step : Env → Checker → Checker → Type 0
Step z c d =
    OnOk d.checked (AreConsistent z.0.k z.0.lines.now (begins_at z.2 z.1 z.0.lines.now) (begins_at (z.2 + 1) z.1 z.0.lines.now))
    × ((n : ℕ) → IsErrOf d.checked (faults.Conflict n) → IsConflict z.0.k z.0.lines.now (begins_at z.2 z.1 z.0.lines.now) (begins_at (z.2 + 1) z.1 z.0.lines.now) n)
    × (IsErrOf d.checked faults.TooLong → ⊥)
    × OnOk d.checked (Makes (lead_key z.0.lead.now) (map (find_of z.0.k z.0.lines.now) (nodes_of z.2 z.1 z.0.lines.now)) (pass_view c.pass) (pass_view d.pass))
    × OnOk d.checked (d.starts.items ≡ starts_of z.0.k z.2 z.1 z.0.lines.now)
    × OnOk d.checked (Asks (lead_view z.0.lead.now.lead).start (pass_view d.pass))
    × OnOk d.checked (IsOf d.pass z.0.lead.now)

abbrev pub IsMade : Nodes → ℕ → Checker → Type 0
IsMade nodes ranks c = (c.nodes.now ≡ nodes) × (c.ranks ≡ ranks) × (c.starts.items ≡ [])

module _ (nodes : Nodes) (ranks : ℕ) (passes : List _) (kits after : List Checker) (passes_are : map (λ (c : Checker). c.pass) kits ≡ passes) (made : All (IsMade nodes ranks) kits)
    (count : length passes ≡ ranks) (placed : (i : ℕ) (p : _) → get_elem? passes i ≡ some p → (pass_view p).rank ≡ i) where
  abbrev given : ℕ → Env
  given i = (nodes, ranks, i)

  as_given : (i : ℕ) (c : Checker) → get_elem? kits i ≡ some c → env c ≡ given i
  as_given i c at =
      let is = all_there (IsMade nodes ranks) kits i c made at in
      let rank = placed i c.pass (subst (λ l. get_elem? l i ≡ some c.pass) passes_are (at_map (λ (c : Checker). c.pass) kits i c at)) in
      λ j. (is.0 j, is.1 j, rank j)

  pub ready : (asks : (i : ℕ) (p : _) → get_elem? passes i ≡ some p → Asks (lead_view nodes.lead.now.lead).start (pass_view p)) → ((i : ℕ) (p : _) → get_elem? passes i ≡ some p → IsOf p nodes.lead.now)
      → All (λ (c : Checker). IsOf c.pass c.nodes.now.lead.now × Asks (lead_view c.nodes.now.lead.now.lead).start (pass_view c.pass) × ((pass_view c.pass).rank < c.ranks) × (c.starts.items ≡ [])) kits
  ready asks of = all_at (λ (c : Checker). IsOf c.pass c.nodes.now.lead.now × Asks (lead_view c.nodes.now.lead.now.lead).start (pass_view c.pass) × ((pass_view c.pass).rank < c.ranks) × (c.starts.items ≡ [])) kits (λ i c at.
      let is = all_there (IsMade nodes ranks) kits i c made at in
      let p = subst (λ l. get_elem? l i ≡ some c.pass) passes_are (at_map (λ (c : Checker). c.pass) kits i c at) in
      let rank = placed i c.pass p in
      let low = within passes i c.pass p in
      let many = is.1 in (
        subst (λ (n : Nodes). IsOf c.pass n.lead.now) (sym is.0) (of i c.pass p),
        subst (λ (n : Nodes). Asks (lead_view n.lead.now.lead).start (pass_view c.pass)) (sym is.0) (asks i c.pass p),
        omega arith,
        is.2,
      ))

  module _ (steps : AllZip (λ c d. Step (env c) c d) kits after) where
    long : length after ≡ ranks
    long = zip_long (λ c d. Step (env c) c d) kits after steps ∙ (sym (length-map kits (λ (c : Checker). c.pass)) ∙ (ap length passes_are ∙ count))

    step_at : (i : ℕ) (d : Checker) → get_elem? after i ≡ some d → (c : Checker) × (get_elem? passes i ≡ some c.pass) × (get_elem? kits i ≡ some c) × Step (given i) c d
    step_at i d at = each (λ (c : Checker). c.pass) env Step given passes kits after passes_are as_given steps i d at

    pub no_long : FirstFault (λ (c : Checker). c.checked) faults.TooLong after → ⊥
    no_long f =
        let at = subst (λ (l : List Checker). get_elem? l (length f.before) ≡ some f.here) (sym f.all) (behind_front f.before f.behind f.here) in
        let it = step_at (length f.before) f.here at in
        it.3.2 (error_of f.here.checked faults.TooLong f.met)

    -- the checkers before the first that met a fault
    consistent_before : (n : ℕ) (f : FirstFault (λ (c : Checker). c.checked) (faults.Conflict n) after) → (r : ℕ) → r < length f.before → AreConsistent nodes.k nodes.lines.now (begins_at r ranks nodes.lines.now) (begins_at (r + 1) ranks nodes.lines.now)
    consistent_before n f r low =
        let x = in_front f.before (f.here ∷ f.behind) r low in
        let it = step_at r x.0 (subst (λ (l : List Checker). get_elem? l r ≡ some x.0) (sym f.all) x.2) in
        ok_of x.0.checked _ (all_there (λ (c : Checker). IsOk c.checked) f.before r x.0 f.good x.1) it.3.0

    pub conflict_is_first : (n : ℕ) → FirstFault (λ (c : Checker). c.checked) (faults.Conflict n) after → option_map (λ place. place + 1) (first_conflict nodes.k nodes.lines.now) ≡ Some n
    conflict_is_first n f =
        let at = subst (λ (l : List Checker). get_elem? l (length f.before) ≡ some f.here) (sym f.all) (behind_front f.before f.behind f.here) in
        let it = step_at (length f.before) f.here at in
        let low : length f.before < ranks = subst (λ (m : ℕ). length f.before < m) long (within after (length f.before) f.here at) in
        first_of_blocks nodes.k nodes.lines.now ranks (omega arith) (length f.before) n low (consistent_before n f) (it.3.1 n (error_of f.here.checked (faults.Conflict n) f.met))

    module _ (good : All (λ (c : Checker). IsOk c.checked) after) where
      good_at : (i : ℕ) (d : Checker) → get_elem? after i ≡ some d → IsOk d.checked
      good_at i d at = all_there (λ (c : Checker). IsOk c.checked) after i d good at

      pub consistent : 0 < ranks → first_conflict nodes.k nodes.lines.now ≡ None
      consistent some_rank = all_blocks nodes.k nodes.lines.now ranks some_rank (λ r low.
          let d = there after r (let n = long in omega arith) in
          let it = step_at r d.0 d.1 in
          ok_of d.0.checked _ (good_at r d.0 d.1) it.3.0)

      pub back : (i : ℕ) (q : _) → get_elem? (map (λ (c : Checker). c.pass) after) i ≡ some q → IsOf q nodes.lead.now × ((pass_view q).rank ≡ i) × Asks (lead_view nodes.lead.now.lead).start (pass_view q)
      back i q at =
          let d = from_map (λ (c : Checker). c.pass) after i q at in
          let it = step_at i d.0 d.1 in
          let ok = good_at i d.0 d.1 in
          subst (λ q. IsOf q nodes.lead.now × ((pass_view q).rank ≡ i) × Asks (lead_view nodes.lead.now.lead).start (pass_view q)) (sym d.2) (
            ok_of d.0.checked _ ok it.3.6,
            (ok_of d.0.checked _ ok it.3.3).ran.same.same_rank ∙ placed i it.0.pass it.1,
            ok_of d.0.checked _ ok it.3.5,
          )

      pub makes : (i : ℕ) (p q : _) → get_elem? passes i ≡ some p → get_elem? (map (λ (c : Checker). c.pass) after) i ≡ some q
          → Makes (lead_key nodes.lead.now) (map (find_of nodes.k nodes.lines.now) (nodes_of i ranks nodes.lines.now)) (pass_view p) (pass_view q)
      makes i p q was at =
          let d = from_map (λ (c : Checker). c.pass) after i q at in
          let it = step_at i d.0 d.1 in
          let same = some-injective it.0.pass p (sym it.1 ∙ was) in
          subst (λ z. Makes (lead_key nodes.lead.now) (map (find_of nodes.k nodes.lines.now) (nodes_of i ranks nodes.lines.now)) (pass_view p) (pass_view z)) (sym d.2)
          (subst (λ z. Makes (lead_key nodes.lead.now) (map (find_of nodes.k nodes.lines.now) (nodes_of i ranks nodes.lines.now)) (pass_view z) (pass_view d.0.pass)) same
          (ok_of d.0.checked _ (good_at i d.0 d.1) it.3.3))

      pub starts_are : (i : ℕ) (s : _) → get_elem? (map (λ (c : Checker). c.starts) after) i ≡ some s → s.items ≡ starts_of nodes.k i ranks nodes.lines.now
      starts_are i s at =
          let d = from_map (λ (c : Checker). c.starts) after i s at in
          let it = step_at i d.0 d.1 in
          ap (λ z. z.items) d.2 ∙ ok_of d.0.checked _ (good_at i d.0 d.1) it.3.4

    pub back_count : length (map (λ (c : Checker). c.pass) after) ≡ ranks
    back_count = length-map after (λ (c : Checker). c.pass) ∙ long

    pub starts_count : length (map (λ (c : Checker). c.starts) after) ≡ ranks
    starts_count = length-map after (λ (c : Checker). c.starts) ∙ long
