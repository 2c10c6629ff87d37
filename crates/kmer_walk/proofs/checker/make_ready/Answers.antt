use Rattle.std.proofs.Common.{◌≡◌, ◌≢◌, ◌∙◌, ℕ, ◌+◌, ◌<◌, not, true, false, length, get_or, set, Option, None, refl, sym, ap, subst, ⊎_elim, arith, get_or-set_same, get_or-set_other}
use Rattle.std.proofs.lemmas.Bool.{cases_eq, eq-eqb, ne_eqb}
use Rattle.std.proofs.lemmas.List.{length-set}
use Rattle.bcl_words.specs.Numbers.{one_word}
use Rattle.bcl_map.specs.Calls.{start_at}
use Rattle.bcl_map.specs.Parts.{lead_key}
use Rattle.kmer_text.specs.NodeWords.{node_words}
use Rattle.kmer_text.specs.Nodes.{line_at}
use Rattle.kmer_walk.specs.declared.checker.Ready.{Ready}
use Rattle.kmer_walk.specs.Nodes.{has_node}
use Rattle.kmer_walk.specs.Checks.{IsReady}
use Rattle.kmer_walk.proofs.checker.make_ready.Goals as goal
use Rattle.kmer_walk.proofs.checker.make_ready.Goals.{in-Some, in-None}

pub loop-i-preserved : goal.loop-i-preserved
loop-i-preserved c =
    let nodes = c.args.nodes.now in
    let k = nodes.k in
    let ls = nodes.lines.now in
    let shape = lead_key nodes.lead.now in
    let at = c.loop-i.i in
    let place = c.args.from + at in
    let batch = c.loop-i.batch in
    let value = c.match-node_of.batch in
    let inv = c.loop-i.invariant in
    let within : at < length batch = omega (arith, inv.long, c.loop-i-test.true, c.requires.few) in
    let here : IsReady k ls shape place value =
    elim c.match-node_of.branch [
      | in-Some w ↦
          let it = w.in-Some.ensures in
          let some : length (line_at ls place) ≢ 0 = λ e. absurd (cc (it.none.1 e)) in
          let has : has_node ls place ≡ true = ap not (ne_eqb (length (line_at ls place)) 0 some) in
          subst (IsReady k ls shape place) (sym w.batch-is)
          (has, it.key, (λ i. node_words (it.line i) (it.back i) (it.forward i)), w.start.ensures.start ∙ ap (λ (n : ℕ). start_at shape (one_word n)) it.key)
      | in-None w ↦
          let none : has_node ls place ≡ false = ap not (eq-eqb (length (line_at ls place)) 0 (w.in-None.ensures.none.0 refl)) in
          subst (IsReady k ls shape place) (sym w.batch-is) none
    ] in
    record {
      ready = λ i low. ⊎_elim
          (λ (e : i ≡ at). subst (λ (z : ℕ × Option Ready). IsReady k ls shape (c.args.from + z.0) z.1)
          (λ j. (sym e j, sym (ap (λ (n : ℕ). get_or (set batch at value) n None) e ∙ get_or-set_same batch at value None within) j)) here)
          (λ (ne : i ≢ at). subst (IsReady k ls shape (c.args.from + i)) (sym (get_or-set_other batch at i value None ne)) (inv.ready i (omega arith)))
          (cases_eq i at);
      long = length-set batch at value ∙ inv.long;
    }
