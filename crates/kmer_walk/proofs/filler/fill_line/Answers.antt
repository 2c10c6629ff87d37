use Rattle.std.proofs.Common.{◌≡◌, ◌≢◌, ℕ, not, true, false, List, length, refl, sym, ap, subst}
use Rattle.std.proofs.lemmas.Bool.{eq-eqb, ne_eqb}
use Rattle.bcl_phase.proofs.Returns.{if_ok}
use Rattle.kmer_text.specs.Nodes.{line_at}
use Rattle.kmer_text.specs.NodeWords.{node_words}
use Rattle.kmer_walk.specs.Nodes.{has_node, node_at}
use Rattle.kmer_walk.specs.Fills.{words_of_node, Fills}
use Rattle.kmer_walk.proofs.Places.{place_is, place_not}
use Rattle.kmer_walk.proofs.Waiting.{fills_none, fills_one}
use Rattle.kmer_walk.proofs.filler.fill_line.Goals as goal

pub returns-in-Some : goal.returns-in-Some
returns-in-Some c =
    let k = c.args.k in let lines = c.args.lines.now in let place = c.args.place in
    let it = c.in-Some.ensures in let put = c.insert.ensures in
    let some : length (line_at lines place) ≢ 0 = λ e. absurd (cc (it.none.1 e)) in
    let has : has_node lines place ≡ true = ap not (ne_eqb (length (line_at lines place)) 0 some) in
    let words : words_of_node c.in-Some.pair.1 ≡ node_at k lines place = λ i. node_words (it.line i) (it.back i) (it.forward i) in record {
      fills = if_ok c.insert.result _ _ put.here (λ _ here.
          subst (λ (places : List ℕ). Fills k lines places c.args.buffer.now c.insert.new.self) (sym (place_is (has_node lines) place has))
          (fills_one k lines place c.in-Some.pair.0 c.in-Some.pair.1 c.args.buffer.now c.insert.new.self it.key words here put.others put.same));
    }

pub returns-in-None : goal.returns-in-None
returns-in-None c =
    let lines = c.args.lines.now in let place = c.args.place in
    let empty : length (line_at lines place) ≡ 0 = c.in-None.ensures.none.0 refl in
    let none : has_node lines place ≡ false = ap not (eq-eqb (length (line_at lines place)) 0 empty) in record {
      fills = subst (λ (places : List ℕ). Fills c.args.k lines places c.args.buffer.now c.args.buffer.now) (sym (place_not (has_node lines) place none))
          (fills_none c.args.k lines c.args.buffer.now c.requires.filling);
    }
