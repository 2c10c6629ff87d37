use Rattle.std.proofs.Common.{◌∙◌, ℕ, ◌<◌, List, [], ◌++◌, length, get_or, sym, ap, subst, arith}
use Rattle.std.specs.List.{flat_map}
use Rattle.std.proofs.lemmas.List.{take_all}
use Rattle.kmer_walk.specs.declared.walker.Texts.{Texts}
use Rattle.kmer_walk.specs.Texts.{AreTexts}
use Rattle.kmer_walk.proofs.Pieces.{parts_many, part_has, parts_more}
use Rattle.kmer_walk.proofs.gathering.texts_of.Goals as goal

pub push_texts-requires : goal.push_texts-requires
push_texts-requires c =
    let all = c.requires.lie.0 in
    let part = c.part-item.result in
    record {
      lie = (get_or all c.loop-part.part-index [], subst (λ (p : Texts). AreTexts (get_or all c.loop-part.part-index []) p.bytes.items p.ends.items) (sym c.part-item.is) (part_has all c.args.parts.now c.requires.lie.1 c.loop-part.part-index part c.loop-part-test.true));
    }

pub loop-part-preserved : goal.loop-part-preserved
loop-part-preserved c = λ all have.
    let parts = c.args.parts.now in
    let i = c.loop-part.part-index in
    let part = c.part-item.result in
    let many = parts_many all parts have in
    let low : i < length parts = omega (arith, c.loop-part-test.true) in
    let are : AreTexts (get_or all i []) part.bytes.items part.ends.items =
    subst (λ (p : Texts). AreTexts (get_or all i []) p.bytes.items p.ends.items) (sym c.part-item.is) (part_has all parts have i part low) in
    c.in_ok-push_texts.ensures.put (get_or all i []) are
    ∙ (ap (λ (l : List (List ℕ)). l ++ get_or all i []) (c.loop-part.invariant all have) ∙ sym (parts_more all i (omega arith)))

pub returns : goal.returns
returns c = record {
  texts = λ all have.
      let many = parts_many all c.args.parts.now have in
      c.loop-part.invariant all have ∙ ap (flat_map (λ own. own)) (take_all c.loop-part.part-index all (omega (arith, c.loop-part-test.false)));
}
