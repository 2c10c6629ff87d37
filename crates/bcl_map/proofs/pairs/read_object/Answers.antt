use Rattle.std.proofs.Common.{◌+◌, refl, sym, ap, ◌∙◌, arith}
use Rattle.std.proofs.lemmas.Bool.{false≢true}
use Rattle.bcl_phase.specs.Parts.{home_words}
use Rattle.bcl_map.proofs.Objects.{object_read}
use Rattle.bcl_map.proofs.pairs.read_object.Goals as goal

pub unreachable-requires : goal.unreachable-requires
unreachable-requires g c = let I = c.loop-j.invariant in let width = c.WORDS-j-end.ensures in let end = c.loop-j-test.false in let within = c.loop-j.auto.j-end in
    let whole = object_read g.T.Object.WORDS c.requires.fits.most (home_words c.args.home.now) (c.args.at + c.args.first) (let long = c.requires.long in omega arith) c.loop-j.words I.len (λ b low. I.read b (omega arith)) (λ b late. I.zeros b (omega arith)) in
    false≢true (sym (c.in_default.ensures.none.0 refl) ∙ (ap g.T.Object.passes whole ∙ c.requires.passes))

pub returns-clause-words : goal.returns-clause-words
returns-clause-words g c = let I = c.loop-j.invariant in let width = c.WORDS-j-end.ensures in let end = c.loop-j-test.false in let within = c.loop-j.auto.j-end in
    c.in-Some.ensures.some ∙ object_read g.T.Object.WORDS c.requires.fits.most (home_words c.args.home.now) (c.args.at + c.args.first) (let long = c.requires.long in omega arith) c.loop-j.words I.len (λ b low. I.read b (omega arith)) (λ b late. I.zeros b (omega arith))
