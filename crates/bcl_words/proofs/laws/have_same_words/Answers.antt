use Rattle.std.proofs.Common.{◌∙◌, sym}
use Rattle.std.specs.Cmp.{both_ways}
use Rattle.std.specs.Cmp.Lexicographic.{bytes_decides}
use Rattle.bcl_words.proofs.laws.have_same_words.Goals as goal

pub returns-clause-equal : goal.returns-clause-equal
returns-clause-equal g c =
    -- the laws, which hold in each thread, at this one
    let l = g.met.T.Object g.world.𝓛 g.world.𝓜 g.world.𝓡 ((λ s x. x), (λ x. x), (λ x. x), (λ x. x)) in
    let p = c.to_words.ensures in
    let q = c.to_words-2.ensures in
    let d = bytes_decides c.to_words.result c.to_words-2.result in
    let e = l.equal c.requires.fits c.args.a.now c.args.b.now p.passes q.passes in
    both_ways _ _
    (λ t. e.1 (sym p.words ∙ d.0 (sym c.eq.ensures ∙ t) ∙ q.words))
    (λ t. c.eq.ensures ∙ d.1 (p.words ∙ e.0 t ∙ sym q.words))
