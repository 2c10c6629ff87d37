use Rattle.std.proofs.Common.{arith}
use Rattle.bcl_words.specs.PairLaws.{count_fits, first_fits, second_fits}
use Rattle.bcl_words.proofs.PairsRead.{values_pass}
use Rattle.bcl_words.proofs.pair.PairObject.to_words.Goals as goal

pub to_words-first-requires : goal.to_words-first-requires
to_words-first-requires g c = record { fits = first_fits g.A.Object.WORDS g.B.Object.WORDS g.A.Object.some_words c.requires.fits }

pub to_words-second-requires : goal.to_words-second-requires
to_words-second-requires g c = record { fits = second_fits g.A.Object.WORDS g.B.Object.WORDS g.B.Object.some_words c.requires.fits }

pub join-requires : goal.join-requires
join-requires g c =
    let h = count_fits g.A.Object.WORDS g.B.Object.WORDS c.requires.fits.most in
    omega (arith, h.0, c.WORDS.ensures, c.WORDS-2.ensures)

pub returns-clause-passes : goal.returns-clause-passes
returns-clause-passes g c =
    let a = g.A.Object in let b = g.B.Object in
    values_pass a.WORDS b.WORDS a.passes b.passes c.requires.fits
    (a.shape (first_fits a.WORDS b.WORDS a.some_words c.requires.fits))
    (b.shape (second_fits a.WORDS b.WORDS b.some_words c.requires.fits))
    (a.words c.args.self.now.a) (b.words c.args.self.now.b)
    c.to_words-first.ensures.passes c.to_words-second.ensures.passes
