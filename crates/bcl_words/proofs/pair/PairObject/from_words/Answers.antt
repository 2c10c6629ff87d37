use Rattle.std.proofs.Common.{◌≡◌, ◌+◌, ◌∙◌, true, sym, arith}
use Rattle.bcl_words.specs.Words.{is_words}
use Rattle.bcl_words.specs.Pairs.{part_of, pair_passes}
use Rattle.bcl_words.specs.PairLaws.{count_fits, first_fits, second_fits}
use Rattle.bcl_words.proofs.WordsPass.{passes_if_some, some_if_passes}
use Rattle.bcl_words.proofs.PairsRead.{read_pair}
use Rattle.bcl_words.proofs.pair.PairObject.from_words.Goals as goal

pub overflow_add-WORDS : goal.overflow_add-WORDS
overflow_add-WORDS g c =
    let h = count_fits g.A.Object.WORDS g.B.Object.WORDS c.requires.fits.most in
    record { fits = omega (arith, h.0, c.WORDS.ensures, c.WORDS-2.ensures) }

pub zeros_from-requires : goal.zeros_from-requires
zeros_from-requires g c =
    let h = count_fits g.A.Object.WORDS g.B.Object.WORDS c.requires.fits.most in
    omega (arith, h.0, c.WORDS.ensures, c.WORDS-2.ensures)

pub part-requires : goal.part-requires
part-requires g c =
    let h = count_fits g.A.Object.WORDS g.B.Object.WORDS c.requires.fits.most in
    omega (arith, h.0, c.WORDS-3.ensures)

pub from_words-requires : goal.from_words-requires
from_words-requires g c = record { fits = first_fits g.A.Object.WORDS g.B.Object.WORDS g.A.Object.some_words c.requires.fits }

pub part-requires-2 : goal.part-requires-2
part-requires-2 g c =
    let h = count_fits g.A.Object.WORDS g.B.Object.WORDS c.requires.fits.most in
    omega (arith, h.0, c.WORDS-4.ensures, c.WORDS-5.ensures)

pub from_words-requires-2 : goal.from_words-requires-2
from_words-requires-2 g c = record { fits = second_fits g.A.Object.WORDS g.B.Object.WORDS g.B.Object.some_words c.requires.fits }

pub returns : goal.returns
returns g c =
    let a = g.A.Object in let b = g.B.Object in let w = c.args.w.now in
    let h = count_fits a.WORDS b.WORDS c.requires.fits.most in
    let whole : is_words (a.WORDS + b.WORDS) w ≡ true = rw (c.WORDS.ensures, c.WORDS-2.ensures) at (sym c.zeros_from.ensures ∙ c.if-not-zeros_from.false) in
    let first : c.part.result ≡ part_of 0 a.WORDS w = rw c.WORDS-3.ensures at c.part.ensures in
    let second : c.part-2.result ≡ part_of a.WORDS b.WORDS w = rw (c.WORDS-4.ensures, c.WORDS-5.ensures) at c.part-2.ensures in
    let x = passes_if_some (a.passes c.part.result) c.in_ok-a.ensures.none in
    let y = passes_if_some (b.passes c.part-2.result) c.in_ok-b.ensures.none in
    let both =
    read_pair a.WORDS b.WORDS a.passes b.passes w (a.words c.in_ok-a.a) (b.words c.in_ok-b.b) h.0 whole
    (rw first at x) (rw second at y) (c.in_ok-a.ensures.some ∙ first) (c.in_ok-b.ensures.some ∙ second) in
    record { none = some_if_passes (pair_passes a.WORDS b.WORDS a.passes b.passes w) both.0; some = both.1 }
