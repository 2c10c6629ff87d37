use Rattle.bcl_event.specs.declared.filter.FilterCall.TheVariants.{Find}
use Rattle.bcl_phase.specs.Parts.{lead_key}
use Rattle.bcl_bloom.specs.Calls.{bits_of, Answers}
use Rattle.bcl_bloom.proofs.pass.FilterPass+Any+K.find.Given as goal

abbrev pub ghosts-get : goal.ghosts-get
ghosts-get g a = record { then = λ n t did _. Answers g.K.Object.WORDS (lead_key a.lead.now) (Find (g.K.Object.words a.about.now)) (bits_of g.K.Object.WORDS (g.K.Object.words a.about.now)) n t did }
