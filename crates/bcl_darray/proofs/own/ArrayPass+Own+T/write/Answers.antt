use Rattle.bcl_words.proofs.Fitting.{fits_of}
use Rattle.bcl_darray.proofs.own.ArrayPass+Own+T.write.Goals as goal

pub write_item-requires-clause-fits : goal.write_item-requires-clause-fits
write_item-requires-clause-fits g c κs outlives = fits_of g.T.Object.WORDS c.args.lead.now.lead.laid.sound
