use Rattle.bcl_words.proofs.Fitting.{fits_of}
use Rattle.bcl_darray.proofs.own.ArrayPass+Own+T.read.Goals as goal

pub read_item-requires-clause-fits : goal.read_item-requires-clause-fits
read_item-requires-clause-fits g c κs outlives = fits_of g.T.Object.WORDS c.args.lead.now.lead.laid.sound
