use Rattle.std.proofs.Common.{refl, arith}
use Rattle.bcl_phase.specs.Parts.{pass_layout}
use Rattle.bcl_darray.specs.Parts.{pass_view}
use Rattle.bcl_darray.proofs.Seated.{seated_by, pass_fits}
use Rattle.bcl_darray.proofs.Blocks.{mine_words, mine_stands}
use Rattle.bcl_darray.proofs.own.ArrayPass+Own+T.own_item.Goals as goal

pub overflow_cast-result : goal.overflow_cast-result
overflow_cast-result g c = record { fits = let most = (pass_fits g.T.Object.WORDS _ _ c.args.self.now.pass.pass.laid).most in let width = c.WORDS.ensures in omega arith }

pub overflow_mul-result : goal.overflow_mul-result
overflow_mul-result g c = let pass = c.args.self.now.pass.pass in let layout = pass_layout pass in let view = pass_view c.args.self.now in record {
  fits = (mine_words g.T.Object.WORDS c.WORDS.result layout layout view c.args.index view.rank (seated_by g.T.Object.WORDS _ _ pass.laid) c.WORDS.ensures refl refl (let ranked = pass.pass.2 in let within = pass.within in omega arith)
      (pass_fits g.T.Object.WORDS _ _ pass.laid).least c.requires.mine).1;
}

pub returns : goal.returns
returns g c = let pass = c.args.self.now.pass.pass in let layout = pass_layout pass in let view = pass_view c.args.self.now in record {
  at = mine_stands g.T.Object.WORDS c.WORDS.result layout layout view c.args.index view.rank (seated_by g.T.Object.WORDS _ _ pass.laid) c.WORDS.ensures refl refl (let ranked = pass.pass.2 in let within = pass.within in omega arith)
      (pass_fits g.T.Object.WORDS _ _ pass.laid).least c.requires.mine;
}
