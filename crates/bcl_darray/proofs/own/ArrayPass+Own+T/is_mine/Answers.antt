use Rattle.std.proofs.Common.{arith}
use Rattle.std.proofs.lemmas.Bool.{leb-true, le-leb}
use Rattle.std.proofs.lemmas.Bool.Decides.{Decides-ltb}
use Rattle.bcl_darray.specs.Parts.{pass_view}
use Rattle.bcl_darray.proofs.Seated.{seated_by, pass_fits}
use Rattle.bcl_darray.proofs.Blocks.{small_first, mine_if, mine_then}
use Rattle.bcl_darray.proofs.own.ArrayPass+Own+T.is_mine.Goals as goal

pub overflow_cast-items : goal.overflow_cast-items
overflow_cast-items g c = record { fits = let most = (pass_fits g.T.Object.WORDS _ _ c.args.self.now.pass.pass.laid).most in let width = c.WORDS.ensures in omega arith }

pub overflow_mul-first : goal.overflow_mul-first
overflow_mul-first g c = record { fits = small_first g.T.Object.WORDS c.WORDS.result _ c.layout.result (pass_view c.args.self.now) c.args.index c.rank.result (seated_by g.T.Object.WORDS _ _ c.args.self.now.pass.pass.laid) c.WORDS.ensures c.layout.ensures.layout c.rank.ensures.rank c.rank.ensures.within (pass_fits g.T.Object.WORDS _ _ c.args.self.now.pass.pass.laid).least }

pub returns-then-first-index : goal.returns-then-first-index
returns-then-first-index g c = record {
  mine = (
    λ low. mine_if g.T.Object.WORDS c.WORDS.result _ c.layout.result (pass_view c.args.self.now) c.args.index c.rank.result (seated_by g.T.Object.WORDS _ _ c.args.self.now.pass.pass.laid) c.WORDS.ensures c.layout.ensures.layout c.rank.ensures.rank c.rank.ensures.within (pass_fits g.T.Object.WORDS _ _ c.args.self.now.pass.pass.laid).least
        c.if-first-index.true ((Decides-ltb _ _).0 low),
    λ mine. (Decides-ltb _ _).1 (mine_then g.T.Object.WORDS c.WORDS.result _ c.layout.result (pass_view c.args.self.now) c.args.index c.rank.result (seated_by g.T.Object.WORDS _ _ c.args.self.now.pass.pass.laid) c.WORDS.ensures c.layout.ensures.layout c.rank.ensures.rank c.rank.ensures.within
        (pass_fits g.T.Object.WORDS _ _ c.args.self.now.pass.pass.laid).least mine).1,
  );
}

pub returns-else-first-index : goal.returns-else-first-index
returns-else-first-index g c = record {
  mine = (
    λ low. let under = leb-true _ _ low in let over = c.if-first-index.false in absurd (omega arith),
    λ mine. le-leb _ _ (mine_then g.T.Object.WORDS c.WORDS.result _ c.layout.result (pass_view c.args.self.now) c.args.index c.rank.result (seated_by g.T.Object.WORDS _ _ c.args.self.now.pass.pass.laid) c.WORDS.ensures c.layout.ensures.layout c.rank.ensures.rank c.rank.ensures.within
        (pass_fits g.T.Object.WORDS _ _ c.args.self.now.pass.pass.laid).least mine).0,
  );
}
