use Rattle.std.proofs.Common.{◌∙◌, sym}
use Rattle.std.proofs.lemmas.Bool.Decides.{Decides-eqb}
use Rattle.bcl_map.specs.Parts.{pass_view}
use Rattle.bcl_map.proofs.Seated.{seated_by, pass_fits, few_there, some_buckets, few_buckets, mine_if, mine_then}
use Rattle.bcl_map.proofs.pass.MapPass.is_mine.Goals as goal

pub in_buckets-buckets-requires-clause-few : goal.in_buckets-buckets-requires-clause-few
in_buckets-buckets-requires-clause-few g c κs outlives = few_there g.K.Object.WORDS g.V.Object.WORDS _ (pass_view c.args.self.now) (seated_by g.K.Object.WORDS g.V.Object.WORDS _ _ c.args.self.now.pass.pass.laid)

pub home_rank-requires-clause-fits : goal.home_rank-requires-clause-fits
home_rank-requires-clause-fits g c κs outlives = pass_fits g.K.Object.WORDS g.V.Object.WORDS _ _ c.args.self.now.pass.pass.laid

pub home_rank-requires-clause-some : goal.home_rank-requires-clause-some
home_rank-requires-clause-some g c κs outlives = some_buckets g.K.Object.WORDS g.V.Object.WORDS _ (pass_view c.args.self.now) (seated_by g.K.Object.WORDS g.V.Object.WORDS _ _ c.args.self.now.pass.pass.laid) c.layout.result _ c.layout.ensures.layout c.in_buckets-buckets.ensures.buckets

pub home_rank-requires-clause-few : goal.home_rank-requires-clause-few
home_rank-requires-clause-few g c κs outlives = few_buckets g.K.Object.WORDS g.V.Object.WORDS _ (pass_view c.args.self.now) (seated_by g.K.Object.WORDS g.V.Object.WORDS _ _ c.args.self.now.pass.pass.laid) c.layout.result _ c.layout.ensures.layout c.in_buckets-buckets.ensures.buckets

pub returns : goal.returns
returns g c = record {
  mine = (
    λ e. mine_if g.K.Object.WORDS g.V.Object.WORDS _ (pass_view c.args.self.now) (seated_by g.K.Object.WORDS g.V.Object.WORDS _ _ c.args.self.now.pass.pass.laid) c.layout.result _ c.layout.ensures.layout c.in_buckets-buckets.ensures.buckets (g.K.Object.words c.args.key.now) c.home_rank.result c.home_rank.ensures.home ((Decides-eqb _ _).0 e ∙ c.rank.ensures.rank),
    λ mine. (Decides-eqb _ _).1 (mine_then g.K.Object.WORDS g.V.Object.WORDS _ (pass_view c.args.self.now) (seated_by g.K.Object.WORDS g.V.Object.WORDS _ _ c.args.self.now.pass.pass.laid) c.layout.result _ c.layout.ensures.layout c.in_buckets-buckets.ensures.buckets (g.K.Object.words c.args.key.now) c.home_rank.result c.home_rank.ensures.home mine ∙ sym c.rank.ensures.rank),
  );
}
