use Rattle.bcl_phase.specs.Parts.{home_key, home_layout, home_heads}
use Rattle.bcl_map.proofs.Seated.{shaped_by}
use Rattle.bcl_map.proofs.Walks.{few_words, buckets_by}
use Rattle.bcl_map.proofs.home.MapHome.shape.Goals as goal

pub in_buckets-requires-clause-few : goal.in_buckets-requires-clause-few
in_buckets-requires-clause-few g c κs outlives = let home = c.args.self.now.home in few_words g.K.Object.WORDS g.V.Object.WORDS (home_heads home) (home_layout home) (home_key home) (shaped_by _ _ _ _ _ home.owned.laid)

pub returns : goal.returns
returns g c = record {
  shape = let home = c.args.self.now.home in buckets_by g.K.Object.WORDS g.V.Object.WORDS (home_heads home) (home_layout home) (home_key home) (shaped_by _ _ _ _ _ home.owned.laid) c.layout.result c.in_buckets.result c.layout.ensures.layout c.in_buckets.ensures.buckets;
}
