use Rattle.std.proofs.Common.{rules, ◌≡◌, ℕ, ap, ◌∙◌}
use mathlib.Core.Option.{some}
use lib.ListN.{get_elem?}
use Rattle.bcl_segment.specs.declared.layout.Layout.{Layout}
use Rattle.bcl_segment.specs.Parts.{number_of, key_of, view_of}
use Rattle.bcl_phase.specs.Phases.{begun}
use Rattle.bcl_phase.specs.Parts.{home_view, pass_view}
use Rattle.bcl_phase.proofs.Homes.{begins_phase}
use Rattle.bcl_phase.proofs.Returns.{laid_here}
use Rattle.bcl_phase.proofs.home.Home.begin.Goals as goal

pub get-requires-clause-rule : goal.get-requires-clause-rule
get-requires-clause-rule g c = let it = c.args.self.owned in
    begins_phase _ _ _ _ _ g.R.Phased.rest (key_of it.segments) g.R.TableRule.holds g.met.R.Phased.from g.met.R.Phased.back (number_of it.seat) (view_of it.seat) _ g.P.Promise.CODE
    it.seated.1 c.args.self.alone it.seated.2 c.args.self.at_home (g.R.Phased.begins (key_of it.segments) g.P.Promise.CODE)

pub returns-clause-begins : goal.returns-clause-begins
returns-clause-begins g c = let turned = c.get.ensures.told.0 in
    let begin : (i : ℕ) (p : _) → get_elem? c.deal-passes.result.items i ≡ some p → pass_view (g.W.Wraps.inner p).pass ≡ begun g.R.Phased.rest g.P.Promise.CODE (key_of c.args.self.owned.segments) (home_view c.args.self).seen i =
    λ i p at. (c.deal-passes.ensures.passes i p at).2 ∙ (λ j. begun g.R.Phased.rest g.P.Promise.CODE (key_of c.args.self.owned.segments) ((turned j).seen) i) in record {
      same = search rules;
      begins = record {
        all = record {
          count = c.deal-passes.ensures.count ∙ ap (λ (z : Layout). z.ranks) c.args.self.owned.shape;
          of = λ i p at. let q = c.deal-passes.ensures.passes i p at in ((q.0, (λ j. (q.2 j).key), q.1 ∙ c.args.self.owned.shape), λ j. (begin i p at j).rank);
        };
        begun = begin;
        legal = c.get.ensures.told.1 (key_of c.args.self.owned.segments) c.args.self.owned.seated.2;
        start = search rules;
        promise = search rules;
      };
    }

pub deal-passes-requires-clause-laid : goal.deal-passes-requires-clause-laid
deal-passes-requires-clause-laid g c = let it = c.args.self.owned in laid_here g.R.Phased.sound g.R.Phased.heads g.R.Phased.layout (key_of it.segments) _ _ _ it.laid it.shape
