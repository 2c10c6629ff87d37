use Rattle.std.proofs.Common.{rules}
use Rattle.bcl_segment.specs.Parts.{number_of, key_of, view_of}
use Rattle.bcl_phase.specs.Parts.{pass_view}
use Rattle.bcl_phase.proofs.Homes.{turns}
use Rattle.bcl_phase.proofs.Returns.{ended_of, returned_of}
use Rattle.bcl_phase.proofs.lead.Lead.end.Goals as goal

pub get-requires-clause-rule : goal.get-requires-clause-rule
get-requires-clause-rule g c = let it = c.gather-segments.result in let back = c.gather-segments.ensures.back in
    turns _ _ _ _ _ g.R.Phased.rest (key_of it.segments) g.R.TableRule.holds g.met.R.Phased.from g.met.R.Phased.back (number_of it.seat) (view_of it.seat) _ 0
    it.seated.1 back.none it.seated.2 (g.met.R.Settles.settles (key_of it.segments) (view_of it.seat).promise)

pub returns : goal.returns
returns g c = let back = c.gather-segments.ensures.back in let told = c.get.ensures.told in let v = view_of c.gather-segments.result.seat in let ends = told.1 _ c.gather-segments.result.seated.2 in record {
  ends = record {
    same = search rules;
    unknown = search rules;
    ends = record {
      ended = ended_of _ _ _ _ _ _ v _ _ _ ends c.gather-segments.ensures.same.1 back.promise back.start (λ i. (told.0 i).seen);
      returned = λ i p at. returned_of v _ _ i (pass_view (g.W.Wraps.inner p).pass) (ends.returned i _ (back.back i p at)) back.start (λ i. (told.0 i).seen);
    };
  };
}
