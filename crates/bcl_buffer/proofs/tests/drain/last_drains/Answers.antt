use Rattle.std.proofs.Common.{rules, ◌≡◌, sym, ap, ◌∙◌, Some, true}
use Rattle.bcl_phase.proofs.Returns.{placed, last_placed, rest_placed}
use Rattle.bcl_map.specs.declared.shape.Shape.{Shape}
use Rattle.bcl_map.specs.Parts.{lead_key, pass_view, IsOf}
use Rattle.bcl_buffer.specs.Drains.{shape_in}
use Rattle.bcl_buffer.proofs.Running.{drains_goes}
use Rattle.bcl_buffer.proofs.tests.drain.last_drains.Goals as goal

pub drain-drained-requires-clause-of : goal.drain-drained-requires-clause-of
drain-drained-requires-clause-of g c κs within = (last_placed (λ i p. IsOf p c.args.lead.now × ((pass_view p).rank ≡ i)) _ _ _ c.in-Some.ensures.items c.requires.of).0

pub drain-drained-requires-clause-own : goal.drain-drained-requires-clause-own
drain-drained-requires-clause-own g c κs within = let last = last_placed (λ i p. IsOf p c.args.lead.now × ((pass_view p).rank ≡ i)) _ _ _ c.in-Some.ensures.items c.requires.of in
    let said : c.is_for.result ≡ true = (search rules) in
    let it = c.is_for.ensures said in record {
      of = last.0.1 ∙ ap (λ (s : Shape). Some s) (c.requires.shape ∙ ap (shape_in g.K.Object.WORDS) (sym it.1));
      rank = sym c.rank.ensures.rank ∙ sym it.0;
    }

pub returns-clause-of : goal.returns-clause-of
returns-clause-of g c = let last = last_placed (λ i p. IsOf p c.args.lead.now × ((pass_view p).rank ≡ i)) _ _ _ c.in-Some.ensures.items c.requires.of in
    placed (λ i p. IsOf p c.args.lead.now × ((pass_view p).rank ≡ i)) _ _ _ c.in_ok-push.ensures.items (rest_placed (λ i p. IsOf p c.args.lead.now × ((pass_view p).rank ≡ i)) _ _ _ c.in-Some.ensures.items c.requires.of) (
      c.drain-drained.ensures.of,
      (drains_goes g.K.Object.words g.V.Object.words g.L.MergeLaw.op (lead_key c.args.lead.now) c.args.buffer c.drain-drained.new.self (pass_view c.in-Some.pass) (pass_view c.drain-drained.new.pass) c.drain-drained.result c.drain-drained.ensures.drains).same_rank ∙ last.1,
    )
