use Rattle.std.proofs.Common.{◌++◌, [], ◌∷◌, refl, ap, ◌∙◌}
use Rattle.bcl_map.specs.Parts.{lead_key, pass_view}
use Rattle.bcl_buffer.specs.Lanes.{Lanes, items}
use Rattle.bcl_buffer.proofs.Once.{once_none, once_stops, once_ends, one_less}
use Rattle.bcl_buffer.proofs.flushing.drain_all.Goals as goal

pub loop-init : goal.loop-init
loop-init g c = record {
  merged = ([], once_none g.K.Object.words g.V.Object.words g.L.MergeLaw.op (lead_key c.args.lead.now) (pass_view c.args.pass.now), refl);
  of = c.requires.of;
  exchanged = c.requires.exchanged;
  rank = refl;
  shape = refl;
}

pub loop-preserved : goal.loop-preserved
loop-preserved g c = let I = c.loop.invariant in let m = I.merged in let stops = c.in-Full.ensures.drains in let s = stops.0 in let p = c.in-Full.field-0 in record {
  merged = (
    m.0 ++ (s.done ++ p ∷ []),
    once_stops g.K.Object.words g.V.Object.words g.L.MergeLaw.op (lead_key c.args.lead.now) (pass_view c.args.pass.now) (pass_view c.loop.pass) (pass_view c.drain.new.pass) m.0 p (items c.loop.buffer) (items c.drain.new.self) m.1 s,
    one_less p (items c.args.buffer.now) m.0 s.done (items c.loop.buffer) (items c.drain.new.self) m.2 s.rest,
  );
  of = c.drain.ensures.of;
  exchanged = ap (λ (b : Lanes _). b.state) stops.1 ∙ I.exchanged;
  rank = ap (λ (b : Lanes _). b.rank) stops.1 ∙ I.rank;
  shape = ap (λ (b : Lanes _). b.shape) stops.1 ∙ I.shape;
}

pub returns-clause-merged : goal.returns-clause-merged
returns-clause-merged g c = let m = c.loop.invariant.merged in
    once_ends g.K.Object.words g.V.Object.words g.L.MergeLaw.op (lead_key c.args.lead.now) (pass_view c.args.pass.now) (pass_view c.loop.pass) (pass_view c.drain.new.pass) m.0 (items c.loop.buffer) (items c.args.buffer.now) m.1 c.in_default.ensures.drains.0 m.2
