use Rattle.std.proofs.Common.{rules, ◌≡◌, ◌++◌, [], ◌∷◌, List, All, length, refl, subst}
use Rattle.std.proofs.lemmas.List.Elements.{All-weaker}
use Rattle.bcl_words.specs.declared.pair.Pair.{Pair}
use Rattle.bcl_map.specs.Calls.{IsMine}
use Rattle.bcl_map.specs.Parts.{lead_key, pass_view}
use Rattle.bcl_buffer.proofs.Emptied.{all_behind}
use Rattle.bcl_buffer.proofs.Running.{merged_none, merged_trans, more_taken, mine_kept}
use Rattle.bcl_buffer.proofs.draining.drain_lane.Goals as goal

pub loop-starts-init : goal.loop-starts-init
loop-starts-init g c = record {
  merged = ([], merged_none g.K.Object.words g.V.Object.words g.L.MergeLaw.op (lead_key c.args.lead.now) (pass_view c.args.pass.now), refl);
  of = c.requires.of;
  mine = c.requires.mine;
}

pub returns-in-Full-clause-drains : goal.returns-in-Full-clause-drains
returns-in-Full-clause-drains g c = let m = c.loop-starts.invariant.merged in let d = c.in-Full.ensures.drains in record {
  done = m.0 ++ d.done;
  between = d.between;
  merged = merged_trans g.K.Object.words g.V.Object.words g.L.MergeLaw.op (lead_key c.args.lead.now) (pass_view c.args.pass.now) (pass_view c.loop-starts.pass) d.between m.0 d.done m.1 d.merged;
  refused = d.refused;
  rest = more_taken c.args.lane.now m.0 c.loop-starts.lane d.done (c.in-Full.pair ∷ c.drain_batch.new.lane) m.2 d.rest;
}

pub loop-starts-preserved : goal.loop-starts-preserved
loop-starts-preserved g c =
    let m = c.loop-starts.invariant.merged in let d = c.in_default.ensures.drains in
    let words = g.K.Object.words in let old = pass_view c.loop-starts.pass in let new = pass_view c.drain_batch.new.pass in record {
      merged = (
        m.0 ++ d.done,
        merged_trans words g.V.Object.words g.L.MergeLaw.op (lead_key c.args.lead.now) (pass_view c.args.pass.now) old new m.0 d.done m.1 d.merged,
        more_taken c.args.lane.now m.0 c.loop-starts.lane d.done c.drain_batch.new.lane m.2 d.rest,
      );
      of = c.in_default.ensures.of;
      mine = All-weaker (λ p. IsMine old (words p.a)) (λ p. IsMine new (words p.a)) (λ p. mine_kept old new (words p.a) d.merged.ran.same) c.drain_batch.new.lane
          (all_behind (λ p. IsMine old (words p.a)) d.done c.drain_batch.new.lane (subst (All (λ p. IsMine old (words p.a))) d.rest c.loop-starts.invariant.mine));
    }
