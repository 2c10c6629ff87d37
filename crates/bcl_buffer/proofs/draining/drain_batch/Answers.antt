use Rattle.std.proofs.Common.{rules, ◌≡◌, ◌≢◌, ◌+◌, ◌<◌, ◌≤◌, ◌++◌, ℕ, [], ◌∷◌, List, All, length, slice_index_or, length-append, refl, sym, ap, ◌∙◌, subst, arith}
use Rattle.std.proofs.Math.Seq.{get_or-append_seam}
use Rattle.std.proofs.lemmas.List.Elements.{All-head, All-tail, All-weaker}
use Rattle.bcl_words.specs.declared.pair.Pair.{Pair}
use Rattle.bcl_map.specs.declared.inserted.Inserted.TheVariants.{Full as was_full}
use Rattle.bcl_map.specs.Calls.{IsMine}
use Rattle.bcl_map.specs.Reaches.{inserted}
use Rattle.bcl_map.specs.Parts.{lead_key, pass_view}
use Rattle.bcl_buffer.proofs.Running.{had_room, merged_none, merged_one, merged_trans, more_taken, mine_kept}
use Rattle.bcl_buffer.proofs.draining.drain_batch.Goals as goal

pub loop-j-init : goal.loop-j-init
loop-j-init g c = record {
  merged = ([], merged_none g.K.Object.words g.V.Object.words g.L.MergeLaw.op (lead_key c.args.lead.now) (pass_view c.args.pass.now), refl, refl);
  of = c.requires.of;
  mine = c.requires.mine;
}

pub unreachable-requires : goal.unreachable-requires
unreachable-requires g c = let m = c.loop-j.invariant.merged in let few = c.requires.count.0 in let test = c.loop-j-test.true in
    let none : length c.loop-j.lane ≡ 0 = ap length c.in_default.ensures.0 in
    let all : length c.args.lane.now ≡ length m.0 + length c.loop-j.lane = ap length m.2 ∙ length-append m.0 c.loop-j.lane in let long = m.3 in omega arith

pub merge_from-requires-clause-mine : goal.merge_from-requires-clause-mine
merge_from-requires-clause-mine g c κs within =
    All-head (λ p. IsMine (pass_view c.loop-j.pass) (g.K.Object.words p.a)) c.in-Some.pair c.take.new.self (subst (All (λ p. IsMine (pass_view c.loop-j.pass) (g.K.Object.words p.a))) c.in-Some.ensures c.loop-j.invariant.mine)

pub merge_from-requires-clause-start : goal.merge_from-requires-clause-start
merge_from-requires-clause-start g c κs within = let m = c.loop-j.invariant.merged in let pair = c.in-Some.pair in
    c.requires.starts c.loop-j.j pair (let test = c.loop-j-test.true in omega arith)
    (sym (ap (λ (l : List (Pair _ _)). slice_index_or l c.loop-j.j pair) (m.2 ∙ ap (λ (l : List (Pair _ _)). m.0 ++ l) c.in-Some.ensures)
    ∙ (ap (λ (n : ℕ). slice_index_or (m.0 ++ pair ∷ c.take.new.self) n pair) (sym m.3) ∙ get_or-append_seam m.0 pair c.take.new.self pair)))

pub loop-j-preserved : goal.loop-j-preserved
loop-j-preserved g c =
    let m = c.loop-j.invariant.merged in
    let other : c.merge_from.result ≢ was_full = (λ e. search rules) in
    let words = g.K.Object.words in let old = pass_view c.loop-j.pass in let new = pass_view c.merge_from.new.self in record {
      merged = (
        m.0 ++ c.in-Some.pair ∷ [],
        merged_trans words g.V.Object.words g.L.MergeLaw.op (lead_key c.args.lead.now) (pass_view c.args.pass.now) old new m.0 (c.in-Some.pair ∷ []) m.1
            (merged_one words g.V.Object.words g.L.MergeLaw.op (lead_key c.args.lead.now) old new c.in-Some.pair (inserted c.merge_from.result) (had_room c.merge_from.result other) c.merge_from.ensures.stands),
        more_taken c.args.lane.now m.0 c.loop-j.lane (c.in-Some.pair ∷ []) c.take.new.self m.2 c.in-Some.ensures,
        length-append m.0 (c.in-Some.pair ∷ []) ∙ ap (λ (n : ℕ). n + 1) m.3,
      );
      of = c.merge_from.ensures.of;
      mine = All-weaker (λ p. IsMine old (words p.a)) (λ p. IsMine new (words p.a)) (λ p. mine_kept old new (words p.a) c.merge_from.ensures.stands.same) c.take.new.self
          (All-tail (λ p. IsMine old (words p.a)) c.in-Some.pair c.take.new.self (subst (All (λ p. IsMine old (words p.a))) c.in-Some.ensures c.loop-j.invariant.mine));
    }
