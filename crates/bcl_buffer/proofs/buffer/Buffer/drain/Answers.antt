use Rattle.std.proofs.Common.{rules, ◌≡◌, ◌++◌, ◌<◌, ◌≤◌, ◌^◌, ℕ, [], ◌∷◌, List, All, length, set, sym, ap, ◌∙◌, subst, append_assoc, arith, refl, replicate, ◌+◌}
use Rattle.std.proofs.lemmas.List.{append-nil, length-set}
use Rattle.std.proofs.lemmas.List.Elements.{All-nil}
use Rattle.bcl_words.specs.declared.pair.Pair.{Pair}
use Rattle.bcl_segment.specs.declared.layout.Layout.{Layout}
use Rattle.bcl_segment.specs.Places.{places}
use Rattle.bcl_map.specs.Parts.{lead_key, pass_view}
use Rattle.bcl_buffer.specs.declared.buffer.State.TheVariants.{Filling}
use Rattle.bcl_buffer.specs.Lanes.{Lanes, items, home_in}
use Rattle.bcl_buffer.specs.Drains.{Merged}
use Rattle.bcl_buffer.proofs.Running.{merged_none, merged_trans}
use Rattle.bcl_buffer.proofs.Emptied.{joined, AreEmpty, taken_here, emptied_more, all_emptied, joined_none, placed_set, all_behind, here_is, full_left, same_but_lanes, filling_again, placed_none, placed_in, placed_out, mine_of}
use Rattle.bcl_buffer.proofs.buffer.Buffer.drain.Goals as goal

pub loop-rank-init : goal.loop-rank-init
loop-rank-init g c = let long : length c.self.inside.lanes.items ≡ c.len-rank-end.result = search rules in record {
  merged = ([], merged_none g.K.Object.words g.V.Object.words g.L.MergeLaw.op (lead_key c.args.lead.now) (pass_view c.args.pass.now), sym (ap items c.self.view_is));
  of = c.requires.of;
  exchanged = ap (λ (b : Lanes _). b.state) c.self.view_is ∙ c.requires.exchanged;
  same = (ap (λ (b : Lanes _). b.rank) c.self.view_is, ap (λ (b : Lanes _). b.shape) c.self.view_is);
  long = long;
  ranks = sym long ∙ (c.self.invariant.0 ∙ ap (λ (b : Lanes _). b.shape.ranks) c.self.view_is);
  placed = placed_out (λ shape p. home_in g.K.Object.WORDS shape (g.K.Object.words p.a)) _ c.args.self.now c.self.view_is c.requires.exchanged c.self.invariant.4;
  emptied = λ r less. absurd (omega arith);
}

pub drain_lane-requires-clause-of : goal.drain_lane-requires-clause-of
drain_lane-requires-clause-of g c κs within = c.loop-rank.invariant.of

pub drain_lane-requires-clause-mine : goal.drain_lane-requires-clause-mine
drain_lane-requires-clause-mine g c κs within = let i = c.loop-rank.invariant in let ls = c.loop-rank.self-inside.lanes.items in let r = c.loop-rank.rank in
    let low : r < length ls = (let l = i.long in let t = c.loop-rank-test.true in omega arith) in
    mine_of g.K.Object.WORDS g.K.Object.words c.args.self.now (pass_view c.args.pass.now) (pass_view c.loop-rank.pass) c.requires.own i.merged.1.ran.same c.index_mut-lane.result.now
    (subst (All (λ p. home_in g.K.Object.WORDS c.args.self.now.shape (g.K.Object.words p.a) ≡ c.args.self.now.rank)) (sym (here_is ls r c.index_mut-lane.result.now low c.index_mut-lane.ensures.value)) (i.placed r))

pub invariant_of-self : goal.invariant_of-self
invariant_of-self g c = let i = c.loop-rank.invariant in let v = c.self.view_is in let d = c.in-Full.ensures.drains in let b = c.loop-rank.self-inside in let ls = b.lanes.items in let r = c.loop-rank.rank in
    let left = c.drain_lane.new.lane in
    let low : r < length ls = (let l = i.long in let t = c.loop-rank-test.true in omega arith) in
    let shape : c.self.inside.shape ≡ b.shape = ap (λ (z : Lanes _). z.shape) v ∙ sym i.same.1 in
    let home = λ (p : Pair _ _). home_in g.K.Object.WORDS c.args.self.now.shape (g.K.Object.words p.a) ≡ c.args.self.now.rank in (
      length-set ls r left ∙ (i.long ∙ (i.ranks ∙ ap (λ (l : Layout). l.ranks) (sym i.same.1))),
      subst (λ (n : ℕ). n < b.shape.ranks) (ap (λ (z : Lanes _). z.rank) v ∙ sym i.same.0) (subst (λ (l : Layout). c.self.inside.rank < l.ranks) shape c.self.invariant.1),
      subst (λ (l : Layout). 1 ≤ places l) shape c.self.invariant.2,
      subst (λ (l : Layout). places l ≤ 2 ^ 27) shape c.self.invariant.3,
      placed_in (λ shape p. home_in g.K.Object.WORDS shape (g.K.Object.words p.a)) (record { rank = b.rank; shape = b.shape; state = b.state; lanes = set ls r left }) c.args.self.now i.same.0 i.same.1 i.exchanged
          (placed_set home ls r left low i.placed
          (all_behind home (d.done ++ c.in-Full.pair ∷ []) left
          (subst (All home) (sym (here_is ls r c.index_mut-lane.result.now low c.index_mut-lane.ensures.value) ∙ (d.rest ∙ sym (append_assoc d.done (c.in-Full.pair ∷ []) left))) (i.placed r)))),
    )

pub returns-in-Full-clause-drains : goal.returns-in-Full-clause-drains
returns-in-Full-clause-drains g c = let i = c.loop-rank.invariant in let m = i.merged in let d = c.in-Full.ensures.drains in let b = c.loop-rank.self-inside in let ls = b.lanes.items in let r = c.loop-rank.rank in
    let left = c.drain_lane.new.lane in let p = c.in-Full.pair in
    let low : r < length ls = (let l = i.long in let t = c.loop-rank-test.true in omega arith) in (
      record {
        done = m.0 ++ d.done;
        between = d.between;
        merged = merged_trans g.K.Object.words g.V.Object.words g.L.MergeLaw.op (lead_key c.args.lead.now) (pass_view c.args.pass.now) (pass_view c.loop-rank.pass) d.between m.0 d.done m.1 d.merged;
        refused = d.refused;
        rest = full_left p (items c.args.self.now) m.0 d.done (joined (set ls r left))
            (taken_here (items c.args.self.now) m.0 (d.done ++ p ∷ []) left ls r low i.emptied m.2
            (sym (here_is ls r c.index_mut-lane.result.now low c.index_mut-lane.ensures.value) ∙ (d.rest ∙ sym (append_assoc d.done (p ∷ []) left))));
      },
      same_but_lanes (record { rank = b.rank; shape = b.shape; state = b.state; lanes = set ls r left }) c.args.self.now i.same.0 i.same.1 (i.exchanged ∙ sym c.requires.exchanged),
    )

pub loop-rank-preserved : goal.loop-rank-preserved
loop-rank-preserved g c = let i = c.loop-rank.invariant in let m = i.merged in let d = c.in_default.ensures.drains in let ls = c.loop-rank.self-inside.lanes.items in let r = c.loop-rank.rank in
    let here = c.index_mut-lane.result.now in let left = c.drain_lane.new.lane in
    let low : r < length ls = (let l = i.long in let t = c.loop-rank-test.true in omega arith) in
    let home = λ (p : Pair _ _). home_in g.K.Object.WORDS c.args.self.now.shape (g.K.Object.words p.a) ≡ c.args.self.now.rank in record {
      merged = (
        m.0 ++ here,
        merged_trans g.K.Object.words g.V.Object.words g.L.MergeLaw.op (lead_key c.args.lead.now) (pass_view c.args.pass.now) (pass_view c.loop-rank.pass) (pass_view c.drain_lane.new.pass) m.0 here m.1 d.0,
        taken_here (items c.args.self.now) m.0 here left ls r low i.emptied m.2
            (sym (here_is ls r here low c.index_mut-lane.ensures.value) ∙ sym (ap (λ (l : List (Pair _ _)). here ++ l) d.1 ∙ append-nil here)),
      );
      of = c.in_default.ensures.of;
      exchanged = i.exchanged;
      same = i.same;
      long = length-set ls r left ∙ i.long;
      ranks = i.ranks;
      placed = placed_set home ls r left low i.placed (subst (All home) (sym d.1) (All-nil home));
      emptied = subst (λ (x : List (Pair _ _)). AreEmpty (set ls r x) (r + 1)) (sym d.1) (emptied_more ls r low i.emptied);
    }

pub invariant_of-self-2 : goal.invariant_of-self-2
invariant_of-self-2 g c = let i = c.loop-rank.invariant in let v = c.self.view_is in let b = c.loop-rank.self-inside in let ls = b.lanes.items in
    let shape : c.self.inside.shape ≡ b.shape = ap (λ (z : Lanes _). z.shape) v ∙ sym i.same.1 in
    let none : AreEmpty ls (length ls) = (λ r less. i.emptied r (let l = i.long in let f = c.loop-rank-test.false in let t = c.loop-rank.auto.rank-end in omega arith)) in (
      i.long ∙ (i.ranks ∙ ap (λ (l : Layout). l.ranks) (sym i.same.1)),
      subst (λ (n : ℕ). n < b.shape.ranks) (ap (λ (z : Lanes _). z.rank) v ∙ sym i.same.0) (subst (λ (l : Layout). c.self.inside.rank < l.ranks) shape c.self.invariant.1),
      subst (λ (l : Layout). 1 ≤ places l) shape c.self.invariant.2,
      subst (λ (l : Layout). places l ≤ 2 ^ 27) shape c.self.invariant.3,
      placed_none (λ p. home_in g.K.Object.WORDS b.shape (g.K.Object.words p.a)) (record { rank = b.rank; shape = b.shape; state = Filling; lanes = ls }) (length ls) refl none,
    )

pub returns-clause-drains : goal.returns-clause-drains
returns-clause-drains g c = let i = c.loop-rank.invariant in let m = i.merged in let b = c.loop-rank.self-inside in let ls = b.lanes.items in
    let none : AreEmpty ls (length ls) = (λ r less. i.emptied r (let l = i.long in let f = c.loop-rank-test.false in let t = c.loop-rank.auto.rank-end in omega arith)) in (
      subst (λ (ps : List (Pair _ _)). Merged g.K.Object.words g.V.Object.words g.L.MergeLaw.op (lead_key c.args.lead.now) ps (pass_view c.args.pass.now) (pass_view c.loop-rank.pass))
          (sym (m.2 ∙ (ap (λ (l : List (Pair _ _)). m.0 ++ l) (joined_none ls (length ls) refl none) ∙ append-nil m.0))) m.1,
      filling_again (record { rank = b.rank; shape = b.shape; state = Filling; lanes = ls }) c.args.self.now i.same.0 i.same.1 refl
          (all_emptied ls (length ls) refl none ∙ ap (λ (n : ℕ). replicate n []) (i.long ∙ i.ranks)),
    )

pub returns-clause-of : goal.returns-clause-of
returns-clause-of g c = c.loop-rank.invariant.of
