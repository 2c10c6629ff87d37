use Rattle.std.proofs.Common.{◌≡◌, ℕ, suc, ◌+◌, ◌*◌, ◌<◌, ◌≤◌, inl, inr, refl, sym, ◌∙◌, subst, ⊎_elim, arith}
use Rattle.bcl_phase.specs.Parts.{lead_key, lead_heads, lead_layout, pass_view}
use Rattle.bcl_map.specs.Map.{places, size, path}
use Rattle.bcl_map.specs.Notes.{Knows}
use Rattle.bcl_map.specs.Calls.{IsBucketAt, MapView, after}
use Rattle.bcl_map.specs.Reaches.{Comes, IsHeading}
use Rattle.bcl_map.proofs.Walks.{along}
use Rattle.bcl_map.proofs.Done.{stood_came, free_from, past_from, came_through, gets_all}
use Rattle.bcl_map.proofs.reach.reach_from.Goals as goal

pub loop-number-init : goal.loop-number-init
loop-number-init g c = record {
  of = c.requires.of;
  at = c.requires.at;
  on = λ _. (inl (refl, refl), c.requires.heading);
  ends = λ over. let low = c.requires.number in absurd (omega arith);
  gets = omega arith;
  each = omega arith;
  puts = refl;
  atomics = refl;
}

pub returns-in-Free-clause-reaches : goal.returns-in-Free-clause-reaches
returns-in-Free-clause-reaches g c = let op = g.L.MergeLaw.op in let L = lead_key c.args.lead.now in let k = c.args.key.now in let u = pass_view c.args.pass.now in let v = pass_view c.loop-number.pass in let w = pass_view c.look_at.new.pass in
    let from = c.args.from.number in let d = c.loop-number.number in let low : d < places L = (let test = c.loop-number-test.true in let all = c.requires.places in omega arith) in let on = c.loop-number.invariant.on low in (
      record { at = c.loop-number.invariant.at; within = low },
      free_from op L u v w (stood_came op L from d u v on.0) (g.C.Walking.walker c.args.call.now k) k d c.in-Free.ensures.looks,
      λ knows. ⊎_elim
          (λ (first : (d ≡ from) × (v ≡ u)). absurd (c.in-Free.ensures.some (subst (λ (z : ℕ × MapView). Knows k (z.0 + 1) z.1.note.claims) (λ i. (sym first.0 i, sym first.1 i)) knows) refl))
          (λ (later : (from < d) × Comes op L u v). later.0) on.0,
    )

pub returns-in-Here-clause-reaches : goal.returns-in-Here-clause-reaches
returns-in-Here-clause-reaches g c = let op = g.L.MergeLaw.op in let L = lead_key c.args.lead.now in let u = pass_view c.args.pass.now in let v = pass_view c.loop-number.pass in let w = pass_view c.look_at.new.pass in
    let d = c.loop-number.number in let low : d < places L = (let test = c.loop-number-test.true in let all = c.requires.places in omega arith) in let on = c.loop-number.invariant.on low in let here = c.in-Here.ensures.looks in (
      record { at = c.loop-number.invariant.at; within = low },
      came_through op L u v w (stood_came op L c.args.from.number d u v on.0) here.0,
      here.1,
    )

pub returns-in-Here-clause-gets : goal.returns-in-Here-clause-gets
returns-in-Here-clause-gets g c = gets_all c.loop-number.number (places (lead_key c.args.lead.now)) g.K.Object.WORDS c.args.from.number (pass_view c.args.pass.now).gets (pass_view c.loop-number.pass).gets (pass_view c.look_at.new.pass).gets
    (let test = c.loop-number-test.true in let all = c.requires.places in omega arith) c.loop-number.invariant.gets c.in-Here.ensures.gets

pub loop-number-preserved : goal.loop-number-preserved
loop-number-preserved g c = let I = c.loop-number.invariant in let lead = c.args.lead.now in let L = lead_key lead in let kw = g.K.Object.WORDS in let vw = g.V.Object.WORDS in let op = g.L.MergeLaw.op in let k = c.args.key.now in
    let u = pass_view c.args.pass.now in let v = pass_view c.loop-number.pass in let w = pass_view c.look_at.new.pass in let from = c.args.from.number in let d = c.loop-number.number in
    let low : d < places L = (let test = c.loop-number-test.true in let all = c.requires.places in omega arith) in let stood = (I.on low).0 in
    let past = past_from op L u v w (stood_came op L from d u v stood) (g.C.Walking.walker c.args.call.now k) k d c.in-Passed.ensures.looks in
    let upto : from ≤ d = ⊎_elim (λ (first : (d ≡ from) × (v ≡ u)). let same = first.0 in omega arith) (λ (later : (from < d) × Comes op L u v). let more = later.0 in omega arith) stood in
    let next_one : suc d ≡ d + 1 = omega arith in let before = I.gets in let here = c.in-Passed.ensures.gets in let one : (d + 1) * (1 + kw) ≡ d * (1 + kw) + (1 + kw) = omega arith in record {
      of = c.in-Passed.ensures.of;
      at = subst (λ (z : _ × ℕ). IsBucketAt (size kw vw) (lead_layout lead) z.0 (path L k z.1)) (λ i. (sym (c.next_bucket-at.ensures.next ∙ (λ j. after c.loop-number.at (c.requires.end j) (size kw vw))) i, next_one i))
          (along kw vw (lead_heads lead) (lead_layout lead) L c.requires.shape k d c.loop-number.at I.at);
      on = λ more. let on = past.on (omega arith) in (inr (omega arith, on.0), (d + 1, omega arith, subst (λ (n : ℕ). IsHeading k n w) next_one on.1));
      ends = λ over. past.ends (omega arith);
      gets = omega arith;
      each = let least = I.each in let rise = c.in-Passed.ensures.rise in omega arith;
      puts = c.in-Passed.ensures.puts ∙ I.puts;
      atomics = c.in-Passed.ensures.atomics ∙ I.atomics;
    }
