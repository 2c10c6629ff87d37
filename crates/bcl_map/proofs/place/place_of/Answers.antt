use Rattle.std.proofs.Common.{rules, ◌+◌, ◌*◌, ◌≤◌, inl, refl, sym, ap, ◌∙◌, subst, arith, List}
use Rattle.std.proofs.Math.Nat.{mul-le-mul_right}
use Rattle.bcl_event.specs.declared.map.MapReply.{MapReply}
use Rattle.bcl_event.specs.declared.map.MapReply.TheVariants.{New}
use Rattle.bcl_phase.specs.Parts.{lead_key, lead_heads, lead_layout, pass_view}
use Rattle.bcl_map.specs.Map.{Words, places}
use Rattle.bcl_map.specs.Notes.{Claim}
use Rattle.bcl_map.specs.Walking.{heading, strays, least}
use Rattle.bcl_map.specs.Reaches.{Ends}
use Rattle.bcl_map.proofs.Walks.{some_places}
use Rattle.bcl_map.proofs.Reached.{ends_behind, ends_still}
use Rattle.bcl_map.proofs.Done.{came_through, ends_from, tried}
use Rattle.bcl_map.proofs.place.place_of.Goals as goal

pub loop-bucket-init : goal.loop-bucket-init
loop-bucket-init g c = let lead = c.args.lead.now in let k = c.args.key.now in let walk = c.walk_from-walk.ensures in let first = walk.first in let at = walk.at in record {
  of = c.requires.of;
  at = search rules;
  within = let some = some_places g.K.Object.WORDS g.V.Object.WORDS (lead_heads lead) (lead_layout lead) (lead_key lead) c.requires.shape in omega arith;
  tries = record {
    came = inl refl;
    heads = (0, omega arith, c.requires.rest ∙ sym (ap (λ (claims : List Claim). heading (strays claims) k 0 (least claims)) c.requires.rest));
    lost = inl refl;
  };
  gets = search rules;
  each = omega arith;
  puts = refl;
}

pub returns-then-take-clause-placed : goal.returns-then-take-clause-placed
returns-then-take-clause-placed g c = let op = g.L.MergeLaw.op in let L = lead_key c.args.lead.now in let k = c.args.key.now in let walker = g.C.Walking.walker c.args.call.now k in
    let u = pass_view c.args.pass.now in let v = pass_view c.loop-bucket.pass in let w = pass_view c.reach_from.new.pass in let x = pass_view c.take.new.pass in let z = pass_view c.put_pair.new.pass in
    let on = c.in-Free.ensures.reaches.1.on (g.met.C.Storing.stores c.args.call.now k).on in
    let ends = ends_behind op L walker.call New v w x on.0 (c.take.ensures.won c.if-take.true).0 in
    (ends_still op L walker.call New u x z (ends_from op L u v x c.loop-bucket.invariant.tries.came walker.call New ends) c.put_pair.ensures.still c.put_pair.ensures.atomics, c.put_pair.ensures.rest)

pub returns-then-take-clause-gets : goal.returns-then-take-clause-gets
returns-then-take-clause-gets g c = let kw = g.K.Object.WORDS in let L = lead_key c.args.lead.now in let within = c.in-Free.ensures.reaches.0.within in
    let upto : c.in-Free.bucket.number * (1 + kw) ≤ places L * (1 + kw) = mul-le-mul_right (1 + kw) (omega arith) in
    let before = c.loop-bucket.invariant.gets in let walk = c.in-Free.ensures.gets in let walk' = c.in-Free.ensures.atomics in let take = c.take.ensures.gets in let take' = c.take.ensures.atomics in let put = c.put_pair.ensures.gets in let put' = c.put_pair.ensures.atomics in omega arith

pub loop-bucket-preserved : goal.loop-bucket-preserved
loop-bucket-preserved g c = let op = g.L.MergeLaw.op in let L = lead_key c.args.lead.now in let k = c.args.key.now in let I = c.loop-bucket.invariant in let reach = c.in-Free.ensures in let take = c.take.ensures in
    let u = pass_view c.args.pass.now in let v = pass_view c.loop-bucket.pass in let w = pass_view c.reach_from.new.pass in let z = pass_view c.take.new.pass in
    let on = reach.reaches.1.on (g.met.C.Storing.stores c.args.call.now k).on in let lost = take.lost c.if-take.false in
    let before = I.gets in let before' = I.each in let walk = reach.gets in let walk' = reach.each in let same = reach.atomics in let same' = take.gets in let one = take.atomics in record {
      of = take.of;
      at = reach.reaches.0.at;
      within = reach.reaches.0.within;
      tries = tried op L k c.loop-bucket.from.number c.in-Free.bucket.number u v w z I.tries reach.reaches.2 on.0 same lost.0 lost.1 one;
      gets = omega arith;
      each = omega arith;
      puts = take.puts ∙ (reach.puts ∙ I.puts);
    }

pub returns-in-Here-clause-placed : goal.returns-in-Here-clause-placed
returns-in-Here-clause-placed g c = let here = c.in-Here.ensures.reaches in
    (here.0, came_through g.L.MergeLaw.op (lead_key c.args.lead.now) (pass_view c.args.pass.now) (pass_view c.loop-bucket.pass) (pass_view c.reach_from.new.pass) c.loop-bucket.invariant.tries.came here.1, here.2)

pub returns-in-Past-clause-placed : goal.returns-in-Past-clause-placed
returns-in-Past-clause-placed g c = let op = g.L.MergeLaw.op in let L = lead_key c.args.lead.now in let k = c.args.key.now in let walker = g.C.Walking.walker c.args.call.now k in
    let u = pass_view c.args.pass.now in let v = pass_view c.loop-bucket.pass in let w = pass_view c.reach_from.new.pass in let past = c.in-Past.ensures.reaches in
    (subst (λ (a : MapReply Words). Ends op L walker.call a u w) (g.met.C.Storing.stores c.args.call.now k).full (ends_from op L u v w c.loop-bucket.invariant.tries.came walker.call walker.past past.0), past.1)
