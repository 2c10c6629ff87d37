use Rattle.std.proofs.Common.{◌+◌, ◌*◌, ◌≤◌, arith}
use Rattle.std.proofs.Math.Nat.{mul-le-mul_right}
use Rattle.bcl_phase.specs.Parts.{lead_key}
use Rattle.bcl_map.specs.Map.{places}
use Rattle.bcl_map.proofs.find.find_key.Goals as goal

pub returns-in-Free-clause-gets : goal.returns-in-Free-clause-gets
returns-in-Free-clause-gets g c = let kw = g.K.Object.WORDS in let L = lead_key c.args.lead.now in let within = c.in-Free.ensures.reaches.0.within in
    let upto : c.in-Free.field-0.number * (1 + kw) ≤ places L * (1 + kw) = mul-le-mul_right (1 + kw) (omega arith) in let walk = c.in-Free.ensures.gets in let some = c.requires.value.least in omega arith
