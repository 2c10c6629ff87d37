use Rattle.std.proofs.Common.{◌≡◌, ◌+◌, Err, arith, ap}
use Rattle.std.proofs.lemmas.Result.{err_from_is_err_and}
use Rattle.bcl_map.specs.Parts.{lead_key, pass_view}
use Rattle.kmer_paths.specs.declared.fault.WalkFault.TheVariants as faults
use Rattle.kmer_walk.proofs.Consistent.{consistent_more, conflict_later, conflict_earlier}
use Rattle.kmer_walk.proofs.Parts.{checks_none, checks_more, starts_none, starts_more}
use Rattle.kmer_walk.proofs.checker.check_lines.Goals as goal

pub loop-from-init : goal.loop-from-init
loop-from-init c =
    let nodes = c.args.nodes.now in let first = c.args.first in record {
      low = omega arith;
      high = c.requires.order;
      consistent = λ place low high. absurd (omega arith);
      makes = checks_none nodes.k nodes.lines.now (lead_key nodes.lead.now) first first (omega arith) (pass_view c.args.pass.now);
      starts = starts_none nodes.k nodes.lines.now first first (omega arith) c.args.starts.now.items;
      asks = c.requires.asks;
      of = c.requires.of;
    }

pub loop-from-preserved : goal.loop-from-preserved
loop-from-preserved c =
    let nodes = c.args.nodes.now in let k = nodes.k in let lines = nodes.lines.now in let first = c.args.first in let from = c.loop-from.from in
    let before = c.loop-from.invariant in
    let low = before.low in
    let next = from + c.min-count.result in
    let batch = c.in_ok-check_batch.ensures in
    record {
      low = omega arith;
      high = omega arith;
      consistent = consistent_more k lines first from next before.consistent batch.consistent;
      makes = checks_more k lines (lead_key nodes.lead.now) first from next low (omega arith) (pass_view c.args.pass.now) (pass_view c.loop-from.pass) (pass_view c.check_batch.new.pass) before.makes batch.makes;
      starts = starts_more k lines first from next low (omega arith) c.args.starts.now.items c.loop-from.starts.items c.check_batch.new.starts.items before.starts batch.starts;
      asks = batch.asks;
      of = batch.of;
    }

pub returns-in_err-check_batch-clause-conflict : goal.returns-in_err-check_batch-clause-conflict
returns-in_err-check_batch-clause-conflict c n e =
    let nodes = c.args.nodes.now in let k = nodes.k in let lines = nodes.lines.now in let first = c.args.first in let from = c.loop-from.from in
    let p = err_from_is_err_and c.from_residual.result c.from_residual.ensures.1 in
    let at = rw (p.1, p.2) at e in
    let same : c.in_err-check_batch.field-0.0 ≡ faults.Conflict n = cc (at) in
    let is = c.in_err-check_batch.ensures.conflict n (ap Err same) in
    let low = c.loop-from.invariant.low in
    conflict_earlier k lines first (from + c.min-count.result) c.args.end n (omega arith)
    (conflict_later k lines first from (from + c.min-count.result) n low c.loop-from.invariant.consistent is)
