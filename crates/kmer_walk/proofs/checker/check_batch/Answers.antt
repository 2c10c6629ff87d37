use Rattle.std.proofs.Common.{◌≡◌, ◌∙◌, ◌+◌, ◌++◌, ℕ, None, Err, map, arith, ap, subst}
use Rattle.std.proofs.lemmas.List.{get_or_default}
use Rattle.std.proofs.lemmas.Result.{err_from_is_err_and}
use Rattle.bcl_map.specs.Parts.{lead_key, pass_view}
use Rattle.kmer_paths.specs.declared.fault.WalkFault.TheVariants as faults
use Rattle.kmer_walk.specs.Nodes.{nodes_from, starts_from}
use Rattle.kmer_walk.specs.Book.{find_of}
use Rattle.kmer_walk.specs.Finds.{Makes}
use Rattle.kmer_walk.specs.Checks.{IsReady, AreConsistent}
use Rattle.kmer_walk.proofs.Consistent.{consistent_more, conflict_later, conflict_earlier, line_consistent, line_conflicts}
use Rattle.kmer_walk.proofs.Parts.{checks_none, checks_more, starts_none, starts_more}
use Rattle.kmer_walk.proofs.checker.check_batch.Goals as goal

pub loop-i-init : goal.loop-i-init
loop-i-init c =
    let nodes = c.args.nodes.now in let from = c.args.from in record {
      consistent = λ place low high. absurd (omega arith);
      makes = checks_none nodes.k nodes.lines.now (lead_key nodes.lead.now) from (from + 0) (omega arith) (pass_view c.args.pass.now);
      starts = starts_none nodes.k nodes.lines.now from (from + 0) (omega arith) c.args.starts.now.items;
      asks = c.requires.asks;
      of = c.requires.of;
    }

pub check_line-requires-clause-ready : goal.check_line-requires-clause-ready
check_line-requires-clause-ready c =
    let nodes = c.args.nodes.now in
    subst (IsReady nodes.k nodes.lines.now (lead_key nodes.lead.now) (c.args.from + c.loop-i.i))
    (get_or_default c.args.batch.now c.loop-i.i None c.index-batch-i.result (let n = c.type_inv.batch in omega arith))
    (c.requires.ready c.loop-i.i c.loop-i-test.true)

pub loop-i-preserved : goal.loop-i-preserved
loop-i-preserved c =
    let nodes = c.args.nodes.now in let k = nodes.k in let lines = nodes.lines.now in let from = c.args.from in let i = c.loop-i.i in
    let before = c.loop-i.invariant in
    let line = c.in_ok-check_line.ensures in
    let next = from + (i + 1) in
    let one : from + i + 1 ≡ next = omega arith in
    let shape = lead_key nodes.lead.now in
    record {
      consistent = consistent_more k lines from (from + i) next before.consistent (subst (λ (n : ℕ). AreConsistent k lines (from + i) n) one (line_consistent k lines (from + i) line.consistent));
      makes = checks_more k lines shape from (from + i) next (omega arith) (omega arith) (pass_view c.args.pass.now) (pass_view c.loop-i.pass) (pass_view c.check_line.new.pass) before.makes
          (subst (λ (n : ℕ). Makes shape (map (find_of k lines) (nodes_from lines (from + i) n)) (pass_view c.loop-i.pass) (pass_view c.check_line.new.pass)) one line.makes);
      starts = starts_more k lines from (from + i) next (omega arith) (omega arith) c.args.starts.now.items c.loop-i.starts.items c.check_line.new.starts.items before.starts
          (line.starts ∙ ap (λ (n : ℕ). c.loop-i.starts.items ++ starts_from k lines (from + i) n) one);
      asks = line.asks;
      of = line.of;
    }

pub returns-in_err-check_line-clause-conflict : goal.returns-in_err-check_line-clause-conflict
returns-in_err-check_line-clause-conflict c n e =
    let nodes = c.args.nodes.now in let k = nodes.k in let lines = nodes.lines.now in let from = c.args.from in let i = c.loop-i.i in
    let p = err_from_is_err_and c.from_residual.result c.from_residual.ensures.1 in
    let at = rw (p.1, p.2) at e in
    let same : c.in_err-check_line.field-0.0 ≡ faults.Conflict n = cc (at) in
    let is = c.in_err-check_line.ensures.conflict n (ap Err same) in
    let test = c.loop-i-test.true in
    conflict_earlier k lines from (from + i + 1) (from + c.args.count) n (omega arith)
    (conflict_later k lines from (from + i) (from + i + 1) n (omega arith) c.loop-i.invariant.consistent (line_conflicts k lines (from + i) n is.0 is.1))
