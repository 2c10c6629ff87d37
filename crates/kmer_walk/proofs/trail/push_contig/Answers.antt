use Rattle.std.proofs.Common.{◌∙◌, ℕ, ◌-◌, List, [], ◌++◌, length, take, arith, sym, ap, length-take-le}
use Rattle.std.specs.Ordering.{nat_cmp}
use Rattle.std.specs.BTreeSet.{contains}
use Rattle.std.proofs.lemmas.Bool.{not-true, not-false}
use Rattle.std.proofs.lemmas.Option.{get_or_from_slice_get}
use Rattle.bcl_phase.specs.Parts.{lead_view}
use Rattle.bcl_map.specs.Parts.{lead_key, pass_view, IsOf}
use Rattle.kmer_text.proofs.GoodNodes.{node-good}
use Rattle.kmer_walk.proofs.Trails.{Whole, start-some, behind-low, letter-is, trail_begins, trail_goes, trail_long, whole_end, whole_none, whole_again}
use Rattle.kmer_walk.proofs.trail.push_contig.Goals as goal
use Rattle.kmer_walk.proofs.trail.push_contig.Goals.{else-loop-forward-test, then-loop-forward-test+in_default-find, then-loop-forward-test+in-Some-find+in_ok-insert-2+then-not-branch}

pub slice_bounds-extend_from_slice-end : goal.slice_bounds-extend_from_slice-end
slice_bounds-extend_from_slice-end c =
    let nodes = c.args.nodes.now in
    let ls = nodes.lines.now in
    let start = c.args.start in
    let same = get_or_from_slice_get ls start c.line.result.now [] c.line.ensures in
    let node = node-good nodes.k start ls nodes.good c.requires.place (start-some nodes.k start ls c.requires.start) in
    sym (length-take-le nodes.k c.line.result.now (omega (arith, node.0, ap length same)))

pub loop-forward-init : goal.loop-forward-init
loop-forward-init c =
    let nodes = c.args.nodes.now in
    let k = nodes.k in
    let ls = nodes.lines.now in
    let start = c.args.start in
    let before = c.args.text.now.items in
    let empty = c.new-marks.result in
    let marks = c.insert.new.self in
    let same = get_or_from_slice_get ls start c.line.result.now [] c.line.ensures in
    let node = c.in-Some.ensures in
    record {
      trail = trail_begins k ls (lead_key nodes.lead.now) start c.args.most before (lead_view nodes.lead.now.lead).start (pass_view c.args.pass.now) nodes.letters nodes.good c.requires.place
          _ _ (c.args.most - k) _ c.extend_from_slice.new.self.items empty marks (start-some k start ls c.requires.start) node.key node.forward
          (c.in_ok-extend_from_slice.ensures.items ∙ ap (λ (line : List ℕ). before ++ take k line) (sym same)) (omega (arith, c.if-most-letters.false)) c.requires.asks
          c.new-marks.ensures.empty node.line c.in_ok-insert.ensures.updates.0;
      of = c.requires.of;
    }

pub find-requires-clause-key : goal.find-requires-clause-key
find-requires-clause-key c =
    let nodes = c.args.nodes.now in
    let t = c.loop-forward.invariant.trail in
    behind-low nodes.k t.at c.loop-forward.key c.loop-forward.forward nodes.lines.now nodes.letters nodes.good t.here t.some t.key_is t.code_is c.loop-forward-test.true c.key_behind-key.result c.key_behind-key.ensures

pub returns-then-left-eq0-clause-too_long : goal.returns-then-left-eq0-clause-too_long
returns-then-left-eq0-clause-too_long c e =
    let nodes = c.args.nodes.now in
    let loop = c.loop-forward in
    let found = c.in-Some-find in
    trail_long nodes.k nodes.lines.now (lead_key nodes.lead.now) c.args.start c.args.most c.args.text.now.items (lead_view nodes.lead.now.lead).start (pass_view c.args.pass.now) nodes.letters nodes.good c.requires.place
    loop.key loop.forward loop.left loop.text.items loop.marks (pass_view loop.pass) loop.invariant.trail
    c.loop-forward-test.true c.key_behind-key.result c.key_behind-key.ensures (pass_view c.find.new.pass) found.ensures.makes found.ensures.asks
    found.next found.ensures.first (not-true (contains nat_cmp loop.marks found.next.line) (sym c.in_ok-insert-2.ensures.added ∙ c.if-not-branch.false)) c.if-left-eq0.true

pub loop-forward-preserved : goal.loop-forward-preserved
loop-forward-preserved c =
    let nodes = c.args.nodes.now in
    let ls = nodes.lines.now in
    let loop = c.loop-forward in
    let t = loop.invariant.trail in
    let found = c.in-Some-find in
    record {
      trail = trail_goes nodes.k nodes.lines.now (lead_key nodes.lead.now) c.args.start c.args.most c.args.text.now.items (lead_view nodes.lead.now.lead).start (pass_view c.args.pass.now) nodes.letters nodes.good c.requires.place
          loop.key loop.forward loop.left loop.text.items loop.marks (pass_view loop.pass) t
          c.loop-forward-test.true c.key_behind-key.result c.key_behind-key.ensures (pass_view c.find.new.pass) found.ensures.makes found.ensures.asks
          found.next found.ensures.first c.letter.result (loop.left - 1) c.push.new.self.items c.insert-in-loop-forward.new.self
          (not-true (contains nat_cmp loop.marks found.next.line) (sym c.in_ok-insert-2.ensures.added ∙ c.if-not-branch.false)) (omega (arith, c.if-left-eq0.false))
          (c.letter.ensures.letter ∙ letter-is nodes.k t.at loop.key loop.forward ls nodes.letters nodes.good t.here t.some t.key_is t.code_is c.loop-forward-test.true)
          c.in_ok-push.ensures.items c.in_ok-insert-2.ensures.updates.0;
      of = found.ensures.of;
    }

pub returns : goal.returns
returns c =
    let nodes = c.args.nodes.now in
    let loop = c.loop-forward in
    let shape = lead_key nodes.lead.now in
    let before = c.args.text.now.items in
    let history = (lead_view nodes.lead.now.lead).start in
    let old = pass_view c.args.pass.now in
    let text = loop.text.items in
    let ends : Whole nodes.k nodes.lines.now shape c.args.start c.args.most before history old text (pass_view c.loop-forward-test.pass) × IsOf c.loop-forward-test.pass nodes.lead.now =
    elim c.loop-forward-test.branch [
      | else-loop-forward-test w ↦ rw w.pass-is (
        whole_end nodes.k nodes.lines.now shape c.args.start c.args.most before history old nodes.letters nodes.good c.requires.place
            loop.key loop.forward loop.left text loop.marks (pass_view loop.pass) loop.invariant.trail w.loop-forward-test.false,
        loop.invariant.of,
      )
      | then-loop-forward-test+in_default-find w ↦ rw w.pass-is (
        whole_none nodes.k nodes.lines.now shape c.args.start c.args.most before history old nodes.letters nodes.good c.requires.place
            loop.key loop.forward loop.left text loop.marks (pass_view loop.pass) loop.invariant.trail
            w.loop-forward-test.true w.key_behind-key.result w.key_behind-key.ensures (pass_view w.find.new.pass) w.in_default-find.ensures.makes w.in_default-find.ensures.asks w.in_default-find.ensures.first,
        w.in_default-find.ensures.of,
      )
      | then-loop-forward-test+in-Some-find+in_ok-insert-2+then-not-branch w ↦ rw w.pass-is (
        whole_again nodes.k nodes.lines.now shape c.args.start c.args.most before history old nodes.letters nodes.good c.requires.place
            loop.key loop.forward loop.left text loop.marks (pass_view loop.pass) loop.invariant.trail
            w.loop-forward-test.true w.key_behind-key.result w.key_behind-key.ensures (pass_view w.find.new.pass) w.in-Some-find.ensures.makes w.in-Some-find.ensures.asks w.in-Some-find.next w.in-Some-find.ensures.first
            (not-false (contains nat_cmp loop.marks w.in-Some-find.next.line) (sym w.in_ok-insert-2.ensures.added ∙ w.if-not-branch.true)),
        w.in-Some-find.ensures.of,
      )
    ] in
    record {
      contig = ends.0.contig_is;
      short = ends.0.short;
      too_long = λ e. absurd (cc);
      no_conflict = λ n e. absurd (cc);
      walks = ends.0.walks;
      asks = ends.0.asks;
      of = ends.1;
    }
