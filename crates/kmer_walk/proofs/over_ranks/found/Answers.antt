use Rattle.std.proofs.Common.{◌≡◌, ◌∙◌, Err, map, ap, sym, subst, arith}
use Rattle.std.proofs.lemmas.Result.{err_from_is_err_and}
use Rattle.bcl_phase.specs.Parts.{lead_view}
use Rattle.bcl_map.specs.Parts.{lead_key, pass_view}
use Rattle.bcl_buffer.proofs.Shares.{there, within}
use Rattle.kmer_paths.specs.Contigs.{starts, contig, contigs, in_byte_order}
use Rattle.kmer_paths.specs.declared.fault.WalkFault.TheVariants as faults
use Rattle.kmer_paths.proofs.ByteOrder.{bytes-sorted}
use Rattle.kmer_walk.specs.Texts.{HaveTexts, size_of}
use Rattle.kmer_walk.proofs.Flat.{contigs_by_rank, have_contigs, whole_contigs, text_long}
use Rattle.kmer_walk.proofs.Founds.{begun_asks, checks_then_walks}
use Rattle.kmer_walk.proofs.over_ranks.found.Goals as goal

pub checked-requires-clause-asks : goal.checked-requires-clause-asks
checked-requires-clause-asks g c κs outlives i p at =
    let lead = c.args.nodes.now.lead.now in
    begun_asks _ (lead_key lead) (lead_view lead.lead).start i (pass_view p) (c.requires.begins.begun i p at)

pub gathered-requires-clause-lie : goal.gathered-requires-clause-lie
gathered-requires-clause-lie g c κs outlives =
    let nodes = c.args.nodes.now in
    let all = contigs_by_rank nodes.k nodes.lines.now c.args.ranks c.requires.ranks.0 in (
      all,
      subst (HaveTexts all) (sym c.deref.ensures.value)
          (have_contigs nodes.k nodes.lines.now c.args.ranks c.requires.ranks.0 c.in_ok-passes-2.parts.items c.in_ok-passes-2.ensures.count c.in_ok-passes-2.ensures.texts),
    )

pub returns-in_err-passes-2-clause-too_long : goal.returns-in_err-passes-2-clause-too_long
unfolding contigs
returns-in_err-passes-2-clause-too_long g c e =
    let nodes = c.args.nodes.now in
    let p = err_from_is_err_and c.from_residual-in_err-passes-2.result c.from_residual-in_err-passes-2.ensures.1 in
    let at = rw (p.1, p.2) at e in
    let same : c.in_err-passes-2.field-0.0 ≡ faults.TooLong = cc (at) in
    let long = c.in_err-passes-2.ensures.too_long (ap Err same) in
    (c.in_ok-passes.ensures.consistent, omega (arith, long, bytes-sorted (map (contig nodes.k nodes.lines.now) (starts nodes.k nodes.lines.now))))

pub returns-in_err-texts-clause-too_long : goal.returns-in_err-texts-clause-too_long
unfolding contigs
returns-in_err-texts-clause-too_long g c e =
    let nodes = c.args.nodes.now in
    let p = err_from_is_err_and c.from_residual-in_err-texts.result c.from_residual-in_err-texts.ensures.1 in
    let at = rw (p.1, p.2) at e in
    let same : c.in_err-texts.field-0.0 ≡ faults.TooLong = cc (at) in
    let size = c.in_err-texts.ensures.too_long (ap Err same) in
    let long = text_long nodes.k nodes.lines.now c.args.ranks c.requires.ranks.0 c.in_ok-passes-2.parts.items c.in_ok-passes-2.ensures.count c.in_ok-passes-2.ensures.texts in
    (c.in_ok-passes.ensures.consistent, omega (arith, size, long, ap size_of c.deref.ensures.value))

pub returns-clause-texts : goal.returns-clause-texts
unfolding contigs
returns-clause-texts g c =
    let nodes = c.args.nodes.now in
    let all = contigs_by_rank nodes.k nodes.lines.now c.args.ranks c.requires.ranks.0 in
    c.in_ok-texts.ensures.texts all (subst (HaveTexts all) (sym c.deref.ensures.value)
    (have_contigs nodes.k nodes.lines.now c.args.ranks c.requires.ranks.0 c.in_ok-passes-2.parts.items c.in_ok-passes-2.ensures.count c.in_ok-passes-2.ensures.texts))
    ∙ ap in_byte_order (whole_contigs nodes.k nodes.lines.now c.args.ranks c.requires.ranks.0)

pub returns-clause-finds : goal.returns-clause-finds
returns-clause-finds g c i p q was at =
    let nodes = c.args.nodes.now in
    let low = within c.args.passes.items i p was in
    let long = c.requires.begins.all.count in
    let between = c.in_ok-passes.ensures.all.count in
    let m = there c.in_ok-passes.passes.items i (omega arith) in
    checks_then_walks nodes.k nodes.lines.now (lead_key nodes.lead.now) i c.args.ranks (pass_view p) (pass_view m.0) (pass_view q)
    (c.in_ok-passes.ensures.makes i p m.0 was m.1) (c.in_ok-passes-2.ensures.walks i m.0 q m.1 at)

pub returns-clause-short : goal.returns-clause-short
unfolding contigs
returns-clause-short g c =
    let nodes = c.args.nodes.now in
    let long = text_long nodes.k nodes.lines.now c.args.ranks c.requires.ranks.0 c.in_ok-passes-2.parts.items c.in_ok-passes-2.ensures.count c.in_ok-passes-2.ensures.texts in
    omega (arith, long, ap size_of c.deref.ensures.value, c.in_ok-texts.ensures.short)
