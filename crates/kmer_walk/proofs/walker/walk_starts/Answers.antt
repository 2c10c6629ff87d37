use Rattle.std.proofs.Common.{◌≡◌, ◌∙◌, ◌+◌, ◌<◌, List, ℕ, [], ◌∷◌, ◌++◌, length, map, take, get_or, Err, arith, refl, sym, ap, subst, length-append}
use Rattle.std.proofs.lemmas.List.{take_more}
use Rattle.std.proofs.lemmas.Result.{err_from_is_err_and}
use Rattle.bcl_map.specs.Parts.{lead_key, pass_view}
use Rattle.kmer_paths.specs.declared.fault.WalkFault.TheVariants.{TooLong}
use Rattle.kmer_paths.specs.Contigs.{contig}
use Rattle.kmer_walk.specs.Texts.{AreTexts, MakesWalks}
use Rattle.kmer_walk.proofs.Texts.{texts_none, texts_push, texts-more, bytes-more, bytes-rise}
use Rattle.kmer_walk.proofs.Makings.{walks_none, walks_trans}
use Rattle.kmer_walk.proofs.walker.walk_starts.Goals as goal

pub loop-i-init : goal.loop-i-init
loop-i-init c =
    let nodes = c.args.nodes.now in
    record {
      texts = subst (λ (z : List ℕ × List ℕ). AreTexts [] z.0 z.1) (λ i. (sym c.requires.empty.0 i, sym c.requires.empty.1 i)) texts_none;
      room = refl;
      walks = walks_none nodes.k nodes.lines.now (lead_key nodes.lead.now) (pass_view c.args.pass.now);
      asks = c.requires.asks;
      of = c.requires.of;
    }

pub returns-then-room-eq0-clause-too_long : goal.returns-then-room-eq0-clause-too_long
returns-then-room-eq0-clause-too_long c e =
    let nodes = c.args.nodes.now in
    let starts = c.args.starts.now in
    let i = c.loop-i.i in
    let of = contig nodes.k nodes.lines.now in
    omega (arith, c.loop-i.invariant.room, c.if-room-eq0.true, bytes-more of starts i (omega arith), bytes-rise of starts (i + 1))

pub returns-in_err-push_contig-clause-too_long : goal.returns-in_err-push_contig-clause-too_long
returns-in_err-push_contig-clause-too_long c e =
    let nodes = c.args.nodes.now in
    let starts = c.args.starts.now in
    let i = c.loop-i.i in
    let of = contig nodes.k nodes.lines.now in
    let p = err_from_is_err_and c.from_residual.result c.from_residual.ensures.1 in
    let at = rw (p.1, p.2) at e in
    let same : c.in_err-push_contig.field-0.0 ≡ TooLong = cc (at) in
    let long = c.in_err-push_contig.ensures.too_long (ap Err same) in
    omega (arith, c.loop-i.invariant.room, long, bytes-more of starts i (omega arith), bytes-rise of starts (i + 1))

pub loop-i-preserved : goal.loop-i-preserved
loop-i-preserved c =
    let nodes = c.args.nodes.now in
    let k = nodes.k in
    let ls = nodes.lines.now in
    let shape = lead_key nodes.lead.now in
    let starts = c.args.starts.now in
    let i = c.loop-i.i in
    let inv = c.loop-i.invariant in
    let old = c.loop-i.texts.bytes.items in
    let ends = c.loop-i.texts.ends.items in
    let bytes = c.push_contig.new.text.items in
    let pushed = c.in_ok-push_contig.ensures in
    let start = get_or starts i 0 in
    let text = contig k ls start in
    let low : i < length starts = omega arith in
    let end : length (old ++ text) ≡ c.len-end.result = omega (arith, ap length pushed.contig, c.len-end.ensures) in
    record {
      texts = subst (λ (z : List (List ℕ) × List ℕ × List ℕ). AreTexts z.0 z.1 z.2)
          (λ j. (sym (texts-more (contig k ls) starts i low) j, sym pushed.contig j, (ap (λ (n : ℕ). ends ++ n ∷ []) end ∙ sym c.in_ok-push.ensures.items) j))
          (texts_push (map (contig k ls) (take i starts)) text old ends inv.texts);
      room = omega (arith, inv.room, bytes-more (contig k ls) starts i low, ap length pushed.contig, length-append old text, pushed.short, c.len-begin.ensures, c.len-end.ensures, c.if-room-eq0.false);
      walks = subst (λ (xs : List ℕ). MakesWalks k ls shape xs (pass_view c.args.pass.now) (pass_view c.push_contig.new.pass)) (sym (take_more starts i 0 low))
          (walks_trans k ls shape (take i starts) (start ∷ []) (pass_view c.args.pass.now) (pass_view c.loop-i.pass) (pass_view c.push_contig.new.pass) inv.walks pushed.walks);
      asks = pushed.asks;
      of = pushed.of;
    }
