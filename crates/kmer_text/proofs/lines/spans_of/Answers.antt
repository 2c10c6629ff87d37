use Rattle.std.proofs.Common.{◌≤◌, length, slice_range, arith}
use Rattle.std.proofs.lemmas.List.Elements.{All-push}
use Rattle.kmer_text.specs.declared.lines.Span.{Span}
use Rattle.kmer_text.proofs.Cuts.{cut_more}
use Rattle.kmer_text.proofs.lines.spans_of.Goals as goal

pub loop-start-preserved : goal.loop-start-preserved
loop-start-preserved c =
    let text = c.args.text.now in
    let s : Span = record { start = c.loop-start.start; end = c.trimmed.result } in
    let pushed = c.in_ok-push.ensures.items in
    let P : Span → Type 0 = λ s. (s.start ≤ s.end) × (s.end ≤ length text) in
    record {
      cut = cut_more (λ (s : Span). slice_range text s.start s.end) c.loop-start.spans.items c.push.new.self.items s text c.loop-start.start c.line_end-end.result
          c.loop-start.invariant.cut c.loop-start-test.true c.line_end-end.ensures.place c.trimmed.ensures.line pushed;
      fits = rw pushed (All-push P c.loop-start.spans.items s c.loop-start.invariant.fits (c.trimmed.ensures.order, omega arith));
      in_range = omega arith;
    }
