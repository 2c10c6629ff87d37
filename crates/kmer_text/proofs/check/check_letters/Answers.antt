use Rattle.std.proofs.Common.{take, length, length-append, ap, sym, refl, arith}
use Rattle.std.proofs.lemmas.List.{take_all}
use Rattle.kmer_text.specs.Letters.{bad_letter_at}
use Rattle.kmer_text.specs.Windows.{all_windows, windows, total}
use Rattle.kmer_text.proofs.Runs.{all_windows_more, letters_more}
use Rattle.kmer_text.proofs.BadLetters.{bad_letter-here, bad_letter-none, names_bad, not_many, names_none}
use Rattle.kmer_text.proofs.check.check_letters.Goals as goal

pub loop-i-preserved : goal.loop-i-preserved
loop-i-preserved c =
    let ls = c.args.lines.now in
    let line = c.line-line.result.now in
    let at = c.line-line.ensures in
    let so_far = all_windows c.args.k (take c.loop-i.i ls) in
    let more = all_windows_more c.args.k ls c.loop-i.i line (omega arith) at in
    record {
      letters = letters_more ls c.loop-i.i line (omega arith) at c.loop-i.invariant.letters (sym c.if-not-are_letters.ensures);
      count = omega (arith, ap length more, length-append so_far (windows c.args.k line), c.loop-i.invariant.count, c.saturating_add-total.ensures, c.count_of.ensures);
    }

pub returns-then-not-are_letters-clause-bad : goal.returns-then-not-are_letters-clause-bad
returns-then-not-are_letters-clause-bad c =
    let ls = c.args.lines.now in
    names_bad ls (bad_letter_at c.loop-i.i) (bad_letter-here ls c.loop-i.i c.line-line.result.now (omega arith) c.line-line.ensures c.loop-i.invariant.letters (sym c.if-not-are_letters.ensures))

pub returns-then-not-are_letters-clause-too_many : goal.returns-then-not-are_letters-clause-too_many
returns-then-not-are_letters-clause-too_many c =
    let ls = c.args.lines.now in
    not_many ls (bad_letter_at c.loop-i.i) (total c.args.k ls) (bad_letter-here ls c.loop-i.i c.line-line.result.now (omega arith) c.line-line.ensures c.loop-i.invariant.letters (sym c.if-not-are_letters.ensures))

pub returns-then-total-gt-MAX_WINDOWS-clause-bad : goal.returns-then-total-gt-MAX_WINDOWS-clause-bad
returns-then-total-gt-MAX_WINDOWS-clause-bad c =
    names_none c.args.lines.now _ (bad_letter-none c.args.lines.now c.loop-i.i (omega arith) c.loop-i.invariant.letters) (λ fault e. cc)

pub returns-then-total-gt-MAX_WINDOWS-clause-too_many : goal.returns-then-total-gt-MAX_WINDOWS-clause-too_many
returns-then-total-gt-MAX_WINDOWS-clause-too_many c =
    let ls = c.args.lines.now in
    let whole = ap (total c.args.k) (take_all c.loop-i.i ls (omega arith)) in
    (λ _. (bad_letter-none ls c.loop-i.i (omega arith) c.loop-i.invariant.letters, omega (arith, whole, c.loop-i.invariant.count, c.if-total-gt-MAX_WINDOWS.true)), λ _. refl)

pub returns-clause-bad : goal.returns-clause-bad
returns-clause-bad c =
    names_none c.args.lines.now _ (bad_letter-none c.args.lines.now c.loop-i.i (omega arith) c.loop-i.invariant.letters) (λ fault e. cc)
