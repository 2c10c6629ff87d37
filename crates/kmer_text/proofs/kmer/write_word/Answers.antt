use Rattle.std.proofs.Common.{◌≡◌, ◌∙◌, ◌+◌, ◌-◌, ◌/◌, ◌^◌, ◌++◌, length, drop, sym, arith, ap}
use Rattle.std.proofs.Math.Nat.{div-div-eq-div-mul}
use Rattle.std.proofs.lemmas.Nat.{pow-add}
use Rattle.kmer_text.specs.Kmers.{word_of}
use Rattle.kmer_text.proofs.Numbers.{word_of-append}
use Rattle.kmer_text.proofs.kmer.write_word.Goals as goal

pub loop-left-preserved : goal.loop-left-preserved
loop-left-preserved c =
    let bits = c.args.bits in let out = c.loop-left.out in let rest = c.loop-left.rest in let inv = c.loop-left.invariant in
    let done = length out - c.loop-left.left in let new = c.write_four.new.out in
    let long : length new ≡ length out = c.write_four.ensures.length in
    let more : done + 4 ≡ length new - (c.loop-left.left - 4) = omega (arith, long) in
    let front : 4 + done ≡ length new - (c.loop-left.left - 4) = omega (arith, long) in
    let behind : c.loop-left.left - 4 + 4 ≡ c.loop-left.left = omega arith in
    record {
      same = long ∙ inv.same;
      place = omega (arith, long);
      number = ap (λ n. n / 256) inv.number ∙ (div-div-eq-div-mul bits (4 ^ done) 256 ∙ ap (λ n. bits / n) (sym (pow-add 4 done 4) ∙ ap (λ n. 4 ^ n) more));
      written = c.write_four.ensures.written
          ∙ (ap (λ n. word_of 4 rest ++ drop n out) behind
          ∙ (ap (λ w. word_of 4 rest ++ w) inv.written
          ∙ (ap (λ n. word_of 4 n ++ word_of done bits) inv.number
          ∙ (sym (word_of-append 4 done bits) ∙ ap (λ n. word_of n bits) front))));
    }

pub returns : goal.returns
returns c =
    let bits = c.args.bits in let left = c.loop-left.left in let out = c.loop-left.out in let inv = c.loop-left.invariant in
    let done = length out - left in
    let whole : left + done ≡ length c.args.out.now = omega (arith, inv.same) in
    c.write_before.ensures
    ∙ (ap (λ w. word_of left c.loop-left.rest ++ w) inv.written
    ∙ (ap (λ n. word_of left n ++ word_of done bits) inv.number
    ∙ (sym (word_of-append left done bits) ∙ ap (λ n. word_of n bits) whole)))
