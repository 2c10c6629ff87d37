use Rattle.std.proofs.Common.{◌≡◌, ◌∙◌, ◌+◌, ◌-◌, ◌*◌, ◌/◌, ◌%◌, ◌^◌, ◌∷◌, ◌++◌, suc, drop, arith, ap, length-set}
use Rattle.std.proofs.Math.Nat.{div-div-eq-div-mul}
use Rattle.std.proofs.lemmas.List.{drop-set}
use Rattle.kmer_text.specs.Kmers.{letter_of, word_of}
use Rattle.kmer_text.proofs.Numbers.{four-suc}
use Rattle.kmer_text.proofs.kmer.write_before.Goals as goal

pub loop-left-preserved : goal.loop-left-preserved
loop-left-preserved c =
    let out = c.loop-left.out in let behind = drop c.args.end c.args.out.now in
    let at = c.loop-left.left - 1 in
    let bits = c.args.bits in
    let done = c.args.end - c.loop-left.left in
    let inv = c.loop-left.invariant in
    let long = length-set out at c.letter.result in
    let more : suc done ≡ c.args.end - at = omega arith in
    let here : at + 1 ≡ c.loop-left.left = omega arith in
    let times_four : 4 ^ done * 4 ≡ 4 ^ suc done = omega (arith, four-suc done) in
    record {
      place = omega arith;
      in_range = omega (arith, long);
      number = ap (λ n. n / 4) inv.number ∙ (div-div-eq-div-mul bits (4 ^ done) 4 ∙ ap (λ n. bits / n) (times_four ∙ ap (λ n. 4 ^ n) more));
      written = drop-set out at c.letter.result (omega arith)
          ∙ (ap (λ i. c.letter.result ∷ drop i out) here
          ∙ (ap (λ w. c.letter.result ∷ w) inv.written
          ∙ (ap (λ x. x ∷ (word_of done bits ++ behind)) (c.letter.ensures ∙ ap (λ n. letter_of (n % 4)) inv.number)
          ∙ ap (λ n. word_of n bits ++ behind) more)));
    }
