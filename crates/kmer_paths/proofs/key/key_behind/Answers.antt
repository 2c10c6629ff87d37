use Rattle.std.proofs.Common.{◌∙◌, ◌+◌, ◌-◌, ◌*◌, ◌%◌, ◌^◌, arith, ap}
use Rattle.std.proofs.Math.Nat.{mod-lt}
use Rattle.kmer_text.proofs.Numbers.{four-pos, four-le}
use Rattle.kmer_text.proofs.Rolling.{masked}
use Rattle.kmer_paths.proofs.key.key_behind.Goals as goal

pub overflow_mul-result : goal.overflow_mul-result
overflow_mul-result c =
    let j = c.args.k - 1 in
    let rest = masked c.key.inside.bits j (omega (arith, c.requires.k.most)) in
    omega (arith, rest, mod-lt c.key.inside.bits (four-pos j), four-le j 30 (omega (arith, c.requires.k.most)))

pub overflow_add-result : goal.overflow_add-result
overflow_add-result c =
    let j = c.args.k - 1 in
    let rest = masked c.key.inside.bits j (omega (arith, c.requires.k.most)) in
    omega (arith, rest, mod-lt c.key.inside.bits (four-pos j), four-le j 30 (omega (arith, c.requires.k.most)))

pub returns : goal.returns
returns c =
    let j = c.args.k - 1 in
    ap (λ n. n * 4 + c.args.digit) (masked c.key.inside.bits j (omega (arith, c.requires.k.most)) ∙ ap (λ n. n % 4 ^ j) c.key.view_is)
