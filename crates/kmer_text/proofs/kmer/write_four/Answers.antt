use Rattle.std.proofs.Common.{◌≡◌, ◌∙◌, ℕ, ◌+◌, ◌%◌, ◌*◌, ◌≤◌, List, ◌∷◌, ◌++◌, length, drop, set, get_or, refl, arith, ap, length-set}
use Rattle.std.proofs.lemmas.Grind.{drop-set_at}
use Rattle.kmer_text.specs.declared.kmer.TheConstants.{FOURS}
use Rattle.kmer_text.proofs.Fours.{four_at-is}
use Rattle.kmer_text.proofs.kmer.write_four.Goals as goal

-- four bytes in a row, written from the last on
drop-set_four : (out : List ℕ) (at a b c d : ℕ) → at + 4 ≤ length out
    → drop at (set (set (set (set out (at + 3) d) (at + 2) c) (at + 1) b) at a) ≡ a ∷ b ∷ c ∷ d ∷ drop (at + 4) out
drop-set_four out at a b c d room =
    let third = set out (at + 3) d in let second = set third (at + 2) c in let first = set second (at + 1) b in
    let l3 : length third ≡ length out = length-set out (at + 3) d in
    let l2 : length second ≡ length third = length-set third (at + 2) c in
    let l1 : length first ≡ length second = length-set second (at + 1) b in
    let end : at + 3 + 1 ≡ at + 4 = omega arith in
    drop-set_at first at at a refl (omega arith)
    ∙ (ap (λ xs. a ∷ xs) (drop-set_at second (at + 1) (at + 1) b refl (omega arith))
    ∙ (ap (λ xs. a ∷ b ∷ xs) (drop-set_at third (at + 2) (at + 1 + 1) c (omega arith) (omega arith))
    ∙ (ap (λ xs. a ∷ b ∷ c ∷ xs) (drop-set_at out (at + 3) (at + 2 + 1) d (omega arith) (omega arith))
    ∙ ap (λ n. a ∷ b ∷ c ∷ d ∷ drop n out) end)))

pub returns-clause-written : goal.returns-clause-written
returns-clause-written c =
    let out = c.args.out.now in let at = c.args.at in let from = c.args.bits % 256 * 4 in
    drop-set_four out at (get_or FOURS from 0) (get_or FOURS (from + 1) 0) (get_or FOURS (from + 2) 0) (get_or FOURS (from + 3) 0) c.requires
    ∙ ap (λ xs. xs ++ drop (at + 4) out) (four_at-is c.args.bits)
