use Rattle.std.proofs.Common.{◌∙◌, sym, arith}
use Rattle.std.proofs.lemmas.Fmt.{decimal_injective}
use Rattle.bcl_settings.proofs.number.number_to.Goals as goal
use Rattle.bcl_settings.proofs.number.number_to.Goals.{then-n-lt1-via-then-n-lt1, then-n-lt1-via-else-n-lt1+then-n-from}

pub returns-then-n-lt1-clause-none : goal.returns-then-n-lt1-clause-none
returns-then-n-lt1-clause-none c n least most same =
    let one = decimal_injective c.in_ok-n.n n (omega arith) (omega arith) (sym c.in_ok-n.ensures.some ∙ same) in
    elim c.then-n-lt1.branch [
      | then-n-lt1-via-then-n-lt1 w ↦ omega (arith, one, least)
      | then-n-lt1-via-else-n-lt1+then-n-from w ↦ omega (arith, one, most)
    ]
