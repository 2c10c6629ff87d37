use Rattle.bcl_event.specs.Map.{value_at}
use Rattle.bcl_event.specs.Array.{item_at}
use Rattle.bcl_event.proofs.NumbersPass.{sum_passes, lesser_passes, stored_sum_passes}
use Rattle.bcl_event.proofs.laws.numbers_make_numbers.Goals as goal

pub returns-clause-add : goal.returns-clause-add
returns-clause-add c = λ pairs key n. stored_sum_passes n (value_at key pairs)

pub returns-clause-fetch_add : goal.returns-clause-fetch_add
returns-clause-fetch_add c = λ items place n. sum_passes n (item_at place items)

pub returns-clause-fetch_min : goal.returns-clause-fetch_min
returns-clause-fetch_min c = λ items place n low. lesser_passes n (item_at place items) low
