use Rattle.bcl_event.proofs.Values.{pair_stores, value_stores}
use Rattle.bcl_event.proofs.laws.stored_values_are_found.Goals as goal

pub returns-clause-new : goal.returns-clause-new
returns-clause-new c = λ pairs key value h. pair_stores key value pairs h

pub returns-clause-replaced : goal.returns-clause-replaced
returns-clause-replaced c = λ pairs key value h. value_stores key value pairs h
