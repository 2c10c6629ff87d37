use Rattle.bcl_event.proofs.Folds.{values_are_folds, values_in_any_order}
use Rattle.bcl_event.proofs.laws.merges_leave_folds.Goals as goal

pub returns-clause-folds : goal.returns-clause-folds
returns-clause-folds c = λ capacity op pairs history key alone. values_are_folds op capacity key pairs history alone

pub returns-clause-any_order : goal.returns-clause-any_order
returns-clause-any_order c = λ passes op capacity other one two key any_order. values_in_any_order passes op any_order capacity other one two key
