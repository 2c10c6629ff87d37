use Rattle.bcl_event.proofs.Orders.{keeps_order}
use Rattle.bcl_event.proofs.laws.items_are_taken_in_order.Goals as goal

pub returns : goal.returns
returns c = keeps_order
