use Rattle.bcl_event.proofs.Rooms.{none_full}
use Rattle.bcl_event.proofs.laws.maps_with_room_are_never_full.Goals as goal

pub returns : goal.returns
returns c = λ capacity op pairs history legal few. none_full capacity op pairs history legal few
