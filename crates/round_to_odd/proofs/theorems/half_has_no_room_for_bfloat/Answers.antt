use Rattle.round_to_odd.proofs.Rooms.{no_room}
use Rattle.round_to_odd.proofs.theorems.half_has_no_room_for_bfloat.Goals as goal

pub returns : goal.returns
returns c = no_room
