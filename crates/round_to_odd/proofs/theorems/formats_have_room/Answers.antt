use Rattle.round_to_odd.proofs.Rooms.{rooms}
use Rattle.round_to_odd.proofs.theorems.formats_have_room.Goals as goal

pub returns : goal.returns
returns c = rooms
