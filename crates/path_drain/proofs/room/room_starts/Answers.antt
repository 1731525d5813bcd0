use Rattle.path_drain.proofs.RoomOwed.{room-starts}
use Rattle.path_drain.proofs.room.room_starts.Goals as goal

pub returns : goal.returns
returns c = room-starts
