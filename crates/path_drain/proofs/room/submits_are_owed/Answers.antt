use Rattle.path_drain.proofs.RoomOwed.{room-submitted}
use Rattle.path_drain.proofs.room.submits_are_owed.Goals as goal

pub returns : goal.returns
returns c = room-submitted
