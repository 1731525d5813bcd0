use Rattle.path_drain.proofs.RoomLaws.{room-kept}
use Rattle.path_drain.proofs.room.room_is_kept.Goals as goal

pub returns : goal.returns
returns c = room-kept
