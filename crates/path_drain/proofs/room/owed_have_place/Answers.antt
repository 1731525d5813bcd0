use Rattle.path_drain.proofs.RoomOwed.{owed-place}
use Rattle.path_drain.proofs.room.owed_have_place.Goals as goal

pub returns : goal.returns
returns c = owed-place
