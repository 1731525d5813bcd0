use Rattle.path_drain.proofs.RoomExamples.{starts-room}
use Rattle.path_drain.proofs.examples.a_path_begins_with_room.Goals as goal

pub returns : goal.returns
returns c = starts-room
