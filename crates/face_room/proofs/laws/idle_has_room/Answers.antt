use Rattle.face_room.proofs.RoomLemmas.{idle_has_room}
use Rattle.face_room.proofs.laws.idle_has_room.Goals as goal

pub returns-clause-room : goal.returns-clause-room
returns-clause-room c = idle_has_room
