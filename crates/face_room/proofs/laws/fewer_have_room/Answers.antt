use Rattle.face_room.proofs.RoomLemmas.{fewer_have_room}
use Rattle.face_room.proofs.laws.fewer_have_room.Goals as goal

pub returns : goal.returns
returns c = fewer_have_room
