use Rattle.face_room.proofs.RoomLemmas.{goes_within}
use Rattle.face_room.proofs.laws.goes_within.Goals as goal

pub returns : goal.returns
returns c = goes_within
