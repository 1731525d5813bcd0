use Rattle.face_room.proofs.BlockLemmas.{fronts_are_blocks}
use Rattle.face_room.proofs.laws.fronts_are_blocks.Goals as goal

pub returns : goal.returns
returns c = fronts_are_blocks
