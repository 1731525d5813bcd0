use Rattle.gate_cases.proofs.PromiseLemmas.{pieces-have-room}
use Rattle.gate_cases.proofs.laws.pieces_have_room.Goals as goal

pub returns : goal.returns
returns c = pieces-have-room
