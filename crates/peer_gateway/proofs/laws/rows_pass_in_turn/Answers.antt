use Rattle.peer_gateway.proofs.TurnLemmas.{rows_pass_in_turn}
use Rattle.peer_gateway.proofs.laws.rows_pass_in_turn.Goals as goal

pub returns : goal.returns
returns c = rows_pass_in_turn
