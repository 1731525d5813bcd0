use Rattle.peer_cases.proofs.RowLemmas.{row_in_turn}
use Rattle.peer_cases.proofs.laws.row_in_turn.Goals as goal

pub returns : goal.returns
returns c = row_in_turn
