use Rattle.peer_journal_laws.proofs.TurnLemmas.{steps-in-turn}
use Rattle.peer_journal_laws.proofs.laws.steps_are_in_turn.Goals as goal

pub returns : goal.returns
returns c = steps-in-turn
