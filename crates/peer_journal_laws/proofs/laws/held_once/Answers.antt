use Rattle.peer_journal_laws.proofs.HeldLemmas.{held-once-in-runs}
use Rattle.peer_journal_laws.proofs.laws.held_once.Goals as goal

pub returns : goal.returns
returns c = held-once-in-runs
