use Rattle.peer_journal_laws.proofs.AgainLemmas.{adds-again-in-order, adds-again-once}
use Rattle.peer_journal_laws.proofs.laws.adds_again_once.Goals as goal

pub returns-clause-in_order : goal.returns-clause-in_order
returns-clause-in_order c = adds-again-in-order

pub returns-clause-once : goal.returns-clause-once
returns-clause-once c = adds-again-once
