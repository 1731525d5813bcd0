use Rattle.peer_events.proofs.NamedLemmas.{step-named}
use Rattle.peer_events.proofs.TextLemmas.{subject-texts}
use Rattle.peer_events.proofs.laws.steps_are_named.Goals as goal

pub returns-clause-octets : goal.returns-clause-octets
returns-clause-octets c = subject-texts

pub returns-clause-steps : goal.returns-clause-steps
returns-clause-steps c = step-named
