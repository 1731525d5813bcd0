use Rattle.peer_run_laws.proofs.GateLemmas.{gate-is-of-events}
use Rattle.peer_run_laws.proofs.laws.gate_is_of_events.Goals as goal

pub returns : goal.returns
returns c = gate-is-of-events
