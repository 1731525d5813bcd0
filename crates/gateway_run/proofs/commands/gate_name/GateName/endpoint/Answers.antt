use Rattle.gateway_run.proofs.WordLemmas.{gate-other, gate-legal}
use Rattle.gateway_run.proofs.commands.gate_name.GateName.endpoint.Goals as goal

pub returns-clause-other : goal.returns-clause-other
returns-clause-other c = gate-other _ _ c.gate_in.ensures

pub returns-clause-legal : goal.returns-clause-legal
returns-clause-legal c = gate-legal _ _ c.gate_in.ensures
