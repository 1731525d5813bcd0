use Rattle.gateway_run.proofs.CommandLemmas.{receive-front, command-front}
use Rattle.gateway_run.proofs.laws.earliest_place_decides.Goals as goal

pub returns-clause-receive : goal.returns-clause-receive
returns-clause-receive c = receive-front

pub returns-clause-commands : goal.returns-clause-commands
returns-clause-commands c = command-front
