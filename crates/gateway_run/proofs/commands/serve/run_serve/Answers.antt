use Rattle.serve_run.specs.declared.stop.Stop.TheVariants.{NoMemory}
use Rattle.serve_run.proofs.ActLemmas.{stopped-at-once, ran-stopped}
use Rattle.gateway_run.proofs.commands.serve.run_serve.Goals as goal

-- without memory for the name no turn was made
pub returns-in-Err-clause-ran : goal.returns-in-Err-clause-ran
returns-in-Err-clause-ran g c = ran-stopped _ NoMemory _ _ _ _ (stopped-at-once _ _ _)
