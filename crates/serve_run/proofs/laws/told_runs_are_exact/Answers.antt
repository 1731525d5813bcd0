use Rattle.serve_run.proofs.ToldLemmas.{told-exact}
use Rattle.serve_run.proofs.laws.told_runs_are_exact.Goals as goal

pub returns : goal.returns
returns c = told-exact
