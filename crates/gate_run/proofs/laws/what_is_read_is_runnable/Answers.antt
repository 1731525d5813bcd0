use Rattle.gate_run.proofs.ConfigLemmas.{runnable-read}
use Rattle.gate_run.proofs.laws.what_is_read_is_runnable.Goals as goal

pub returns : goal.returns
returns c = runnable-read
