use Rattle.receive_run.proofs.KeepReceivingLemmas.{same_unless_refused}
use Rattle.receive_run.proofs.laws.keep_receiving_changes_refusals_alone.Goals as goal

pub returns : goal.returns
returns c = same_unless_refused
