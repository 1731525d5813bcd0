use Rattle.bundle_runs.proofs.KeepingLemmas.{same_without_refusals, writes_more, done_only_together}
use Rattle.bundle_runs.proofs.laws.keeps_going_after_refusals.Goals as goal

pub returns-clause-same : goal.returns-clause-same
returns-clause-same c = same_without_refusals

pub returns-clause-more : goal.returns-clause-more
returns-clause-more c = writes_more

pub returns-clause-done : goal.returns-clause-done
returns-clause-done c = done_only_together
