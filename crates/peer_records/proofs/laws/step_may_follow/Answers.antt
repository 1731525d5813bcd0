use Rattle.peer_records.proofs.StepLemmas.{step-may-follow}
use Rattle.peer_records.proofs.laws.step_may_follow.Goals as goal

pub returns : goal.returns
returns c = step-may-follow
