use Rattle.peer_records.proofs.HalfLemmas.{half-may-follow}
use Rattle.peer_records.proofs.laws.half_may_follow.Goals as goal

pub returns : goal.returns
returns c = half-may-follow
