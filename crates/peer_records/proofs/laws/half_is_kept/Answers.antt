use Rattle.peer_records.proofs.HalfLemmas.{half-is-kept}
use Rattle.peer_records.proofs.laws.half_is_kept.Goals as goal

pub returns : goal.returns
returns c = half-is-kept
