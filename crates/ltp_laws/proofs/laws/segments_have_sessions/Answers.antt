use Rattle.ltp_laws.proofs.SegmentLemmas.{segments_have_sessions}
use Rattle.ltp_laws.proofs.laws.segments_have_sessions.Goals as goal

pub returns : goal.returns
returns c = segments_have_sessions
