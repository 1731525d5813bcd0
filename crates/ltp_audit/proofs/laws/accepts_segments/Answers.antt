use Rattle.ltp_audit.proofs.LawLemmas.{accepts_segments}
use Rattle.ltp_audit.proofs.laws.accepts_segments.Goals as goal

pub returns : goal.returns
returns c = accepts_segments
