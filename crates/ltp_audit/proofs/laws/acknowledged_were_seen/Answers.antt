use Rattle.ltp_audit.proofs.LawLemmas.{acknowledged_were_seen}
use Rattle.ltp_audit.proofs.laws.acknowledged_were_seen.Goals as goal

pub returns : goal.returns
returns c = acknowledged_were_seen
