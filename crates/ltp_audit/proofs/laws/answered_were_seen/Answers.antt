use Rattle.ltp_audit.proofs.LawLemmas.{answered_were_seen}
use Rattle.ltp_audit.proofs.laws.answered_were_seen.Goals as goal

pub returns : goal.returns
returns c = answered_were_seen
