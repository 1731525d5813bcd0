use Rattle.ltp_audit.proofs.LawLemmas.{claims_were_seen}
use Rattle.ltp_audit.proofs.laws.claims_were_seen.Goals as goal

pub returns : goal.returns
returns c = claims_were_seen
