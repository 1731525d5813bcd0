use Rattle.peer_records.proofs.AddedLemmas.{reports-have-no-id}
use Rattle.peer_records.proofs.laws.reports_have_no_id.Goals as goal

pub returns : goal.returns
returns c = reports-have-no-id
