use Rattle.peer_records.proofs.StartLemmas.{report-is-marked}
use Rattle.peer_records.proofs.laws.report_is_marked.Goals as goal

pub returns : goal.returns
returns c = report-is-marked
