use Rattle.status_reports.proofs.PairLemmas.{zero-rests}
use Rattle.status_reports.proofs.pairing7.shared_from7.Goals as goal

pub shared_with_rests-requires-clause-rests : goal.shared_with_rests-requires-clause-rests
shared_with_rests-requires-clause-rests c = zero-rests c.args.report.now.stamps
