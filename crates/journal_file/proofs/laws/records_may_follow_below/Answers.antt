use Rattle.journal_file.proofs.BelowLemmas.{follow-below}
use Rattle.journal_file.proofs.laws.records_may_follow_below.Goals as goal

pub returns : goal.returns
returns c = follow-below
