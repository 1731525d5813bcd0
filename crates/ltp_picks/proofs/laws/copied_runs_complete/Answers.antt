use Rattle.ltp_picks.proofs.CopyEnds.{copied-completes}
use Rattle.ltp_picks.proofs.laws.copied_runs_complete.Goals as goal

pub returns : goal.returns
returns c = copied-completes
