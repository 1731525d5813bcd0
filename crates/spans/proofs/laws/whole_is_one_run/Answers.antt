use Rattle.spans.proofs.PlaceLaws.{whole_is_one_run}
use Rattle.spans.proofs.laws.whole_is_one_run.Goals as goal

pub returns : goal.returns
returns c = whole_is_one_run
