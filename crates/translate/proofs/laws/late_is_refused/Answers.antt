use Rattle.translate.proofs.BackLaws.{late_is_refused}
use Rattle.translate.proofs.laws.late_is_refused.Goals as goal

pub returns : goal.returns
returns c = late_is_refused
