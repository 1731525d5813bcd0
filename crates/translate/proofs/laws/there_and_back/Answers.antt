use Rattle.translate.proofs.BackLaws.{there_and_back}
use Rattle.translate.proofs.laws.there_and_back.Goals as goal

pub returns : goal.returns
returns c = there_and_back
