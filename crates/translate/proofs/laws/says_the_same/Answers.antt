use Rattle.translate.proofs.BackLaws.{says_the_same}
use Rattle.translate.proofs.laws.says_the_same.Goals as goal

pub returns : goal.returns
returns c = says_the_same
