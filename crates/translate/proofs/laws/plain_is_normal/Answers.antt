use Rattle.translate.proofs.PlainLaws.{plain_is_normal}
use Rattle.translate.proofs.laws.plain_is_normal.Goals as goal

pub returns : goal.returns
returns c = plain_is_normal
