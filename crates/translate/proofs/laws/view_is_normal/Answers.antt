use Rattle.translate.proofs.PlainLaws.{view_is_normal}
use Rattle.translate.proofs.laws.view_is_normal.Goals as goal

pub returns : goal.returns
returns c = view_is_normal
