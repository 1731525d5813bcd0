use Rattle.translate.proofs.Legal6Lemmas.{view6-legal}
use Rattle.translate.proofs.laws.view6_is_legal.Goals as goal

pub returns : goal.returns
returns c = view6-legal
