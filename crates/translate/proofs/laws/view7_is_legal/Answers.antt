use Rattle.translate.proofs.Legal7Lemmas.{view7-legal}
use Rattle.translate.proofs.laws.view7_is_legal.Goals as goal

pub returns : goal.returns
returns c = view7-legal
