use Rattle.translate.proofs.Sound6Lemmas.{sound6}
use Rattle.translate.proofs.laws.reads_soundly6.Goals as goal

pub returns : goal.returns
returns c = sound6
