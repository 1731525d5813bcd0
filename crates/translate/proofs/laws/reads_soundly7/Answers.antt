use Rattle.translate.proofs.Sound7Lemmas.{sound7}
use Rattle.translate.proofs.laws.reads_soundly7.Goals as goal

pub returns : goal.returns
returns c = sound7
