use Rattle.translate.proofs.View7Laws.{view7-reads}
use Rattle.translate.proofs.laws.view7_reads.Goals as goal

pub returns : goal.returns
returns c = λ full sound. view7-reads full sound.valid
