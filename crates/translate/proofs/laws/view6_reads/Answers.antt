use Rattle.translate.proofs.View6Laws.{view6-reads}
use Rattle.translate.proofs.laws.view6_reads.Goals as goal

pub returns : goal.returns
returns c = view6-reads
