use Rattle.translate.proofs.FewLemmas.{no_more_blocks}
use Rattle.translate.proofs.laws.no_more_blocks.Goals as goal

pub returns : goal.returns
returns c = no_more_blocks
