use Rattle.bundle7.proofs.BlockLaws.{encoded-spelled, encoded-again, encoded-same}
use Rattle.bundle7.proofs.writing.encode7.Goals as goal

pub returns-clause-spelled : goal.returns-clause-spelled
returns-clause-spelled c = encoded-spelled 64 c.args.bundle.now c.spelling.result c.spelling.ensures

pub returns-clause-same : goal.returns-clause-same
returns-clause-same c = encoded-same 64 c.args.bundle.now c.spelling.result c.spelling.ensures

pub returns-clause-again : goal.returns-clause-again
returns-clause-again c = encoded-again 64 c.args.bundle.now c.spelling.result c.spelling.ensures
