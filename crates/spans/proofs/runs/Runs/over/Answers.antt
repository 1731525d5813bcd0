use Rattle.spans.proofs.Iterating.{from_there-first}
use Rattle.spans.proofs.runs.Runs.over.Goals as goal

pub returns : goal.returns
returns c = from_there-first c.args.chunks.now
