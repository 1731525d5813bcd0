use Rattle.peer_events.proofs.LineLemmas.{lines-tell}
use Rattle.peer_events.proofs.laws.lines_tell.Goals as goal

pub returns : goal.returns
returns c = lines-tell
