use Rattle.path_drain.proofs.QuietLemmas.{quiet-clocks}
use Rattle.path_drain.proofs.ends.quiet_clocks_go_on.Goals as goal

pub returns : goal.returns
returns c = quiet-clocks
