use Rattle.path_drain.proofs.OneDrain.{clean-runs-are-one, drains-are-one}
use Rattle.path_drain.proofs.ends.drains_are_one.Goals as goal

pub returns : goal.returns
returns c = record { over = drains-are-one; drained = clean-runs-are-one }
