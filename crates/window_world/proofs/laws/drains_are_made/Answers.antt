use Rattle.window_world.proofs.MadeLemmas.{drains-are-made}
use Rattle.window_world.proofs.laws.drains_are_made.Goals as goal

pub returns : goal.returns
returns c = drains-are-made
