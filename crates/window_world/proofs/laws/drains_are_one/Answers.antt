use Rattle.window_world.proofs.MadeLemmas.{drains-are-one}
use Rattle.window_world.proofs.laws.drains_are_one.Goals as goal

pub returns : goal.returns
returns c = drains-are-one
