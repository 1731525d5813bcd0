use Rattle.window_world.proofs.QuietLemmas.{gaps-stand-still}
use Rattle.window_world.proofs.laws.gaps_stand_still.Goals as goal

pub returns : goal.returns
returns c = gaps-stand-still
