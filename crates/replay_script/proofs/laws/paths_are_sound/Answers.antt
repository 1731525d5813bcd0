use Rattle.replay_script.proofs.PathLemmas.{path_sound}
use Rattle.replay_script.proofs.laws.paths_are_sound.Goals as goal

pub returns : goal.returns
returns c = path_sound
