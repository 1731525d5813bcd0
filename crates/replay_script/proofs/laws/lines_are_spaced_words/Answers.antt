use Rattle.replay_script.proofs.WordLemmas.{lines_are_spaced_words}
use Rattle.replay_script.proofs.laws.lines_are_spaced_words.Goals as goal

pub returns : goal.returns
returns c = lines_are_spaced_words
