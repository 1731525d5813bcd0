use Rattle.replay_script.proofs.WordLemmas.{spaced_words_are_read}
use Rattle.replay_script.proofs.laws.spaced_words_are_read.Goals as goal

pub returns : goal.returns
returns c = spaced_words_are_read
