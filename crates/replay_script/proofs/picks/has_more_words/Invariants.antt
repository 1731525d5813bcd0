use Rattle.std.proofs.Common.{◌≡◌, length, nat_lt}
use Rattle.replay_script.specs.Words.{words_of}
use Rattle.replay_script.proofs.picks.has_more_words.Given as goal

abbrev pub invariant-words : goal.invariant-words
invariant-words l = nat_lt l.left (length l.words) ≡ nat_lt l.most (length (words_of l.text))

abbrev pub decreases-words : goal.decreases-words
decreases-words l = length l.words
