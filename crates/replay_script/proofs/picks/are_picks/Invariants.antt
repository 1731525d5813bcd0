use Rattle.std.proofs.Common.{◌≡◌, is_some, length}
use Rattle.replay_script.specs.LinkEvents.{picks_of}
use Rattle.replay_script.specs.Words.{words_of}
use Rattle.replay_script.proofs.picks.are_picks.Given as goal

abbrev pub invariant-words : goal.invariant-words
invariant-words l = is_some (picks_of l.words) ≡ is_some (picks_of (words_of l.text))

abbrev pub decreases-words : goal.decreases-words
decreases-words l = length l.words
