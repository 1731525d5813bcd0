use Rattle.std.proofs.Common.{◌≡◌, length}
use Rattle.replay_script.specs.LinkEvents.{picks_of}
use Rattle.replay_script.specs.Words.{words_of}
use Rattle.replay_script.proofs.PickLemmas.{picks_after}
use Rattle.replay_script.proofs.picks.picks_in.Given as goal

abbrev pub invariant-words : goal.invariant-words
invariant-words l = picks_after l.picks.items (picks_of l.words) ≡ picks_of (words_of l.text)

abbrev pub decreases-words : goal.decreases-words
decreases-words l = length l.words
