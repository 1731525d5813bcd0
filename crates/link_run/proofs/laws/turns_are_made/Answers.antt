use Rattle.link_run.proofs.PickedLemmas.{goes-at}
use Rattle.link_run.proofs.PicksMade.{turns-made}
use Rattle.ltp_picks.specs.Picks.{after_picks, crosses_at}
use Rattle.link_run.proofs.laws.turns_are_made.Goals as goal

pub returns : goal.returns
returns c = λ top parties w picks timed reached.
    turns-made top parties (after_picks parties (crosses_at w) picks) timed (goes-at parties w picks reached)
