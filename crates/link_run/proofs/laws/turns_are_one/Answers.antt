use Rattle.link_run.proofs.PickedLemmas.{goes-at}
use Rattle.link_run.proofs.PicksMade.{one-end, turns-made}
use Rattle.link_run.specs.Picks.{turns_after}
use Rattle.ltp_picks.specs.Picks.{after_picks, crosses_at}
use Rattle.link_run.proofs.laws.turns_are_one.Goals as goal

pub returns : goal.returns
returns c = λ top parties w picks turns timed reached ends.
    one-end top parties (after_picks parties (crosses_at w) picks) turns (turns_after top parties (after_picks parties (crosses_at w) picks)) ends
    (turns-made top parties (after_picks parties (crosses_at w) picks) timed (goes-at parties w picks reached))
