use Rattle.std.proofs.Common.{◌≡◌, take}
use Rattle.ltp_world.specs.Picks.{link_picks}
use Rattle.link_run.specs.Picks.{said_picks}
use Rattle.link_run.proofs.picked.picks_of.Given as goal

abbrev pub invariant-each : goal.invariant-each
invariant-each l = link_picks l.picks.items ≡ said_picks (take l.word-index l.words)
