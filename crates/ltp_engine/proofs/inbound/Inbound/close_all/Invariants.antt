use Rattle.std.proofs.Common.{◌≡◌, ◌+◌, ◌<◌, ◌^◌, length}
use Rattle.ltp_engine.specs.Closed.{all_closed}
use Rattle.ltp_engine.proofs.inbound.Inbound.close_all.Given as goal

abbrev pub invariant-closing : goal.invariant-closing
invariant-closing l =
    (l.self.receivers.entries ≡ l.initial.self.receivers.entries)
    × (all_closed l.ended.items l.self.closed ≡ all_closed l.initial.ended.items l.initial.self.closed)
    × (l.self.closed.runs + length l.ended.items < 2 ^ 32)

abbrev pub decreases-closing : goal.decreases-closing
decreases-closing l = length l.ended.items
