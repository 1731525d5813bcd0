use Rattle.std.specs.Prelude.{◌≡◌, length}
use Rattle.ltp_sender.specs.Ranges.{reaching}
use Rattle.ltp_sender.proofs.ranges.Ranges.reach.Given as goal

abbrev pub invariant-passing : goal.invariant-passing
invariant-passing l = reaching l.place l.self ≡ reaching l.place l.initial.self

abbrev pub decreases-passing : goal.decreases-passing
decreases-passing l = length l.self
