use Rattle.std.proofs.Common.{◌≡◌, drop}
use Rattle.peer_records.specs.Said.{rises}
use Rattle.peer_records.proofs.pending.rises.Given as goal

abbrev pub invariant-rising : goal.invariant-rising
invariant-rising l = rises l.greatest l.last (drop l.one-index l.pending) ≡ rises l.greatest 0 l.pending
