use Rattle.std.proofs.Common.{◌≡◌, ◌+◌, drop}
use Rattle.gate_records.specs.Keeping.{octets_of}
use Rattle.peer_records.proofs.pending.octets_in.Given as goal

abbrev pub invariant-adding : goal.invariant-adding
invariant-adding l = octets_of l.pending ≡ l.octets + octets_of (drop l.one-index l.pending)
