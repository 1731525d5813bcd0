use Rattle.std.proofs.Common.{◌≡◌, ◌+◌, ◌≤◌, drop, map}
use Rattle.gate_records.specs.Ties.{own_of}
use Rattle.peer_events.specs.Own.{own_seen}
use Rattle.peer_records.proofs.step.own_of.Given as goal

abbrev pub invariant-counting : goal.invariant-counting
invariant-counting l = record {
  sum : own_of l.face l.session (map own_seen l.own) ≡ l.count + own_of l.face l.session (map own_seen (drop l.one-index l.own));
  bound : l.count ≤ l.one-index;
}
