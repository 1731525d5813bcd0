use Rattle.std.proofs.Common.{◌≡◌, drop}
use Rattle.peer_records.specs.Ties.{begun_all}
use Rattle.peer_records.proofs.held.Held.begin_all.Given as goal

abbrev pub invariant-begun : goal.invariant-begun
invariant-begun l = begun_all (drop l.one-index l.begun) l.self ≡ begun_all l.begun l.initial.self
