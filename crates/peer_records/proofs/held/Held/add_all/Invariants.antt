use Rattle.std.proofs.Common.{◌≡◌, drop}
use Rattle.peer_records.specs.Ties.{added_all}
use Rattle.peer_records.proofs.held.Held.add_all.Given as goal

abbrev pub invariant-added : goal.invariant-added
invariant-added l = added_all l.last (drop l.one-index l.added) l.self ≡ added_all l.greatest l.added l.initial.self
