use Rattle.std.proofs.Common.{◌≡◌, drop}
use Rattle.peer_records.proofs.SaidLemmas.{clears}
use Rattle.peer_records.proofs.said.Said.clear_all.Given as goal

abbrev pub invariant-over : goal.invariant-over
invariant-over l = clears (drop l.mark-index l.over) l.self ≡ clears l.over l.initial.self
