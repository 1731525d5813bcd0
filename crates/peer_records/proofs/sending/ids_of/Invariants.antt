use Rattle.std.proofs.Common.{◌≡◌, ◌++◌, drop}
use Rattle.peer_records.specs.Records.{ids_of}
use Rattle.peer_records.specs.Ties.{named_all}
use Rattle.peer_records.proofs.sending.ids_of.Given as goal

abbrev pub invariant-sessions : goal.invariant-sessions
invariant-sessions l =
    ids_of l.face l.session (named_all l.sessions) ≡ l.ids.items ++ ids_of l.face l.session (named_all (drop l.one-index l.sessions))
