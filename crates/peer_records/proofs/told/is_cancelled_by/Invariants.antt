use Rattle.std.proofs.Common.{◌≡◌, drop, map}
use Rattle.gate_records.specs.Ties.{cancelled_by}
use Rattle.peer_gateway.specs.Answers.{told_seen}
use Rattle.peer_records.specs.Happened.{notes_in}
use Rattle.peer_records.proofs.told.is_cancelled_by.Given as goal

abbrev pub invariant-told : goal.invariant-told
invariant-told l =
    cancelled_by l.is_open l.left l.face l.session (notes_in (map told_seen (drop l.one-index l.told)))
    ≡ cancelled_by l.is_open l.own l.face l.session (notes_in (map told_seen l.told))
