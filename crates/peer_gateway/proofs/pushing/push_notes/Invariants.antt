use Rattle.std.proofs.Common.{◌≡◌, ◌++◌, map}
use Rattle.peer_gateway.specs.Gate.{told_engine}
use Rattle.peer_gateway.specs.Steps.{told_at}
use Rattle.peer_gateway.specs.Answers.{told_seen}
use Rattle.peer_gateway.proofs.pushing.push_notes.Given as goal

abbrev pub invariant-each : goal.invariant-each
invariant-each l =
    map told_seen l.told.items ≡ map told_seen l.initial.told.items ++ map (told_at l.face) (map told_engine l.yielded)
