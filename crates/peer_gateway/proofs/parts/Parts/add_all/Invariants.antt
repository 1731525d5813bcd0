use Rattle.std.proofs.Common.{◌≡◌}
use Rattle.std.specs.List.{All}
use Rattle.peer_gateway.specs.Ties.{CanBeAdded}
use Rattle.peer_gateway.proofs.PassLemmas.{Turns, adds_one}
use Rattle.peer_gateway.proofs.parts.Parts.add_all.Given as goal

abbrev pub invariant-adding : goal.invariant-adding
invariant-adding l =
    Turns (adds_one l.face l.moments) l.initial.self l.self l.initial.answer l.answer l.fn.pieces l.sized-iterator.rest.items
    × (l.self.settings ≡ l.initial.self.settings)
    × All (CanBeAdded l.initial.self.settings l.face) l.sized-iterator.rest.items
