use Rattle.std.proofs.Common.{◌≡◌, length}
use Rattle.peer_cases.specs.Rows.{items_of}
use Rattle.peer_gateway.specs.Steps.{passes_item}
use Rattle.peer_gateway.specs.Views.{moments_of}
use Rattle.peer_gateway.proofs.PassLemmas.{Turns}
use Rattle.peer_gateway.proofs.parts.Parts.pass.Given as goal

abbrev pub invariant-passing : goal.invariant-passing
invariant-passing l =
    Turns (λ s. passes_item s l.face (moments_of l.moments) l.session) l.initial.self l.self l.initial.answer l.answer (items_of l.face l.block) l.items.left
    × (l.items.face ≡ l.face)

abbrev pub decreases-passing : goal.decreases-passing
decreases-passing l = length l.items.left
