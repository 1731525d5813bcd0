use Rattle.std.proofs.Common.{drop}
use Rattle.gateway_core.specs.Ties.{up_values}
use Rattle.peer_gateway.specs.Steps.{passes}
use Rattle.peer_gateway.specs.Views.{moments_of}
use Rattle.peer_gateway.proofs.PassLemmas.{Turns}
use Rattle.peer_gateway.proofs.parts.Parts.pass_all.Given as goal

abbrev pub invariant-passing : goal.invariant-passing
invariant-passing l =
    Turns (λ s. passes s l.face (moments_of l.moments)) l.initial.self l.self l.initial.answer l.answer (up_values l.ups) (up_values (drop l.up-index l.ups))
