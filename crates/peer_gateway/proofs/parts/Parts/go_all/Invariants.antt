use Rattle.std.proofs.Common.{◌-◌}
use Rattle.peer_gateway.specs.Views.{moments_of}
use Rattle.peer_gateway.proofs.GateLemmas.{Goes}
use Rattle.peer_gateway.proofs.parts.Parts.go_all.Given as goal

abbrev pub invariant-going : goal.invariant-going
invariant-going l =
    Goes l.initial.self l.self l.initial.answer l.answer l.face (moments_of l.moments) l.until l.waiting (l.waiting - l.counter)
