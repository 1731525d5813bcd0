use Rattle.std.proofs.Common.{◌≡◌, drop}
use Rattle.endpoint.specs.Endpoints.{names_group}
use Rattle.endpoint.proofs.text.names_group.Given as goal

abbrev pub invariant-loop-at : goal.invariant-loop-at
invariant-loop-at l = names_group (drop l.at l.ssp) ≡ names_group l.ssp
