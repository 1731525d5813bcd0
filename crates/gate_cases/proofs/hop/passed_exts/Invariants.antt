use Rattle.std.proofs.Common.{◌≡◌, map}
use Rattle.std.specs.List.{filter}
use Rattle.gate_cases.specs.Passage.{counted_ext, goes_on}
use Rattle.gate_cases.proofs.hop.passed_exts.Given as goal

abbrev pub invariant-passing : goal.invariant-passing
invariant-passing l = l.passed ≡ map counted_ext (filter goes_on l.yielded)
