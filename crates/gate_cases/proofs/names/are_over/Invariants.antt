use Rattle.std.proofs.Common.{◌≡◌, ◌≤◌, take}
use Rattle.std.specs.List.{sum_by}
use Rattle.gate_cases.specs.declared.case.TheConstants.{BLOCK_MAX}
use Rattle.gate_cases.specs.Names.{least}
use Rattle.gate_cases.proofs.names.are_over.Given as goal

abbrev pub invariant-summing : goal.invariant-summing
invariant-summing l = (l.sum ≡ sum_by least (take l.at l.refs)) × (l.sum ≤ BLOCK_MAX)
