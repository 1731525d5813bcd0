-- How a run ends before its input ends.
use Rattle.edge_traits.specs.declared.status.Status.{Status}
use Rattle.edge_traits.specs.declared.status.Status.TheVariants as statuses

-- octets settle that the run ends with a refusal or a limit
abbrev pub IsStop : Status → Type 0
IsStop statuses.Refused = Unit {0}
IsStop statuses.Limit = Unit {0}
IsStop statuses.Done = ⊥
IsStop statuses.Usage = ⊥
IsStop statuses.ReadFault = ⊥
IsStop statuses.WriteFault = ⊥
IsStop statuses.Memory = ⊥

-- a run ends so where a write failed, or for want of memory
abbrev pub IsFailure : Status → Type 0
IsFailure statuses.WriteFault = Unit {0}
IsFailure statuses.Memory = Unit {0}
IsFailure statuses.Done = ⊥
IsFailure statuses.Refused = ⊥
IsFailure statuses.Usage = ⊥
IsFailure statuses.ReadFault = ⊥
IsFailure statuses.Limit = ⊥
