-- What a half commits reserves the numbers that were given.

use Rattle.std.proofs.Common.{ℕ, ◌≤◌, Option, None, Some, IfSome}
use Rattle.gate_cases.specs.declared.face.Face.TheVariants as faces
use Rattle.gate_records.specs.Keeping.{NUMBERS}
use Rattle.peer_records.specs.Laws.{NumbersAreReserved}
use Rattle.peer_half.specs.Journals.{Journalled}
use Rattle.peer_half.specs.Parts.{next_at, reserved_in}
use Rattle.peer_half.specs.Laws.{GivenIsReserved}

reserved-each : NumbersAreReserved → (old new : ℕ) (journal : Option Journalled) → old ≤ NUMBERS → new ≤ NUMBERS
    → IfSome (reserved_in old new journal) (λ j.
    (old ≤ (((j.recorded).keeping).kept).old_reserved) × (new ≤ (((j.recorded).keeping).kept).new_reserved))
reserved-each law old new None low small = tt
reserved-each law old new (Some j) low small = law old new (j.recorded).keeping low small

pub given-is-reserved : NumbersAreReserved → GivenIsReserved
given-is-reserved law s low small = reserved-each law (next_at faces.Old s) (next_at faces.New s) s.journal low small
