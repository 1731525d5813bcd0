-- What `gate check` answers of a configuration: what was written, and which calls were made.

use Rattle.std.specs.Prelude.{ℕ, ◌<◌, List, length, Option}
use Rattle.edge_traits.specs.Content.{Gains, GainsFront}
use Rattle.edge_traits.specs.Faults.{Calls, NoneFailed, LastFailed}
use Rattle.gate_config.specs.declared.file.GateFile.{GateFile}
use Rattle.gate_config.specs.Reading.{MeansWithin, RefusedWithin, most_octets}
use Rattle.gate_config.specs.Shown.{shown}
use Rattle.gate_check.specs.declared.checking.Checked.{Checked}
use Rattle.gate_check.specs.declared.checking.Checked.TheVariants as checks

-- What a check that ended so says of a file's octets, and of what the sink held before and holds
-- now: the file means something, and all of that was written, or up to a failed write a front of it;
-- it is refused for this reason, the first in the order; or nothing is said of it. Memory is wanted
-- only by a file that has octets.
abbrev pub ChecksWithin : ℕ → List ℕ → Checked → Option (List ℕ) → Option (List ℕ) → Type 0
ChecksWithin most octets checks.Done before now =
    (file : GateFile) × MeansWithin most octets file × Gains before now (shown file)
ChecksWithin most octets (checks.Refused refusal) before now = RefusedWithin most octets refusal
ChecksWithin most octets checks.ReadFault before now = Unit {0}
ChecksWithin most octets checks.WriteFault before now =
    (file : GateFile) × MeansWithin most octets file × GainsFront before now (shown file)
ChecksWithin most octets checks.Memory before now = 0 < length octets

abbrev pub Checks : List ℕ → Checked → Option (List ℕ) → Option (List ℕ) → Type 0
Checks = ChecksWithin most_octets

-- a text was written, or of it a front, by a check that ended so
abbrev pub WritesText : List ℕ → Checked → Option (List ℕ) → Option (List ℕ) → Type 0
WritesText text checks.Done before now = Gains before now text
WritesText text (checks.Refused refusal) before now = ⊥
WritesText text checks.ReadFault before now = ⊥
WritesText text checks.WriteFault before now = GainsFront before now text
WritesText text checks.Memory before now = Unit {0}

-- the check ended without a write
abbrev pub WroteNothing : Checked → Type 0
WroteNothing checks.Done = ⊥
WroteNothing (checks.Refused refusal) = Unit {0}
WroteNothing checks.ReadFault = Unit {0}
WroteNothing checks.WriteFault = ⊥
WroteNothing checks.Memory = Unit {0}

-- ---- the calls made: a fault is told if and only if the last call failed

abbrev pub WentReading : Checked → Calls → Calls → Type 0
WentReading checks.Done before now = NoneFailed before now
WentReading (checks.Refused refusal) before now = NoneFailed before now
WentReading checks.ReadFault before now = LastFailed before now
WentReading checks.WriteFault before now = NoneFailed before now
WentReading checks.Memory before now = NoneFailed before now

abbrev pub WentWriting : Checked → Calls → Calls → Type 0
WentWriting checks.Done before now = NoneFailed before now
WentWriting (checks.Refused refusal) before now = NoneFailed before now
WentWriting checks.ReadFault before now = NoneFailed before now
WentWriting checks.WriteFault before now = LastFailed before now
WentWriting checks.Memory before now = NoneFailed before now
