-- What an outside tells of its journal.

use Rattle.std.specs.Prelude.{ℕ, Option, None, Some}
use Rattle.edge_traits.specs.Faults.{Calls}
use Rattle.gate_journal.specs.declared.journal.Journal.{Journal}

-- the faults that the store counts, where there is a journal; which calls are to fail isn't told
abbrev pub stores_of : {S : Type 0} → (S → ℕ) → Option (Journal S) → Calls
stores_of faults None = record { faults = 0; failing = None }
stores_of faults (Some journal) = record { faults = faults journal.store; failing = None }
