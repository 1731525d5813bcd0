-- Why a journal wasn't read.
use Rattle.std.specs.Prelude.{◌≡◌, ℕ, List, [], Option, Some, None, Result, Ok, Err}
use Rattle.edge_traits.specs.Faults.{one_more}
use Rattle.store_traits.specs.declared.fault.StoreFault.{StoreFault}
use Rattle.store_traits.specs.declared.fault.StoreFault.TheVariants as store_faults
use Rattle.wire_fields.specs.Refusal.{Stop}
use Rattle.journal_file.specs.declared.fault.JournalCause.{JournalCause}
use Rattle.journal_file.specs.declared.fault.JournalFault.{JournalFault}
use Rattle.journal_file.specs.declared.fault.JournalFault.TheVariants as file_faults
use Rattle.journal_file.specs.Ties.{why}
use Rattle.gate_journal.specs.declared.fault.RecoverFault.{RecoverFault}
use Rattle.gate_journal.specs.declared.fault.RecoverFault.TheVariants as faults

-- the place where the file is damaged, and the cause; no other fault says that it is
abbrev pub damage : RecoverFault → Option (ℕ × Stop JournalCause)
damage (faults.Damaged at cause) = Some (at, why cause)
damage faults.Failed = None
damage faults.Memory = None

-- the count of faults after it: one more where the outside failed, and else as before
abbrev pub faults_then : {T : Type 0} → ℕ → Result T RecoverFault → ℕ
faults_then before (Ok x) = before
faults_then before (Err faults.Failed) = one_more before
faults_then before (Err faults.Memory) = before
faults_then before (Err (faults.Damaged at cause)) = before

-- a file has octets, so it takes memory to read it
abbrev pub HasOctets : List ℕ → Type 0
HasOctets file = file ≡ [] → ⊥

-- ---- faults of what is below

abbrev pub of_store : StoreFault → RecoverFault
of_store store_faults.Failed = faults.Failed
of_store store_faults.Memory = faults.Memory

abbrev pub of_file : JournalFault → RecoverFault
of_file (file_faults.Damaged at cause) = faults.Damaged at cause
of_file file_faults.Memory = faults.Memory
