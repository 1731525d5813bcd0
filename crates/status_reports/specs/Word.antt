-- The names of the faults.

use Rattle.std.specs.Prelude.{ℕ, List, codes}
use Rattle.status_reports.specs.declared.fault.AdminFault.{AdminFault}
use Rattle.status_reports.specs.declared.fault.AdminFault.TheVariants.{CustodySignal, CustodyReport, AdminUnknown, BadAdmin, Memory}
use Rattle.status_reports.specs.declared.pair_fault.PairFault.{PairFault}
use Rattle.status_reports.specs.declared.pair_fault.PairFault.TheVariants.{NoCounterpart}
use Rattle.status_reports.specs.declared.pair_fault.PairFault.TheVariants as pair_faults

abbrev pub word_of : AdminFault → List ℕ
word_of CustodySignal = codes "CustodySignal"
word_of CustodyReport = codes "CustodyReport"
word_of AdminUnknown = codes "AdminUnknown"
word_of BadAdmin = codes "BadAdmin"
word_of Memory = codes "Memory"

abbrev pub pair_word_of : PairFault → List ℕ
pair_word_of NoCounterpart = codes "NoCounterpart"
pair_word_of pair_faults.Memory = codes "Memory"
