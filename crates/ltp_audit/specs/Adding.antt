-- What an audit answers to an entry, and leaves.

use Rattle.std.specs.Prelude.{◌≡◌, ℕ, Bool, true, false, List, ◌∷◌, Option, None, Some, Result, Ok, Err}
use Rattle.ltp_segment.specs.Kinds.{is_red}
use Rattle.ltp_segment.specs.Values.{ContentValue, a_piece, a_report, a_report_ack}
use Rattle.ltp_segment.specs.Values.{a_sender_cancel, a_sender_cancel_ack, a_receiver_cancel}
use Rattle.ltp_segment.specs.Values.{a_receiver_cancel_ack, SegmentValue}
use Rattle.ltp_audit.specs.declared.entry.Entry.{Entry}
use Rattle.ltp_audit.specs.declared.fault.AuditFault.{AuditFault}
use Rattle.ltp_audit.specs.declared.fault.AuditFault.TheVariants as faults
use Rattle.ltp_audit.specs.Recorded.{segment_in}
use Rattle.ltp_audit.specs.Rules.{fault_of}

-- a later segment may speak of it: of red octets, a checkpoint, a report or a cancel
abbrev pub is_kept : ContentValue → Bool
is_kept (a_piece piece) = is_red piece.kind
is_kept (a_report report) = true
is_kept (a_report_ack serial) = false
is_kept (a_sender_cancel reason) = true
is_kept a_sender_cancel_ack = false
is_kept (a_receiver_cancel reason) = true
is_kept a_receiver_cancel_ack = false

abbrev pub IsKept : Option SegmentValue → Type 0
IsKept None = ⊥
IsKept (Some s) = is_kept s.content ≡ true

-- without a fault an entry is accepted, and with one it is refused with that, and all is as before;
-- or memory is wanted, only where the entry has no fault and something of it is to be kept
abbrev pub Answers : (List Entry → Type 0) → ℕ → ℕ → List Entry → Entry
    → Option AuditFault → Result (Unit {0}) AuditFault → Type 0
Answers Now own peer history entry None (Ok nothing) = Now (entry ∷ history)
Answers Now own peer history entry None (Err fault) =
    (fault ≡ faults.Memory) × IsKept (segment_in own peer entry)
Answers Now own peer history entry (Some due) (Ok nothing) = ⊥
Answers Now own peer history entry (Some due) (Err fault) = (fault ≡ due) × Now history

abbrev pub Adds : (List Entry → Type 0) → ℕ → ℕ → List Entry → Entry
    → Result (Unit {0}) AuditFault → Type 0
Adds Now own peer history entry result =
    Answers Now own peer history entry (fault_of own peer history entry) result
