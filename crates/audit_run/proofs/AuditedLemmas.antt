-- A line's entry that isn't accepted.

use Rattle.std.proofs.Common.{◌≡◌, ℕ, List, ◌++◌, Option, None, Some, Result, Ok, Err, IfOk, OnOk, refl, ap, ◌∙◌}
use Rattle.std.specs.declared.alloc.AllocError.{AllocError}
use Rattle.ltp_segment.specs.declared.fault.SegmentCause.{SegmentCause}
use Rattle.ltp_audit.specs.declared.fault.Rule.{Rule}
use Rattle.edge_traits.specs.declared.status.Status.{Status}
use Rattle.edge_traits.specs.declared.status.Status.TheVariants as statuses
use Rattle.command_frame.specs.Lines.{TurnsAs}
use Rattle.ltp_audit.specs.declared.entry.Entry.{Entry}
use Rattle.ltp_audit.specs.declared.fault.AuditFault.{AuditFault}
use Rattle.ltp_audit.specs.declared.fault.AuditFault.TheVariants as faults
use Rattle.ltp_audit.specs.Rules.{fault_of}
use Rattle.ltp_audit.specs.Adding.{Answers, Adds}
use Rattle.audit_run.specs.Audited.{Audited, judges, fault_line}

pub refuses : (Now : List Entry → Type 0) (S : Audited → Type 0) (a : Audited) (n : ℕ) (entry : Entry) (fault : AuditFault)
    (before now : List ℕ) (ends : Option Status)
    → Adds Now a.own a.peer a.history entry (Err fault) → (fault ≡ faults.Memory → ⊥)
    → now ≡ before ++ fault_line n fault → ends ≡ Some statuses.Refused
    → TurnsAs S (judges n a entry (fault_of a.own a.peer a.history entry)) before now ends
refuses Now S a n entry fault before now ends adds other is refused =
    rw refused (by (fault_of a.own a.peer a.history entry) adds) where
      by : (due : Option AuditFault) → Answers Now a.own a.peer a.history entry due (Err fault)
          → TurnsAs S (judges n a entry due) before now (Some statuses.Refused)
      by None answers = absurd (other answers.0)
      by (Some due) answers = (is ∙ ap (λ f. before ++ fault_line n f) answers.0, refl)

pub refuses-if : (Now : List Entry → Type 0) (S : Audited → Type 0) (a : Audited) (n : ℕ) (entry : Entry) (fault : AuditFault)
    (before now : List ℕ) (r : Result (Option Status) AllocError)
    → Adds Now a.own a.peer a.history entry (Err fault) → (fault ≡ faults.Memory → ⊥)
    → IfOk r (λ ends. ends ≡ Some statuses.Refused) → OnOk r (now ≡ before ++ fault_line n fault)
    → IfOk r (TurnsAs S (judges n a entry (fault_of a.own a.peer a.history entry)) before now)
refuses-if Now S a n entry fault before now (Ok ends) adds other refused is = refuses Now S a n entry fault before now ends adds other is refused
refuses-if Now S a n entry fault before now (Err e) adds other refused is = tt

pub no-form : (at : ℕ) (cause : SegmentCause) → faults.Form at cause ≡ faults.Memory → ⊥
no-form at cause is = cc

pub no-rule : (rule : Rule) → faults.Broken rule ≡ faults.Memory → ⊥
no-rule rule is = cc
