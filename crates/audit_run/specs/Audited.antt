-- What the lines of a recording bring about.

use Rattle.std.specs.Prelude.{ℕ, List, [], ◌∷◌, codes, Option, None, Some, Result, Ok, Err}
use Rattle.std.specs.Fmt.{decimal}
use Rattle.edge_traits.specs.declared.status.Status.TheVariants as statuses
use Rattle.command_frame.specs.Task.{Settling}
use Rattle.command_frame.specs.Lines.{Turn, passes, ends_run, LineRules, by_lines}
use Rattle.ltp_segment.specs.Cause.{word_of as cause_word}
use Rattle.ltp_audit.specs.declared.entry.Entry.{Entry}
use Rattle.ltp_audit.specs.declared.fault.AuditFault.{AuditFault}
use Rattle.ltp_audit.specs.declared.fault.AuditFault.TheVariants as audit_faults
use Rattle.ltp_audit.specs.Words.{rule_word}
use Rattle.ltp_audit.specs.Rules.{fault_of}
use Rattle.replay_script.specs.declared.fault.LineFault.{LineFault}
use Rattle.replay_script.specs.Fault.{word_of}
use Rattle.replay_script.specs.NoteLines.{line_of}
use Rattle.audit_run.specs.EntryLine.{entry_of}

-- ---- lines that are written

-- line n is refused for what it says
abbrev pub refusal_line : ℕ → LineFault → List ℕ
refusal_line n fault = line_of (codes "refused" ∷ codes "line" ∷ decimal n ∷ word_of fault ∷ [])

-- line n is an entry that isn't accepted: a place and a cause, or a rule
abbrev pub fault_words : AuditFault → List (List ℕ)
fault_words (audit_faults.Form at cause) = decimal at ∷ cause_word cause ∷ []
fault_words (audit_faults.Broken rule) = rule_word rule ∷ []
fault_words audit_faults.Memory = codes "Memory" ∷ []

abbrev pub fault_line : ℕ → AuditFault → List ℕ
fault_line n fault = line_of (codes "refused" ∷ codes "line" ∷ decimal n ∷ fault_words fault)

-- so many lines were accepted
abbrev pub ok_line : ℕ → List ℕ
ok_line n = line_of (codes "ok" ∷ decimal n ∷ [])

-- ---- line by line

-- the two engines; the entries that were accepted, the last one first; and the number of the last
-- line
pub record Audited : Type 0 where
  pub own : ℕ
  pub peer : ℕ
  pub history : List Entry
  pub lines : ℕ

abbrev pub with_entry : ℕ → Audited → Entry → Audited
with_entry n a entry =
    record { own = a.own; peer = a.peer; history = entry ∷ a.history; lines = n }

-- an entry is accepted, or ends the run
abbrev pub judges : ℕ → Audited → Entry → Option AuditFault → Turn Audited
judges n a entry None = passes [] (with_entry n a entry)
judges n a entry (Some fault) = ends_run (fault_line n fault) statuses.Refused

-- line n says this, or is refused
abbrev pub audit_turn : ℕ → Audited → Result Entry LineFault → Turn Audited
audit_turn n a (Err fault) = ends_run (refusal_line n fault) statuses.Refused
audit_turn n a (Ok entry) = judges n a entry (fault_of a.own a.peer a.history entry)

-- a million lines, of 9,000,000 octets each; what a line brings about; and how many there were,
-- after the last one
abbrev pub audit_rules : LineRules Audited
audit_rules = record {
  lines = 1000000;
  octets = 9000000;
  step = λ n a line. audit_turn n a (entry_of line);
  finish = λ a. record { text = ok_line a.lines; ends = Some statuses.Done };
}

-- before the first line
abbrev pub begins : ℕ → ℕ → Audited
begins own peer = record { own = own; peer = peer; history = []; lines = 0 }

-- what octets settle of `audit OWN PEER`, whatever the size of the input
abbrev pub settles : ℕ → ℕ → Settling
settles own peer = by_lines audit_rules (begins own peer)
