-- What is kept from line to line.

use Rattle.std.specs.Prelude.{◌≡◌}
use Rattle.ltp_audit.specs.Shows.{Shows}
use Rattle.audit_run.specs.Audited.{Audited}
use Rattle.audit_run.specs.declared.audit_lines.AuditLines.{AuditLines}

pub record ShowsAudited (lines : AuditLines) (a : Audited) : Type 0 where
  pub audit : Shows lines.audit a.own a.peer a.history
  pub last : lines.last ≡ a.lines
