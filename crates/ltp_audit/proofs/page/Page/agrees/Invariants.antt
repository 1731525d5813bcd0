use Rattle.std.proofs.Common.{◌≡◌, ◌+◌, drop}
use Rattle.ltp_session.specs.Cells.{cell}
use Rattle.ltp_audit.specs.Recorded.{agrees}
use Rattle.ltp_audit.proofs.page.Page.agrees.Given as goal

abbrev pub invariant-comparing : goal.invariant-comparing
invariant-comparing l = (l.at ≡ l.from + l.octet-index)
    × (agrees (cell l.self.cells) l.at (drop l.octet-index l.body) ≡ agrees (cell l.self.cells) l.from l.body)
