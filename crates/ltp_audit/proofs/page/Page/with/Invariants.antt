use Rattle.std.proofs.Common.{◌≡◌, ℕ, ◌+◌, drop, length}
use Rattle.ltp_session.specs.Cells.{cell, octet_in}
use Rattle.ltp_session.specs.RedPart.{or_else}
use Rattle.ltp_audit.proofs.page.Page.with.Given as goal

abbrev pub invariant-laying : goal.invariant-laying
invariant-laying l = (l.at ≡ l.from + l.octet-index) × (length l.cells ≡ 64)
    × ((k : ℕ) → or_else (cell l.cells k) (octet_in l.at (drop l.octet-index l.body) k)
    ≡ or_else (cell l.initial.cells k) (octet_in l.from l.body k))
