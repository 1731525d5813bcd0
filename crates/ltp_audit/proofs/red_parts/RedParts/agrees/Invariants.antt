use Rattle.std.proofs.Common.{◌≡◌, ◌+◌, length}
use Rattle.ltp_audit.specs.Recorded.{agrees}
use Rattle.ltp_audit.specs.Pages.{octet_at}
use Rattle.ltp_audit.proofs.red_parts.RedParts.agrees.Given as goal

abbrev pub decreases-comparing : goal.decreases-comparing
decreases-comparing l = length l.left

abbrev pub invariant-comparing : goal.invariant-comparing
invariant-comparing l = (l.at + length l.left ≡ l.offset + length l.body)
    × (agrees (octet_at l.self l.name.originator l.name.number) l.at l.left
    ≡ agrees (octet_at l.self l.name.originator l.name.number) l.offset l.body)
