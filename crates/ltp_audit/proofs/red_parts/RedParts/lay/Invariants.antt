use Rattle.std.proofs.Common.{◌≡◌, ℕ, ◌+◌, length}
use Rattle.ltp_audit.specs.Pages.{octet_at, same_name, with_octets}
use Rattle.ltp_audit.proofs.red_parts.RedParts.lay.Given as goal

abbrev pub decreases-laying : goal.decreases-laying
decreases-laying l = length l.left

abbrev pub invariant-laying : goal.invariant-laying
invariant-laying l = (l.at + length l.left ≡ l.offset + length l.body)
    × (l.self.held ≡ l.initial.self.held)
    × ((o n place : ℕ)
    → with_octets (same_name l.name.originator l.name.number o n) (octet_at l.self o n place) l.at l.left place
    ≡ with_octets (same_name l.name.originator l.name.number o n) (octet_at l.initial.self o n place) l.offset l.body place)
