use Rattle.std.proofs.Common.{◌≡◌, ℕ, ◌-◌, Option}
use Rattle.std.specs.BTreeMap.{get}
use Rattle.ltp_segment.specs.Claims.{claims_left}
use Rattle.ltp_segment.specs.Legal.{AreClaims}
use Rattle.ltp_audit.specs.Recorded.{are_claims_held}
use Rattle.ltp_audit.specs.Pages.{name_cmp}
use Rattle.ltp_audit.specs.Held.{HeldIn}
use Rattle.ltp_audit.proofs.red_parts.RedParts.has_all.Given as goal

abbrev pub invariant-claimed : goal.invariant-claimed
invariant-claimed l = ((end : ℕ) × AreClaims (l.upper - l.lower) end (claims_left l.claim-iterator))
    × ((octet : ℕ → Option ℕ) → HeldIn (get name_cmp l.self.held (l.fn.name.originator, l.fn.name.number)) octet
    → are_claims_held octet l.lower (claims_left l.claim-iterator)
    ≡ are_claims_held octet l.lower (claims_left l.initial.claims))
