-- Which places of red parts have an octet, as ranges.

use Rattle.std.specs.Prelude.{◌≡◌, ℕ, Bool, List, length, Option, None, Some, is_some}
use Rattle.std.specs.BTreeMap.{get}
use Rattle.spans.specs.Places.{is_covered}
use Rattle.ltp_audit.specs.declared.red_parts.RedParts.{RedParts}
use Rattle.ltp_audit.specs.declared.places.TheConstants.{LAST}
use Rattle.ltp_audit.specs.Pages.{name_cmp, same_name, with_octets}

-- the places below the last one, where there are ranges of them, are covered where there is an octet
pub record CoversHeld (places : List Bool) (octet : ℕ → Option ℕ) : Type 0 where
  pub limit : length places ≡ LAST
  pub each : (place : ℕ) → is_covered places place ≡ is_some (octet place)

abbrev pub HeldIn : Option (List Bool) → (ℕ → Option ℕ) → Type 0
HeldIn None octet = (place : ℕ) → octet place ≡ None
HeldIn (Some places) octet = CoversHeld places octet

-- the places of some octets of a session are covered too
abbrev pub CoversToo : RedParts → ℕ → ℕ → ℕ → List ℕ → RedParts → Type 0
CoversToo old originator session offset body new =
    (o n : ℕ) (octet : ℕ → Option ℕ) → HeldIn (get name_cmp old.held (o, n)) octet
    → HeldIn (get name_cmp new.held (o, n))
    (λ place. with_octets (same_name originator session o n) (octet place) offset body place)
