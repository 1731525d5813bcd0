-- What code finds at the front of some octets.

use Rattle.std.specs.Prelude.{ℕ, ◌<◌, ◌≤◌, Result, Ok, Err}
use Rattle.bundle_rows.specs.declared.next.End.{End}
use Rattle.bundle_rows.specs.Rows.{Front, bundle, wrong}

abbrev pub front_found : Result ℕ End → Front
front_found (Ok size) = bundle size
front_found (Err end) = wrong end.at end.cause

-- a bundle has an octet, and all places are among the octets
abbrev pub IsInFront : ℕ → Result ℕ End → Type 0
IsInFront size (Ok n) = (0 < n) × (n ≤ size)
IsInFront size (Err end) = end.at ≤ size
