-- The same in the words of the formats: which octets spell a bundle, and which are refused.

use Rattle.std.specs.Prelude.{◌≡◌, ℕ, ◌-◌, ◌<◌, ◌≤◌, List, [], ◌∷◌, length, drop, Option, Some, None}
use Rattle.wire_fields.specs.Format.{Spells}
use Rattle.wire_fields.specs.Refusal.{Stop}
use Rattle.bundle6.specs.declared.fault.Cause6.{Cause6}
use Rattle.bundle6.specs.declared.bundle.Bundle6.{Bundle6}
use Rattle.bundle6.specs.Table as table6
use Rattle.bundle6.specs.Legal.{Refusal6}
use Rattle.bundle7.specs.declared.fault.Cause7.{Cause7}
use Rattle.bundle7.specs.declared.bundle.Bundle7.{Bundle7}
use Rattle.bundle7.specs.Legal.{Spells7, Refusal7}
use Rattle.gate_cases.specs.declared.cause.BadCause.{BadCause}
use Rattle.gate_cases.specs.declared.cause.BadCause.TheVariants.{Six, Seven}
use Rattle.gate_cases.specs.declared.face.Face.{Face}
use Rattle.gate_cases.specs.declared.face.Face.TheVariants.{Old, New}
use Rattle.gate_cases.specs.Blocks.{cause6_of, cause7_of}
use Rattle.bundle_rows.specs.declared.next.End.{End}
use Rattle.bundle_rows.specs.Rows.{Extent, octets_in}

-- the octets spell a bundle of the face's version
abbrev pub IsBundle : Face → List ℕ → Type 0
IsBundle Old octets = (b : Bundle6) × Spells (table6.bundle 64) [] octets b
IsBundle New octets = (b : Bundle7) × Spells7 b octets

-- the octets are refused at a place: those before it are as they should be, and the next field isn't there
abbrev pub IsRefused : Face → List ℕ → ℕ → BadCause → Type 0
IsRefused Old octets at cause = (stop : Stop Cause6) × Refusal6 octets at stop × (cause ≡ Six (cause6_of stop))
IsRefused New octets at cause = (stop : Stop Cause7) × Refusal7 octets at stop × (cause ≡ Seven (cause7_of stop))

-- From a place of the block on these bundles stand in it, one after the other, up to its end; or up to
-- octets that are refused.
abbrev pub Stands : Face → List ℕ → ℕ → List Extent → Option End → Type 0
Stands face block at [] None = at ≡ length block
Stands face block at [] (Some end) =
    (at < length block) × (at ≤ end.at) × IsRefused face (drop at block) (end.at - at) end.cause
Stands face block at (extent ∷ more) end =
    (extent.from ≡ at) × (at < extent.to) × (extent.to ≤ length block)
    × IsBundle face (octets_in block extent) × Stands face block extent.to more end
