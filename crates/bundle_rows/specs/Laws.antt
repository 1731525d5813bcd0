-- What holds of rows.

use Rattle.std.specs.Prelude.{◌≡◌, ℕ, ◌<◌, List, [], ◌∷◌, length, Option, Some, None}
use Rattle.wire_fields.specs.Reading.{IsOctets}
use Rattle.gate_cases.specs.declared.cause.BadCause.TheVariants.{Trailing}
use Rattle.gate_cases.specs.declared.face.Face.{Face}
use Rattle.gate_cases.specs.Blocks.{Arrival, Found, one, bad, found_at}
use Rattle.bundle_rows.specs.declared.next.End.{End}
use Rattle.bundle_rows.specs.Rows.{Extent, octets_in, row_of}
use Rattle.bundle_rows.specs.Standing.{Stands}

-- what stands in a block is its row, and no other does
pub record IsSpelled (face : Face) (block : List ℕ) : Type 0 where
  pub stands : Stands face block 0 (row_of face block).bundles (row_of face block).end
  pub only : (bundles : List Extent) (end : Option End) → Stands face block 0 bundles end
      → row_of face block ≡ record { bundles = bundles; end = end }

abbrev pub RowIsSpelled : Type 0
RowIsSpelled = (face : Face) (block : List ℕ) → IsOctets block → IsSpelled face block

-- a block that is exactly one bundle
abbrev pub IsOne : Found → Type 0
IsOne found = (arrival : Arrival) × (found ≡ one arrival)

-- each of the bundles, in a block of its own, is exactly one bundle
abbrev pub AreAlone : Face → List ℕ → List Extent → Type 0
AreAlone face block [] = Unit {0}
AreAlone face block (extent ∷ more) = IsOne (found_at face (octets_in block extent)) × AreAlone face block more

abbrev pub EachAlone : Type 0
EachAlone = (face : Face) (block : List ℕ) → IsOctets block → AreAlone face block (row_of face block).bundles

-- What a gateway that takes one bundle a block finds in it: that bundle, where the row is one without an
-- end; the end, where there is no bundle; and else that something follows the first bundle.
abbrev pub FindsOne : Found → List Extent → Option End → Type 0
FindsOne found [] None = ⊥
FindsOne found [] (Some end) = found ≡ bad end.at end.cause
FindsOne found (extent ∷ []) None = IsOne found
FindsOne found (extent ∷ []) (Some end) = found ≡ bad extent.to Trailing
FindsOne found (extent ∷ (other ∷ more)) end = found ≡ bad extent.to Trailing

abbrev pub ReadsAsOne : Type 0
ReadsAsOne = (face : Face) (block : List ℕ) → IsOctets block → 0 < length block
    → FindsOne (found_at face block) (row_of face block).bundles (row_of face block).end
