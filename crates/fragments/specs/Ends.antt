-- What the pieces of a record hold together.

use Rattle.std.specs.Prelude.{◌≡◌, ℕ, ◌<◌, List}
use Rattle.std.specs.List.{flat_map}
use Rattle.bundle_meaning.specs.declared.full.Full.{Full}
use Rattle.fragments.specs.Cutting.{octets_of, pieces}

abbrev pub payload_of : Full → List ℕ
payload_of full = octets_of full.shared.content

-- The pieces lie end to end: their octets one after another are those of the payload.
abbrev pub LieEndToEnd : Type 0
LieEndToEnd = (full : Full) (size : ℕ) → 0 < size
    → flat_map payload_of (pieces full size) ≡ payload_of full
