-- What stands in a block that was handed up: each bundle of its row, and perhaps an end. A gateway does one
-- after the other.

use Rattle.std.specs.Prelude.{ℕ, ◌+◌, nat_lt, Bool, if◌then◌else◌, List, [], ◌∷◌, map, length, Option, Some, None}
use Rattle.std.specs.Option.{option_map}
use Rattle.std.specs.Result.{result_ok}
use Rattle.wire_fields.specs.Reading.{read}
use Rattle.bundle6.specs.declared.bundle.Bundle6.{Bundle6}
use Rattle.bundle6.specs.Table as table6
use Rattle.bundle7.specs.declared.bundle.Bundle7.{Bundle7}
use Rattle.bundle7.specs.Table as table7
use Rattle.gate_cases.specs.declared.face.Face.{Face}
use Rattle.gate_cases.specs.declared.face.Face.TheVariants.{Old, New}
use Rattle.bundle_rows.specs.declared.next.End.{End}
use Rattle.bundle_rows.specs.Rows.{Row, octets_in, row_of}
use Rattle.peer_cases.specs.declared.decision.Decision.{Decision}
use Rattle.peer_cases.specs.declared.room.FaceRoom.{FaceRoom}
use Rattle.peer_cases.specs.declared.settings.PeerSettings.{PeerSettings}
use Rattle.peer_cases.specs.Arrivals.{Came, came6, came7}
use Rattle.peer_cases.specs.Cases.{decided}

-- ---- a bundle

-- the bundle that octets spell, as it came at a face
unfoldable pub came_in : PeerSettings → Face → List ℕ → Option Came
came_in s Old octets = option_map (λ (x : Bundle6 × ℕ). came6 s x.0) (result_ok (read (table6.bundle 64) octets 0))
came_in s New octets = option_map (λ (x : Bundle7 × ℕ). came7 s x.0) (result_ok (read (table7.bundle 64) octets 0))

-- the octets of each bundle of a block
abbrev pub bundles_in : Face → List ℕ → List (List ℕ)
bundles_in face block = map (octets_in block) (row_of face block).bundles

-- what is decided about it
unfoldable pub decided_in : PeerSettings → Face → List ℕ → ℕ → ℕ → FaceRoom → Option Decision
decided_in s face octets now cut room =
    option_map (λ (came : Came). decided s face came now cut room) (came_in s face octets)

-- ---- items

-- a bundle by its octets, or the end; each with its place in the row, from 1, where it isn't alone in it
pub data Item : Type 0 where
  a_bundle : Option ℕ → List ℕ → Item
  an_end : Option ℕ → End → Item

abbrev pub ends_in : Option End → ℕ
ends_in None = 0
ends_in (Some end) = 1

-- more than one thing stands there
abbrev pub is_several : Row → Bool
is_several row = nat_lt 1 (length row.bundles + ends_in row.end)

abbrev pub index_if : Bool → ℕ → Option ℕ
index_if several index = if several then Some index else None

-- bundles from a place of the row on, and then the end
unfoldable pub items_from : Bool → ℕ → List (List ℕ) → Option End → List Item
items_from several index [] None = []
items_from several index [] (Some end) = an_end (index_if several index) end ∷ []
items_from several index (octets ∷ more) end =
    a_bundle (index_if several index) octets ∷ items_from several (index + 1) more end

-- what a row of a block has
abbrev pub items_in : List ℕ → Row → List Item
items_in block row = items_from (is_several row) 1 (map (octets_in block) row.bundles) row.end

-- all that stands in a block, in order
unfoldable pub items_of : Face → List ℕ → List Item
items_of face block = items_in block (row_of face block)
