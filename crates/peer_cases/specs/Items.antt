-- What code gives of the things that stand in a block.

use Rattle.std.specs.Prelude.{◌≡◌, ℕ, ◌+◌, ◌-◌, ◌≤◌, ◌==◌, Bool, false, not, List, [], ◌∷◌, map, length, Option, Some, None}
use Rattle.wire_fields.specs.Reading.{IsOctets}
use Rattle.gate_cases.specs.declared.face.Face.{Face}
use Rattle.bundle_rows.specs.declared.next.Next.{Next}
use Rattle.bundle_rows.specs.declared.next.Next.TheVariants as nexts
use Rattle.bundle_rows.specs.Rows.{Row, octets_in, next_of, row_from, IsInBlock}
use Rattle.bundle_rows.specs.Standing.{IsBundle}
use Rattle.peer_cases.specs.declared.items.Item.{Item as Lent}
use Rattle.peer_cases.specs.declared.items.Item.TheVariants as lent
use Rattle.peer_cases.specs.Rows.{Item, a_bundle, an_end, items_from}

-- ---- an item

abbrev pub item_seen : Lent → Item
item_seen (lent.Bundle index octets) = a_bundle index octets.now
item_seen (lent.End index end) = an_end index end

-- what is given as a bundle is one
abbrev pub IsItem : Face → Lent → Type 0
IsItem face (lent.Bundle index octets) = IsBundle face octets.now
IsItem face (lent.End index end) = Unit {0}

-- ---- those that are left

-- at a face
pub record ItemsValue : Type 0 where
  pub face : Face
  pub left : List Item

-- the first of them was given, and the others are left; or there was none
abbrev pub Gives : List Item → List Item → Option Item → Type 0
Gives old new (Some item) = old ≡ item ∷ new
Gives old new None = (old ≡ []) × (new ≡ [])

-- ---- as the code keeps them

-- From a place of a block on, where it is the place with this index in the row, from 1. A bundle has an
-- octet, so no more are left than octets less those that were given.
abbrev pub row_left : Face → List ℕ → ℕ → ℕ → Row
row_left face block index at = row_from (length block + 1 - index) face block at

abbrev pub items_in_row : Bool → ℕ → List ℕ → Row → List Item
items_in_row several index block row = items_from several index (map (octets_in block) row.bundles) row.end

unfoldable pub items_from_place : Bool → ℕ → Face → List ℕ → ℕ → List Item
items_from_place several index face block at = items_in_row several index block (row_left face block index at)

-- what stands at the place was read
pub record IsAhead (face : Face) (block : List ℕ) (index at : ℕ) (next : Next) : Type 0 where
  pub fits : IsOctets block
  pub next_is : next ≡ next_of face block at
  pub within : IsInBlock (length block) at next
  pub some : 1 ≤ index
  pub few : index ≤ at + 1

-- something follows what stands first
abbrev pub goes_on : ℕ → Next → Bool
goes_on size nexts.Nothing = false
goes_on size (nexts.Bundle to) = not (to == size)
goes_on size (nexts.End place cause) = false
