-- The octets of a red part that came, place by place (RFC 5326, section 6.9): its cells, its
-- length, and which pieces can be of it. A place is an offset in the block; a cell is a place with
-- its octet, or without one while that is missing. The reach of some cells is the place after the
-- last octet that came, or 0 where none came. The stop of a piece is the place after its last
-- octet.

use Rattle.std.specs.Prelude.{ℕ, Bool, false, not, ◌==◌, ◌&&◌, ◌||◌, nat_lt, List, length, map}
use Rattle.std.specs.Prelude.{Option, None, Some, is_some, if◌then◌else◌}
-- cells of any octets, what is laid over them, and the octets once none is missing
pub use Rattle.cells.specs.Cells.{cell, reach_of, stop_of, octet_in, laid_over, whole_part}
unfoldable pub use Rattle.cells.specs.Cells.{filled, all_octets}

-- which places have an octet
abbrev pub filled_places : List (Option ℕ) → List Bool
filled_places cells = map is_some cells

-- the length of the red part: the stop of the first piece that ended it, and it stays so
abbrev pub length_after : Option ℕ → Bool → ℕ → Option ℕ
length_after (Some end) ends stop = Some end
length_after None ends stop = if ends then Some stop else None

-- ---- bounds

-- a bound is known, and the place is strictly greater
abbrev pub is_past : Option ℕ → ℕ → Bool
is_past None place = false
is_past (Some end) place = nat_lt end place

-- the length is known, and the place is strictly less
abbrev pub is_below : Option ℕ → ℕ → Bool
is_below None place = false
is_below (Some end) place = nat_lt place end

-- the length is known, and isn't this place
abbrev pub is_another : Option ℕ → ℕ → Bool
is_another None place = false
is_another (Some end) place = not (end == place)

-- A red piece that can't be one of this red part: it stops past the known length. Or it ends the
-- red part, and stops elsewhere than at the known length, or below the reach of what came.
abbrev pub is_misplaced : ℕ → Option ℕ → Bool → ℕ → Bool
is_misplaced reach length ends stop =
    is_past length stop || (ends && (is_another length stop || nat_lt stop reach))

-- a piece that can't be one of any block: it is empty, or stops past the greatest block
abbrev pub is_no_part : ℕ → ℕ → List ℕ → Bool
is_no_part most offset body = (length body == 0) || nat_lt most (stop_of offset body)
