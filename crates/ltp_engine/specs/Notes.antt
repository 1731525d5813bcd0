-- What the note of a session's step tells.

use Rattle.std.specs.Prelude.{if◌then◌else◌, Bool, true, false, Option, None, Some}
use Rattle.ltp_segment.specs.declared.session.Note.{Note}
use Rattle.ltp_segment.specs.declared.session.Note.TheVariants as notes

abbrev pub is_bad_bounds : Note → Bool
is_bad_bounds (notes.Sent session) = false
is_bad_bounds (notes.Failed session reason) = false
is_bad_bounds (notes.Refused session service) = false
is_bad_bounds (notes.Cancelled session reason) = false
is_bad_bounds (notes.Evicted session) = false
is_bad_bounds notes.Stranger = false
is_bad_bounds (notes.BadSegment at cause) = false
is_bad_bounds (notes.BadBounds session) = true
is_bad_bounds (notes.Closed session) = false
is_bad_bounds (notes.HistoryFull session) = false

-- a session took a piece: it notes one that doesn't fit its block
abbrev pub is_taken : Option Note → Bool
is_taken None = true
is_taken (Some note) = if is_bad_bounds note then false else true
