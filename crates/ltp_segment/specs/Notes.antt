-- The names of notes.

use Rattle.std.specs.Prelude.{ℕ, List, codes}
use Rattle.ltp_segment.specs.declared.session.Note.{Note}
use Rattle.ltp_segment.specs.declared.session.Note.TheVariants as notes

abbrev pub note_name : Note → List ℕ
note_name (notes.Sent session) = codes "Sent"
note_name (notes.Failed session reason) = codes "Failed"
note_name (notes.Refused session service) = codes "Refused"
note_name (notes.Cancelled session reason) = codes "Cancelled"
note_name (notes.Evicted session) = codes "Evicted"
note_name notes.Stranger = codes "Stranger"
note_name (notes.BadSegment at cause) = codes "BadSegment"
note_name (notes.BadBounds session) = codes "BadBounds"
note_name (notes.Closed session) = codes "Closed"
note_name (notes.HistoryFull session) = codes "HistoryFull"
