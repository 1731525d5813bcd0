-- When a part of a half finds nothing to do that takes memory.

use Rattle.std.specs.Prelude.{◌≡◌, true, [], None}
use Rattle.gate_cases.specs.declared.face.Face.{Face}
use Rattle.gate_face.specs.Contacts.{told_at}
use Rattle.gate_face.specs.Halves.{full_event, lost_event}
use Rattle.outbox.specs.declared.reading.Reading.{Reading}
use Rattle.peer_half.specs.Standing.{Standing, face_of}
use Rattle.peer_half.specs.Journals.{records_in}
use Rattle.peer_half.specs.Parts.{next_resumed, reserves}

-- at this reading nothing is told of the contacts, and `start` was said before
pub record NothingSaid (now : Reading) (s : Standing) : Type 0 where
  pub old : told_at (s.faces.0).outbox now ≡ None
  pub new : told_at (s.faces.1).outbox now ≡ None
  pub started : s.started ≡ true

-- no piece of an earlier run is still to be added
abbrev pub NothingKept : Standing → Type 0
NothingKept s = (face : Face) → next_resumed face s ≡ None

-- there is no record of the half, also once its session numbers are reserved
abbrev pub NothingRecorded : Standing → Type 0
NothingRecorded s = records_in (reserves s).journal ≡ []

-- at neither face a datagram was dropped, or its send failed
abbrev pub NothingLost : Standing → Type 0
NothingLost s =
    (face : Face) → (full_event (face_of face s) ≡ None) × (lost_event (face_of face s) ≡ None)
