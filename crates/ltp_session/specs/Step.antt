-- What one session does in answer to an event: its step. A step names neither the session's
-- originator nor its number; who keeps the session knows them.
--
-- A piece is a data segment. A session is cancelled (RFC 5326, section 6.19) or closed (6.20).

use Rattle.std.specs.Prelude.{◌≢◌, ℕ, Bool, List, [], Option, None, Some}
use Rattle.ltp_segment.specs.Values.{ContentValue}

-- what is to be noted
pub data NoteValue : Type 0 where
  -- the block was sent, and its red part, if it has one, claimed whole
  note_sent : NoteValue
  -- this end cancelled the session, for this reason
  note_failed : ℕ → NoteValue
  -- a piece came for this client service, which isn't here
  note_refused : ℕ → NoteValue
  -- the other end cancelled the session, for this reason
  note_cancelled : ℕ → NoteValue
  -- a piece or a report came that doesn't fit the block
  note_bad_bounds : NoteValue
  -- a piece came for a session that is cancelled or closed
  note_closed : NoteValue
  -- a piece came for a new session, and the record of closed ones has no room
  note_history_full : NoteValue

-- a green piece, handed up as it came: where it begins, whether the block ends with it, its octets
pub record GreenValue : Type 0 where
  pub offset : ℕ
  pub last : Bool
  pub body : List ℕ

-- What becomes of a session: it stays as it was, kept or not; it is kept, in this state; or it is
-- closed. To be kept is to be touched, also in the same state.
pub data Change (S : Type 0) : Type 0 where
  stays : Change S
  keeps : S → Change S
  ends : Change S

-- what is kept of a session after a change
abbrev pub after : {S : Type 0} → Change S → Option S → Option S
after stays kept = kept
after (keeps state) kept = Some state
after ends kept = None

-- what becomes of the session; what it sends, in order; the red part and a green piece, where they
-- are handed up; and a note
pub record StepValue (S : Type 0) : Type 0 where
  pub next : Change S
  pub out : List ContentValue
  pub up : Option (List ℕ)
  pub green : Option GreenValue
  pub note : Option NoteValue

-- a step without a note, which hands nothing up
abbrev pub sending : {S : Type 0} → Change S → List ContentValue → StepValue S
sending next out = record { next = next; out = out; up = None; green = None; note = None }

-- a step with a note, which hands nothing up
abbrev pub noting : {S : Type 0} → Change S → List ContentValue → NoteValue → StepValue S
noting next out note =
    record { next = next; out = out; up = None; green = None; note = Some note }

-- the step sends something
abbrev pub Sends : {S : Type 0} → StepValue S → Type 0
Sends step = step.out ≢ []

-- ---- the reasons of the cancels that we send (RFC 5326, section 3.2.4): UNREACH, RLEXC,
-- MISCOLORED and SYS_CNCLD

abbrev pub unreachable : ℕ
unreachable = 1

abbrev pub sent_too_often : ℕ
sent_too_often = 2

abbrev pub miscoloured : ℕ
miscoloured = 3

abbrev pub by_system : ℕ
by_system = 4
