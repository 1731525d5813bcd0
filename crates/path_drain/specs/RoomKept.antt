-- Room is kept while a path drains: after each event there is room for what is still on its way,
-- and within a step of the gate for each session that it begins.

use Rattle.std.specs.Prelude.{◌≡◌, ℕ, ◌^◌, ◌<◌, ◌≤◌, List, [], ◌∷◌, length, Some, slice_get, ◌⊎◌}
use Rattle.ltp_segment.specs.declared.session.Note.TheVariants as notes
use Rattle.ltp_session.specs.Engine.{Engine, Party}
use Rattle.ltp_session.specs.Sender.{Sending}
use Rattle.ltp_session.specs.Table.{find}
use Rattle.ltp_session.specs.World.{ArePeers, End, Event, Sent, World, at_end, happens, run}
use Rattle.ltp_laws.specs.Facts.{SessionFacts}
use Rattle.ltp_laws.specs.View.{IsIn}
use Rattle.ltp_drain.specs.Draining.{Oldest, oldest}
use Rattle.ltp_drain.specs.Hopeful.{IsAmple, IsReached, Room}
use Rattle.ltp_drain.specs.Standing.{DrainHolds}
use Rattle.gate_cases.specs.declared.face.Face.{Face}
use Rattle.gateway_core.specs.declared.note.GateNote.TheVariants as gate_notes
use Rattle.path_laws.specs.declared.effects.NoteAt.{NoteAt}
use Rattle.path_laws.specs.declared.effects.UpAt.{UpAt}
use Rattle.path_laws.specs.declared.places.Place.{Place}
use Rattle.path_laws.specs.Links.{first_on, link_at, link_parties, link_sent, submits_on}
use Rattle.path_laws.specs.Log.{begun_at}
use Rattle.path_laws.specs.Path.{Path, PathEvent, PathSetup, SentFrom, clock_shows, delivers}
use Rattle.path_laws.specs.Path.{note_from, path_run, path_step, sends, starts_path}
use Rattle.path_laws.specs.Places.{face_place, link_end_of, link_of}
use Rattle.path_drain.specs.OnTheWay.{node_at}
use Rattle.path_drain.specs.Owing.{RoomOwing, none_owed}
use Rattle.path_drain.specs.PathRoom.{PathRoom}
use Rattle.path_drain.specs.Pieces.{HasLongPiece}

-- ---- what is kept from event to event

-- an engine sends every block all red
pub record SendsRed (e : Engine) : Type 0 where
  pub red : (n : ℕ) (s : Sending) → find n e.senders ≡ Some s → s.red ≡ length s.block

-- a path with room, whose nodes do so
pub record IsRoomyPath (s : PathSetup) (w : Path) : Type 0 where
  pub room : RoomOwing s w none_owed
  pub reds : (face : Face) → SendsRed (node_at w face)

-- ---- a path that drains

-- on each link, whose engines have ample bounds, and which a run led to, all sessions stand; of what
-- was sent there this is new
pub record PathStands (s : PathSetup) (w : Path) (new : Face → List Sent)
    (rank : Face → End → ℕ → ℕ) : Type 0 where
  pub peers : (face : Face) → ArePeers (link_parties s face)
  pub ample : (face : Face) (o : End) → IsAmple (at_end (link_parties s face) o)
  pub reached : (face : Face) → IsReached (link_parties s face) (link_at face w)
  pub holds :
      (face : Face)
      → DrainHolds SessionFacts (link_parties s face)
      (record { world = link_at face w; new = new face }) (rank face)

-- a segment comes that is the oldest new one of its place; or the clock is set, where nothing is
-- new on either link
abbrev pub MayFollow : Path → (Face → List Sent) → PathEvent → Type 0
MayFollow w new (sends end block) = ⊥
MayFollow w new (delivers k) =
    (d : SentFrom) × (o : Oldest) × (slice_get w.sent k ≡ Some d)
    × (oldest (link_end_of d.from) (new (link_of d.from)) ≡ Some o) × (o.first ≡ link_sent d)
MayFollow w new (clock_shows now) = (face : Face) → new face ≡ []

-- ---- what an event leaves

-- a link has room after each of some events
abbrev pub IsRoomyThrough : Party × Party → World → List Event → Type 0
IsRoomyThrough parties w [] = Unit {0}
IsRoomyThrough parties w (event ∷ events) =
    Room (happens parties w event) × IsRoomyThrough parties (happens parties w event) events

-- no session is closed to make room, and none finds no room in the record of closed numbers
pub record NoneForRoom (noted : List NoteAt) : Type 0 where
  pub evicted : (place : Place) (n : ℕ) → IsIn (note_from place (notes.Evicted n)) noted → ⊥
  pub full : (place : Place) (n : ℕ) → IsIn (note_from place (notes.HistoryFull n)) noted → ⊥

-- a bundle that came at a face is stopped for want of storage, since a piece of it is longer than a
-- session carries
pub record IsOfLength (s : PathSetup) (ups : List UpAt) (face : Face) (n : ℕ) : Type 0 where
  pub up : UpAt
  pub among : IsIn up ups
  pub place : up.place ≡ face_place face
  pub session : up.session ≡ n
  pub long : HasLongPiece face up.body s.gate.cut

-- at a moment, and once so many reports were made, no report can be made: the clock shows less
-- than a second, or the numbers of reports are spent
abbrev pub HasNoReports : ℕ → ℕ → Type 0
HasNoReports now made = (now < 1000) ⊎ (2 ^ 32 ≤ made)

-- what an event of a drain leaves of the room, and what it notes of it
pub record RoomAfter (s : PathSetup) (w : Path) (event : PathEvent) : Type 0 where
  pub room : PathRoom s (path_step s w event).path
  pub kept : IsRoomyPath s (path_step s w event).path
  -- on each link, after each block that the gate submits there
  pub through :
      (face : Face)
      → IsRoomyThrough (link_parties s face)
      (run (link_parties s face) (link_at face w) (first_on face w event))
      (submits_on face (begun_at s w event))
  pub noted : NoneForRoom (path_step s w event).effects.notes
  pub storage :
      (face : Face) (n : ℕ)
      → IsIn (record { place = face_place face; note = gate_notes.Storage n })
      (path_step s w event).effects.notes
      → IsOfLength s (path_step s w event).effects.ups face n
  pub unreported :
      (face : Face) (n : ℕ)
      → IsIn (record { place = face_place face; note = gate_notes.Unreported n })
      (path_step s w event).effects.notes
      → HasNoReports w.now (path_step s w event).path.gate.counter

-- a drain keeps room, from event to event
abbrev pub RoomIsKept : Type 0
RoomIsKept =
    (s : PathSetup) (w : Path) (new : Face → List Sent) (rank : Face → End → ℕ → ℕ)
    (event : PathEvent) → PathStands s w new rank → IsRoomyPath s w → MayFollow w new event
    → RoomAfter s w event

-- in every run of a path the nodes send all red
abbrev pub NodesSendRed : Type 0
NodesSendRed =
    (s : PathSetup) (start : ℕ) (events : List PathEvent)
    → ((face : Face) → ArePeers (link_parties s face)) → (face : Face)
    → SendsRed (node_at (path_run s (starts_path s start) events) face)
