-- What a step of the gate did, as far as the journal has to know it.

use Rattle.std.specs.Prelude.{ℕ, Bool, false, ◌||◌, ◌==◌, List, [], ◌∷◌, Option, None, Some, is_some, if◌then◌else◌, Result, Ok, Err}
use Rattle.std.specs.List.{list_any}
use Rattle.ltp_segment.specs.declared.fault.SegmentCause.{SegmentCause}
use Rattle.ltp_segment.specs.declared.session.Note.{Note}
use Rattle.ltp_segment.specs.declared.session.Note.TheVariants as engine
use Rattle.ltp_segment.specs.Values.{SegmentValue, ContentValue, a_piece, a_report, a_report_ack, a_sender_cancel, a_sender_cancel_ack, a_receiver_cancel, a_receiver_cancel_ack}
use Rattle.ltp_segment.specs.Reading.{segment_of}
use Rattle.gate_cases.specs.declared.face.Face.{Face}
use Rattle.gateway_core.specs.declared.effects.FaceUp.{FaceUp}
use Rattle.gateway_core.specs.declared.effects.FaceNote.{FaceNote}
use Rattle.gateway_core.specs.declared.effects.Routed.{Routed}
use Rattle.gateway_core.specs.Gate.{if_same}
use Rattle.gateway_core.specs.declared.note.GateNote.{GateNote}
use Rattle.gateway_core.specs.declared.note.GateNote.TheVariants as notes
use Rattle.gate_events.specs.declared.own.Own.{Own}
use Rattle.gate_events.specs.Own.{OpenAt, end_of}
use Rattle.gate_events.specs.Events.{is_in, own_untold}
use Rattle.journal_file.specs.declared.record.How.{How}
use Rattle.journal_file.specs.declared.record.How.TheVariants as hows

pub record Happened : Type 0 where
  -- what the wall clock shows
  pub wall : ℕ
  -- the own sessions that were open before it, and which are open after it
  pub own : List Own
  pub is_open : OpenAt
  -- which sessions of the peers are kept after it and were handed up, then or before
  pub is_handed_up : OpenAt
  -- the blocks that came whole with it, what it sends, and its notes
  pub ups : List FaceUp
  pub out : List Routed
  pub notes : List FaceNote

-- ---- an own session's end

-- the own session of whose end a note may tell, and how it ended then
abbrev pub engine_ends : Note → Option (ℕ × How)
engine_ends (engine.Sent session) = Some (session, hows.Sent)
engine_ends (engine.Failed session reason) = Some (session, hows.Failed)
engine_ends (engine.Refused session service) = None
engine_ends (engine.Cancelled session reason) = Some (session, hows.Cancelled)
engine_ends (engine.Evicted session) = None
engine_ends engine.Stranger = None
engine_ends (engine.BadSegment at cause) = None
engine_ends (engine.BadBounds session) = None
engine_ends (engine.Closed session) = None
engine_ends (engine.HistoryFull session) = None

abbrev pub note_ends : GateNote → Option (ℕ × How)
note_ends (notes.Engine note) = engine_ends note
note_ends (notes.BadBundle session at cause) = None
note_ends (notes.Untranslated session cause) = None
note_ends (notes.Expired session) = None
note_ends (notes.HopLimit session) = None
note_ends (notes.Storage session) = None
note_ends (notes.Passed session pieces) = None
note_ends (notes.Reported session) = None
note_ends (notes.Unreported session) = None

-- ---- a report that goes out

-- the session that a segment reports on
abbrev pub content_reports : ℕ → ContentValue → Option ℕ
content_reports session (a_piece piece) = None
content_reports session (a_report report) = Some session
content_reports session (a_report_ack serial) = None
content_reports session (a_sender_cancel reason) = None
content_reports session a_sender_cancel_ack = None
content_reports session (a_receiver_cancel reason) = None
content_reports session a_receiver_cancel_ack = None

abbrev pub segment_reports : Result SegmentValue (ℕ × SegmentCause) → Option ℕ
segment_reports (Ok s) = content_reports s.session s.content
segment_reports (Err refusal) = None

-- the session of the peer that a datagram reports on, if it is a report
abbrev pub reports_on : List ℕ → Option ℕ
reports_on datagram = segment_reports (segment_of datagram)

-- ---- a session of the peer that is over, for the journal

-- its block came whole with the step
abbrev pub came_whole : Face → ℕ → List FaceUp → Bool
came_whole face session ups = list_any (is_in face session) ups

-- a note that tells of no own session's end, and says that the sender cancelled a session
abbrev pub engine_cancels : OpenAt → List Own → Face → Note → Option ℕ
engine_cancels is_open own face (engine.Sent session) = None
engine_cancels is_open own face (engine.Failed session reason) = None
engine_cancels is_open own face (engine.Refused session service) = None
engine_cancels is_open own face (engine.Cancelled session reason) =
    if is_some (end_of is_open face session own) then None else Some session
engine_cancels is_open own face (engine.Evicted session) = None
engine_cancels is_open own face engine.Stranger = None
engine_cancels is_open own face (engine.BadSegment at cause) = None
engine_cancels is_open own face (engine.BadBounds session) = None
engine_cancels is_open own face (engine.Closed session) = None
engine_cancels is_open own face (engine.HistoryFull session) = None

abbrev pub note_cancels : OpenAt → List Own → Face → GateNote → Option ℕ
note_cancels is_open own face (notes.Engine note) = engine_cancels is_open own face note
note_cancels is_open own face (notes.BadBundle session at cause) = None
note_cancels is_open own face (notes.Untranslated session cause) = None
note_cancels is_open own face (notes.Expired session) = None
note_cancels is_open own face (notes.HopLimit session) = None
note_cancels is_open own face (notes.Storage session) = None
note_cancels is_open own face (notes.Passed session pieces) = None
note_cancels is_open own face (notes.Reported session) = None
note_cancels is_open own face (notes.Unreported session) = None

abbrev pub names : Face → ℕ → Face → Option ℕ → Bool
names face session at None = false
names face session at (Some number) = if_same at face (number == session) false

-- among notes, each with the own sessions of whose end none before it told
unfoldable pub cancelled : OpenAt → Face → ℕ → List Own → List FaceNote → Bool
cancelled is_open face session own [] = false
cancelled is_open face session own (n ∷ more) =
    names face session n.face (note_cancels is_open own n.face n.note)
    || cancelled is_open face session (own_untold is_open n.face n.note own) more

-- the block of a session came whole with the step, or its sender cancelled it
abbrev pub is_over : Happened → Face → ℕ → Bool
is_over h face session =
    came_whole face session h.ups || cancelled h.is_open face session h.own h.notes
