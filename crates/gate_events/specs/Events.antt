-- What the notes of a gate's step tell an operator, each as an event of the log.

use Rattle.std.specs.Prelude.{ℕ, Bool, false, ◌==◌, List, [], ◌∷◌, drop, Option, None, Some}
use Rattle.std.specs.Prelude.{if◌then◌else◌}
use Rattle.ltp_segment.specs.declared.session.Note.{Note}
use Rattle.ltp_segment.specs.declared.session.Note.TheVariants as engine
use Rattle.gate_cases.specs.declared.face.Face.{Face}
use Rattle.gateway_core.specs.declared.effects.FaceUp.{FaceUp}
use Rattle.gateway_core.specs.declared.effects.FaceNote.{FaceNote}
use Rattle.gateway_core.specs.declared.note.GateNote.{GateNote}
use Rattle.gateway_core.specs.declared.note.GateNote.TheVariants as notes
use Rattle.gateway_core.specs.Gate.{if_same}
use Rattle.gate_log.specs.declared.event.Event.{Event}
use Rattle.gate_log.specs.declared.event.Event.TheVariants as events
use Rattle.gate_log.specs.declared.event.LinkEvent.TheVariants as links
use Rattle.gate_log.specs.declared.event.SessionEvent.TheVariants as sessions
use Rattle.gate_log.specs.declared.event.BundleEvent.{BundleEvent}
use Rattle.gate_log.specs.declared.event.BundleEvent.TheVariants as bundles
use Rattle.gate_log.specs.declared.subject.Subject.{Subject}
use Rattle.gate_log.specs.Subjects.{subject_of}
use Rattle.gate_events.specs.declared.own.Own.{Own}
use Rattle.gate_events.specs.Own.{OpenAt, end_of, left_by}

-- ---- what is known of a step

-- the blocks that came whole with it, and which own sessions are open after it
pub record Seen : Type 0 where
  pub ups : List FaceUp
  pub is_open : OpenAt

abbrev pub seen : List FaceUp → OpenAt → Seen
seen ups is_open = record { ups = ups; is_open = is_open }

-- what its notes haven't told yet: the own sessions that were open before it; and those that it
-- began, the pieces of each bundle before the report on it
pub record Untold : Type 0 where
  pub own : List Own
  pub begun : List Own

-- ---- which bundle a note is about

-- the bundle that is the front of the block that came in a session
abbrev pub is_in : Face → ℕ → FaceUp → Bool
is_in face session up = if_same up.face face (up.session == session) false

unfoldable pub came_in : Face → ℕ → List FaceUp → Option Subject
came_in face session [] = None
came_in face session (up ∷ ups) =
    if is_in face session up then subject_of up.body else came_in face session ups

-- the bundle that an own session carried
abbrev pub carried : Option Own → Option Subject
carried None = None
carried (Some own) = own.subject

-- the number of the first session that the step began and no note told of
abbrev pub first_number : List Own → ℕ
first_number [] = 0
first_number (own ∷ more) = own.session

-- ---- the event of a note

-- a session failed, or was cancelled: one of the gateway's own where the note tells of its end, else
-- one of the peer's
abbrev pub failed_event : Face → ℕ → ℕ → Option Own → Event
failed_event face session reason None = events.Session face session (sessions.Failed reason)
failed_event face session reason (Some own) =
    events.Bundle face session own.subject (bundles.Failed None reason)

abbrev pub cancelled_event : Face → ℕ → ℕ → Option Own → Event
cancelled_event face session reason None =
    events.Session face session (sessions.Cancelled reason)
cancelled_event face session reason (Some own) =
    events.Bundle face session own.subject (bundles.Cancelled None reason)

-- a note of a face's engine
abbrev pub engine_event : OpenAt → List Own → Face → Note → Event
engine_event is_open own face (engine.Sent session) =
    events.Bundle face session (carried (end_of is_open face session own)) (bundles.Sent None)
engine_event is_open own face (engine.Failed session reason) =
    failed_event face session reason (end_of is_open face session own)
engine_event is_open own face (engine.Refused session service) =
    events.Session face session (sessions.Refused service)
engine_event is_open own face (engine.Cancelled session reason) =
    cancelled_event face session reason (end_of is_open face session own)
engine_event is_open own face (engine.Evicted session) =
    events.Session face session sessions.Evicted
engine_event is_open own face engine.Stranger = events.Link face links.Stranger
engine_event is_open own face (engine.BadSegment at cause) =
    events.Link face (links.BadSegment at cause)
engine_event is_open own face (engine.BadBounds session) =
    events.Session face session sessions.BadBounds
engine_event is_open own face (engine.Closed session) =
    events.Session face session sessions.Closed
engine_event is_open own face (engine.HistoryFull session) =
    events.Session face session sessions.HistoryFull

-- of a block that came in a session, with its bundle
abbrev pub block_event : Seen → Face → ℕ → BundleEvent → Event
block_event s face session what =
    events.Bundle face session (came_in face session s.ups) what

abbrev pub gate_event : Seen → Untold → Face → GateNote → Event
gate_event s u face (notes.Engine note) = engine_event s.is_open u.own face note
gate_event s u face (notes.BadBundle session at cause) =
    events.Session face session (sessions.BadBundle at cause)
gate_event s u face (notes.Untranslated session cause) =
    block_event s face session (bundles.Untranslated cause)
gate_event s u face (notes.Expired session) = block_event s face session bundles.Expired
gate_event s u face (notes.HopLimit session) = block_event s face session bundles.HopLimit
gate_event s u face (notes.Storage session) = block_event s face session bundles.Storage
gate_event s u face (notes.Passed session pieces) =
    block_event s face session (bundles.Passed (Some (first_number u.begun)) pieces)
gate_event s u face (notes.Reported session) =
    block_event s face session (bundles.Reported (Some (first_number u.begun)))
gate_event s u face (notes.Unreported session) =
    block_event s face session bundles.Unreported

-- of a note about a face
abbrev pub event_of : Seen → Untold → FaceNote → Event
event_of s u n = gate_event s u n.face n.note

-- ---- what it leaves untold

abbrev pub own_after : OpenAt → Face → Note → List Own → List Own
own_after is_open face (engine.Sent session) own = left_by is_open face session own
own_after is_open face (engine.Failed session reason) own = left_by is_open face session own
own_after is_open face (engine.Refused session service) own = own
own_after is_open face (engine.Cancelled session reason) own = left_by is_open face session own
own_after is_open face (engine.Evicted session) own = own
own_after is_open face engine.Stranger own = own
own_after is_open face (engine.BadSegment at cause) own = own
own_after is_open face (engine.BadBounds session) own = own
own_after is_open face (engine.Closed session) own = own
own_after is_open face (engine.HistoryFull session) own = own

-- the own sessions of whose end no note told
abbrev pub own_untold : OpenAt → Face → GateNote → List Own → List Own
own_untold is_open face (notes.Engine note) own = own_after is_open face note own
own_untold is_open face (notes.BadBundle session at cause) own = own
own_untold is_open face (notes.Untranslated session cause) own = own
own_untold is_open face (notes.Expired session) own = own
own_untold is_open face (notes.HopLimit session) own = own
own_untold is_open face (notes.Storage session) own = own
own_untold is_open face (notes.Passed session pieces) own = own
own_untold is_open face (notes.Reported session) own = own
own_untold is_open face (notes.Unreported session) own = own

-- the sessions that began and of which no note told: a bundle that goes on has as many as pieces, and a
-- report one
abbrev pub begun_untold : GateNote → List Own → List Own
begun_untold (notes.Engine note) begun = begun
begun_untold (notes.BadBundle session at cause) begun = begun
begun_untold (notes.Untranslated session cause) begun = begun
begun_untold (notes.Expired session) begun = begun
begun_untold (notes.HopLimit session) begun = begun
begun_untold (notes.Storage session) begun = begun
begun_untold (notes.Passed session pieces) begun = drop pieces begun
begun_untold (notes.Reported session) begun = drop 1 begun
begun_untold (notes.Unreported session) begun = begun

abbrev pub untold_after : Seen → Untold → FaceNote → Untold
untold_after s u n = record {
  own = own_untold s.is_open n.face n.note u.own;
  begun = begun_untold n.note u.begun;
}

-- ---- all notes of a step, in order

unfoldable pub events_of : Seen → Untold → List FaceNote → List Event
events_of s u [] = []
events_of s u (n ∷ more) = event_of s u n ∷ events_of s (untold_after s u n) more

unfoldable pub own_left : Seen → Untold → List FaceNote → List Own
own_left s u [] = u.own
own_left s u (n ∷ more) = own_left s (untold_after s u n) more

-- before the notes of a step are told
abbrev pub untold : List Own → List Own → Untold
untold own begun = record { own = own; begun = begun }
