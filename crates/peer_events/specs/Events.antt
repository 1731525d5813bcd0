-- What is told of a step of a gate among other implementations, each thing as an event of the log.

use Rattle.std.specs.Prelude.{ℕ, nat_lt, List, [], ◌∷◌, ◌++◌, map, length, Option, None, Some}
use Rattle.std.specs.Prelude.{if◌then◌else◌}
use Rattle.std.specs.List.{cons_option}
use Rattle.ltp_segment.specs.declared.session.Green.{Green}
use Rattle.ltp_segment.specs.declared.session.Note.{Note}
use Rattle.ltp_segment.specs.declared.session.Note.TheVariants as engine
use Rattle.gate_cases.specs.declared.case.GateCase.{GateCase}
use Rattle.gate_cases.specs.declared.case.GateCase.TheVariants as cases
use Rattle.gate_cases.specs.declared.cause.BadCause.{BadCause}
use Rattle.gate_cases.specs.declared.face.Face.{Face}
use Rattle.gate_log.specs.declared.event.Event.{Event}
use Rattle.gate_log.specs.declared.event.Event.TheVariants as events
use Rattle.gate_log.specs.declared.event.LinkEvent.TheVariants as links
use Rattle.gate_log.specs.declared.event.SessionEvent.TheVariants as sessions
use Rattle.gate_log.specs.declared.event.BundleEvent.{BundleEvent}
use Rattle.gate_log.specs.declared.event.BundleEvent.TheVariants as bundles
use Rattle.gate_log.specs.declared.subject.Subject.{Subject}
use Rattle.gate_events.specs.Own.{OpenAt}
use Rattle.peer_gateway.specs.Gate.{Told, FaceTold, BegunAt, told_engine, told_forgotten, told_green, told_began, told_bundle, told_case, told_left, told_reported, told_unreported, told_end}
use Rattle.peer_events.specs.declared.own.OwnBlock.{OwnBlock}
use Rattle.peer_events.specs.Own.{own_with, end_of, left_by}

-- ---- of an engine's note

-- the first bundle of an own session, and of how many bundles its block is, where several were gathered
abbrev pub carried : Option OwnBlock → Option Subject
carried None = None
carried (Some own) = own.subject

abbrev pub several : ℕ → Option ℕ
several pieces = if nat_lt 1 pieces then Some pieces else None

abbrev pub gathered : Option OwnBlock → Option ℕ
gathered None = None
gathered (Some own) = several own.pieces

-- a session failed, or was cancelled: one of the gateway's own where the note tells of its end, else
-- one of the peer's
abbrev pub failed_event : Face → ℕ → ℕ → Option OwnBlock → Event
failed_event face session reason None = events.Session face session (sessions.Failed reason)
failed_event face session reason (Some own) =
    events.Bundle face session own.subject (bundles.Failed (several own.pieces) reason)

abbrev pub cancelled_event : Face → ℕ → ℕ → Option OwnBlock → Event
cancelled_event face session reason None =
    events.Session face session (sessions.Cancelled reason)
cancelled_event face session reason (Some own) =
    events.Bundle face session own.subject (bundles.Cancelled (several own.pieces) reason)

abbrev pub sent_event : Face → ℕ → Option OwnBlock → Event
sent_event face session end =
    events.Bundle face session (carried end) (bundles.Sent (gathered end))

abbrev pub engine_event : OpenAt → List OwnBlock → Face → Note → Event
engine_event is_open own face (engine.Sent session) =
    sent_event face session (end_of is_open face session own)
engine_event is_open own face (engine.Failed session reason) =
    failed_event face session reason (end_of is_open face session own)
engine_event is_open own face (engine.Refused session service) =
    events.Session face session (sessions.Refused service)
engine_event is_open own face (engine.Cancelled session reason) =
    cancelled_event face session reason (end_of is_open face session own)
engine_event is_open own face (engine.Evicted session) =
    events.Session face session sessions.Evicted
engine_event is_open own face engine.Stranger = events.Link face links.Stranger
engine_event is_open own face (engine.BadSegment at cause) =
    events.Link face (links.BadSegment at cause)
engine_event is_open own face (engine.BadBounds session) =
    events.Session face session sessions.BadBounds
engine_event is_open own face (engine.Closed session) =
    events.Session face session sessions.Closed
engine_event is_open own face (engine.HistoryFull session) =
    events.Session face session sessions.HistoryFull

-- ---- of a row

-- of a bundle, with its place in the row where it isn't alone in it
abbrev pub bundle_event : Face → Option ℕ → ℕ → Option Subject → BundleEvent → Event
bundle_event face None session about what = events.Bundle face session about what
bundle_event face (Some index) session about what = events.InRow face session index about what

-- where the row ends before its block does
abbrev pub end_event : Face → Option ℕ → ℕ → ℕ → BadCause → Event
end_event face None session at cause = events.Session face session (sessions.BadBundle at cause)
end_event face (Some index) session at cause =
    events.Session face session (sessions.BadEnd index at cause)

-- by the case, where so many pieces go on, the first of them in this session
abbrev pub case_event : Face → Option ℕ → ℕ → Option Subject → GateCase → ℕ → Option ℕ → Event
case_event face index session about (cases.BadBundle at cause) pieces first =
    end_event face index session at cause
case_event face index session about (cases.Untranslated cause) pieces first =
    bundle_event face index session about (bundles.Untranslated cause)
case_event face index session about cases.Expired pieces first =
    bundle_event face index session about bundles.Expired
case_event face index session about cases.HopLimit pieces first =
    bundle_event face index session about bundles.HopLimit
case_event face index session about cases.Storage pieces first =
    bundle_event face index session about bundles.Storage
case_event face index session about cases.Passed pieces first =
    bundle_event face index session about (bundles.Passed first pieces)

-- ---- the event of what is told

abbrev pub green_event : Face → Green → Event
green_event face green =
    events.Session face green.session (sessions.Green green.last (length green.body) green.offset)

-- What is told about a bundle is about the one that was named last. A name alone is no event.
abbrev pub event_of : OpenAt → List OwnBlock → Option Subject → Face → Told → Option Event
event_of is_open own about face (told_engine note) = Some (engine_event is_open own face note)
event_of is_open own about face (told_forgotten runs) =
    Some (events.Link face (links.Forgotten runs))
event_of is_open own about face (told_green green) = Some (green_event face green)
event_of is_open own about face (told_began pieces octets session) =
    Some (events.Session face session (sessions.Began pieces octets))
event_of is_open own about face (told_bundle subject) = None
event_of is_open own about face (told_case index session case pieces first) =
    Some (case_event face index session about case pieces first)
event_of is_open own about face (told_left index session left) =
    Some (events.LeftOut face session index about left.kinds left.residue)
event_of is_open own about face (told_reported index session report) =
    Some (bundle_event face index session about (bundles.Reported report))
event_of is_open own about face (told_unreported index session) =
    Some (bundle_event face index session about bundles.Unreported)
event_of is_open own about face (told_end index session end) =
    Some (end_event face index session end.at end.cause)

-- ---- what it leaves

abbrev pub own_noted : OpenAt → Face → Note → List OwnBlock → List OwnBlock
own_noted is_open face (engine.Sent session) own = left_by is_open face session own
own_noted is_open face (engine.Failed session reason) own = left_by is_open face session own
own_noted is_open face (engine.Refused session service) own = own
own_noted is_open face (engine.Cancelled session reason) own = left_by is_open face session own
own_noted is_open face (engine.Evicted session) own = own
own_noted is_open face engine.Stranger own = own
own_noted is_open face (engine.BadSegment at cause) own = own
own_noted is_open face (engine.BadBounds session) own = own
own_noted is_open face (engine.Closed session) own = own
own_noted is_open face (engine.HistoryFull session) own = own

-- the own sessions of whose end nothing was told
abbrev pub own_after : OpenAt → Face → Told → List OwnBlock → List OwnBlock
own_after is_open face (told_engine note) own = own_noted is_open face note own
own_after is_open face (told_forgotten runs) own = own
own_after is_open face (told_green green) own = own
own_after is_open face (told_began pieces octets session) own = own
own_after is_open face (told_bundle subject) own = own
own_after is_open face (told_case index session case pieces first) own = own
own_after is_open face (told_left index session left) own = own
own_after is_open face (told_reported index session report) own = own
own_after is_open face (told_unreported index session) own = own
own_after is_open face (told_end index session end) own = own

-- the bundle that was named last
abbrev pub about_after : Told → Option Subject → Option Subject
about_after (told_engine note) about = about
about_after (told_forgotten runs) about = about
about_after (told_green green) about = about
about_after (told_began pieces octets session) about = about
about_after (told_bundle subject) about = subject
about_after (told_case index session case pieces first) about = about
about_after (told_left index session left) about = about
about_after (told_reported index session report) about = about
about_after (told_unreported index session) about = about
about_after (told_end index session end) about = about

-- ---- all that is told of a step, in order

unfoldable pub events_from : OpenAt → List OwnBlock → Option Subject → List FaceTold → List Event
events_from is_open own about [] = []
events_from is_open own about (t ∷ more) =
    cons_option (event_of is_open own about t.face t.told)
    (events_from is_open (own_after is_open t.face t.told own) (about_after t.told about) more)

-- by the own sessions before it; no bundle is named yet
abbrev pub events_of : OpenAt → List OwnBlock → List FaceTold → List Event
events_of is_open own told = events_from is_open own None told

unfoldable pub own_left : OpenAt → List OwnBlock → List FaceTold → List OwnBlock
own_left is_open own [] = own
own_left is_open own (t ∷ more) = own_left is_open (own_after is_open t.face t.told own) more

-- the own sessions after a step: those of whose end nothing was told, and those that it began
abbrev pub own_after_step : OpenAt → List FaceTold → List BegunAt → List OwnBlock → List OwnBlock
own_after_step is_open told begun own = own_left is_open own told ++ map own_with begun
