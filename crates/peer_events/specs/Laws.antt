-- What holds of the events.

use Rattle.std.specs.Prelude.{◌≡◌, ℕ, ◌-◌, ◌<◌, ◌≤◌, Bool, true, false, ◌==◌, not, if◌then◌else◌, List, [], ◌∷◌, ◌++◌, map, codes, length, Option, None, Some, IfSome}
use Rattle.std.specs.List.{AllByRecursion, filter, filter_map, list_all}
use Rattle.ltp_segment.specs.declared.session.Note.{Note}
use Rattle.ltp_segment.specs.declared.session.Note.TheVariants as engine
use Rattle.gate_cases.specs.declared.case.GateCase.{GateCase}
use Rattle.gate_cases.specs.declared.case.GateCase.TheVariants as cases
use Rattle.gate_cases.specs.declared.face.Face.{Face}
use Rattle.gateway_core.specs.Gate.{if_same}
use Rattle.gateway_core.specs.declared.effects.FaceNote.{FaceNote}
use Rattle.gateway_core.specs.declared.note.GateNote.TheVariants as notes
use Rattle.gate_log.specs.declared.event.Event.{Event}
use Rattle.gate_log.specs.declared.subject.Subject.{Subject}
use Rattle.gate_log.specs.Subjects.{subject_of}
use Rattle.gate_log.specs.Values.{bundle, count, or_null}
use Rattle.gate_events.specs.Own.{OpenAt}
use Rattle.gate_events.specs.Events as plain
use Rattle.peer_gateway.specs.Keys.{PeerSetup}
use Rattle.peer_gateway.specs.Gate.{PeerMoments, PeerGate, Told, FaceTold, told_engine, told_forgotten, told_green, told_began, told_bundle, told_case, told_left, told_reported, told_unreported, told_end}
use Rattle.peer_gateway.specs.Steps.{PeerEvent, peer_step}
use Rattle.peer_events.specs.declared.own.OwnBlock.{OwnBlock}
use Rattle.peer_events.specs.Own.{find_own, is_of, own_seen}
use Rattle.peer_events.specs.Events.{events_of, own_left}
use Rattle.peer_events.specs.Heads.{in_line, line_of, line_told}
use Rattle.peer_events.specs.Named.{AllNamed, HasTexts}

-- ---- each thing has its line

-- Each thing that is told, but for a name, has one line, in order: its event, at the face, in the session, with
-- its place in the row and its numbers.
abbrev pub LinesTell : Type 0
LinesTell = (is_open : OpenAt) (own : List OwnBlock) (told : List FaceTold)
    → map line_of (events_of is_open own told) ≡ filter_map line_told told

-- what is told after others has this line, after theirs
pub record IsSaid (is_open : OpenAt) (own : List OwnBlock) (before : List FaceTold) (t : FaceTold) (later : List FaceTold) (Says : Event → Type 0) : Type 0 where
  pub event : Event
  pub more : List Event
  pub in_order :
      events_of is_open own (before ++ t ∷ later) ≡ events_of is_open own before ++ event ∷ more
  pub says : Says event

-- ---- the bundle

-- it names one
abbrev pub is_name : Told → Bool
is_name (told_engine note) = false
is_name (told_forgotten runs) = false
is_name (told_green green) = false
is_name (told_began pieces octets session) = false
is_name (told_bundle subject) = true
is_name (told_case index session case pieces first) = false
is_name (told_left index session left) = false
is_name (told_reported index session report) = false
is_name (told_unreported index session) = false
is_name (told_end index session end) = false

-- it is decided about a bundle, and not about octets that are none
abbrev pub is_bundle : GateCase → Bool
is_bundle (cases.BadBundle at cause) = false
is_bundle (cases.Untranslated cause) = true
is_bundle cases.Expired = true
is_bundle cases.HopLimit = true
is_bundle cases.Storage = true
is_bundle cases.Passed = true

-- it is told about a bundle
abbrev pub is_about : Told → Bool
is_about (told_engine note) = false
is_about (told_forgotten runs) = false
is_about (told_green green) = false
is_about (told_began pieces octets session) = false
is_about (told_bundle subject) = false
is_about (told_case index session case pieces first) = is_bundle case
is_about (told_left index session left) = true
is_about (told_reported index session report) = true
is_about (told_unreported index session) = true
is_about (told_end index session end) = false

-- a line has this subject
abbrev pub HasSubject : Option Subject → Event → Type 0
HasSubject subject event = in_line (codes "subject") event ≡ Some (or_null bundle subject)

abbrev pub named_at : Face → Option Subject → FaceTold
named_at face subject = record { face = face; told = told_bundle subject }

-- The line of what is told about a bundle has the bundle that was named last before it as its subject.
abbrev pub LastNamedIsSaid : Type 0
LastNamedIsSaid = (is_open : OpenAt) (own : List OwnBlock) (earlier between later : List FaceTold)
    → (face : Face) (subject : Option Subject) (t : FaceTold)
    → list_all (λ (u : FaceTold). not (is_name u.told)) between ≡ true → is_about t.told ≡ true
    → IsSaid is_open own (earlier ++ named_at face subject ∷ between) t later (HasSubject subject)

-- ---- ends of own sessions

-- the note is of a session that was being sent, or came, and is over
abbrev pub is_end : ℕ → Note → Bool
is_end session (engine.Sent n) = n == session
is_end session (engine.Failed n reason) = n == session
is_end session (engine.Refused n service) = false
is_end session (engine.Cancelled n reason) = n == session
is_end session (engine.Evicted n) = false
is_end session engine.Stranger = false
is_end session (engine.BadSegment at cause) = false
is_end session (engine.BadBounds n) = false
is_end session (engine.Closed n) = false
is_end session (engine.HistoryFull n) = false

abbrev pub is_end_told : ℕ → Told → Bool
is_end_told session (told_engine note) = is_end session note
is_end_told session (told_forgotten runs) = false
is_end_told session (told_green green) = false
is_end_told session (told_began pieces octets n) = false
is_end_told session (told_bundle subject) = false
is_end_told session (told_case index n case pieces first) = false
is_end_told session (told_left index n left) = false
is_end_told session (told_reported index n report) = false
is_end_told session (told_unreported index n) = false
is_end_told session (told_end index n end) = false

-- at a face, with a number
abbrev pub is_end_at : Face → ℕ → FaceTold → Bool
is_end_at face session t = if_same t.face face (is_end_told session t.told) false

-- how many own sessions of a face have a number, and how many notes tell of an end with it
abbrev pub own_count : Face → ℕ → List OwnBlock → ℕ
own_count face session own = length (filter (is_of face session) own)

abbrev pub end_count : Face → ℕ → List FaceTold → ℕ
end_count face session told = length (filter (is_end_at face session) told)

-- Each note of an end takes one own session of its face with its number, where that is open no longer. So of a
-- session's end it is told once, and it is own until then.
abbrev pub OwnGoByEnds : Type 0
OwnGoByEnds = (is_open : OpenAt) (own : List OwnBlock) (told : List FaceTold) (face : Face) (session : ℕ)
    → own_count face session (own_left is_open own told)
    ≡ (if is_open face session then own_count face session own
    else own_count face session own - end_count face session told)

-- a line has the first bundle of a block, and how many it has exactly where there are several
pub record SaysBlock (block : OwnBlock) (event : Event) : Type 0 where
  pub subject : HasSubject block.subject event
  pub several : 1 < block.pieces → in_line (codes "bundles") event ≡ Some (count block.pieces)
  pub alone : block.pieces ≤ 1 → in_line (codes "bundles") event ≡ None

-- The first note of the end of an own session that isn't open any longer has a line about its block.
abbrev pub EndsSayBlocks : Type 0
EndsSayBlocks = (is_open : OpenAt) (own : List OwnBlock) (before later : List FaceTold)
    → (face : Face) (session : ℕ) (block : OwnBlock) (t : FaceTold)
    → find_own face session own ≡ Some block → is_open face session ≡ false
    → list_all (λ (u : FaceTold). not (is_end_at face session u)) before ≡ true
    → is_end_at face session t ≡ true
    → IsSaid is_open own before t later (SaysBlock block)

-- ---- blocks of one piece

-- a note at a face, as a gate of either kind tells it
abbrev pub note_told : Face × Note → FaceTold
note_told n = record { face = n.0; told = told_engine n.1 }

abbrev pub note_of : Face × Note → FaceNote
note_of n = record { face = n.0; note = notes.Engine n.1 }

abbrev pub plain_seen : OpenAt → plain.Seen
plain_seen is_open = plain.seen [] is_open

abbrev pub plain_untold : List OwnBlock → plain.Untold
plain_untold own = plain.untold (map own_seen own) []

-- Where each block is one piece, an engine's notes are the events that a gate without rows has of them, and
-- leave the same sessions.
pub record IsAsPlain (is_open : OpenAt) (own : List OwnBlock) (ns : List (Face × Note)) : Type 0 where
  pub events : events_of is_open own (map note_told ns)
      ≡ plain.events_of (plain_seen is_open) (plain_untold own) (map note_of ns)
  pub left : map own_seen (own_left is_open own (map note_told ns))
      ≡ plain.own_left (plain_seen is_open) (plain_untold own) (map note_of ns)

abbrev pub AloneAsPlain : Type 0
AloneAsPlain = (is_open : OpenAt) (own : List OwnBlock) (ns : List (Face × Note))
    → AllByRecursion (λ (block : OwnBlock). block.pieces ≤ 1) own → IsAsPlain is_open own ns

-- ---- names have texts

-- the bundle that octets name has names that have texts, whatever the octets
abbrev pub SubjectsHaveTexts : Type 0
SubjectsHaveTexts = (octets : List ℕ) → IfSome (subject_of octets) HasTexts

-- and so has each bundle that a step names
abbrev pub StepsAreNamed : Type 0
StepsAreNamed = (s : PeerSetup) (event : PeerEvent) (m : PeerMoments) (octets : ℕ × ℕ) (g : PeerGate)
    → AllNamed ((peer_step s event m octets g).effects).told
