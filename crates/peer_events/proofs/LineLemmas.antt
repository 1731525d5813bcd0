-- The line of each thing that is told.

use Rattle.std.proofs.Common.{◌≡◌, ℕ, List, [], ◌∷◌, map, Option, None, Some, refl, ap, ◌∙◌}
use Rattle.std.specs.List.{cons_option, filter_map}
use Rattle.std.specs.Option.{option_map}
use Rattle.ltp_segment.specs.declared.session.Note.{Note}
use Rattle.ltp_segment.specs.declared.session.Note.TheVariants as engine
use Rattle.gate_cases.specs.declared.case.GateCase.{GateCase}
use Rattle.gate_cases.specs.declared.case.GateCase.TheVariants as cases
use Rattle.gate_cases.specs.declared.face.Face.{Face}
use Rattle.gate_log.specs.declared.event.Event.TheVariants as events
use Rattle.gate_log.specs.declared.event.BundleEvent.TheVariants as bundles
use Rattle.gate_log.specs.declared.subject.Subject.{Subject}
use Rattle.gate_events.specs.Own.{OpenAt}
use Rattle.peer_gateway.specs.Gate.{Told, FaceTold, told_engine, told_forgotten, told_green, told_began, told_bundle, told_case, told_left, told_reported, told_unreported, told_end}
use Rattle.peer_events.specs.declared.own.OwnBlock.{OwnBlock}
use Rattle.peer_events.specs.Own.{end_of}
use Rattle.peer_events.specs.Events.{about_after, cancelled_event, carried, case_event, engine_event, event_of, events_from, failed_event, gathered, own_after, several}
use Rattle.peer_events.specs.Heads.{Line, line_of, line_told, line_with, under, word_of_case, word_of_note}
use Rattle.peer_events.specs.Laws.{LinesTell}

abbrev at : Face → Told → FaceTold
at face told = record { face = face; told = told }

abbrev note_line : Face → Note → Line
note_line face note = line_with (at face (told_engine note)) (word_of_note note)

-- ---- an engine's notes

sent-line : (face : Face) (session : ℕ) (subject : Option Subject) (count : Option ℕ)
    → line_of (events.Bundle face session subject (bundles.Sent count)) ≡ note_line face (engine.Sent session)
unfolding under
sent-line face session subject None = refl
sent-line face session subject (Some n) = refl

failed-own : (face : Face) (session reason : ℕ) (subject : Option Subject) (count : Option ℕ)
    → line_of (events.Bundle face session subject (bundles.Failed count reason)) ≡ note_line face (engine.Failed session reason)
unfolding under
failed-own face session reason subject None = refl
failed-own face session reason subject (Some n) = refl

failed-line : (face : Face) (session reason : ℕ) (end : Option OwnBlock)
    → line_of (failed_event face session reason end) ≡ note_line face (engine.Failed session reason)
unfolding under
failed-line face session reason None = refl
failed-line face session reason (Some own) = failed-own face session reason own.subject (several own.pieces)

cancelled-own : (face : Face) (session reason : ℕ) (subject : Option Subject) (count : Option ℕ)
    → line_of (events.Bundle face session subject (bundles.Cancelled count reason)) ≡ note_line face (engine.Cancelled session reason)
unfolding under
cancelled-own face session reason subject None = refl
cancelled-own face session reason subject (Some n) = refl

cancelled-line : (face : Face) (session reason : ℕ) (end : Option OwnBlock)
    → line_of (cancelled_event face session reason end) ≡ note_line face (engine.Cancelled session reason)
unfolding under
cancelled-line face session reason None = refl
cancelled-line face session reason (Some own) = cancelled-own face session reason own.subject (several own.pieces)

engine-line : (is_open : OpenAt) (own : List OwnBlock) (face : Face) (note : Note)
    → line_of (engine_event is_open own face note) ≡ note_line face note
unfolding under
engine-line is_open own face (engine.Sent session) =
    sent-line face session (carried (end_of is_open face session own)) (gathered (end_of is_open face session own))
engine-line is_open own face (engine.Failed session reason) = failed-line face session reason (end_of is_open face session own)
engine-line is_open own face (engine.Refused session service) = refl
engine-line is_open own face (engine.Cancelled session reason) = cancelled-line face session reason (end_of is_open face session own)
engine-line is_open own face (engine.Evicted session) = refl
engine-line is_open own face engine.Stranger = refl
engine-line is_open own face (engine.BadSegment at cause) = refl
engine-line is_open own face (engine.BadBounds session) = refl
engine-line is_open own face (engine.Closed session) = refl
engine-line is_open own face (engine.HistoryFull session) = refl

-- ---- bundles

case-line : (face : Face) (index : Option ℕ) (session : ℕ) (about : Option Subject) (case : GateCase) (pieces : ℕ) (first : Option ℕ)
    → line_of (case_event face index session about case pieces first)
    ≡ line_with (at face (told_case index session case pieces first)) (word_of_case case)
unfolding under
case-line face None session about (cases.BadBundle at cause) pieces first = refl
case-line face (Some i) session about (cases.BadBundle at cause) pieces first = refl
case-line face None session about (cases.Untranslated cause) pieces first = refl
case-line face (Some i) session about (cases.Untranslated cause) pieces first = refl
case-line face None session about cases.Expired pieces first = refl
case-line face (Some i) session about cases.Expired pieces first = refl
case-line face None session about cases.HopLimit pieces first = refl
case-line face (Some i) session about cases.HopLimit pieces first = refl
case-line face None session about cases.Storage pieces first = refl
case-line face (Some i) session about cases.Storage pieces first = refl
case-line face None session about cases.Passed pieces None = refl
case-line face None session about cases.Passed pieces (Some n) = refl
case-line face (Some i) session about cases.Passed pieces None = refl
case-line face (Some i) session about cases.Passed pieces (Some n) = refl

-- ---- all that is told

told-line : (is_open : OpenAt) (own : List OwnBlock) (about : Option Subject) (face : Face) (told : Told)
    → option_map line_of (event_of is_open own about face told) ≡ line_told (at face told)
unfolding under
told-line is_open own about face (told_engine note) = ap Some (engine-line is_open own face note)
told-line is_open own about face (told_forgotten runs) = refl
told-line is_open own about face (told_green green) = refl
told-line is_open own about face (told_began pieces octets session) = refl
told-line is_open own about face (told_bundle subject) = refl
told-line is_open own about face (told_case index session case pieces first) = ap Some (case-line face index session about case pieces first)
told-line is_open own about face (told_left None session left) = refl
told-line is_open own about face (told_left (Some i) session left) = refl
told-line is_open own about face (told_reported None session None) = refl
told-line is_open own about face (told_reported None session (Some n)) = refl
told-line is_open own about face (told_reported (Some i) session None) = refl
told-line is_open own about face (told_reported (Some i) session (Some n)) = refl
told-line is_open own about face (told_unreported None session) = refl
told-line is_open own about face (told_unreported (Some i) session) = refl
told-line is_open own about face (told_end None session end) = refl
told-line is_open own about face (told_end (Some i) session end) = refl

map-cons_option : {X Y : Type 0} (f : X → Y) (o : Option X) (xs : List X) → map f (cons_option o xs) ≡ cons_option (option_map f o) (map f xs)
map-cons_option f None xs = refl
map-cons_option f (Some x) xs = refl

lines-from : (is_open : OpenAt) (own : List OwnBlock) (about : Option Subject) (told : List FaceTold)
    → map line_of (events_from is_open own about told) ≡ filter_map line_told told
unfolding events_from
lines-from is_open own about [] = refl
lines-from is_open own about (t ∷ more) =
    let rest = lines-from is_open (own_after is_open t.face t.told own) (about_after t.told about) more in
    map-cons_option line_of (event_of is_open own about t.face t.told)
    (events_from is_open (own_after is_open t.face t.told own) (about_after t.told about) more)
    ∙ rw (told-line is_open own about t.face t.told, rest) refl

pub lines-tell : LinesTell
lines-tell is_open own told = lines-from is_open own None told
