-- The gate between two links: an engine at each of its faces, a counter of its reports, and what it
-- does about a block that comes whole. What is decided about one block stands in `gate_cases`.

use Rattle.std.specs.Prelude.{ℕ, ◌+◌, ◌^◌, Bool, ◌||◌, nat_lt, nat_le, List, [], ◌∷◌, ◌++◌, length, map}
use Rattle.std.specs.Prelude.{Option, None, Some, Result, Ok, Err, if◌then◌else◌}
use Rattle.endpoint.specs.declared.name.Endpoint.{Endpoint}
use Rattle.ltp_segment.specs.declared.fault.SegmentCause.{SegmentCause}
use Rattle.ltp_segment.specs.declared.session.Note.{Note}
use Rattle.ltp_segment.specs.declared.session.TheConstants.{BLOCK_MAX}
use Rattle.ltp_segment.specs.Policy.{PolicyValue}
use Rattle.ltp_segment.specs.Values.{SegmentValue}
use Rattle.ltp_session.specs.Engine.{Party, Engine, EngineStep, SubmitFault, UpValue, starts}
use Rattle.ltp_session.specs.Engine.{datagram_step, submits, submit_step, tick_step}
use Rattle.gate_cases.specs.declared.face.Face.{Face}
use Rattle.gate_cases.specs.declared.face.Face.TheVariants as faces
use Rattle.gate_cases.specs.declared.case.GateCase.{GateCase}
use Rattle.gate_cases.specs.declared.case.GateCase.TheVariants as cases
use Rattle.gate_cases.specs.declared.case.Room.{Room}
use Rattle.gate_cases.specs.declared.report.AskedReport.{AskedReport}
use Rattle.gate_cases.specs.declared.judged.Judged.{Judged}
use Rattle.gate_cases.specs.Faces.{other_of}
use Rattle.gate_cases.specs.Cases.{judged}
use Rattle.gate_cases.specs.Bundles.{status_bundle}
use Rattle.gateway_core.specs.declared.effects.FaceUp.{FaceUp}
use Rattle.gateway_core.specs.declared.effects.FaceNote.{FaceNote}
use Rattle.gateway_core.specs.declared.note.GateNote.{GateNote}
use Rattle.gateway_core.specs.declared.note.GateNote.TheVariants as notes

-- ---- two faces

-- what belongs to a face, of two: the old face's first
abbrev pub at_face : {X : Type 0} → X × X → Face → X
at_face pair faces.Old = pair.0
at_face pair faces.New = pair.1

abbrev pub with_face : {X : Type 0} → X × X → Face → X → X × X
with_face pair faces.Old x = (x, pair.1)
with_face pair faces.New x = (pair.0, x)

-- of two things the first where the faces are the same, else the second
abbrev pub if_same : {X : Type 0} → Face → Face → X → X → X
if_same faces.Old faces.Old x y = x
if_same faces.Old faces.New x y = y
if_same faces.New faces.Old x y = y
if_same faces.New faces.New x y = x

-- ---- a gate

-- what never changes: who is at each face; the gate's own name; and the most octets of payload that
-- a piece has
pub record GateSetup : Type 0 where
  pub parties : Party × Party
  pub gate : Endpoint
  pub cut : ℕ

-- the engine of each face, and how many reports were made
pub record Gate : Type 0 where
  pub engines : Engine × Engine
  pub counter : ℕ

-- an engine whose first session has the number 1, with the usual bounds
abbrev pub party_of : ℕ → ℕ → PolicyValue → Party
party_of own peer policy = record {
  own = own;
  peer = peer;
  first = 1;
  policy = policy;
  most = BLOCK_MAX;
  sessions = 64;
  history = 65536;
}

-- the engines of the path have the numbers 1 to 4: the old node, the old face, the new face, the new
-- node
abbrev pub gate_parties : PolicyValue → Party × Party
gate_parties policy = (party_of 2 1 policy, party_of 3 4 policy)

-- a gate at its beginning
abbrev pub starts_gate : GateSetup → Gate
starts_gate s = record { engines = (starts s.parties.0, starts s.parties.1); counter = 0 }

-- ---- what it does

-- a segment that is to be sent at a face
pub record RoutedValue : Type 0 where
  pub face : Face
  pub segment : SegmentValue

-- segments that are to be sent, red parts that were handed up, and notes
pub record GateEffectsValue : Type 0 where
  pub out : List RoutedValue
  pub ups : List FaceUp
  pub notes : List FaceNote

-- the gate after a step, and the effects
pub record GateStep : Type 0 where
  pub gate : Gate
  pub effects : GateEffectsValue

abbrev pub no_effects : GateEffectsValue
no_effects = record { out = []; ups = []; notes = [] }

-- effects, and others after them: each list in this order
abbrev pub with_more : GateEffectsValue → GateEffectsValue → GateEffectsValue
with_more first more = record {
  out = first.out ++ more.out;
  ups = first.ups ++ more.ups;
  notes = first.notes ++ more.notes;
}

-- nothing is done
abbrev pub stays_so : Gate → GateStep
stays_so g = record { gate = g; effects = no_effects }

-- a step after effects that came before it
abbrev pub after_these : GateEffectsValue → GateStep → GateStep
after_these earlier step =
    record { gate = step.gate; effects = with_more earlier step.effects }

-- one step, and then another of the gate that it leaves
unfoldable pub and_then : GateStep → (Gate → GateStep) → GateStep
and_then step next = after_these step.effects (next step.gate)

-- a step for each of a list, one after the other
unfoldable pub in_turn : {X : Type 0} → (X → Gate → GateStep) → List X → Gate → GateStep
in_turn does [] g = stays_so g
in_turn does (x ∷ xs) g = and_then (does x g) (in_turn does xs)

abbrev pub note_at : Face → GateNote → FaceNote
note_at face note = record { face = face; note = note }

-- only a note about a face
abbrev pub noted_at : Face → GateNote → Gate → GateStep
noted_at face note g =
    record { gate = g; effects = record { out = []; ups = []; notes = note_at face note ∷ [] } }

-- ---- a face's engine

abbrev pub segment_at : Face → SegmentValue → RoutedValue
segment_at face segment = record { face = face; segment = segment }

abbrev pub up_at : Face → UpValue → FaceUp
up_at face up = record { face = face; session = up.session; body = up.body }

abbrev pub engine_note_at : Face → Note → FaceNote
engine_note_at face note = note_at face (notes.Engine note)

-- what an engine does is done at its face; green data that it hands up is dropped
abbrev pub effects_at : Face → EngineStep → GateEffectsValue
effects_at face step = record {
  out = map (segment_at face) step.effects.out;
  ups = map (up_at face) step.effects.ups;
  notes = map (engine_note_at face) step.effects.notes;
}

abbrev pub does_at : Face → Gate → EngineStep → GateStep
does_at face g step = record {
  gate = record g { engines = with_face g.engines face step.engine };
  effects = effects_at face step;
}

-- a datagram comes to it: a segment, or refused at a place for a cause
abbrev pub hears_at :
    GateSetup → Face → Gate → Result SegmentValue (ℕ × SegmentCause) → ℕ → EngineStep
hears_at s face g read now =
    datagram_step (at_face s.parties face) (at_face g.engines face) read now

-- its sessions tick
abbrev pub ticks_at : GateSetup → ℕ → Face → Gate → GateStep
ticks_at s now face g =
    does_at face g (tick_step (at_face s.parties face) (at_face g.engines face) now)

-- a block that an engine refuses changes nothing
abbrev pub sends_unless : Face → Gate → Result EngineStep SubmitFault → GateStep
sends_unless face g (Ok step) = does_at face g step
sends_unless face g (Err fault) = stays_so g

-- a block is submitted, all of it red
abbrev pub submission_at :
    GateSetup → Face → ℕ → List ℕ → Gate → Result EngineStep SubmitFault
submission_at s face now block g =
    submit_step (at_face s.parties face) (at_face g.engines face)
    (submits (at_face s.parties face) (at_face g.engines face) block (length block) now)

unfoldable pub sends_at : GateSetup → Face → ℕ → List ℕ → Gate → GateStep
sends_at s face now block g = sends_unless face g (submission_at s face now block g)

-- ---- a block that came whole

-- what room an engine has for sessions that it sends
abbrev pub room_of : Engine → Room
room_of e = record { sending = length e.senders; next_session = e.next }

-- what is decided about a block that came at a face, by the room at the other face
abbrev pub judged_at : GateSetup → Face → ℕ → List ℕ → Gate → Judged
judged_at s face now block g =
    judged face block now s.cut (room_of (at_face g.engines (other_of face)))

-- the note of a case, about the session in which the block came
abbrev pub case_note : ℕ → ℕ → GateCase → GateNote
case_note session pieces (cases.BadBundle at cause) = notes.BadBundle session at cause
case_note session pieces (cases.Untranslated cause) = notes.Untranslated session cause
case_note session pieces cases.Expired = notes.Expired session
case_note session pieces cases.HopLimit = notes.HopLimit session
case_note session pieces cases.Storage = notes.Storage session
case_note session pieces cases.Passed = notes.Passed session pieces

-- a report that is asked for isn't made where the face sends 64 sessions, or no session number is
-- left; where the clock shows less than a second, since such a bundle has no creation time; or where
-- the counter is spent
abbrev pub is_unreported : Face → ℕ → Gate → Bool
is_unreported face now g =
    nat_le 64 (length (at_face g.engines face).senders)
    || nat_le (2 ^ 32) (at_face g.engines face).next
    || nat_lt now 1000
    || nat_le (2 ^ 32) g.counter

-- a report is made with the counter's number, and the counter rises
abbrev pub reports_at : GateSetup → Face → ℕ → ℕ → AskedReport → Gate → GateStep
reports_at s face now session asked g =
    and_then
    (sends_at s face now (status_bundle s.gate g.counter now asked)
    (record g { counter = g.counter + 1 }))
    (noted_at face (notes.Reported session))

-- the report, where one is asked for, goes back at the face at which the block came
unfoldable pub answers_at : GateSetup → Face → ℕ → ℕ → Option AskedReport → Gate → GateStep
answers_at s face now session None g = stays_so g
answers_at s face now session (Some asked) g =
    if is_unreported face now g then noted_at face (notes.Unreported session) g
    else reports_at s face now session asked g

-- once it is decided: the pieces go on at the other face, all red and in their order; the case is
-- noted; and then the report
unfoldable pub decides_at : GateSetup → Face → ℕ → ℕ → Judged → Gate → GateStep
decides_at s face now session j g =
    and_then (in_turn (sends_at s (other_of face) now) j.pieces g) (λ h.
    and_then (noted_at face (case_note session (length j.pieces) j.case) h)
    (answers_at s face now session j.report))

-- a block came whole in a session
abbrev pub passes_at : GateSetup → Face → ℕ → UpValue → Gate → GateStep
passes_at s face now up g =
    decides_at s face now up.session (judged_at s face now up.body g) g

-- ---- events

-- a datagram comes at a face: what its engine does, and then each block that this hands up
unfoldable pub arrives_at :
    GateSetup → Face → Result SegmentValue (ℕ × SegmentCause) → ℕ → Gate → GateStep
arrives_at s face read now g =
    and_then (does_at face g (hears_at s face g read now))
    (in_turn (passes_at s face now) (hears_at s face g read now).effects.ups)

-- time passes: the old face's sessions tick, then the new face's
unfoldable pub ticks_gate : GateSetup → ℕ → Gate → GateStep
ticks_gate s now g = and_then (ticks_at s now faces.Old g) (ticks_at s now faces.New)

-- what happens to a gate, at a moment
pub data GateEvent : Type 0 where
  a_datagram_at : Face → Result SegmentValue (ℕ × SegmentCause) → ℕ → GateEvent
  a_moment_at_both : ℕ → GateEvent

abbrev pub gate_with : GateSetup → Gate → GateEvent → GateStep
gate_with s g (a_datagram_at face read now) = arrives_at s face read now g
gate_with s g (a_moment_at_both now) = ticks_gate s now g

-- the gate after some events, the newest first
unfoldable pub gate_after : GateSetup → List GateEvent → Gate
gate_after s [] = starts_gate s
gate_after s (event ∷ earlier) = (gate_with s (gate_after s earlier) event).gate
