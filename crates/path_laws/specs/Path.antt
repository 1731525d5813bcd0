-- A path: an old node, a gate and a new node, with a link between each two; every segment that was
-- ever sent on either link; what each end has of bundles that come in pieces; and a clock.

use Rattle.std.specs.Prelude.{ℕ, Bool, true, false, not, ◌&&◌, nat_lt, List, [], ◌∷◌, ◌++◌, length}
use Rattle.std.specs.Prelude.{map, Option, None, Some, Result, Ok, Err, slice_get, is_some}
use Rattle.std.specs.Prelude.{if◌then◌else◌}
use Rattle.endpoint.specs.declared.name.Endpoint.{Endpoint}
use Rattle.bundle_meaning.specs.declared.full.Full.{Full}
use Rattle.translate.specs.Refusals.{first_that_holds}
use Rattle.fragments.specs.declared.fault.JoinRefused.{JoinRefused}
use Rattle.fragments.specs.declared.fault.JoinRefused.TheVariants as refusals
use Rattle.fragments.specs.declared.join.Join.{Join}
use Rattle.fragments.specs.declared.joining.Joined.{Joined}
use Rattle.fragments.specs.declared.joining.Joined.TheVariants as answers
use Rattle.fragments.specs.Again.{answer, after}
use Rattle.ltp_segment.specs.declared.session.Note.{Note}
use Rattle.ltp_segment.specs.Policy.{PolicyValue}
use Rattle.ltp_segment.specs.Values.{SegmentValue}
use Rattle.ltp_session.specs.Engine.{Party, Engine, EngineStep, SubmitFault, UpValue, starts}
use Rattle.ltp_session.specs.Engine.{list_of}
use Rattle.ltp_session.specs.Engine.{datagram_step, submits, submit_step, tick_step}
use Rattle.gate_cases.specs.declared.face.Face.{Face}
use Rattle.gate_cases.specs.Faces.{other_of, octets_at, fits_at}
use Rattle.gate_cases.specs.Blocks.{Arrival, Found, one, bad, found_at}
use Rattle.gateway_core.specs.declared.effects.FaceUp.{FaceUp}
use Rattle.gateway_core.specs.declared.effects.FaceNote.{FaceNote}
use Rattle.gateway_core.specs.declared.note.GateNote.TheVariants as notes
use Rattle.gateway_core.specs.Gate.{GateSetup, Gate, GateStep, GateEffectsValue, RoutedValue}
use Rattle.gateway_core.specs.Gate.{party_of, gate_parties, starts_gate, arrives_at, ticks_gate}
use Rattle.path_laws.specs.declared.effects.EndJoin.{EndJoin}
use Rattle.path_laws.specs.declared.effects.EndJoin.TheVariants as told
use Rattle.path_laws.specs.declared.effects.JoinAt.{JoinAt}
use Rattle.path_laws.specs.declared.effects.NoteAt.{NoteAt}
use Rattle.path_laws.specs.declared.effects.UpAt.{UpAt}
use Rattle.path_laws.specs.declared.places.PathEnd.{PathEnd}
use Rattle.path_laws.specs.declared.places.PathEnd.TheVariants as ends
use Rattle.path_laws.specs.declared.places.Place.{Place}
use Rattle.path_laws.specs.Places.{face_of, node_place, face_place, across, Stand, at_node}
use Rattle.path_laws.specs.Places.{at_gate, stand_of}

-- ---- a path

-- what never changes: the nodes' engines, the old one's first, and the gate
pub record PathSetup : Type 0 where
  pub nodes : Party × Party
  pub gate : GateSetup

-- the engines of a path have the numbers 1 to 4, and all have one policy
abbrev pub path_setup : Endpoint → PolicyValue → ℕ → PathSetup
path_setup gate policy cut = record {
  nodes = (party_of 1 2 policy, party_of 4 3 policy);
  gate = record { parties = gate_parties policy; gate = gate; cut = cut };
}

-- a segment, and the place that sent it, to the one across its link
pub record SentFrom : Type 0 where
  pub from : Place
  pub segment : SegmentValue

-- The list of what was sent only grows: a segment that no event delivers is lost. Each end has the
-- bundles that are open there, piece by piece.
pub record Path : Type 0 where
  pub nodes : Engine × Engine
  pub gate : Gate
  pub joins : List Join × List Join
  pub sent : List SentFrom
  pub now : ℕ

abbrev pub starts_path : PathSetup → ℕ → Path
starts_path s now = record {
  nodes = (starts s.nodes.0, starts s.nodes.1);
  gate = starts_gate s.gate;
  joins = ([], []);
  sent = [];
  now = now;
}

-- what belongs to an end, of two
abbrev pub at_path_end : {X : Type 0} → X × X → PathEnd → X
at_path_end pair ends.Old = pair.0
at_path_end pair ends.New = pair.1

abbrev pub with_path_end : {X : Type 0} → X × X → PathEnd → X → X × X
with_path_end pair ends.Old x = (x, pair.1)
with_path_end pair ends.New x = (pair.0, x)

-- ---- what is done

-- what an end tells of its joiner's answer; a record that is no fragment gets none
abbrev pub end_joins : Face → Result Joined JoinRefused → List EndJoin
end_joins face (Ok answers.Waiting) = told.Waiting ∷ []
end_joins face (Ok answers.Repeat) = told.Repeat ∷ []
end_joins face (Ok (answers.Whole whole)) = told.Whole (octets_at face whole) ∷ []
end_joins face (Err refusals.NotFragment) = []
end_joins face (Err refusals.TooLarge) = told.TooLarge ∷ []
end_joins face (Err refusals.TotalDiffers) = told.TotalDiffers ∷ []
end_joins face (Err refusals.NoRoom) = told.Full ∷ []
end_joins face (Err refusals.Memory) = []

-- segments that are sent, blocks that came whole, answers of joiners, and notes
pub record PathEffectsValue : Type 0 where
  pub sent : List SentFrom
  pub ups : List UpAt
  pub joins : List JoinAt
  pub notes : List NoteAt

-- the path after a step, and the effects
pub record PathStep : Type 0 where
  pub path : Path
  pub effects : PathEffectsValue

abbrev pub nothing_done : PathEffectsValue
nothing_done = record { sent = []; ups = []; joins = []; notes = [] }

-- effects, and others after them: each list in this order
abbrev pub and_more : PathEffectsValue → PathEffectsValue → PathEffectsValue
and_more first more = record {
  sent = first.sent ++ more.sent;
  ups = first.ups ++ more.ups;
  joins = first.joins ++ more.joins;
  notes = first.notes ++ more.notes;
}

-- one step, and then another of the path that it leaves
unfoldable pub then_does : PathStep → (Path → PathStep) → PathStep
then_does step next = record {
  path = (next step.path).path;
  effects = and_more step.effects (next step.path).effects;
}

-- ---- an end

-- the record of a bundle that can be translated, where it is a fragment
abbrev pub fragment_if : Bool → Full → Option Full
fragment_if true full = Some full
fragment_if false full = None

-- a bundle that came at an end can be translated into the other version
abbrev pub is_translated : Face → Arrival → Bool
is_translated face arrival =
    not (is_some (first_that_holds arrival.refusals)) && fits_at (other_of face) arrival.full

-- the fragment that a block is at a face's side: exactly one bundle, which can be translated
abbrev pub fragment_found : Face → Found → Option Full
fragment_found face (bad at cause) = None
fragment_found face (one arrival) =
    fragment_if (is_translated face arrival && is_some arrival.full.shared.fragment) arrival.full

-- the fragments among blocks that came at an end
unfoldable pub fragments_in : Face → List (List ℕ) → List Full
fragments_in face [] = []
fragments_in face (block ∷ blocks) =
    list_of (fragment_found face (found_at face block)) ++ fragments_in face blocks

-- an end's joiner takes records, one after the other: what is told, and what is open then
unfoldable pub joins_told : Face → List Join → List Full → List EndJoin
joins_told face joins [] = []
joins_told face joins (full ∷ fulls) =
    end_joins face (answer joins full) ++ joins_told face (after joins full) fulls

unfoldable pub joins_then : List Join → List Full → List Join
joins_then joins [] = joins
joins_then joins (full ∷ fulls) = joins_then (after joins full) fulls

-- ---- what a node does

abbrev pub sent_from : Place → SegmentValue → SentFrom
sent_from place segment = record { from = place; segment = segment }

abbrev pub up_from : Place → UpValue → UpAt
up_from place up = record { place = place; session = up.session; body = up.body }

abbrev pub join_from : Place → EndJoin → JoinAt
join_from place answer = record { place = place; answer = answer }

abbrev pub note_from : Place → Note → NoteAt
note_from place note = record { place = place; note = notes.Engine note }

-- the fragments that an engine of an end hands up
abbrev pub fragments_of : PathEnd → List UpValue → List Full
fragments_of end ups = fragments_in (face_of end) (map (λ up. up.body) ups)

-- what a node's engine does is done there; green data that it hands up is dropped
abbrev pub node_effects : PathEnd → List Join → EngineStep → PathEffectsValue
node_effects end joins step = record {
  sent = map (sent_from (node_place end)) step.effects.out;
  ups = map (up_from (node_place end)) step.effects.ups;
  joins = map (join_from (node_place end))
      (joins_told (face_of end) joins (fragments_of end step.effects.ups));
  notes = map (note_from (node_place end)) step.effects.notes;
}

abbrev pub node_does : PathEnd → Path → EngineStep → PathStep
node_does end w step = record {
  path = record w {
    nodes = with_path_end w.nodes end step.engine;
    joins = with_path_end w.joins end
        (joins_then (at_path_end w.joins end) (fragments_of end step.effects.ups));
    sent = w.sent ++ (node_effects end (at_path_end w.joins end) step).sent;
  };
  effects = node_effects end (at_path_end w.joins end) step;
}

-- ---- the gate

abbrev pub gate_sent : RoutedValue → SentFrom
gate_sent d = record { from = face_place d.face; segment = d.segment }

abbrev pub gate_up : FaceUp → UpAt
gate_up up = record { place = face_place up.face; session = up.session; body = up.body }

abbrev pub gate_note : FaceNote → NoteAt
gate_note n = record { place = face_place n.face; note = n.note }

abbrev pub gate_effects : GateEffectsValue → PathEffectsValue
gate_effects e = record {
  sent = map gate_sent e.out;
  ups = map gate_up e.ups;
  joins = [];
  notes = map gate_note e.notes;
}

abbrev pub gate_does : Path → GateStep → PathStep
gate_does w step = record {
  path = record w { gate = step.gate; sent = w.sent ++ (gate_effects step.effects).sent };
  effects = gate_effects step.effects;
}

-- ---- events

-- an end sends a bundle's octets; the k-th of all segments comes to the place across its link; or
-- the clock is set
pub data PathEvent : Type 0 where
  sends : PathEnd → List ℕ → PathEvent
  delivers : ℕ → PathEvent
  clock_shows : ℕ → PathEvent

-- a block is submitted at an end, all of it red
abbrev pub sends_block : PathSetup → Path → PathEnd → List ℕ → Result EngineStep SubmitFault
sends_block s w end block =
    submit_step (at_path_end s.nodes end) (at_path_end w.nodes end)
    (submits (at_path_end s.nodes end) (at_path_end w.nodes end) block (length block) w.now)

-- a block that is refused changes nothing
abbrev pub sent_unless : PathEnd → Path → Result EngineStep SubmitFault → PathStep
sent_unless end w (Ok step) = node_does end w step
sent_unless end w (Err fault) = record { path = w; effects = nothing_done }

-- a segment comes to a place
abbrev pub comes_to : PathSetup → Path → Stand → SegmentValue → PathStep
comes_to s w (at_node end) segment =
    node_does end w
    (datagram_step (at_path_end s.nodes end) (at_path_end w.nodes end) (Ok segment) w.now)
comes_to s w (at_gate face) segment = gate_does w (arrives_at s.gate face (Ok segment) w.now w.gate)

abbrev pub delivers_if : PathSetup → Path → Option SentFrom → PathStep
delivers_if s w None = record { path = w; effects = nothing_done }
delivers_if s w (Some d) = comes_to s w (stand_of (across d.from)) d.segment

-- a node's sessions tick
abbrev pub node_ticks : PathSetup → ℕ → PathEnd → Path → PathStep
node_ticks s now end w =
    node_does end w (tick_step (at_path_end s.nodes end) (at_path_end w.nodes end) now)

-- the clock shows a moment; then the old node ticks, the gate's old face and its new face, and the
-- new node
abbrev pub all_tick : PathSetup → ℕ → Path → PathStep
all_tick s now w =
    then_does (node_ticks s now ends.Old (record w { now = now })) (λ x.
    then_does (gate_does x (ticks_gate s.gate now x.gate)) (node_ticks s now ends.New))

-- a clock that would go back stays
unfoldable pub path_step : PathSetup → Path → PathEvent → PathStep
path_step s w (sends end block) = sent_unless end w (sends_block s w end block)
path_step s w (delivers k) = delivers_if s w (slice_get w.sent k)
path_step s w (clock_shows now) =
    if nat_lt now w.now then record { path = w; effects = nothing_done } else all_tick s now w

-- all that happens, in order
unfoldable pub path_run : PathSetup → Path → List PathEvent → Path
path_run s w [] = w
path_run s w (event ∷ events) = path_run s (path_step s w event).path events
