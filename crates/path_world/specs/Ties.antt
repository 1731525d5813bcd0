-- What ties the code to the definitions: what its parts do, and what they keep.

use Rattle.std.specs.Prelude.{◌≡◌, ℕ, ◌<◌, ◌^◌, true, false, Bool, ◌&&◌, List, [], ◌++◌, length, map}
use Rattle.std.specs.Prelude.{Option, None, Some, Result, Ok, Err, is_some}
use Rattle.std.specs.List.{All}
use Rattle.translate.specs.Sound.{IsSound}
use Rattle.bundle_meaning.specs.declared.full.Full.{Full}
use Rattle.fragment_lines.specs.Writable.{IsWhole as IsWholeHead}
use Rattle.fragments.specs.declared.join.Join.{Join}
use Rattle.fragments.specs.Again.{IsBounded as IsJoinBounded}
use Rattle.fragments.specs.Joining.{Joining}
use Rattle.gate_cases.specs.declared.face.Face.{Face}
use Rattle.gate_cases.specs.declared.face.Face.TheVariants as faces
use Rattle.gate_cases.specs.Faces.{fits_at}
use Rattle.gateway_core.specs.declared.effects.FaceNote.{FaceNote}
use Rattle.gateway_core.specs.declared.effects.FaceUp.{FaceUp}
use Rattle.gateway_core.specs.declared.effects.Routed.{Routed}
use Rattle.gateway_core.specs.Gate.{arrives_at, ticks_gate}
use Rattle.gateway_core.specs.Shows.{IsGateBounded}
use Rattle.ltp_engine.specs.declared.effects.Effects.{Effects}
use Rattle.ltp_engine.specs.declared.effects.Up.{Up}
use Rattle.ltp_engine.specs.declared.refused.SubmitRefused.{SubmitRefused}
use Rattle.ltp_engine.specs.declared.refused.SubmitRefused.TheVariants as causes
use Rattle.ltp_engine.specs.Bounds.{IsBounded}
use Rattle.ltp_engine.specs.Steps.{Steps, IsFault, IsNoFault}
use Rattle.ltp_engine.specs.Steps.{Submits as EngineSubmits}
use Rattle.ltp_segment.specs.declared.fault.SegmentCause.{SegmentCause}
use Rattle.ltp_segment.specs.declared.session.Note.{Note}
use Rattle.ltp_segment.specs.Values.{SegmentValue}
use Rattle.ltp_session.specs.Engine.{Engine, EngineStep, datagram_step, submits, submit_step}
use Rattle.path_laws.specs.declared.effects.EndJoin.{EndJoin}
use Rattle.path_laws.specs.declared.effects.PathEffects.{PathEffects}
use Rattle.path_laws.specs.declared.effects.SentAt.{SentAt}
use Rattle.path_laws.specs.declared.effects.UpAt.{UpAt}
use Rattle.path_laws.specs.declared.places.PathEnd.{PathEnd}
use Rattle.path_laws.specs.declared.places.Place.{Place}
use Rattle.path_laws.specs.Path.{Path, PathEvent, PathSetup, PathStep, at_path_end, node_does}
use Rattle.path_laws.specs.Path.{gate_does, fragment_if, fragments_in, joins_told, joins_then}
use Rattle.path_laws.specs.Path.{join_from, note_from, gate_up, gate_note, sends}
use Rattle.path_laws.specs.Places.{Stand, at_node, at_gate, face_of, face_place, other_path_end}
use Rattle.path_world.specs.declared.node.Done.{Done}
use Rattle.path_world.specs.declared.node.Node.{Node}
use Rattle.path_world.specs.declared.parts.Parts.{Parts}
use Rattle.path_world.specs.declared.sent.Sent.{Sent}
use Rattle.path_world.specs.Shows.{ShowsPath, Stands}
use Rattle.path_world.specs.Steps.{Happens, OfSend}
use Rattle.path_world.specs.Values.{PathValue, setup_of, spelled, effects_told}

-- ---- what is sent and told

-- datagrams that a place sent
abbrev pub sent_of : Place → List ℕ → Sent
sent_of from datagram = record { from = from; datagram = datagram }

abbrev pub sent_from : Place → List (List ℕ) → List Sent
sent_from from datagrams = map (sent_of from) datagrams

abbrev pub routed_from : Routed → Sent
routed_from r = sent_of (face_place r.face) r.datagram

abbrev pub up_at : Place → Up → UpAt
up_at place up = record { place = place; session = up.session; body = up.body }

abbrev pub node_told : Place → List SentAt → List Up → List EndJoin → List Note → PathEffects
node_told place sent ups joins notes = record {
  sent = sent;
  ups = map (up_at place) ups;
  joins = map (join_from place) joins;
  notes = map (note_from place) notes;
}

abbrev pub gate_told : List SentAt → List FaceUp → List FaceNote → PathEffects
gate_told sent ups notes = record {
  sent = sent;
  ups = map gate_up ups;
  joins = [];
  notes = map gate_note notes;
}

abbrev pub both_told : PathEffects → PathEffects → PathEffects
both_told first more = record {
  sent = first.sent ++ more.sent;
  ups = first.ups ++ more.ups;
  joins = first.joins ++ more.joins;
  notes = first.notes ++ more.notes;
}

-- ---- an end's joiner

-- a fragment that was read at a face, in whose version there is room for it
pub record IsTaken (face : Face) (full : Full) : Type 0 where
  pub sound : IsSound full
  pub fits : fits_at face full ≡ true
  pub part : is_some full.shared.fragment ≡ true

-- the record, where it is a fragment and there is room for it at the other face
abbrev pub fragment_for : Face → Full → Option Full
fragment_for to full = fragment_if (fits_at to full && is_some full.shared.fragment) full

-- a whole that begins so can be written at a face: it is sound, and there is room for it
pub record HeadFits (face : Face) (first : Full) : Type 0 where
  pub head : IsWholeHead first
  pub fits : fits_at face first ≡ true

abbrev pub HasRoom : Face → Option Full → Type 0
HasRoom face None = Unit {0}
HasRoom face (Some head) = HeadFits face head

abbrev pub BeginsWithRoom : Face → Join → Type 0
BeginsWithRoom face join = HasRoom face join.head

-- memory didn't run out, and each whole can be written at the face
pub record IsJoiner (face : Face) (j : Joining) : Type 0 where
  pub whole : j.spent ≡ false
  pub room : All (BeginsWithRoom face) j.joins
  pub bounds : IsJoinBounded j.joins

-- blocks came whole, and after some answers these were told
pub record JoinsAll (face : Face) (old new : Joining) (blocks : List (List ℕ)) (before now : List EndJoin)
    : Type 0 where
  pub whole : IsJoiner face new
  pub joins : new.joins ≡ joins_then old.joins (fragments_in face blocks)
  pub tells : now ≡ before ++ joins_told face old.joins (fragments_in face blocks)

abbrev pub bodies_of : List Up → List (List ℕ)
bodies_of ups = map (λ (up : Up). up.body) ups

-- ---- a node

pub record IsNode (face : Face) (n : Node) : Type 0 where
  pub engine : n.engine.spent ≡ false
  pub bounds : IsBounded n.engine
  pub joiner : IsJoiner face n.joiner

-- its engine did a step, and its joiner took what that handed up
pub record NodeDid (face : Face) (old new : Node) (step : Engine → EngineStep) (done : Done)
    : Type 0 where
  pub whole : IsNode face new
  pub steps : Steps old.engine new.engine step done.effects
  pub joins : JoinsAll face old.joiner new.joiner (bodies_of done.effects.ups) [] done.joins.items

-- its engine submitted a block, all red
pub record NodeSubmits (face : Face) (old new : Node) (block : List ℕ) (now : ℕ)
    (result : Result Effects SubmitRefused) : Type 0 where
  pub whole : new.engine.spent ≡ false → IsNode face new
  pub submits :
      EngineSubmits old.engine new.engine
      (λ e. submit_step old.engine.party e
      (submits old.engine.party e block (length block) now)) result
  pub joiner : new.joiner ≡ old.joiner

-- one of two nodes is as it was
abbrev pub OtherStays : PathEnd → Node × Node → Node × Node → Type 0
OtherStays end old new = at_path_end new (other_path_end end) ≡ at_path_end old (other_path_end end)

pub record NodeDidAt (end : PathEnd) (old new : Node × Node) (step : Engine → EngineStep)
    (done : Done) : Type 0 where
  pub other : OtherStays end old new
  pub did : NodeDid (face_of end) (at_path_end old end) (at_path_end new end) step done

pub record NodeSubmitsAt (end : PathEnd) (old new : Node × Node) (block : List ℕ) (now : ℕ)
    (result : Result Effects SubmitRefused) : Type 0 where
  pub other : OtherStays end old new
  pub submits : NodeSubmits (face_of end) (at_path_end old end) (at_path_end new end) block now result

-- ---- the whole path

abbrev pub value_of : Bool → Parts → PathValue
value_of spent p = record {
  spent = spent;
  nodes = (p.old_node.engine, p.new_node.engine);
  gate = p.gate;
  joins = (p.old_node.joiner.joins, p.new_node.joiner.joins);
  sent = p.sent;
  moment = p.moment;
}

-- while no call has run out of memory
abbrev pub live : Parts → PathValue
live p = value_of false p

abbrev pub setup_in : Parts → PathSetup
setup_in p = setup_of (live p)

abbrev pub nodes_in : Parts → Node × Node
nodes_in p = (p.old_node, p.new_node)

-- all of it is whole and within its bounds
pub record IsKept (p : Parts) : Type 0 where
  pub old_node : IsNode faces.Old p.old_node
  pub new_node : IsNode faces.New p.new_node
  pub gate : p.gate.spent ≡ false
  pub gate_bounds : IsGateBounded p.gate
  pub moment : p.moment < 2 ^ 62

-- and it stands where a run leads
pub record IsWhole (p : Parts) : Type 0 where
  pub kept : IsKept p
  pub stands : Stands (live p)

-- each path that the old parts stand for does this step: the new ones stand for the path after it,
-- and the effects are that step's
pub record Does (old new : Parts) (step : Path → PathStep) (effects : PathEffects) : Type 0 where
  pub kept : IsKept new
  pub setup : setup_in new ≡ setup_in old
  pub moment : new.moment ≡ old.moment
  pub next : (w : Path) → ShowsPath (live old) w → ShowsPath (live new) (step w).path
  pub sent :
      (w : Path) → ShowsPath (live old) w
      → new.sent ≡ old.sent ++ map spelled (step w).effects.sent
  pub told :
      (w : Path) → ShowsPath (live old) w
      → effects ≡ effects_told (length old.sent) (step w).effects

-- what comes to a place, as it is read
abbrev pub hears_as :
    PathSetup → Stand → Result SegmentValue (ℕ × SegmentCause) → Path → PathStep
hears_as s (at_node end) read w =
    node_does end w
    (datagram_step (at_path_end s.nodes end) (at_path_end w.nodes end) read w.now)
hears_as s (at_gate face) read w = gate_does w (arrives_at s.gate face read w.now w.gate)

abbrev pub gate_ticks : PathSetup → ℕ → Path → PathStep
gate_ticks s now w = gate_does w (ticks_gate s.gate now w.gate)

-- these were sent besides
abbrev pub with_sent : Parts → List Sent → Parts
with_sent p more = record p { sent = p.sent ++ more }

-- an event happened, and left all whole
pub record Did (old new : Parts) (event : PathEvent) (effects : PathEffects) : Type 0 where
  pub whole : IsWhole new
  pub happens : Happens (live old) (live new) event effects

-- an end sent a bundle
abbrev pub PartsSend :
    Parts → Parts → PathEnd → List ℕ → Result PathEffects SubmitRefused → Type 0
PartsSend old new end bundle (Ok effects) =
    Did old new (sends end bundle) effects × OfSend IsNoFault (live old) end bundle
PartsSend old new end bundle (Err causes.Memory) = OfSend IsNoFault (live old) end bundle
PartsSend old new end bundle (Err cause) =
    (new ≡ old) × OfSend (IsFault cause) (live old) end bundle

abbrev pub wants_memory : Result PathEffects SubmitRefused → Bool
wants_memory (Ok effects) = false
wants_memory (Err causes.Memory) = true
wants_memory (Err cause) = false
