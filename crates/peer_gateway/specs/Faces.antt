-- A face of the code as the definition's, and what its parts do.

use Rattle.std.specs.Prelude.{◌≡◌, ℕ, ◌^◌, ◌<◌, Bool, false, List, [], ◌∷◌, ◌++◌, map, length}
use Rattle.std.specs.List.{All, flat_map}
use Rattle.ltp_session.specs.Engine.{EngineStep}
use Rattle.ltp_engine.specs.declared.effects.Up.{Up}
use Rattle.ltp_engine.specs.Effects.{up_of}
use Rattle.piece_gathering.specs.declared.piece.Piece.{Piece}
use Rattle.piece_gathering.specs.Gathered.{ready, added_to, going, gone_from}
use Rattle.gate_cases.specs.declared.face.Face.{Face}
use Rattle.face_room.specs.Bounds.{AreBounds}
use Rattle.face_room.specs.Queues.{puts, queued_after}
use Rattle.gateway_core.specs.Effects.{datagram_at, routed_of}
use Rattle.peer_cases.specs.declared.settings.PeerSettings.{PeerSettings}
use Rattle.peer_sessions.specs.declared.sessions.Told.{Told as Said}
use Rattle.peer_sessions.specs.Keys.{FaceKeys}
use Rattle.peer_sessions.specs.Sessions.{SessionsStep, evictions, block_begins, with_begun}
use Rattle.peer_gateway.specs.declared.faces.FaceParts.{FaceParts}
use Rattle.peer_gateway.specs.declared.faces.Heard.{Heard}
use Rattle.peer_gateway.specs.declared.moments.FaceMoments.{FaceMoments}
use Rattle.peer_gateway.specs.Keys.{AreKeys}
use Rattle.peer_gateway.specs.Gate.{PeerFace, PeerEffects, Told, no_effects, told_engine, told_green, routed_at, may_queue, puts_out, with_queued, starts_face, starts_out, starts_puts}
use Rattle.peer_gateway.specs.Going.{going_octets, with_block, after_block, gathers, told_if}
use Rattle.peer_gateway.specs.Steps.{forgotten_told, told_of, told_at, with_sessions, has_ended}
use Rattle.peer_gateway.specs.Laws.{IsSizedAt}
use Rattle.peer_gateway.specs.Queue.{sizes_in}
use Rattle.peer_gateway.specs.Answers.{Answered, then_done, with_out}
use Rattle.peer_gateway.specs.Waits.{waits_of}

-- ---- a face

abbrev pub keys_at : FaceParts → FaceKeys
keys_at f = (f.sessions).keys

abbrev pub face_of : FaceParts → PeerFace
face_of f = record { sessions = (f.sessions).sessions; gathering = f.gathering; queued = f.queued }

-- what never changes: which face it is, what is done with bundles, and its keys
pub record FaceSetup : Type 0 where
  pub face : Face
  pub settings : PeerSettings
  pub keys : FaceKeys

abbrev pub setup_at : FaceParts → FaceSetup
setup_at f = record { face = f.face; settings = f.settings; keys = keys_at f }

-- whenever a piece goes, it has an octet, and no more than its size says
abbrev pub IsSized : PeerSettings → Face → Piece → Type 0
IsSized s face piece = (leaves : ℕ) → leaves < 2 ^ 64 → IsSizedAt s face leaves piece

-- The sessions are whole, and the bounds are those of the keys. What the waiting pieces will take is known,
-- and each of them can go.
pub record IsFace (f : FaceParts) : Type 0 where
  pub whole : (f.sessions).spent ≡ false
  pub keys : AreKeys (keys_at f)
  pub bounds : f.bounds ≡ (keys_at f).bounds
  pub are : AreBounds f.bounds
  pub wanted : (f.gathering).wanted ≡ (f.bounds).wanted
  pub waits : f.waits ≡ waits_of f.bounds (f.gathering).waiting
  pub sized : All (IsSized f.settings f.face) (f.gathering).waiting

-- ---- what a face does

-- a face after something, and the effects
pub record FaceStep : Type 0 where
  pub face : PeerFace
  pub effects : PeerEffects

-- its sessions do a step
abbrev pub face_does : FaceKeys → Face → PeerFace → SessionsStep → FaceStep
face_does k face f step = record {
  face = with_queued k (with_sessions f step) (step.effects).out;
  effects = record no_effects {
    out = routed_at face (step.effects).out;
    puts = puts_out k (with_sessions f step) (step.effects).out;
    told = map (told_at face) (told_of step);
  };
}

-- a piece waits too
abbrev pub face_waits : Face → Piece → Bool → PeerFace → FaceStep
face_waits face piece is_report f = record {
  face = record f { gathering = added_to f.gathering piece };
  effects = record no_effects { added = record { face = face; piece = piece; is_report = is_report } ∷ [] };
}

-- the pieces that are ready at a moment, as one block
abbrev pub block_at : FaceSetup → ℕ → ℕ → PeerFace → List ℕ
block_at s leaves until f = flat_map (going_octets s.settings s.face leaves) (going f.gathering until)

-- they go as such a block
abbrev pub goes_as : FaceSetup → ℕ → PeerFace → List ℕ → EngineStep → FaceStep
goes_as s until f block step = record {
  face = after_block s.keys f until step;
  effects = record {
    out = routed_at s.face (step.effects).out;
    puts = puts_out s.keys (with_block f until step) (step.effects).out;
    told = told_if (gathers s.keys) s.face (ready f.gathering until) (length block) ((f.sessions).engine).next;
    added = [];
    begun = record {
      face = s.face;
      session = ((f.sessions).engine).next;
      block = block;
      pieces = ready f.gathering until;
    } ∷ [];
  };
}

abbrev pub face_goes : FaceSetup → FaceMoments → ℕ → PeerFace → FaceStep
face_goes s m until f =
    goes_as s until f (block_at s m.leaves until f)
    (block_begins s.keys (f.sessions).engine (block_at s m.leaves until f) m.at)

-- ---- what the code did

-- a face did a step, and what is told of it follows what was told before
pub record FaceDid (old new : FaceParts) (before after : Answered) (step : FaceStep) : Type 0 where
  pub whole : IsFace new
  pub setup : setup_at new ≡ setup_at old
  pub is : face_of new ≡ step.face
  pub answer : after ≡ then_done before step.effects

-- its sessions did, and handed something up
pub record FaceHeard (old new : FaceParts) (before after : Answered) (step : SessionsStep) (heard : Heard) : Type 0 where
  pub did : FaceDid old new before after (face_does (keys_at old) old.face (face_of old) step)
  pub ups : heard.ups ≡ map up_of (step.effects).ups
  pub ended : heard.has_ended ≡ has_ended (face_of old).sessions step

-- ---- parts of a step

-- what its sessions said, in order
abbrev pub told_in : Said → List Told
told_in said =
    map told_engine (evictions (said.gone).items)
    ++ (forgotten_told said.forgotten
    ++ (map told_engine (said.effects).notes ++ map told_green (said.effects).greens))

-- whether each of them is put that are made at a face, and how many octets wait then
abbrev pub puts_in : FaceParts → List (List ℕ) → List Bool
puts_in f datagrams = puts (may_queue (keys_at f) (face_of f)) f.queued (sizes_in datagrams)

abbrev pub queued_in : FaceParts → List (List ℕ) → ℕ
queued_in f datagrams = queued_after (may_queue (keys_at f) (face_of f)) f.queued (sizes_in datagrams)

-- they were made at a face, and all else there is as it was
pub record Puts (old new : FaceParts) (before after : Answered) (datagrams : List (List ℕ)) : Type 0 where
  pub whole : IsFace new
  pub new_is : new ≡ record old { queued = queued_in old datagrams }
  pub answer : after ≡ with_out before (map (datagram_at old.face) datagrams) (puts_in old datagrams)

abbrev pub then_said : Answered → FaceParts → Said → Answered
then_said a f said = record a {
  out = a.out ++ map (datagram_at f.face) (said.effects).out;
  puts = a.puts ++ puts_in f (said.effects).out;
  told = a.told ++ map (told_at f.face) (told_in said);
}

-- what its sessions said was told, and its datagrams were put or dropped
pub record Tells (old new : FaceParts) (before after : Answered) (said : Said) (ups : List Up) : Type 0 where
  pub whole : IsFace new
  pub setup : setup_at new ≡ setup_at old
  pub is : face_of new ≡ record (face_of old) { queued = queued_in old (said.effects).out }
  pub answer : after ≡ then_said before old said
  pub ups_are : ups ≡ (said.effects).ups

-- the pieces that are ready were taken
pub record Took (old new : FaceParts) (until : ℕ) (pieces : List Piece) : Type 0 where
  pub whole : IsFace new
  pub setup : setup_at new ≡ setup_at old
  pub is : face_of new ≡ record (face_of old) { gathering = gone_from old.gathering until }
  pub pieces_are : pieces ≡ going old.gathering until

-- a block began
abbrev pub sends_block : FaceParts → EngineStep → PeerFace
sends_block f step = record (face_of f) { sessions = with_begun (face_of f).sessions step }

pub record Sent (old new : FaceParts) (before after : Answered) (step : EngineStep) : Type 0 where
  pub whole : IsFace new
  pub setup : setup_at new ≡ setup_at old
  pub is : face_of new ≡ with_queued (keys_at old) (sends_block old step) (step.effects).out
  pub answer : after ≡ with_out before (map routed_of (routed_at old.face (step.effects).out))
      (puts_out (keys_at old) (sends_block old step) (step.effects).out)

-- a face at its beginning, before anything is sent
pub record IsEmpty (face : Face) (settings : PeerSettings) (k : FaceKeys) (now : ℕ) (marks : List ℕ) (f : FaceParts) : Type 0 where
  pub whole : IsFace f
  pub setup : setup_at f ≡ record { face = face; settings = settings; keys = k }
  pub is : face_of f ≡ record (starts_face k now marks) { queued = 0 }

-- a face at its beginning, and what is sent then follows what was sent before
pub record Starts (face : Face) (settings : PeerSettings) (k : FaceKeys) (now : ℕ) (marks : List ℕ) (before after : Answered) (f : FaceParts) : Type 0 where
  pub whole : IsFace f
  pub setup : setup_at f ≡ record { face = face; settings = settings; keys = k }
  pub is : face_of f ≡ starts_face k now marks
  pub answer : after ≡ with_out before (map routed_of (routed_at face (starts_out k marks)))
      (starts_puts k marks)
