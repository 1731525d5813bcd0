-- What is due at a face goes in the half in which it is due: nothing is left to a tick at the same moment.

use Rattle.std.specs.Prelude.{◌≡◌, ℕ, ◌-◌, ◌<◌, ◌≤◌, ◌⊎◌, false, true, List, [], Some}
use Rattle.std.specs.List.{All, filter}
use Rattle.ltp_laws.specs.Deadlines.{Waits}
use Rattle.gate_cases.specs.declared.face.Face.{Face}
use Rattle.gateway_core.specs.Gate.{at_face}
use Rattle.outbox.specs.FaceTime.{FaceMoment}
use Rattle.piece_gathering.specs.declared.piece.Piece.{Piece}
use Rattle.piece_gathering.specs.Gathered.{is_complete}
use Rattle.peer_sessions.specs.Keys.{FaceKeys}
use Rattle.peer_gateway.specs.Gate.{FaceTold, PeerEffects, PeerFace, PeerGate, PeerStep, is_at}
use Rattle.peer_gateway.specs.Going.{is_free}
use Rattle.peer_gateway.specs.Steps.{a_tick}
use Rattle.peer_gateway.specs.Answers.{answer_of}
use Rattle.peer_gateway.specs.Laws.{added_at, begun_at}
use Rattle.peer_half.specs.Setup.{IsRunnable}
use Rattle.peer_half.specs.Standing.{Standing, face_of}
use Rattle.peer_half.specs.Steps.{step_of}
use Rattle.peer_half.specs.Parts.{reads, resumes}
use Rattle.peer_half.specs.Half.{Came}
use Rattle.peer_half.specs.Runs.{Run, setup_of, stands_at}
use Rattle.peer_half.specs.Laws.{datagrams_at}
use Rattle.peer_run_laws.specs.Faces.{config_of, moments_in}

-- what waits at a face waits for some time: the timers of its sessions, the memory of those that are over, and pieces
pub record TimersWait (k : FaceKeys) : Type 0 where
  pub sessions : Waits (k.party).policy
  pub memory : 1 ≤ k.remember_ms
  pub pieces : 1 ≤ k.wait_ms

-- a face of a runnable file is such, where the file says that numbers are remembered for some time
abbrev pub RunnableWaits : Type 0
RunnableWaits =
    (r : Run) (at : Face) → IsRunnable r.file → 1 ≤ (config_of r at).remember_ms
    → TimersWait (at_face (setup_of r).keys at)

-- of what is told that about a face
abbrev pub told_of_face : Face → List FaceTold → List FaceTold
told_of_face at told = filter (λ (t : FaceTold). is_at at t.face) told

-- nothing is sent at a face, nothing is told about it, no piece is added there, and none goes in a block
pub record IsQuietAt (at : Face) (effects : PeerEffects) : Type 0 where
  pub sends : datagrams_at at (answer_of effects).out ≡ []
  pub tells : told_of_face at effects.told ≡ []
  pub adds : added_at at effects.added ≡ []
  pub begins : begun_at at effects.begun ≡ []

-- the sessions of a face and its pieces are as they were
pub record IsAsBefore (before after : PeerFace) : Type 0 where
  pub senders : ((after.sessions).engine).senders ≡ ((before.sessions).engine).senders
  pub receivers : ((after.sessions).engine).receivers ≡ ((before.sessions).engine).receivers
  pub next : ((after.sessions).engine).next ≡ ((before.sessions).engine).next
  pub pieces : after.gathering ≡ before.gathering

-- a step of a gate does nothing at a face
pub record DoesNothingAt (at : Face) (g : PeerGate) (step : PeerStep) : Type 0 where
  pub quiet : IsQuietAt at step.effects
  pub stays : IsAsBefore (at_face g.faces at) (at_face (step.gate).faces at)

-- how it stands before the tick of the next half: pieces of earlier runs are added then
abbrev pub before_tick : Came → Run → Standing
before_tick came r = resumes (reads came.reading (stands_at r))

-- if a face's moment in the next half is that of the half before, the next half's tick does nothing there: what was
-- due at that moment went with the tick before, or when a session was free again, and what was added since isn't due
abbrev pub TicksOnce : Type 0
TicksOnce =
    (r : Run) (at : Face) (before : FaceMoment) (came : Came)
    → TimersWait (at_face (setup_of r).keys at)
    → (face_of at (stands_at r)).time ≡ Some before
    → (moments_in came (stands_at r)).at at ≡ before.moment
    → DoesNothingAt at (before_tick came r).gate (step_of a_tick (before_tick came r))

-- ---- after a half

-- while a session is free at a face, no block is complete there, and no piece has waited as long as it may
pub record NothingIsDue (k : FaceKeys) (now : ℕ) (f : PeerFace) : Type 0 where
  pub incomplete : ((f.gathering).waiting ≡ []) ⊎ (is_complete f.gathering ≡ false)
  pub early : All (λ (piece : Piece). now - piece.added < k.wait_ms) (f.gathering).waiting

-- by the face's moment, after each half of a run
abbrev pub NoneWaitsLateInRuns : Type 0
NoneWaitsLateInRuns =
    (r : Run) (at : Face) (now : FaceMoment)
    → TimersWait (at_face (setup_of r).keys at)
    → (face_of at (stands_at r)).time ≡ Some now
    → is_free (at_face (setup_of r).keys at) (at_face ((stands_at r).gate).faces at) ≡ true
    → NothingIsDue (at_face (setup_of r).keys at) now.moment (at_face ((stands_at r).gate).faces at)
