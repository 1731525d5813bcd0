-- A face's sessions of the code, and the definition's steps.

use Rattle.std.specs.Prelude.{◌≡◌, ◌+◌, ◌-◌, ◌^◌, ◌≤◌, false, length}
use Rattle.ltp_session.specs.Engine.{Engine, EngineStep}
use Rattle.ltp_engine.specs.declared.effects.Effects.{Effects}
use Rattle.ltp_engine.specs.Effects.{effects_of}
use Rattle.ltp_engine.specs.Values.{EngineValue}
use Rattle.ltp_engine.specs.Bounds.{IsBounded}
use Rattle.ltp_engine.specs.Sessions.{cells_in}
use Rattle.ltp_engine.specs.Shows.{Shows}
use Rattle.session_memory.specs.Numbers.{runs_in}
use Rattle.session_memory.specs.Memory.{Memory}
use Rattle.ltp_engine.specs.Elsewhere.{reopened, closed_numbers}
use Rattle.peer_sessions.specs.declared.parts.Parts.{Parts}
use Rattle.peer_sessions.specs.declared.sessions.Told.{Told}
use Rattle.peer_sessions.specs.Blocks.{AreBlocks}
use Rattle.peer_sessions.specs.Keys.{FaceKeys}
use Rattle.peer_sessions.specs.Sessions.{Sessions, SessionsStep, with_closed, with_begun, still_kept}
use Rattle.peer_sessions.specs.Views.{face_keys, sessions_of, AreWhole, PeerSessionsValue}

abbrev pub state_of : Parts → Sessions
state_of p = sessions_of p.engine p.memory p.moments

abbrev pub keys_in : Parts → FaceKeys
keys_in p = face_keys p.keys

-- it is whole, there are no more red octets than are counted, and the blocks are those of the engine
pub record IsWhole (p : Parts) : Type 0 where
  pub whole : AreWhole p.keys p.engine p.memory p.moments
  pub cells : cells_in ((p.engine).inbound).receivers ≤ p.at_most
  pub blocks : AreBlocks p.engine p.blocks

-- parts after a step of the definition
pub record AreAfter (old new : Parts) (state : Sessions) : Type 0 where
  pub whole : IsWhole new
  pub keys : new.keys ≡ old.keys
  pub is : state_of new ≡ state

-- the sessions did a step of the definition, and what was told of it is what the definition tells
pub record Does (old new : PeerSessionsValue) (step : SessionsStep) (told : Told) : Type 0 where
  pub whole : new.spent ≡ false
  pub keys : new.keys ≡ old.keys
  pub sessions : new.sessions ≡ step.sessions
  pub gone : (told.gone).items ≡ step.gone
  pub forgotten : told.forgotten ≡ step.forgotten
  pub effects : told.effects ≡ effects_of step.effects

-- a block began in the next session, and what its segments are is what the definition sends
pub record Begins (old new : PeerSessionsValue) (step : EngineStep) (sent : Effects) : Type 0 where
  pub whole : new.spent ≡ false
  pub keys : new.keys ≡ old.keys
  pub sessions : new.sessions ≡ with_begun old.sessions step
  pub effects : sent ≡ effects_of step.effects

-- there is a place in a memory for each number that an engine closed
pub record HasPlaces (v : EngineValue) (m : Memory) : Type 0 where
  pub engine : Engine
  pub shows : Shows v engine
  pub places : runs_in m.newer + length engine.closed ≤ m.most

-- the closed numbers of the engine are in the memory, and moments of sessions that are over are gone
pub record Settles (old new : Parts) : Type 0 where
  pub limit : length (((old.engine).inbound).closed).places ≡ 2 ^ 64 - 1
  pub keys : new.keys ≡ old.keys
  pub at_most : new.at_most ≡ old.at_most
  pub blocks : new.blocks ≡ old.blocks
  pub engine : new.engine ≡ record (old.engine) { inbound = reopened (old.engine).inbound }
  pub bounded : IsBounded new.engine
  pub memory : new.memory ≡ with_closed (closed_numbers ((old.engine).inbound).closed) old.memory
  pub moments : new.moments ≡ still_kept ((old.engine).inbound).receivers old.moments
