-- What the code does about a datagram, and the definition's step.

use Rattle.std.specs.Prelude.{◌≡◌, ℕ, List, [], ◌∷◌, Option, None, Some, Result, Ok, ◌&&◌}
use Rattle.ltp_segment.specs.declared.fault.SegmentCause.{SegmentCause}
use Rattle.ltp_segment.specs.Values.{SegmentValue}
use Rattle.ltp_session.specs.Step.{StepValue}
use Rattle.ltp_session.specs.Receiver.{Receiving, receiver_answers}
use Rattle.ltp_session.specs.Table.{find}
use Rattle.ltp_session.specs.Engine.{Engine, EngineStep, admission_of, datagram_step}
use Rattle.ltp_engine.specs.declared.effects.Effects.{Effects}
use Rattle.ltp_engine.specs.Effects.{effects_of}
use Rattle.peer_sessions.specs.declared.parts.Parts.{Parts}
use Rattle.peer_sessions.specs.declared.hearing.Heard.{Heard}
use Rattle.peer_sessions.specs.Keys.{FaceKeys}
use Rattle.peer_sessions.specs.Sessions.{Sessions, left_by, is_of_peer, is_touched, answers, answered, forgets, hears_after}
use Rattle.peer_sessions.specs.Moments.{moments_if}
use Rattle.peer_sessions.specs.Ties.{state_of, keys_in, AreAfter}

-- ---- a segment reaches the engine, whatever is remembered

abbrev pub engine_answers : FaceKeys → Engine → SegmentValue → ℕ → Option (StepValue Receiving)
engine_answers k e segment now =
    receiver_answers (k.party).policy (admission_of k.party e segment.session) (find segment.session e.receivers)
    segment.content now

abbrev pub engine_hears : FaceKeys → Engine → SegmentValue → ℕ → EngineStep
engine_hears k e segment now = datagram_step k.party e (Ok segment) now

abbrev pub moments_reached : FaceKeys → Sessions → SegmentValue → ℕ → List (ℕ × ℕ)
moments_reached k s segment now =
    moments_if segment.session now (is_of_peer k segment.originator && is_touched (engine_answers k s.engine segment now))
    s.moments

abbrev pub reached : FaceKeys → Sessions → SegmentValue → ℕ → Sessions
reached k s segment now = left_by (engine_hears k s.engine segment now).engine s.memory (moments_reached k s segment now)

pub record Reaches (old new : Parts) (segment : SegmentValue) (now : ℕ) (told : Effects) : Type 0 where
  pub after : AreAfter old new (reached (keys_in old) (state_of old) segment now)
  pub effects : told ≡ effects_of (engine_hears (keys_in old) (state_of old).engine segment now).effects

-- ---- the whole step

-- before sessions are closed for want of memory
pub record Hears (old new : Parts) (read : Result SegmentValue (ℕ × SegmentCause)) (now : ℕ) (heard : Heard) : Type 0 where
  pub after : AreAfter old new (answered (keys_in old) (state_of old) read now)
  pub forgotten : heard.forgotten ≡ forgets (keys_in old) (state_of old) read now
  pub effects : heard.effects ≡ effects_of (answers (keys_in old) (state_of old) read now).effects

pub record HearsAll (old new : Parts) (read : Result SegmentValue (ℕ × SegmentCause)) (now : ℕ) (heard : Heard) : Type 0 where
  pub after : AreAfter old new (hears_after (keys_in old) [] (state_of old) read now).sessions
  pub forgotten : heard.forgotten ≡ (hears_after (keys_in old) [] (state_of old) read now).forgotten
  pub effects : heard.effects ≡ effects_of (hears_after (keys_in old) [] (state_of old) read now).effects

-- ---- sessions that are closed

abbrev pub first_of : List ℕ → Option ℕ
first_of [] = None
first_of (n ∷ numbers) = Some n
