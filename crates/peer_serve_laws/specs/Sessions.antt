-- When the sessions of a face among other implementations do what those of an engine do, which remembers each
-- number that it closed.

use Rattle.std.specs.Prelude.{◌≡◌, ℕ, ◌+◌, ◌<◌, ◌^◌, nat_le, true, false, List, [], length, Result}
use Rattle.std.specs.Prelude.{IfOk, None}
use Rattle.std.specs.List.{AllByRecursion}
use Rattle.ltp_segment.specs.declared.fault.SegmentCause.{SegmentCause}
use Rattle.ltp_segment.specs.Values.{SegmentValue}
use Rattle.ltp_session.specs.Receiver.{Receiving}
use Rattle.ltp_session.specs.Engine.{Party, Engine, EngineStep, closed_runs, datagram_step}
use Rattle.ltp_session.specs.Engine.{is_closed, tick_step}
use Rattle.session_memory.specs.Numbers.{runs_in}
use Rattle.session_memory.specs.Memory.{is_due, is_remembered}
use Rattle.session_memory.specs.Laws.{IsSet64}
use Rattle.peer_sessions.specs.Keys.{FaceKeys}
use Rattle.peer_sessions.specs.Sessions.{Sessions, SessionsStep, answered, hears, passes, stale}
use Rattle.peer_sessions.specs.Sessions.{ticks, to_trim}

-- who is at a face, as an engine has it: as many sessions each way, and so many runs of numbers that it closed
abbrev pub party_with : FaceKeys → ℕ → Party
party_with k runs = record {
  own = (k.party).own;
  peer = (k.party).peer;
  first = (k.party).first;
  policy = (k.party).policy;
  most = (k.party).most;
  sessions = (k.bounds).sessions;
  history = runs;
}

-- an engine but for the numbers that it closed: these instead
abbrev pub closing_only : List ℕ → Engine → Engine
closing_only numbers e = record e { closed = numbers }

-- The sessions of a face are those of an engine: they are the same, and those numbers are remembered that the
-- engine closed. Numbers have 64 bits.
pub record AreOf (e : Engine) (x : Sessions) : Type 0 where
  pub engine : x.engine ≡ closing_only [] e
  pub over : (n : ℕ) → n < 2 ^ 64 → is_remembered x.memory n ≡ is_closed n e.closed
  pub set : IsSet64 (x.memory).newer
  pub numbers : AllByRecursion (λ (entry : ℕ × Receiving). entry.0 < 2 ^ 64) e.receivers

-- ---- no bound is met

-- before an arrival and a tick no session is closed since nothing touched it, and a turn that is due forgets
-- nothing
pub record PassesFreely (k : FaceKeys) (x : Sessions) (now : ℕ) : Type 0 where
  pub gone : stale k now x ≡ []
  pub turn : is_due x.memory now ≡ true → runs_in (x.memory).older ≡ 0

-- with a datagram no runs are forgotten before their time, and no session is closed for want of memory
pub record HearsFreely (k : FaceKeys) (x : Sessions) (read : Result SegmentValue (ℕ × SegmentCause))
    (now : ℕ) : Type 0 where
  pub before : PassesFreely k x now
  pub forgotten : (hears k x read now).forgotten ≡ None
  pub trimmed : to_trim k (answered k (passes k now x) read now) ≡ []

-- an engine has a place for one number more among those that it closed
abbrev pub HasPlace : Party → Engine → Type 0
HasPlace p e = nat_le p.history (closed_runs e.closed + length e.receivers) ≡ false

-- the number of a segment has 64 bits
abbrev pub IsSmall : Result SegmentValue (ℕ × SegmentCause) → Type 0
IsSmall read = IfOk read (λ (segment : SegmentValue). segment.session < 2 ^ 64)

-- ---- then both do the same

-- a step of a face's sessions does what that of an engine does, and leaves them so
pub record StepsAlike (step : SessionsStep) (of_engine : EngineStep) : Type 0 where
  pub gone : step.gone ≡ []
  pub forgotten : step.forgotten ≡ None
  pub effects : step.effects ≡ of_engine.effects
  pub sessions : AreOf of_engine.engine step.sessions

pub record SessionsAlike : Type 0 where
  pub heard : (k : FaceKeys) (runs : ℕ) (x : Sessions) (e : Engine)
      → (read : Result SegmentValue (ℕ × SegmentCause)) (now : ℕ)
      → AreOf e x → IsSmall read → HearsFreely k x read now → HasPlace (party_with k runs) e
      → StepsAlike (hears k x read now) (datagram_step (party_with k runs) e read now)
  pub ticked : (k : FaceKeys) (runs : ℕ) (x : Sessions) (e : Engine) (now : ℕ)
      → AreOf e x → PassesFreely k x now
      → StepsAlike (ticks k x now) (tick_step (party_with k runs) e now)
