-- What the code of a face's sessions keeps, as a value.

use Rattle.std.specs.Prelude.{◌≡◌, ◌≢◌, ℕ, ◌+◌, ◌/◌, ◌<◌, ◌≤◌, ◌^◌, Bool, true, false, nat_eq, List, [], length}
use Rattle.std.specs.List.{AllByRecursion, IsDistinct}
use Rattle.std.specs.Map.{keys_of}
use Rattle.ltp_segment.specs.PolicyViews.{policy_value}
use Rattle.ltp_session.specs.Receiver.{Receiving}
use Rattle.ltp_session.specs.Table.{AreAscending}
use Rattle.ltp_session.specs.Engine.{Engine}
use Rattle.ltp_engine.specs.Closed.{none_closed}
use Rattle.ltp_engine.specs.Values.{EngineValue}
use Rattle.ltp_engine.specs.Bounds.{IsBounded}
use Rattle.ltp_engine.specs.Sessions.{is_receiving}
use Rattle.ltp_engine.specs.Steps.{wide_party}
use Rattle.session_memory.specs.Numbers.{runs_in}
use Rattle.session_memory.specs.Memory.{Memory}
use Rattle.session_memory.specs.Laws.{IsSet64}
use Rattle.peer_sessions.specs.declared.keys.Keys.{Keys}
use Rattle.peer_sessions.specs.declared.keys.TheConstants.{HISTORY}
use Rattle.peer_sessions.specs.Keys.{FaceKeys}
use Rattle.peer_sessions.specs.Sessions.{Sessions}

-- ---- keys

abbrev pub face_keys : Keys → FaceKeys
face_keys k = record {
  party = wide_party k.own k.peer k.first_session (policy_value k.policy) (k.bounds).sessions HISTORY;
  bounds = k.bounds;
  wait_ms = k.wait_ms;
  remember = k.remember;
  remember_ms = k.remember_ms;
}

-- the engines are apart, and numbers are left; one session at least is kept; and fewer than a list of the
-- memory has runs, so that each of them has a place there once it is over
pub record AreFit (k : Keys) : Type 0 where
  pub apart : k.own ≢ k.peer
  pub first : 1 ≤ k.first_session
  pub numbers : k.first_session < 2 ^ 32
  pub some : 1 ≤ (k.bounds).sessions
  pub places : (k.bounds).sessions < k.remember / 2
  pub few : k.remember < 2 ^ 32

-- ---- an engine

-- the engine of the definition, whose closed numbers are kept elsewhere
abbrev pub engine_of : EngineValue → Engine
engine_of v = record {
  next = v.next;
  senders = v.senders;
  receivers = (v.inbound).receivers;
  touched = (v.inbound).touched;
  closed = [];
}

abbrev pub sessions_of : EngineValue → Memory → List (ℕ × ℕ) → Sessions
sessions_of v m moments = record { engine = engine_of v; memory = m; moments = moments }

-- ---- what every call keeps

-- the session of a moment is kept
abbrev pub IsOfKept : List (ℕ × Receiving) → ℕ × ℕ → Type 0
IsOfKept receivers entry = is_receiving entry.0 receivers ≡ true

-- The engine is whole, its party is that of the keys, and it has no closed numbers. The memory is as the
-- keys say, and has a place for each receiving session once that is over. Each moment is that of a session
-- that is kept, and no session has two.
pub record AreWhole (k : Keys) (v : EngineValue) (m : Memory) (moments : List (ℕ × ℕ)) : Type 0 where
  pub fit : AreFit k
  pub whole : v.spent ≡ false
  pub party : v.party ≡ (face_keys k).party
  pub none : (v.inbound).closed ≡ none_closed
  pub bounded : IsBounded v
  pub ascending : AreAscending 0 (v.inbound).receivers
  pub most : m.most ≡ k.remember / 2
  pub keep : m.keep_ms ≡ k.remember_ms
  pub set : IsSet64 m.newer
  pub places : runs_in m.newer + length (v.inbound).receivers ≤ m.most
  pub kept : AllByRecursion (IsOfKept (v.inbound).receivers) moments
  pub once : IsDistinct nat_eq (keys_of moments)

-- ---- what a caller sees

-- whether memory ran out in a call, after which the value may only be dropped; the keys; and the sessions
pub record PeerSessionsValue : Type 0 where
  pub spent : Bool
  pub keys : FaceKeys
  pub sessions : Sessions
