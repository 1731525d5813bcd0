-- How a gateway of the code is set up, and its moments, as the definition's.

use Rattle.std.specs.Prelude.{ℕ, ◌<◌, ◌^◌, List, map}
use Rattle.ltp_segment.specs.Values.{SegmentValue, a_receiver_cancel}
use Rattle.ltp_session.specs.Step.{by_system}
use Rattle.face_room.specs.Bounds.{AreBounds}
use Rattle.gateway_core.specs.Config.{IsGateConfig}
use Rattle.gateway_core.specs.Gate.{at_face}
use Rattle.peer_sessions.specs.declared.keys.Keys.{Keys}
use Rattle.peer_sessions.specs.Views.{face_keys, AreFit}
use Rattle.peer_gateway.specs.declared.config.PeerConfig.{PeerConfig}
use Rattle.peer_gateway.specs.declared.moments.Moments.{Moments}
use Rattle.peer_gateway.specs.Keys.{PeerSetup, AreKeys}
use Rattle.peer_gateway.specs.Gate.{PeerMoments}

-- ---- how it is set up

abbrev pub setup_with : PeerConfig → PeerSetup
setup_with c = record {
  keys = (face_keys c.old, face_keys c.new);
  settings = c.settings;
  gate = c.gate;
  cut = c.cut;
}

-- keys of a face that sessions take, that agree with each other, and whose octets can be counted
pub record AreFaceKeys (k : Keys) : Type 0 where
  pub fit : AreFit k
  pub agree : AreKeys (face_keys k)
  pub bounds : AreBounds k.bounds

pub record IsConfig (c : PeerConfig) : Type 0 where
  pub old : AreFaceKeys c.old
  pub new : AreFaceKeys c.new
  pub config : IsGateConfig c.gate c.cut

-- a cancel of each of these sessions of the peer
abbrev pub cancels_of : ℕ → List ℕ → List SegmentValue
cancels_of peer marks =
    map (λ (mark : ℕ). record { originator = peer; session = mark; content = a_receiver_cancel by_system }) marks

-- ---- moments

abbrev pub moments_of : Moments → PeerMoments
moments_of m = record {
  wall = m.wall;
  at = λ face. (at_face (m.old, m.new) face).at;
  leaves = λ face. (at_face (m.old, m.new) face).leaves;
}

-- moments that sessions take
pub record AreMoments (m : Moments) : Type 0 where
  pub wall : m.wall < 2 ^ 62
  pub old : (m.old).at < 2 ^ 62
  pub new : (m.new).at < 2 ^ 62
