-- What an operator sets of a gateway among other implementations.

use Rattle.std.specs.Prelude.{◌≡◌, ℕ, ◌<◌, ◌≤◌}
use Rattle.endpoint.specs.declared.name.Endpoint.{Endpoint}
use Rattle.piece_gathering.specs.Gathered.{GatheringValue, nothing_waits}
use Rattle.face_room.specs.declared.bounds.TheConstants.{BLOCK_MAX}
use Rattle.peer_sessions.specs.Keys.{FaceKeys}
use Rattle.peer_cases.specs.declared.settings.PeerSettings.{PeerSettings}

-- both faces; what is done with bundles; the gateway's own name; and the most octets of payload that a
-- piece has
pub record PeerSetup : Type 0 where
  pub keys : FaceKeys × FaceKeys
  pub settings : PeerSettings
  pub gate : Endpoint
  pub cut : ℕ

abbrev pub gathers_from : FaceKeys → GatheringValue
gathers_from k = nothing_waits (k.bounds).wanted k.wait_ms

-- A face's keys say three things twice, once for its engine and once for its room: the most octets of a segment,
-- how many sessions there are, and the most octets of a block. They agree. A piece may wait for some time.
pub record AreKeys (k : FaceKeys) : Type 0 where
  pub segment : ((k.party).policy).segment ≡ (k.bounds).segment
  pub sessions : (k.party).sessions ≡ (k.bounds).sessions
  pub most : (k.party).most ≡ BLOCK_MAX
  pub some : 0 < (k.bounds).segment
  pub wait : 1 ≤ k.wait_ms
