-- A path world of the code as a value.

use Rattle.std.specs.Prelude.{ℕ, ◌+◌, Bool, List, [], ◌∷◌, length, map, Option}
use Rattle.fragments.specs.declared.join.Join.{Join}
use Rattle.gateway_core.specs.Values.{GatewayValue, gate_deadline}
use Rattle.gateway_core.specs.Values.{setup_of as gate_setup_of}
use Rattle.ltp_engine.specs.Steps.{deadline_of}
use Rattle.ltp_engine.specs.Values.{EngineValue}
use Rattle.ltp_segment.specs.Spelling.{segment_octets}
use Rattle.ltp_session.specs.Engine.{earlier}
use Rattle.path_laws.specs.declared.effects.PathEffects.{PathEffects}
use Rattle.path_laws.specs.declared.effects.SentAt.{SentAt}
use Rattle.path_laws.specs.Path.{PathSetup, PathEffectsValue, SentFrom}
use Rattle.path_laws.specs.Places.{across}
use Rattle.path_world.specs.declared.sent.Sent.{Sent}

-- whether memory ran out in a call, after which the value may only be dropped; the nodes' engines,
-- the old one's first; the gate; what each end has of bundles that come in pieces; every datagram
-- that was ever sent, in order; and the moment that the clock shows
pub record PathValue : Type 0 where
  pub spent : Bool
  pub nodes : EngineValue × EngineValue
  pub gate : GatewayValue
  pub joins : List Join × List Join
  pub sent : List Sent
  pub moment : ℕ

-- what never changes
abbrev pub setup_of : PathValue → PathSetup
setup_of v = record {
  nodes = (v.nodes.0.party, v.nodes.1.party);
  gate = gate_setup_of v.gate;
}

-- the octets of all datagrams together
unfoldable pub octets_in : List Sent → ℕ
octets_in [] = 0
octets_in (d ∷ ds) = length d.datagram + octets_in ds

-- when a timer is due next
abbrev pub path_deadline : PathValue → Option ℕ
path_deadline v =
    earlier (earlier (deadline_of v.nodes.0) (gate_deadline v.gate)) (deadline_of v.nodes.1)

-- ---- what is told of a step

-- a segment that a place sent, as its octets
abbrev pub spelled : SentFrom → Sent
spelled d = record { from = d.from; datagram = segment_octets d.segment }

abbrev pub sent_at : ℕ → Sent → SentAt
sent_at k d = record { k = k; from = d.from; to = across d.from; datagram = d.datagram }

-- datagrams with their numbers, which go on from this one
unfoldable pub numbered : ℕ → List Sent → List SentAt
numbered k [] = []
numbered k (d ∷ ds) = sent_at k d ∷ numbered (k + 1) ds

-- the effects of a step, where so many datagrams were sent before it
abbrev pub effects_told : ℕ → PathEffectsValue → PathEffects
effects_told k e = record {
  sent = numbered k (map spelled e.sent);
  ups = e.ups;
  joins = e.joins;
  notes = e.notes;
}

abbrev pub nothing_told : PathEffects
nothing_told = record { sent = []; ups = []; joins = []; notes = [] }
