-- The gate of a run is that of its events.

use Rattle.std.proofs.Common.{◌≡◌, List, [], ◌∷◌, Option, refl, ap, sym, ◌∙◌}
use Rattle.gate_cases.specs.declared.face.Face.TheVariants as faces
use Rattle.peer_gateway.specs.Gate.{PeerGate}
use Rattle.peer_gateway.specs.Keys.{PeerSetup}
use Rattle.peer_gateway.specs.Steps.{PeerEvent, peer_gate_after, peer_step}
use Rattle.peer_half.specs.Journals.{Journalled}
use Rattle.peer_half.specs.Standing.{Standing}
use Rattle.peer_half.specs.Starts.{starts_at}
use Rattle.peer_half.specs.Steps.{outboxes_in}
use Rattle.peer_half.specs.Runs.{EventIn, Run, begins_at, event_at, events_of, first_gate, setup_of, stands_at}
use Rattle.peer_half.proofs.StandingLemmas.{after_event}
use Rattle.peer_run_laws.specs.Gate.{GateIsOfEvents}
use Rattle.peer_run_laws.proofs.WalkLemmas.{Core, Keeps, KeepsHalves, core-answers, keeps-halves}

-- a gateway is set up so, and its gate is what these events made of one
pub record IsGateOf (setup : PeerSetup) (start : PeerGate) (s : Standing) (events : List EventIn) : Type 0 where
  pub setup_is : s.setup ≡ setup
  pub gate_is : s.gate ≡ peer_gate_after setup start events

pub gate-event : (setup : PeerSetup) (start : PeerGate) (event : PeerEvent) (journal : Option Journalled) (s : Standing) (earlier : List EventIn)
    → IsGateOf setup start s earlier → IsGateOf setup start (after_event event journal s) (event_at event s ∷ earlier)
unfolding peer_gate_after
gate-event setup start event journal s earlier so = record {
  setup_is = so.setup_is;
  gate_is = ap (λ (t : PeerSetup). (peer_step t event s.moments (outboxes_in s) s.gate).gate) so.setup_is
      ∙ ap (λ (g : PeerGate). (peer_step setup event s.moments (outboxes_in s) g).gate) so.gate_is;
}

pub gate-keeps : (setup : PeerSetup) (start : PeerGate) → Keeps (IsGateOf setup start)
gate-keeps setup start = record {
  quiet = λ s t earlier same so. record {
    setup_is = ap (λ (x : Standing). x.setup) (sym same) ∙ so.setup_is;
    gate_is = ap (λ (x : Standing). x.gate) (sym same) ∙ so.gate_is;
  };
  event = gate-event setup start;
}

pub gate-halves : (setup : PeerSetup) (start : PeerGate) → KeepsHalves (IsGateOf setup start)
gate-halves setup start = record {
  events = gate-keeps setup start;
  reads = λ now s earlier so. record { setup_is = so.setup_is; gate_is = so.gate_is };
  answers = λ board came s earlier so. record {
    setup_is = ap (λ (c : Core). c.setup) (core-answers board came s) ∙ so.setup_is;
    gate_is = ap (λ (c : Core). c.gate) (core-answers board came s) ∙ so.gate_is;
  };
}

-- before its first half
pub gate-begins : (r : Run) → IsGateOf (setup_of r) (first_gate r) (begins_at r) []
unfolding starts_at peer_gate_after
gate-begins r = record { setup_is = refl; gate_is = refl }

pub is-gate : (r : Run) → IsGateOf (setup_of r) (first_gate r) (stands_at r) (events_of r)
is-gate r = keeps-halves (IsGateOf (setup_of r) (first_gate r)) (gate-halves (setup_of r) (first_gate r)) r.board faces.Old r.comes (begins_at r) [] (gate-begins r)

pub gate-is-of-events : GateIsOfEvents
gate-is-of-events r = (is-gate r).gate_is
