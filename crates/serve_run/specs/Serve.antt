-- `serve`: a gate that is driven in turns.
use Rattle.std.specs.Prelude.{◌≡◌, ℕ, ◌*◌, map}
use Rattle.endpoint.specs.declared.name.Endpoint.{Endpoint}
use Rattle.ltp_segment.specs.Policy.{default_policy}
use Rattle.ltp_segment.specs.Reading.{segment_of}
use Rattle.gateway_core.specs.Gate.{GateSetup, Gate, GateStep, gate_parties, starts_gate, arrives_at, ticks_gate}
use Rattle.gateway_core.specs.Effects.{routed_of}
use Rattle.serve_run.specs.Turns.{Act, Stepped, TurnRules, turns}
use Rattle.serve_run.specs.WrittenLines.{step_text}

-- what is kept from step to step: how the gate is set up, and the gate
pub record Serving : Type 0 where
  pub setup : GateSetup
  pub gate : Gate

-- a step of the gate: its datagrams are sent, and its red parts and notes are lines
abbrev pub serves : Serving → GateStep → Stepped Serving
serves serving step = record {
  state = record serving { gate = step.gate };
  effects = record {
    out = map routed_of step.effects.out;
    text = step_text step.effects.ups step.effects.notes;
  };
}

abbrev pub serving_rules : TurnRules Serving
serving_rules = record {
  tick = λ now serving. serves serving (ticks_gate serving.setup now serving.gate);
  arrive = λ face datagram now serving.
      serves serving (arrives_at serving.setup face (segment_of datagram) now serving.gate);
}

-- a gate of this name: its engines send as is usual, and a payload is cut to 65,536 octets
abbrev pub setup_named : Endpoint → GateSetup
setup_named gate = record { parties = gate_parties default_policy; gate = gate; cut = 65536 }

-- payloads are cut at 64 KiB
abbrev pub CutsAt64KiB : Type 0
CutsAt64KiB = (gate : Endpoint) → (setup_named gate).cut ≡ 64 * 1024

abbrev pub serving_from : GateSetup → Serving
serving_from setup = record { setup = setup; gate = starts_gate setup }

-- so many turns of a gate of this name, from its beginning
unfoldable pub serve_turns : Endpoint → ℕ → Act Serving
serve_turns gate count = turns serving_rules count (serving_from (setup_named gate))
