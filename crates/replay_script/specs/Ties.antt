-- What the code keeps of a line that is being read.

use Rattle.std.specs.Prelude.{ℕ, Bool, List, [], Option, None, Some, Result, Ok, Err, drop, codes, is_some, false, if◌then◌else◌}
use Rattle.std.specs.Borrow.{Bor}
use Rattle.endpoint.specs.Endpoints.{begins, is_ssp}
use Rattle.endpoint.specs.Reading.{ipn_named}
use Rattle.replay_script.specs.declared.event.Event.{Event}
use Rattle.replay_script.specs.declared.event.Event.TheVariants as events
use Rattle.replay_script.specs.declared.event.NodeEvent.{NodeEvent}
use Rattle.replay_script.specs.declared.event.NodeEvent.TheVariants as node_events
use Rattle.replay_script.specs.declared.fault.LineFault.{LineFault}
use Rattle.replay_script.specs.declared.fault.LineFault.TheVariants as faults
use Rattle.replay_script.specs.declared.judging.Said.{Said}
use Rattle.replay_script.specs.declared.judging.Said.TheVariants as said
use Rattle.replay_script.specs.declared.judging.NodeSaid.{NodeSaid}
use Rattle.replay_script.specs.declared.judging.NodeSaid.TheVariants as node_said
use Rattle.replay_script.specs.declared.path.PathTexts.{PathTexts}
use Rattle.replay_script.specs.Words.{words_of}
use Rattle.replay_script.specs.Events.{PathWords, gate_of, hex_of, or_fault, path_event}

-- the words that are still to come
abbrev pub words_left : Option (Bor (List ℕ)) → List (List ℕ)
words_left None = []
words_left (Some rest) = words_of rest.now

abbrev pub path_value : PathTexts → PathWords
path_value p = record {
  gate = p.gate.now;
  segment = p.segment.now;
  timeout = p.timeout.now;
  limit = p.limit.now;
  cut = p.cut.now;
  start = p.start.now;
  cap = p.cap.now;
}

-- the text names an endpoint, and not the null one
unfoldable pub is_gate_text : List ℕ → Bool
is_gate_text text =
    if begins (codes "dtn:") text then is_ssp (drop 4 text)
    else if begins (codes "ipn:") text then is_some (ipn_named (drop 4 text))
    else false

-- the event that a judged line says
abbrev pub event_in : Said → Result Event LineFault
event_in (said.Path gate numbers) =
    or_fault (gate_of gate.now) faults.Name (λ g. Ok (path_event g numbers))
event_in (said.Send old hex) =
    or_fault (hex_of hex.now) faults.Hex (λ body. Ok (events.Send old body))
event_in (said.Deliver k) = Ok (events.Deliver k)
event_in (said.Clock now) = Ok (events.Clock now)
event_in said.Drain = Ok events.Drain

-- the same of a line that may be refused
abbrev pub seen : Result Said LineFault → Result Event LineFault
seen (Ok said) = event_in said
seen (Err fault) = Err fault

abbrev pub node_event_in : NodeSaid → Result NodeEvent LineFault
node_event_in (node_said.In hex) =
    or_fault (hex_of hex.now) faults.Hex (λ octets. Ok (node_events.In octets))
node_event_in (node_said.Send hex) =
    or_fault (hex_of hex.now) faults.Hex (λ octets. Ok (node_events.Send octets))
node_event_in (node_said.Clock now) = Ok (node_events.Clock now)

abbrev pub node_seen : Result NodeSaid LineFault → Result NodeEvent LineFault
node_seen (Ok said) = node_event_in said
node_seen (Err fault) = Err fault

-- the octets of a judged hex text, or its refusal
abbrev pub hex_seen : Result (Bor (List ℕ)) LineFault → Result (List ℕ) LineFault
hex_seen (Ok hex) = or_fault (hex_of hex.now) faults.Hex (λ octets. Ok octets)
hex_seen (Err fault) = Err fault

-- the side and the hex of a line `send`
abbrev pub send_value : Option (Bool × Bor (List ℕ)) → Option (Bool × List ℕ)
send_value None = None
send_value (Some send) = Some (send.0, send.1.now)
