-- What `record` writes: each line of the input is an event at one end of an LTP link (RFC 5326), as
-- of `node`, and what the recording of that end grows by is its answer.

use Rattle.std.specs.Prelude.{ℕ, Bool, true, false, List, [], ◌∷◌, ◌++◌, codes, map, Some}
use Rattle.std.specs.Prelude.{Result, Ok, Err, if◌then◌else◌}
use Rattle.std.specs.List.{flat_map}
use Rattle.hex_text.specs.Hex.{encode_lower}
use Rattle.edge_traits.specs.declared.status.Status.TheVariants as statuses
use Rattle.command_frame.specs.Task.{Settling}
use Rattle.command_frame.specs.Lines.{Turn, passes, ends_run, LineRules, by_lines}
use Rattle.ltp_session.specs.Engine.{EngineStep, EffectsValue, SubmitFault}
use Rattle.ltp_engine.specs.Effects.{effects_of}
use Rattle.ltp_audit.specs.declared.entry.Entry.{Entry}
use Rattle.ltp_audit.specs.Recording.{came, went}
use Rattle.replay_script.specs.declared.event.NodeEvent.{NodeEvent}
use Rattle.replay_script.specs.declared.event.NodeEvent.TheVariants as events
use Rattle.replay_script.specs.declared.fault.LineFault.{LineFault}
use Rattle.replay_script.specs.Events.{node_event_of}
use Rattle.replay_script.specs.NoteLines.{line_of}
use Rattle.node_run.specs.WrittenLines.{refusal_line}
use Rattle.node_run.specs.Node.{NodeState, moment_of, engine_does, is_late, at_moment}
use Rattle.node_run.specs.Node.{node_party, begins}

-- ---- entries of the recording

-- what an event brings
abbrev pub coming : NodeEvent → List Entry
coming (events.In datagram) = came datagram ∷ []
coming (events.Send block) = []
coming (events.Clock moment) = []

-- by what the recording grows: what comes, and after it what is sent
abbrev pub entries_of : NodeEvent → EffectsValue → List Entry
entries_of event effects = coming event ++ map went (effects_of effects).out

-- an entry as a line, which `audit` reads
abbrev pub side_word : Bool → List ℕ
side_word true = codes "out"
side_word false = codes "in"

abbrev pub entry_line : Entry → List ℕ
entry_line entry = line_of (side_word entry.out ∷ encode_lower entry.datagram ∷ [])

-- ---- one event

-- the entries are written; a block that isn't sent changes nothing
abbrev pub answers : NodeState → NodeEvent → Result EngineStep SubmitFault → Turn NodeState
answers node event (Ok step) =
    passes (flat_map entry_line (entries_of event step.effects))
    (record node { engine = step.engine })
answers node event (Err fault) = passes [] node

-- the answer to an event
abbrev pub happens : NodeState → NodeEvent → Turn NodeState
happens node event =
    if is_late event then ends_run [] statuses.Limit
    else answers (at_moment node (moment_of node.now event)) event
    (engine_does node.party node.engine (moment_of node.now event) event)

-- ---- line by line

-- line n says this, or is refused
unfoldable pub record_turn : ℕ → NodeState → Result NodeEvent LineFault → Turn NodeState
record_turn n node (Ok event) = happens node event
record_turn n node (Err fault) = ends_run (refusal_line n fault) statuses.Refused

-- a million lines, of 9,000,000 octets each; what a line brings about; and that the run is done
-- after the last one
abbrev pub record_rules : LineRules NodeState
record_rules = record {
  lines = 1000000;
  octets = 9000000;
  step = λ n node line. record_turn n node (node_event_of line);
  finish = λ node. record { text = []; ends = Some statuses.Done };
}

-- what octets settle of `record OWN PEER`, whatever the size of the input
abbrev pub settles : ℕ → ℕ → Settling
settles own peer = by_lines record_rules (begins (node_party own peer))
