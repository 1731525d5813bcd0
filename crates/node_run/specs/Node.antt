-- What `node` writes: each line of the input is an event at one end of an LTP link (RFC 5326).
use Rattle.std.specs.Prelude.{◌≡◌, ℕ, Bool, false, nat_le, ◌^◌, max, length, [], Some, Result, Ok, Err, if◌then◌else◌}
use Rattle.edge_traits.specs.declared.status.Status.TheVariants as statuses
use Rattle.command_frame.specs.Task.{Settling}
use Rattle.command_frame.specs.Lines.{Turn, passes, ends_run, LineRules, by_lines}
use Rattle.ltp_segment.specs.declared.session.TheConstants.{BLOCK_MAX}
use Rattle.ltp_segment.specs.Policy.{default_policy}
use Rattle.ltp_segment.specs.Reading.{segment_of}
use Rattle.ltp_session.specs.Engine.{Party, Engine, EngineStep, SubmitFault, starts, datagram_step, submits, submit_step, tick_step}
use Rattle.ltp_engine.specs.Effects.{effects_of}
use Rattle.replay_script.specs.declared.event.NodeEvent.{NodeEvent}
use Rattle.replay_script.specs.declared.event.NodeEvent.TheVariants as events
use Rattle.replay_script.specs.declared.fault.LineFault.{LineFault}
use Rattle.replay_script.specs.Events.{node_event_of}
use Rattle.node_run.specs.WrittenLines.{effects_text, block_line, refusal_line}

-- what is kept from line to line: who the two ends are, the engine of this end, and the clock in ms
pub record NodeState : Type 0 where
  pub party : Party
  pub engine : Engine
  pub now : ℕ

-- the first moment that no clock shows
abbrev pub no_moment : ℕ
no_moment = 2 ^ 62

-- ---- one event

-- the moment of an event: the clock's, which an event may set on, and never back
abbrev pub moment_of : ℕ → NodeEvent → ℕ
moment_of now (events.In datagram) = now
moment_of now (events.Send block) = now
moment_of now (events.Clock moment) = max now moment

-- what the engine does about an event at a moment, or why a block isn't sent, which is all red: a
-- datagram comes, a block comes to be sent, or time has passed
abbrev pub engine_does : Party → Engine → ℕ → NodeEvent → Result EngineStep SubmitFault
engine_does p e now (events.In datagram) = Ok (datagram_step p e (segment_of datagram) now)
engine_does p e now (events.Send block) = submit_step p e (submits p e block (length block) now)
engine_does p e now (events.Clock moment) = Ok (tick_step p e now)

-- the effects are written; or why a block isn't sent, which changes nothing
abbrev pub answers : NodeState → Result EngineStep SubmitFault → Turn NodeState
answers node (Ok step) = passes (effects_text (effects_of step.effects)) (record node { engine = step.engine })
answers node (Err fault) = passes (block_line fault) node

-- the event sets the clock past the last moment
abbrev pub is_late : NodeEvent → Bool
is_late (events.In datagram) = false
is_late (events.Send block) = false
is_late (events.Clock moment) = nat_le no_moment moment

abbrev pub at_moment : NodeState → ℕ → NodeState
at_moment node moment = record node { now = moment }

-- the answer to an event
abbrev pub happens : NodeState → NodeEvent → Turn NodeState
happens node event =
    if is_late event then ends_run [] statuses.Limit
    else answers (at_moment node (moment_of node.now event))
    (engine_does node.party node.engine (moment_of node.now event) event)

-- ---- line by line

-- line n says this, or is refused
unfoldable pub node_turn : ℕ → NodeState → Result NodeEvent LineFault → Turn NodeState
node_turn n node (Ok event) = happens node event
node_turn n node (Err fault) = ends_run (refusal_line n fault) statuses.Refused

-- a million lines, of 9,000,000 octets each; what a line brings about; and that the run is done
-- after the last one
abbrev pub node_rules : LineRules NodeState
node_rules = record {
  lines = 1000000;
  octets = 9000000;
  step = λ n node line. node_turn n node (node_event_of line);
  finish = λ node. record { text = []; ends = Some statuses.Done };
}

-- the two ends of the link: this one and its peer, by their engines' numbers; with the usual bounds
abbrev pub node_party : ℕ → ℕ → Party
node_party own peer = record {
  own = own;
  peer = peer;
  first = 1;
  policy = default_policy;
  most = BLOCK_MAX;
  sessions = 64;
  history = 65536;
}

-- the first session of a node has number 1, whoever is at the other end
abbrev pub BeginsWithFirst : Type 0
BeginsWithFirst = (own peer : ℕ) → (starts (node_party own peer)).next ≡ 1

-- before the first line: the engine is at its beginning, and the clock shows 0
abbrev pub begins : Party → NodeState
begins party = record { party = party; engine = starts party; now = 0 }

-- what octets settle of `node OWN PEER`, whatever the size of the input
abbrev pub settles : ℕ → ℕ → Settling
settles own peer = by_lines node_rules (begins (node_party own peer))
