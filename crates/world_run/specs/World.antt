-- What `world` writes: the first line of the input sets up a path, and each line after it is an event
-- there; the last one may drain the path.
use Rattle.std.specs.Prelude.{◌≡◌, ℕ, ◌+◌, ◌*◌, ◌^◌, Bool, true, false, nat_lt, nat_le, List, [], ◌∷◌, ◌++◌, length, slice_get}
use Rattle.std.specs.Prelude.{Option, None, Some, Result, Ok, Err, if◌then◌else◌}
use Rattle.edge_traits.specs.declared.status.Status.TheVariants as statuses
use Rattle.edge_traits.specs.Settled.{Settled}
use Rattle.command_frame.specs.Task.{Settling}
use Rattle.command_frame.specs.Lines.{Turn, passes, ends_run, LineRules, by_lines}
use Rattle.ltp_segment.specs.declared.session.TheConstants.{BLOCK_MAX}
use Rattle.ltp_segment.specs.Spelling.{segment_octets}
use Rattle.ltp_session.specs.Engine.{EngineStep, SubmitFault}
use Rattle.replay_script.specs.declared.event.Event.{Event}
use Rattle.replay_script.specs.declared.event.Event.TheVariants as events
use Rattle.replay_script.specs.declared.fault.LineFault.{LineFault}
use Rattle.replay_script.specs.declared.fault.LineFault.TheVariants as faults
use Rattle.replay_script.specs.Events.{event_of, is_path_line}
use Rattle.path_laws.specs.declared.places.PathEnd.{PathEnd}
use Rattle.path_laws.specs.declared.places.PathEnd.TheVariants as ends
use Rattle.path_laws.specs.Places.{node_place}
use Rattle.path_laws.specs.Path.{PathSetup, Path, SentFrom, PathEvent, sends, delivers}
use Rattle.path_laws.specs.Path.{clock_shows, path_setup, starts_path, sends_block, path_step}
use Rattle.path_laws.specs.Path.{path_run}
use Rattle.path_drain.specs.Clean.{path_clean_event, path_passed}
use Rattle.path_drain.specs.Drained.{drain_events}
use Rattle.world_run.specs.WrittenLines.{effects_text, send_refusal, deliver_refusal, refusal_line}
use Rattle.world_run.specs.WrittenLines.{after_drain_line, end_line}

-- ---- what a line says, or why it is refused

-- a path is set up so, and its clock begins at this moment
pub record PathStart : Type 0 where
  pub setup : PathSetup
  pub now : ℕ

-- the first line is one of the word `path`, and no other
abbrev pub first_said : List ℕ → Result Event LineFault
first_said line = if is_path_line line then event_of line else Err faults.Word

abbrev pub later_said : List ℕ → Result Event LineFault
later_said line = if is_path_line line then Err faults.Word else event_of line

abbrev pub start_said : Result Event LineFault → Result PathStart LineFault
start_said (Ok (events.Path gate segment timeout limit cut start cap)) = Ok (record {
  setup = path_setup gate
      (record { segment = segment; timeout = timeout; limit = limit; cap = cap }) cut;
  now = start;
})
start_said (Ok (events.Send old body)) = Err faults.Word
start_said (Ok (events.Deliver k)) = Err faults.Word
start_said (Ok (events.Clock now)) = Err faults.Word
start_said (Ok events.Drain) = Err faults.Word
start_said (Err fault) = Err fault

unfoldable pub start_in : List ℕ → Result PathStart LineFault
start_in line = start_said (first_said line)

abbrev pub end_of_side : Bool → PathEnd
end_of_side true = ends.Old
end_of_side false = ends.New

-- a line after the first says an event, or that the path is drained
pub data LaterLine : Type 0 where
  says_event : PathEvent → LaterLine
  says_drain : LaterLine

abbrev pub line_said : Result Event LineFault → Result LaterLine LineFault
line_said (Ok (events.Path gate segment timeout limit cut start cap)) = Err faults.Word
line_said (Ok (events.Send old body)) = Ok (says_event (sends (end_of_side old) body))
line_said (Ok (events.Deliver k)) = Ok (says_event (delivers k))
line_said (Ok (events.Clock now)) = Ok (says_event (clock_shows now))
line_said (Ok events.Drain) = Ok says_drain
line_said (Err fault) = Err fault

unfoldable pub line_in : List ℕ → Result LaterLine LineFault
line_in line = line_said (later_said line)

-- ---- one event

-- the first moment that no clock shows
abbrev pub no_moment : ℕ
no_moment = 2 ^ 62

-- the event sets the clock past the last moment
abbrev pub is_late : PathEvent → Bool
is_late (sends end block) = false
is_late (delivers k) = false
is_late (clock_shows now) = nat_le no_moment now

-- the octets of all datagrams that were sent, and the most that there may be
unfoldable pub octets_sent : List SentFrom → ℕ
octets_sent [] = 0
octets_sent (d ∷ sent) = length (segment_octets d.segment) + octets_sent sent

abbrev pub most_sent : ℕ
most_sent = 2 ^ 28

-- the limit on the octets of a path's datagrams is 256 MiB
abbrev pub Sends256MiB : Type 0
Sends256MiB = most_sent ≡ 256 * 1024 * 1024

-- why an event isn't done: a block isn't sent, or there is no datagram to deliver
abbrev pub unless_sent : PathEnd → Result EngineStep SubmitFault → List ℕ
unless_sent end (Ok step) = []
unless_sent end (Err fault) = send_refusal (node_place end) fault

abbrev pub unless_there : Option SentFrom → List ℕ
unless_there None = deliver_refusal
unless_there (Some d) = []

abbrev pub refused_text : PathSetup → Path → PathEvent → List ℕ
refused_text s w (sends end block) = unless_sent end (sends_block s w end block)
refused_text s w (delivers k) = unless_there (slice_get w.sent k)
refused_text s w (clock_shows now) = []

-- what is written of an event: that it isn't done, or what is done
unfoldable pub event_text : PathSetup → Path → PathEvent → List ℕ
event_text s w event =
    refused_text s w event ++ effects_text (length w.sent) (path_step s w event).effects

-- all that is written for some events, in their order
unfoldable pub events_text : PathSetup → Path → List PathEvent → List ℕ
events_text s w [] = []
events_text s w (event ∷ events) =
    event_text s w event ++ events_text s (path_step s w event).path events

-- ---- a drain

-- the events that a drain makes from a path on: the clean ones, as long as the clock is set to no
-- moment after the last one
abbrev pub drain_made : PathSetup → Path → List PathEvent
drain_made s w = drain_events BLOCK_MAX no_moment s w (length w.sent)

-- the clean event that would follow them
abbrev pub clean_after : PathSetup → Path → List PathEvent → Option PathEvent
clean_after s w made = path_clean_event (path_run s w made) (path_passed (length w.sent) made)

abbrev pub is_late_if_any : Option PathEvent → Bool
is_late_if_any None = false
is_late_if_any (Some event) = is_late event

-- what is written of a drain that made these events: what happens in them, and that it ended
abbrev pub drain_text : PathSetup → Path → List PathEvent → List ℕ
drain_text s w made = events_text s w made ++ end_line (length made)

-- ---- line by line

-- what is kept from line to line: before the first line nothing, then how a path is set up, and the
-- path; and after a drain only that there was one
pub data WorldState : Type 0 where
  no_path : WorldState
  on_path : PathSetup → Path → WorldState
  drained : WorldState

-- a line's text is written, unless too many octets were sent by then: the line that sends them has
-- no text
abbrev pub if_kept : List ℕ → Path → WorldState → Turn WorldState
if_kept text after state =
    if nat_lt most_sent (octets_sent after.sent) then ends_run [] statuses.Limit
    else passes text state

abbrev pub happens : PathSetup → Path → PathEvent → Turn WorldState
happens s w event =
    if is_late event then ends_run [] statuses.Limit
    else if_kept (event_text s w event) (path_step s w event).path
    (on_path s (path_step s w event).path)

-- a drain made these events; one that would set the clock past the last moment has no text either
abbrev pub drains_by : PathSetup → Path → List PathEvent → Turn WorldState
drains_by s w made =
    if is_late_if_any (clean_after s w made) then ends_run [] statuses.Limit
    else if_kept (drain_text s w made) (path_run s w made) drained

abbrev pub line_turn : ℕ → PathSetup → Path → Result LaterLine LineFault → Turn WorldState
line_turn n s w (Ok (says_event event)) = happens s w event
line_turn n s w (Ok says_drain) = drains_by s w (drain_made s w)
line_turn n s w (Err fault) = ends_run (refusal_line n fault) statuses.Refused

abbrev pub start_turn : ℕ → Result PathStart LineFault → Turn WorldState
start_turn n (Ok start) =
    if nat_le no_moment start.now then ends_run [] statuses.Limit
    else passes [] (on_path start.setup (starts_path start.setup start.now))
start_turn n (Err fault) = ends_run (refusal_line n fault) statuses.Refused

abbrev pub world_turn : ℕ → WorldState → List ℕ → Turn WorldState
world_turn n no_path line = start_turn n (start_in line)
world_turn n (on_path s w) line = line_turn n s w (line_in line)
world_turn n drained line = ends_run (after_drain_line n) statuses.Refused

-- an input without lines is refused, for want of a first line
abbrev pub world_ending : WorldState → Settled
world_ending no_path =
    record { text = refusal_line 1 faults.Word; ends = Some statuses.Refused }
world_ending (on_path s w) = record { text = []; ends = Some statuses.Done }
world_ending drained = record { text = []; ends = Some statuses.Done }

-- at most a million lines, of at most 9,000,000 octets
abbrev pub world_rules : LineRules WorldState
world_rules = record {
  lines = 1000000;
  octets = 9000000;
  step = world_turn;
  finish = world_ending;
}

-- what octets settle of `world`, whatever the size of the input
abbrev pub settles : Settling
settles = by_lines world_rules no_path
