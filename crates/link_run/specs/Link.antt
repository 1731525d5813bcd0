-- What `link` writes: the first line of the input sets up a link, lines after it may give its windows,
-- and each line after those is an event there; the last one may drain the link.

use Rattle.std.specs.Prelude.{ℕ, ◌+◌, ◌-◌, ◌^◌, ◌<◌, Bool, true, false, ◌&&◌, nat_lt, nat_le, List, []}
use Rattle.std.specs.Prelude.{◌∷◌, ◌++◌}
use Rattle.std.specs.Prelude.{length, map, slice_get, Option, None, Some, Result, Ok, Err, codes}
use Rattle.std.specs.Prelude.{if◌then◌else◌, nat_eq}
use Rattle.std.specs.List.{list_any, starts_with}
use Rattle.edge_traits.specs.declared.status.Status.TheVariants as statuses
use Rattle.edge_traits.specs.Settled.{Settled}
use Rattle.command_frame.specs.Task.{Settling}
use Rattle.command_frame.specs.Lines.{LineRules, Turn, by_lines, ends_run, passes}
use Rattle.ltp_segment.specs.Policy.{PolicyValue}
use Rattle.ltp_session.specs.Engine.{EngineStep, Party, SubmitFault}
use Rattle.ltp_session.specs.World.{Event, World, clock, deliver, happens, run, starts_world, submit}
use Rattle.ltp_session.specs.World.{Sent as LinkSent}
use Rattle.ltp_drain.specs.Clean.{link_deadline}
use Rattle.ltp_drain.specs.Effects.{effects_at}
use Rattle.ltp_picks.specs.Picks.{Crossing, Pick, Turn as PickTurn, after_picks, after_turns}
use Rattle.ltp_picks.specs.Picks.{crosses_at, events_of, next_turn, picked_turns}
use Rattle.ltp_engine.specs.Refused.{refusal_of, submit_word}
use Rattle.ltp_segment.specs.declared.session.TheConstants.{BLOCK_MAX}
use Rattle.ltp_world.specs.declared.effects.EndEffects.{EndEffects}
use Rattle.ltp_world.specs.declared.ends.End.{End}
use Rattle.ltp_world.specs.declared.ends.End.TheVariants as ends
use Rattle.ltp_world.specs.Drain.{done_in, told_of}
use Rattle.ltp_world.specs.Ends.{link_end}
use Rattle.ltp_world.specs.Steps.{submission_at}
use Rattle.contact_plan.specs.declared.fault.PlanFault.{PlanFault}
use Rattle.contact_plan.specs.declared.window.Window.{Window}
use Rattle.contact_plan.specs.Fault.{plan_fault}
use Rattle.contact_plan.specs.Windows.{IsMoment, IsPlan, elapsed, is_open, total}
use Rattle.replay_script.specs.declared.fault.LineFault.{LineFault}
use Rattle.replay_script.specs.declared.fault.LineFault.TheVariants as faults
use Rattle.replay_script.specs.declared.link.LinkEvent.{LinkEvent}
use Rattle.replay_script.specs.declared.link.LinkEvent.TheVariants as events
use Rattle.replay_script.specs.LinkEvents.{is_link_line, link_event_of}
use Rattle.window_world.specs.declared.effects.At.{At}
use Rattle.window_world.specs.Drain.{contact_of}
use Rattle.window_world.specs.Made.{drain_events}
use Rattle.link_run.specs.Picks.{is_past, said_picks, turns_after}
use Rattle.link_run.specs.WrittenLines.{closed_refusal, deliver_refusal, end_line, last_line}
use Rattle.link_run.specs.WrittenLines.{octets_sent, octets_steps, octets_timed, refusal_line}
use Rattle.link_run.specs.WrittenLines.{refused_line, send_refusal, steps_text, timed_text, told_text}

-- ---- what a line says, or why it is refused

-- both engines send so, and the clock begins at this moment
pub record LinkStart : Type 0 where
  pub policy : PolicyValue
  pub now : ℕ

-- the first line is one of the word `link`, and no other
abbrev pub first_said : List ℕ → Result LinkEvent LineFault
first_said line = if is_link_line line then link_event_of line else Err faults.Word

abbrev pub later_said : List ℕ → Result LinkEvent LineFault
later_said line = if is_link_line line then Err faults.Word else link_event_of line

-- once an event came, a window isn't allowed either, whatever its numbers are
abbrev pub running_said : List ℕ → Result LinkEvent LineFault
running_said line =
    if starts_with nat_eq line (codes "window ") then Err faults.Word else later_said line

-- where windows were given, a drain has no picks, whatever these are
abbrev pub without_picks : Bool → List ℕ → Result LinkEvent LineFault → Result LinkEvent LineFault
without_picks windows line said =
    if windows && starts_with nat_eq line (codes "drain ") then Err faults.Word else said

abbrev pub start_said : Result LinkEvent LineFault → Result LinkStart LineFault
start_said (Ok (events.Link segment timeout limit cap start)) = Ok (record {
  policy = record { segment = segment; timeout = timeout; limit = limit; cap = cap };
  now = start;
})
start_said (Ok (events.Window from to)) = Err faults.Word
start_said (Ok (events.Send first body)) = Err faults.Word
start_said (Ok (events.Deliver k)) = Err faults.Word
start_said (Ok (events.Clock now)) = Err faults.Word
start_said (Ok events.Drain) = Err faults.Word
start_said (Ok (events.DrainBy picks)) = Err faults.Word
start_said (Err fault) = Err fault

unfoldable pub start_in : List ℕ → Result LinkStart LineFault
start_in line = start_said (first_said line)

abbrev pub end_named : Bool → End
end_named true = ends.First
end_named false = ends.Second

-- ---- a link

-- its engines have the numbers 1 and 2, begin with session 1, and have the usual bounds
abbrev pub party : ℕ → ℕ → PolicyValue → Party
party own peer policy = record {
  own = own;
  peer = peer;
  first = 1;
  policy = policy;
  most = BLOCK_MAX;
  sessions = 64;
  history = 65536;
}

abbrev pub link_parties : PolicyValue → Party × Party
link_parties policy = (party 1 2 policy, party 2 1 policy)

-- both engines; whether windows were given; and the windows in which the link is open: those, or one
-- that has every moment
pub record LinkSetup : Type 0 where
  pub parties : Party × Party
  pub windows : Bool
  pub plan : List Window

-- whether there is a window
abbrev pub are_given : List Window → Bool
are_given [] = false
are_given (window ∷ windows) = true

abbrev pub always : List Window
always = record { from = 0; to = 2 ^ 62 } ∷ []

abbrev pub link_setup : LinkStart → List Window → LinkSetup
link_setup start [] =
    record { parties = link_parties start.policy; windows = false; plan = always }
link_setup start (window ∷ windows) =
    record { parties = link_parties start.policy; windows = true; plan = window ∷ windows }

-- how it stands: its engines and all that was sent, at contact time; the moment that the clock shows;
-- and how many octets were sent
pub record LinkCourse : Type 0 where
  pub world : World
  pub moment : ℕ
  pub octets : ℕ

abbrev pub link_course : LinkSetup → ℕ → LinkCourse
link_course s now = record {
  world = happens s.parties (starts_world s.parties) (clock (elapsed s.plan now));
  moment = now;
  octets = 0;
}

-- ---- line by line

-- what is kept from line to line: before the first line nothing; then how a link is set up, and its
-- windows so far; from the first event on the link, and how it stands; and after a drain only that
-- there was one
pub data LinkState : Type 0 where
  no_link : LinkState
  planned : LinkStart → List Window → LinkState
  on_link : LinkSetup → LinkCourse → LinkState
  drained : LinkState

-- the first moment that no clock shows, and the most octets of all datagrams that were sent
abbrev pub no_moment : ℕ
no_moment = 2 ^ 62

abbrev pub most_sent : ℕ
most_sent = 2 ^ 28

-- a text is written, unless more octets were sent by then than may be
abbrev pub if_kept : ℕ → List ℕ → LinkState → Turn LinkState
if_kept octets text state =
    if nat_lt most_sent octets then ends_run [] statuses.Limit else passes text state

-- ends did this at an event, and the link stands so after it
abbrev pub does : LinkSetup → LinkCourse → List EndEffects → World → ℕ → Turn LinkState
does s c tolds world moment =
    if_kept (c.octets + octets_sent tolds) (told_text (length c.world.sent) tolds)
    (on_link s (record { world = world; moment = moment; octets = c.octets + octets_sent tolds }))

-- an event happens, and the clock shows this moment after it
abbrev pub event_turn : LinkSetup → LinkCourse → Event → ℕ → Turn LinkState
event_turn s c event moment =
    does s c (map told_of (effects_at s.parties c.world event)) (happens s.parties c.world event)
    moment

-- nothing happens but that this is written
abbrev pub only_says : LinkSetup → LinkCourse → List ℕ → Turn LinkState
only_says s c text = passes text (on_link s c)

-- an end submits a block, all of it red, where the link is open; or it is refused
abbrev pub submitted : LinkSetup → LinkCourse → End → List ℕ → Result EngineStep SubmitFault
    → Turn LinkState
submitted s c end block (Ok step) =
    event_turn s c (submit (link_end end) block (length block)) c.moment
submitted s c end block (Err fault) =
    only_says s c (send_refusal end (submit_word (refusal_of fault)))

abbrev pub sends : LinkSetup → LinkCourse → End → List ℕ → Turn LinkState
sends s c end block =
    if is_open s.plan c.moment
    then submitted s c end block (submission_at s.parties c.world (link_end end) block (length block))
    else only_says s c (send_refusal end (codes "Closed"))

-- a datagram is delivered, where the link is open and there is one
abbrev pub delivered : LinkSetup → LinkCourse → ℕ → Option LinkSent → Turn LinkState
delivered s c k None = only_says s c deliver_refusal
delivered s c k (Some d) = event_turn s c (deliver k) c.moment

abbrev pub delivers : LinkSetup → LinkCourse → ℕ → Turn LinkState
delivers s c k =
    if is_open s.plan c.moment then delivered s c k (slice_get c.world.sent k)
    else only_says s c closed_refusal

-- time passes, up to this moment: both ends tick at its contact time; a clock that would go back stays
abbrev pub passes_to : LinkSetup → LinkCourse → ℕ → Turn LinkState
passes_to s c now =
    if nat_le no_moment now then ends_run [] statuses.Limit
    else if nat_lt now c.moment then only_says s c []
    else event_turn s c (clock (elapsed s.plan now)) now

-- ---- a drain

-- the moment in a window below which so many lie in one
abbrev pub moment_of : List Window → ℕ → ℕ
moment_of [] contact = contact
moment_of (window ∷ windows) contact =
    if nat_lt contact (window.to - window.from) then window.from + contact
    else moment_of windows (contact - (window.to - window.from))

-- it is the one moment at its contact time
abbrev pub MomentsAreOpen : Type 0
MomentsAreOpen =
    (plan : List Window) (contact : ℕ) → IsPlan plan → contact < total plan
    → IsMoment plan contact (moment_of plan contact)

-- what the ends do at events, each at its moment
unfoldable pub ats_of : LinkSetup → World → List Event → List At
ats_of s w [] = []
ats_of s w (event ∷ events) =
    record {
      now = moment_of s.plan (contact_of w event);
      effects = map told_of (effects_at s.parties w event);
    }
    ∷ ats_of s (happens s.parties w event) events

-- the events of a drain: the clean ones, as long as the next deadline has a moment
abbrev pub drain_made : LinkSetup → LinkCourse → List Event
drain_made s c = drain_events (total s.plan) s.parties c.world (length c.world.sent)

-- it ends where no timer runs; or, where windows were given, with them
abbrev pub drain_text : LinkSetup → LinkCourse → List Event → Bool → List ℕ
drain_text s c made plan_ends =
    timed_text s.windows c.moment (length c.world.sent) (ats_of s c.world made)
    ++ last_line plan_ends (length made)

abbrev pub drains_by : LinkSetup → LinkCourse → List Event → Option ℕ → Turn LinkState
drains_by s c made None =
    if_kept (c.octets + octets_timed (ats_of s c.world made)) (drain_text s c made false) drained
drains_by s c made (Some deadline) =
    if s.windows
    then
    if_kept (c.octets + octets_timed (ats_of s c.world made)) (drain_text s c made true) drained
    else ends_run [] statuses.Limit

abbrev pub drains : LinkSetup → LinkCourse → Turn LinkState
drains s c =
    drains_by s c (drain_made s c) (link_deadline (run s.parties c.world (drain_made s c)))

-- ---- a drain with picks

-- the turns of the picks, and those after them
abbrev pub picks_turns : LinkSetup → LinkCourse → List Pick → List PickTurn
picks_turns s c picks =
    picked_turns s.parties (crosses_at c.world) picks
    ++ turns_after no_moment s.parties (after_picks s.parties (crosses_at c.world) picks)

-- what is new after them, and how the link stands
abbrev pub picks_end : LinkSetup → LinkCourse → List Pick → Crossing
picks_end s c picks =
    after_turns s.parties (after_picks s.parties (crosses_at c.world) picks)
    (turns_after no_moment s.parties (after_picks s.parties (crosses_at c.world) picks))

-- what the ends do at their events
abbrev pub picks_done : LinkSetup → LinkCourse → List PickTurn → List (List EndEffects)
picks_done s c turns = done_in s.parties c.world (events_of turns)

abbrev pub steps_end : LinkCourse → List (List EndEffects) → List ℕ
steps_end c steps = steps_text (length c.world.sent) steps ++ end_line (length steps)

-- it ends where no turn can follow; one that would set the clock too late is a limit
abbrev pub picked_by : LinkCourse → List (List EndEffects) → Option PickTurn → Turn LinkState
picked_by c steps None = if_kept (c.octets + octets_steps steps) (steps_end c steps) drained
picked_by c steps (Some late) = ends_run [] statuses.Limit

abbrev pub picks_late : LinkSetup → LinkCourse → List Pick → Bool
picks_late s c picks =
    list_any (is_past no_moment) (events_of (picked_turns s.parties (crosses_at c.world) picks))

abbrev pub drains_by_picks : LinkSetup → LinkCourse → List Pick → Turn LinkState
drains_by_picks s c picks =
    if picks_late s c picks then ends_run [] statuses.Limit
    else
    picked_by c (picks_done s c (picks_turns s c picks))
    (next_turn (picks_end s c picks).world (picks_end s c picks).new)

-- ---- a line

-- a line that is no event is refused
abbrev pub link_line : ℕ → LinkSetup → LinkCourse → Result LinkEvent LineFault → Turn LinkState
link_line n s c (Ok (events.Link segment timeout limit cap start)) =
    ends_run (refusal_line n faults.Word) statuses.Refused
link_line n s c (Ok (events.Window from to)) =
    ends_run (refusal_line n faults.Word) statuses.Refused
link_line n s c (Ok (events.Send first body)) = sends s c (end_named first) body
link_line n s c (Ok (events.Deliver k)) = delivers s c k
link_line n s c (Ok (events.Clock now)) = passes_to s c now
link_line n s c (Ok events.Drain) = drains s c
link_line n s c (Ok (events.DrainBy picks)) = drains_by_picks s c (said_picks picks)
link_line n s c (Err fault) = ends_run (refusal_line n fault) statuses.Refused

-- a window more, where the plan with it has no fault
abbrev pub window_turn : ℕ → LinkStart → List Window → Option PlanFault → Turn LinkState
window_turn n start windows None = passes [] (planned start windows)
window_turn n start windows (Some fault) =
    ends_run (refused_line n (codes "Window")) statuses.Refused

-- before the first event a line may give a window; any other is one of the link that begins then
abbrev pub planned_line : ℕ → LinkStart → List Window → Result LinkEvent LineFault → Turn LinkState
planned_line n start windows (Ok (events.Window from to)) =
    window_turn n start (windows ++ record { from = from; to = to } ∷ [])
    (plan_fault (windows ++ record { from = from; to = to } ∷ []))
planned_line n start windows said =
    link_line n (link_setup start windows) (link_course (link_setup start windows) start.now) said

abbrev pub start_turn : ℕ → Result LinkStart LineFault → Turn LinkState
start_turn n (Ok start) =
    if nat_le no_moment start.now then ends_run [] statuses.Limit
    else passes [] (planned start [])
start_turn n (Err fault) = ends_run (refusal_line n fault) statuses.Refused

abbrev pub link_turn : ℕ → LinkState → List ℕ → Turn LinkState
link_turn n no_link line = start_turn n (start_in line)
link_turn n (planned start windows) line =
    planned_line n start windows (without_picks (are_given windows) line (later_said line))
link_turn n (on_link s c) line =
    link_line n s c (without_picks s.windows line (running_said line))
link_turn n drained line = ends_run (refused_line n (codes "AfterDrain")) statuses.Refused

-- an input without lines is refused, for want of a first line
abbrev pub link_ending : LinkState → Settled
link_ending no_link =
    record { text = refusal_line 1 faults.Word; ends = Some statuses.Refused }
link_ending (planned start windows) = record { text = []; ends = Some statuses.Done }
link_ending (on_link s c) = record { text = []; ends = Some statuses.Done }
link_ending drained = record { text = []; ends = Some statuses.Done }

-- at most a million lines, of at most 9,000,000 octets
abbrev pub link_rules : LineRules LinkState
link_rules = record {
  lines = 1000000;
  octets = 9000000;
  step = link_turn;
  finish = link_ending;
}

-- what octets settle of `link`, whatever the size of the input
abbrev pub settles : Settling
settles = by_lines link_rules no_link
