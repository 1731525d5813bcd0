-- What ties the code to the definition.

use Rattle.std.specs.Prelude.{◌≡◌, ℕ, ◌-◌, ◌^◌, ◌≤◌, Bool, true, false, List, ◌++◌, Option, None, Some, Result, Ok, Err, min}
use Rattle.edge_traits.specs.declared.status.Status.{Status}
use Rattle.command_frame.specs.Lines.{Turn, TurnsAs}
use Rattle.ltp_drain.specs.Left.{AreTimed}
use Rattle.ltp_segment.specs.PolicyViews.{policy_value}
use Rattle.ltp_session.specs.World.{Event}
use Rattle.ltp_world.specs.Shows.{ShowsRun, link_after}
use Rattle.ltp_world.specs.Values.{parties_of}
use Rattle.contact_plan.specs.Windows.{IsPlan, elapsed}
use Rattle.replay_script.specs.declared.fault.LineFault.{LineFault}
use Rattle.replay_script.specs.declared.fault.LineFault.TheVariants as faults
use Rattle.replay_script.specs.declared.link.LinkEvent.{LinkEvent}
use Rattle.replay_script.specs.declared.link.LinkEvent.TheVariants as events
use Rattle.ltp_engine.specs.declared.refused.SubmitRefused.TheVariants as causes
use Rattle.ltp_world.specs.declared.refused.DeliverRefused.TheVariants as refused
use Rattle.window_world.specs.declared.refused.WindowDeliver.{WindowDeliver}
use Rattle.window_world.specs.declared.refused.WindowDeliver.TheVariants as deliveries
use Rattle.window_world.specs.declared.refused.WindowSubmit.{WindowSubmit}
use Rattle.window_world.specs.declared.refused.WindowSubmit.TheVariants as submits
use Rattle.window_world.specs.Values.{WindowValue}
use Rattle.link_run.specs.WrittenLines.{closed_refusal, deliver_refusal}
use Rattle.contact_plan.specs.declared.window.Window.{Window}
use Rattle.link_run.specs.declared.link.Course.{Course}
use Rattle.link_run.specs.declared.link.Course.TheVariants as courses
use Rattle.link_run.specs.declared.planned.Planned.{Planned}
use Rattle.link_run.specs.declared.on_link.Running.{Running}
use Rattle.link_run.specs.declared.script.SetUp.{SetUp}
use Rattle.link_run.specs.Link.{LinkCourse, LinkSetup, LinkStart, LinkState, are_given, drained, most_sent, no_link, on_link, planned}

-- a count that stays at 2^64 - 1 where it would pass that
abbrev pub capped : ℕ → ℕ
capped n = min n (2 ^ 64 - 1)

-- a window world of the code, with so many octets sent, stands for this link
pub record StandsOn (v : WindowValue) (octets : ℕ) (s : LinkSetup) (c : LinkCourse) : Type 0 where
  pub whole : v.spent ≡ false
  pub parties : s.parties ≡ parties_of v.link
  pub timed : AreTimed s.parties
  pub plan : s.plan ≡ v.plan
  pub is_plan : IsPlan v.plan
  pub moment : c.moment ≡ v.moment
  pub contact : v.link.moment ≡ elapsed v.plan v.moment
  pub events : List Event
  pub shows : ShowsRun v.link events
  pub world : c.world ≡ link_after v.link events
  pub sent : c.octets ≡ octets
  pub few : octets ≤ most_sent

-- memory ran out in a submit
abbrev pub is_memory : WindowSubmit → Bool
is_memory submits.Closed = false
is_memory (submits.Refused causes.Empty) = false
is_memory (submits.Refused causes.TooLarge) = false
is_memory (submits.Refused causes.NumbersSpent) = false
is_memory (submits.Refused causes.Busy) = false
is_memory (submits.Refused causes.Memory) = true

-- why a datagram isn't delivered was written
abbrev pub TellsUndelivered : WindowDeliver → List ℕ → List ℕ → Type 0
TellsUndelivered deliveries.Closed before now = now ≡ before ++ closed_refusal
TellsUndelivered (deliveries.Refused refused.NoSuchDatagram) before now =
    now ≡ before ++ deliver_refusal
TellsUndelivered (deliveries.Refused refused.Memory) before now = ⊥

-- a state is that of such a link
abbrev pub Stood : WindowValue → ℕ → LinkState → Type 0
Stood v octets no_link = ⊥
Stood v octets (planned start windows) = ⊥
Stood v octets (on_link s c) = StandsOn v octets s c
Stood v octets drained = ⊥

-- what the code keeps of a link before its first event
pub record PlannedAs (p : Planned) (start : LinkStart) (windows : List Window) : Type 0 where
  pub policy : start.policy ≡ policy_value p.policy
  pub now : start.now ≡ p.now
  pub plan : p.plan ≡ windows
  pub is_plan : IsPlan windows
  pub given : p.windows ≡ are_given windows

-- and of one on which events happen
pub record RunsAs (r : Running) (s : LinkSetup) (c : LinkCourse) : Type 0 where
  pub stands : StandsOn r.world r.octets s c
  pub windows : s.windows ≡ r.windows

-- what the code keeps stands for a state
abbrev pub StandsFor : Course → LinkState → Type 0
StandsFor courses.Unset no_link = Unit {0}
StandsFor courses.Unset (planned start windows) = ⊥
StandsFor courses.Unset (on_link s c) = ⊥
StandsFor courses.Unset drained = ⊥
StandsFor (courses.Plans p) no_link = ⊥
StandsFor (courses.Plans p) (planned start windows) = PlannedAs p start windows
StandsFor (courses.Plans p) (on_link s c) = ⊥
StandsFor (courses.Plans p) drained = ⊥
StandsFor (courses.Runs r) no_link = ⊥
StandsFor (courses.Runs r) (planned start windows) = ⊥
StandsFor (courses.Runs r) (on_link s c) = RunsAs r s c
StandsFor (courses.Runs r) drained = ⊥
StandsFor courses.Over no_link = ⊥
StandsFor courses.Over (planned start windows) = ⊥
StandsFor courses.Over (on_link s c) = ⊥
StandsFor courses.Over drained = Unit {0}

-- a line was answered as is due, and what the code keeps then is this
abbrev pub Answers : Turn LinkState → List ℕ → List ℕ → Course × Option Status → Type 0
Answers turn before now answer = TurnsAs (StandsFor answer.0) turn before now answer.1

-- the same where memory hasn't run out
abbrev pub ShowsLink : Bool → Course → LinkState → Type 0
ShowsLink spent course state = (spent ≡ false) × StandsFor course state

-- no line came
abbrev pub IsUnset : Course → Type 0
IsUnset courses.Unset = Unit {0}
IsUnset (courses.Plans p) = ⊥
IsUnset (courses.Runs r) = ⊥
IsUnset courses.Over = ⊥

-- ---- what is read

abbrev pub start_of : SetUp → LinkStart
start_of s = record { policy = policy_value s.policy; now = s.now }

-- the window that a line gives
abbrev pub window_in : Result LinkEvent LineFault → Option Window
window_in (Ok (events.Link segment timeout limit cap start)) = None
window_in (Ok (events.Window from to)) = Some (record { from = from; to = to })
window_in (Ok (events.Send first body)) = None
window_in (Ok (events.Deliver k)) = None
window_in (Ok (events.Clock now)) = None
window_in (Ok events.Drain) = None
window_in (Ok (events.DrainBy picks)) = None
window_in (Err fault) = None

-- the first line says this, or is refused; where memory ran out nothing is said of it
abbrev pub ReadsStart : Result LinkStart LineFault → Result SetUp LineFault → Type 0
ReadsStart said (Ok s) =
    (said ≡ Ok (start_of s)) × (2 ≤ s.policy.segment) × (1 ≤ s.policy.timeout) × (1 ≤ s.policy.cap)
ReadsStart said (Err faults.Word) = said ≡ Err faults.Word
ReadsStart said (Err faults.Name) = said ≡ Err faults.Name
ReadsStart said (Err faults.Number) = said ≡ Err faults.Number
ReadsStart said (Err faults.Hex) = said ≡ Err faults.Hex
ReadsStart said (Err faults.Memory) = Unit {0}
