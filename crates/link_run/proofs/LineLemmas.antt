-- Lines of a script, one by one.

use Rattle.std.proofs.Common.{◌≡◌, ◌≢◌, ℕ, ◌+◌, Bool, true, false, List, [], ◌∷◌, ◌++◌, length, map, Option, None, Some, Result, Ok, Err, IfOk, if◌then◌else◌, nat_lt, nat_le, codes, refl, sym, ◌∙◌, ap, subst}
use Rattle.std.specs.List.{slice_get}
use Rattle.edge_traits.specs.declared.status.Status.{Status}
use Rattle.edge_traits.specs.declared.status.Status.TheVariants as statuses
use Rattle.command_frame.specs.Lines.{Turn, TurnsAs, ends_run, passes}
use Rattle.ltp_session.specs.Engine.{EngineStep, SubmitFault}
use Rattle.ltp_session.specs.World.{Sent as LinkSent}
use Rattle.ltp_session.specs.World.{Event, clock, deliver, happens, submit}
use Rattle.ltp_drain.specs.Effects.{effects_at}
use Rattle.ltp_world.specs.declared.effects.EndEffects.{EndEffects}
use Rattle.ltp_world.specs.declared.ends.End.{End}
use Rattle.ltp_world.specs.Drain.{told_of}
use Rattle.ltp_world.specs.Ends.{link_end}
use Rattle.ltp_world.specs.Steps.{submission_at}
use Rattle.contact_plan.specs.declared.fault.PlanFault.{PlanFault}
use Rattle.contact_plan.specs.declared.fault.PlanFault.TheVariants as causes
use Rattle.contact_plan.specs.declared.window.Window.{Window}
use Rattle.contact_plan.specs.Fault.{Extends, plan_fault}
use Rattle.contact_plan.specs.Windows.{elapsed, is_open}
use Rattle.replay_script.specs.declared.fault.LineFault.{LineFault}
use Rattle.replay_script.specs.declared.link.LinkEvent.{LinkEvent}
use Rattle.replay_script.specs.declared.link.LinkEvent.TheVariants as events
use Rattle.link_run.specs.declared.link.Course.{Course}
use Rattle.link_run.specs.declared.link.Course.TheVariants as courses
use Rattle.link_run.specs.declared.planned.Planned.{Planned}
use Rattle.link_run.specs.declared.on_link.Running.{Running}
use Rattle.link_run.specs.Link.{LinkCourse, LinkSetup, LinkStart, LinkState, are_given, delivered, delivers, drained, event_turn, later_said, link_course, link_line, link_setup, link_turn, most_sent, no_link, no_moment, on_link, only_says, passes_to, planned, planned_line, sends, submitted, window_turn, without_picks}
use Rattle.link_run.specs.Shows.{Answers, PlannedAs, StandsFor, Stood, window_in}
use Rattle.link_run.specs.WrittenLines.{closed_refusal, octets_sent, refused_line, send_refusal, told_text}

-- ---- a window that is refused

pub fault-is : (old new windows : List Window) (window : Window) (fault : PlanFault) → Extends old new window (Err fault) → fault ≢ causes.Memory → old ≡ windows
    → plan_fault (windows ++ window ∷ []) ≡ Some fault
fault-is old new windows window causes.TooMany does other same = rw (← same) does.0
fault-is old new windows window (causes.Order index) does other same = rw (← same) does.0
fault-is old new windows window causes.Memory does other same = absurd (other refl)

-- ---- the link that a line leaves is set up as before

abbrev pub Keeps : LinkSetup → Turn LinkState → Type 0
Keeps s (passes text no_link) = ⊥
Keeps s (passes text (planned start windows)) = ⊥
Keeps s (passes text (on_link t c)) = t ≡ s
Keeps s (passes text drained) = ⊥
Keeps s (ends_run text status) = Unit {0}

event-keeps : (s : LinkSetup) (c : LinkCourse) (event : Event) (moment : ℕ) → Keeps s (event_turn s c event moment)
event-keeps s c event moment = by_test (nat_lt most_sent (c.octets + octets_sent tolds))
  where
    tolds : List EndEffects
    tolds = map told_of (effects_at s.parties c.world event)

    by_test : (b : Bool) → Keeps s (if b then ends_run [] statuses.Limit else passes (told_text (length c.world.sent) tolds)
        (on_link s (record { world = happens s.parties c.world event; moment = moment; octets = c.octets + octets_sent tolds })))
    by_test true = tt
    by_test false = refl

pub sends-keeps : (s : LinkSetup) (c : LinkCourse) (end : End) (block : List ℕ) → Keeps s (sends s c end block)
sends-keeps s c end block = by_open (is_open s.plan c.moment)
  where
    by_step : (r : Result EngineStep SubmitFault) → Keeps s (submitted s c end block r)
    by_step (Ok step) = event-keeps s c (submit (link_end end) block (length block)) c.moment
    by_step (Err fault) = refl

    by_open : (b : Bool) → Keeps s (if b then submitted s c end block (submission_at s.parties c.world (link_end end) block (length block)) else only_says s c (send_refusal end (codes "Closed")))
    by_open true = by_step (submission_at s.parties c.world (link_end end) block (length block))
    by_open false = refl

pub delivers-keeps : (s : LinkSetup) (c : LinkCourse) (k : ℕ) → Keeps s (delivers s c k)
delivers-keeps s c k = by_open (is_open s.plan c.moment)
  where
    by_got : (got : Option LinkSent) → Keeps s (delivered s c k got)
    by_got None = refl
    by_got (Some d) = event-keeps s c (deliver k) c.moment

    by_open : (b : Bool) → Keeps s (if b then delivered s c k (slice_get c.world.sent k) else only_says s c closed_refusal)
    by_open true = by_got (slice_get c.world.sent k)
    by_open false = refl

pub passes-keeps : (s : LinkSetup) (c : LinkCourse) (now : ℕ) → Keeps s (passes_to s c now)
passes-keeps s c now = by_tests (nat_le no_moment now) (nat_lt now c.moment)
  where
    by_tests : (a b : Bool) → Keeps s (if a then ends_run [] statuses.Limit else if b then only_says s c [] else event_turn s c (clock (elapsed s.plan now)) now)
    by_tests true b = tt
    by_tests false true = refl
    by_tests false false = event-keeps s c (clock (elapsed s.plan now)) now

pub runs-on : (r : Running) (s : LinkSetup) (turn : Turn LinkState) (before now : List ℕ) (due : Option Status) → Keeps s turn → s.windows ≡ r.windows
    → TurnsAs (Stood r.world r.octets) turn before now due → TurnsAs (StandsFor (courses.Runs r)) turn before now due
runs-on r s (passes text no_link) before now None keeps given is = absurd keeps
runs-on r s (passes text (planned start windows)) before now None keeps given is = absurd keeps
runs-on r s (passes text (on_link t c)) before now None keeps given is = (is.0, record { stands = is.1; windows = ap (λ (x : LinkSetup). x.windows) keeps ∙ given })
runs-on r s (passes text drained) before now None keeps given is = absurd keeps
runs-on r s (passes text state) before now (Some status) keeps given is = absurd is
runs-on r s (ends_run text status) before now None keeps given is = absurd is
runs-on r s (ends_run text status) before now (Some ends) keeps given is = is

-- a drain ends the link
pub drained-on : (turn : Turn LinkState) (before now : List ℕ) (due : Option Status) → TurnsAs (λ state. state ≡ drained) turn before now due
    → TurnsAs (StandsFor courses.Over) turn before now due
drained-on (passes text state) before now None is = (is.0, subst (StandsFor courses.Over) (sym is.1) tt)
drained-on (passes text state) before now (Some status) is = absurd is
drained-on (ends_run text status) before now None is = absurd is
drained-on (ends_run text status) before now (Some ends) is = is

-- ---- before the first event

-- what gives no window is said on the link that begins
pub other-line : (n : ℕ) (start : LinkStart) (windows : List Window) (said : Result LinkEvent LineFault) → window_in said ≡ None
    → planned_line n start windows said ≡ link_line n (link_setup start windows) (link_course (link_setup start windows) start.now) said
other-line n start windows (Ok (events.Link segment timeout limit cap moment)) is = refl
other-line n start windows (Ok (events.Window from to)) is = absurd (cc)
other-line n start windows (Ok (events.Send first body)) is = refl
other-line n start windows (Ok (events.Deliver k)) is = refl
other-line n start windows (Ok (events.Clock now)) is = refl
other-line n start windows (Ok events.Drain) is = refl
other-line n start windows (Ok (events.DrainBy picks)) is = refl
other-line n start windows (Err fault) is = refl

pub window-line : (n : ℕ) (start : LinkStart) (windows : List Window) (said : Result LinkEvent LineFault) (window : Window) → window_in said ≡ Some window
    → planned_line n start windows said ≡ window_turn n start (windows ++ window ∷ []) (plan_fault (windows ++ window ∷ []))
window-line n start windows (Ok (events.Link segment timeout limit cap moment)) window is = absurd (cc)
window-line n start windows (Ok (events.Window from to)) window is = same-turn (record { from = from; to = to }) (cc)
  where
    same-turn : (w : Window) → w ≡ window
        → window_turn n start (windows ++ w ∷ []) (plan_fault (windows ++ w ∷ [])) ≡ window_turn n start (windows ++ window ∷ []) (plan_fault (windows ++ window ∷ []))
    same-turn w same = ap (λ (x : Window). window_turn n start (windows ++ x ∷ []) (plan_fault (windows ++ x ∷ []))) same
window-line n start windows (Ok (events.Send first body)) window is = absurd (cc)
window-line n start windows (Ok (events.Deliver k)) window is = absurd (cc)
window-line n start windows (Ok (events.Clock now)) window is = absurd (cc)
window-line n start windows (Ok events.Drain) window is = absurd (cc)
window-line n start windows (Ok (events.DrainBy picks)) window is = absurd (cc)
window-line n start windows (Err fault) window is = absurd (cc)

-- ---- what a line brings about, by what the code keeps

pub turn-plans : (E : Type 0) (p : Planned) (state : LinkState) (result : Result (Course × Option Status) E) (n : ℕ) (line before now : List ℕ)
    → StandsFor (courses.Plans p) state
    → ((start : LinkStart) (windows : List Window) → PlannedAs p start windows
    → IfOk result (Answers (planned_line n start windows (without_picks (are_given windows) line (later_said line))) before now))
    → IfOk result (Answers (link_turn n state line) before now)
turn-plans E p no_link result n line before now stands turns = absurd stands
turn-plans E p (planned start windows) result n line before now stands turns = turns start windows stands
turn-plans E p (on_link s c) result n line before now stands turns = absurd stands
turn-plans E p drained result n line before now stands turns = absurd stands

pub turn-over : (state : LinkState) (n : ℕ) (line before now : List ℕ) → StandsFor courses.Over state
    → now ≡ before ++ refused_line n (codes "AfterDrain")
    → Answers (link_turn n state line) before now (courses.Over, Some statuses.Refused)
turn-over no_link n line before now stands added = absurd stands
turn-over (planned start windows) n line before now stands added = absurd stands
turn-over (on_link s c) n line before now stands added = absurd stands
turn-over drained n line before now stands added = (added, refl)
