-- A link that begins.

use Rattle.std.proofs.Common.{◌≡◌, ℕ, Bool, false, List, [], ◌∷◌, if◌then◌else◌, refl, sym, ◌∙◌, ap, arith, subst}
use Rattle.ltp_segment.specs.Policy.{PolicyValue}
use Rattle.ltp_session.specs.Engine.{Party}
use Rattle.ltp_session.specs.World.{Event, clock, happens, starts_world}
use Rattle.ltp_drain.specs.Left.{AreTimed}
use Rattle.ltp_engine.specs.Steps.{new_engine}
use Rattle.ltp_engine.specs.Values.{EngineValue}
use Rattle.ltp_world.specs.Shows.{ShowsRun}
use Rattle.ltp_world.specs.Values.{WorldValue, parties_of}
use Rattle.contact_plan.specs.declared.window.Window.{Window}
use Rattle.contact_plan.specs.Windows.{IsPlan, elapsed}
use Rattle.window_world.specs.Values.{RunsOnContact, WindowValue, begins_on}
use Rattle.link_run.specs.Link.{LinkStart, always, are_given, link_course, link_parties, link_setup}
use Rattle.link_run.specs.Shows.{StandsOn}

pub no-windows : IsPlan []
no-windows = record { few = omega arith; order = tt }

always-is-plan : IsPlan always
always-is-plan = record { few = omega arith; order = (omega arith, omega arith, omega arith, tt) }

pub parties-are : (start : LinkStart) (windows : List Window) → (link_setup start windows).parties ≡ link_parties start.policy
parties-are start [] = refl
parties-are start (w ∷ ws) = refl

plan-is : (start : LinkStart) (windows : List Window) → (link_setup start windows).plan ≡ (if are_given windows then windows else always)
plan-is start [] = refl
plan-is start (w ∷ ws) = refl

pub windows-are : (start : LinkStart) (windows : List Window) → (link_setup start windows).windows ≡ are_given windows
windows-are start [] = refl
windows-are start (w ∷ ws) = refl

is-plan : (windows : List Window) → IsPlan windows → IsPlan (if are_given windows then windows else always)
is-plan [] is = always-is-plan
is-plan (w ∷ ws) is = is

pub parties-begin : (policy : PolicyValue) (first second : EngineValue) → first ≡ new_engine 1 2 1 policy → second ≡ new_engine 2 1 1 policy
    → (first.party, second.party) ≡ link_parties policy
parties-begin policy first second one other =
    ap (λ (e : EngineValue). (e.party, second.party)) one ∙ ap (λ (e : EngineValue). ((new_engine 1 2 1 policy).party, e.party)) other

pub made-by : (given : Bool) (plan made windows : List Window) → made ≡ (if given then plan else always) → given ≡ are_given windows → plan ≡ windows
    → made ≡ (if are_given windows then windows else always)
made-by given plan made windows is by same = is ∙ (ap (λ (b : Bool). if b then plan else always) by ∙ ap (λ (p : List Window). if are_given windows then p else always) same)

pub are-timed : (v : WorldValue) (events : List Event) → ShowsRun v events → AreTimed (parties_of v)
are-timed v events shows = record {
  peers = shows.peers;
  first_small = shows.first_small;
  second_small = shows.second_small;
  first_waits = shows.alike.first_waits;
  second_waits = shows.alike.second_waits;
}

pub begun : (v : WindowValue) (plan : List Window) (now : ℕ) (policy : PolicyValue) (start : LinkStart) (windows : List Window)
    → start.policy ≡ policy → start.now ≡ now → IsPlan windows → plan ≡ (if are_given windows then windows else always)
    → v.spent ≡ false → parties_of v.link ≡ link_parties policy → v.plan ≡ plan → v.moment ≡ now → ShowsRun v.link (begins_on plan now) → RunsOnContact v
    → StandsOn v 0 (link_setup start windows) (link_course (link_setup start windows) start.now)
begun v plan now policy start windows policy_is now_is is made whole parties plan_is moment_is shows contact = record {
  whole = whole;
  parties = parties-here;
  timed = subst AreTimed (sym parties-here) (are-timed v.link (begins_on plan now) shows);
  plan = plan-here;
  is_plan = subst IsPlan (sym (plan_is ∙ made)) (is-plan windows is);
  moment = now_is ∙ sym moment_is;
  contact = (contact whole).1;
  events = begins_on plan now;
  shows = shows;
  world =
      ap (λ (ps : Party × Party). happens ps (starts_world ps) (clock (elapsed (link_setup start windows).plan start.now))) parties-here
      ∙ (ap (λ (p : List Window). happens (parties_of v.link) (starts_world (parties_of v.link)) (clock (elapsed p start.now))) (plan-here ∙ plan_is)
      ∙ ap (λ n. happens (parties_of v.link) (starts_world (parties_of v.link)) (clock (elapsed plan n))) now_is);
  sent = refl;
  few = omega arith;
} where
  parties-here : (link_setup start windows).parties ≡ parties_of v.link
  parties-here = parties-are start windows ∙ (ap link_parties policy_is ∙ sym parties)

  plan-here : (link_setup start windows).plan ≡ v.plan
  plan-here = plan-is start windows ∙ (sym made ∙ sym plan_is)
