-- What a drain did is what the definition says that it does.

use Rattle.std.proofs.Common.{◌≡◌, ℕ, ◌+◌, ◌-◌, ◌<◌, ◌≤◌, Bool, true, false, List, [], ◌∷◌, length, Option, None, Some, nat_lt, refl, sym, arith, subst, inl, inr}
use Rattle.std.proofs.lemmas.Bool.{cases_lt}
use Rattle.std.proofs.lemmas.Bool.Decides.{nat_tests}
use Rattle.std.specs.List.{AllByRecursion}
use Rattle.std.specs.Option.{option_map}
use Rattle.ltp_session.specs.Engine.{Party}
use Rattle.ltp_session.specs.World.{Event, World, clock, deliver, happens, run, submit}
use Rattle.ltp_drain.specs.Clean.{clean_event, link_deadline, passed}
use Rattle.ltp_drain.specs.Left.{AreTimed}
use Rattle.ltp_world.specs.Shows.{ShowsRun, link_after}
use Rattle.ltp_world.specs.Values.{parties_of}
use Rattle.contact_plan.specs.declared.window.Window.{Window}
use Rattle.contact_plan.specs.Windows.{AreInOrder, IsMoment, IsPlan, total}
use Rattle.contact_plan.proofs.ContactLemmas.{contact-has-moments, in-first, in-others, moments-are-apart, moments-same}
use Rattle.window_world.specs.declared.effects.At.{At}
use Rattle.window_world.specs.declared.effects.WindowDrained.{WindowDrained}
use Rattle.window_world.specs.Drain.{DrainsAt, EndsAt, HappenAt, HasNoMoment, contact_of}
use Rattle.window_world.specs.Made.{IsBefore, IsOverBy, drain_events}
use Rattle.window_world.specs.Values.{WindowValue}
use Rattle.window_world.proofs.MadeLemmas.{drains-are-one}
use Rattle.link_run.specs.Link.{LinkSetup, ats_of, moment_of}

-- ---- moments

pub moment-from : (end : ℕ) (windows : List Window) (contact : ℕ) → AreInOrder end windows → contact < total windows → IsMoment windows contact (moment_of windows contact)
moment-from end [] contact order low = absurd (omega (arith, low))
moment-from end (w ∷ ws) contact order low = elim (cases_lt contact (w.to - w.from)) [
  | inl first ↦ (
      let is : nat_lt contact (w.to - w.from) ≡ true = grind (arith, nat_tests) in
      rw is (in-first end w ws contact order first)
      )
  | inr later ↦ (
      let is : nat_lt contact (w.to - w.from) ≡ false = grind (arith, nat_tests) in
      let rest = moment-from w.to ws (contact - (w.to - w.from)) order.3 (omega (arith, low, later)) in
      let same : (w.to - w.from) + (contact - (w.to - w.from)) ≡ contact = omega (arith, later) in
      rw is (subst (λ n. IsMoment (w ∷ ws) n (moment_of ws (contact - (w.to - w.from)))) same
      (in-others end w ws (contact - (w.to - w.from)) (moment_of ws (contact - (w.to - w.from))) order rest))
      )
]

-- it is the one moment
pub moment-of-is : (windows : List Window) (contact moment : ℕ) → IsPlan windows → IsMoment windows contact moment → moment ≡ moment_of windows contact
moment-of-is windows contact moment plan is =
    moments-same windows contact moment (moment_of windows contact) is
    (moment-from 0 windows contact plan.order (moments-are-apart windows contact moment moment plan is).0)

-- ---- what happens at them

pub ats-are : (s : LinkSetup) (w : World) (events : List Event) (ats : List At) → IsPlan s.plan → HappenAt s.plan s.parties w events ats → ats ≡ ats_of s w events
unfolding ats_of
ats-are s w [] [] plan are = refl
ats-are s w [] (u ∷ us) plan are = absurd are
ats-are s w (x ∷ xs) [] plan are = absurd are
ats-are s w (x ∷ xs) (u ∷ us) plan are =
    rw (← moment-of-is s.plan (contact_of w x) u.now plan are.0, ← are.1, ← ats-are s (happens s.parties w x) xs us plan are.2) refl

all-before : (plan : List Window) (parties : Party × Party) (w : World) (events : List Event) (ats : List At) → IsPlan plan → HappenAt plan parties w events ats
    → AllByRecursion (IsBefore (total plan)) events
all-before plan parties w [] [] is are = tt
all-before plan parties w [] (u ∷ us) is are = absurd are
all-before plan parties w (x ∷ xs) [] is are = absurd are
all-before plan parties w (submit end block red ∷ xs) (u ∷ us) is are = (tt, all-before plan parties (happens parties w (submit end block red)) xs us is are.2)
all-before plan parties w (deliver k ∷ xs) (u ∷ us) is are = (tt, all-before plan parties (happens parties w (deliver k)) xs us is are.2)
all-before plan parties w (clock contact ∷ xs) (u ∷ us) is are =
    ((moments-are-apart plan contact u.now u.now is are.0).0, all-before plan parties (happens parties w (clock contact)) xs us is are.2)

-- ---- the events

past-all : (plan : List Window) (contact : ℕ) → IsPlan plan → HasNoMoment plan contact → total plan ≤ contact
past-all plan contact is none = elim (cases_lt contact (total plan)) [
  | inl low ↦ absurd (let has = contact-has-moments plan contact is low in none has.moment has.is)
  | inr high ↦ omega (arith, high)
]

over-by : (plan : List Window) (plan_ends : Bool) (due : Option ℕ) → IsPlan plan → EndsAt plan plan_ends due → IsOverBy (total plan) (option_map clock due)
over-by plan false due is ends = subst (λ o. IsOverBy (total plan) (option_map clock o)) (sym ends) tt
over-by plan true None is ends = absurd ends
over-by plan true (Some contact) is ends = past-all plan contact is ends

next-is : (w : World) (n : ℕ) → n ≡ length w.sent → clean_event w n ≡ option_map clock (link_deadline w)
next-is w n all = let is : nat_lt n (length w.sent) ≡ false = grind (arith, nat_tests) in rw is refl

pub made-is : (old new : WindowValue) (drained : WindowDrained) (events : List Event) → IsPlan old.plan → AreTimed (parties_of old.link) → ShowsRun old.link events
    → (at : DrainsAt old new drained events)
    → at.made ≡ drain_events (total old.plan) (parties_of old.link) (link_after old.link events) (length (link_after old.link events).sent)
made-is old new drained events plan timed shows at =
    drains-are-one (parties_of old.link) (link_after old.link events) (total old.plan) (length (link_after old.link events).sent) at.made timed
    (record { events = events; leads = refl })
    (record {
      clean = at.clean;
      early = all-before old.plan (parties_of old.link) (link_after old.link events) at.made drained.effects plan at.moments;
      over = subst (IsOverBy (total old.plan))
          (sym (next-is (run (parties_of old.link) (link_after old.link events) at.made) (passed (length (link_after old.link events).sent) at.made) at.delivered))
          (over-by old.plan drained.plan_ends (link_deadline (run (parties_of old.link) (link_after old.link events) at.made)) plan at.ends);
    })
