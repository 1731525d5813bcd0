-- What a drain of a link with windows promises: clean events of the link, each at its moment.

use Rattle.std.specs.Prelude.{◌≡◌, ℕ, ◌≤◌, Bool, true, false, List, [], ◌∷◌, ◌++◌, length, map, Option}
use Rattle.std.specs.Prelude.{None, Some}
use Rattle.ltp_session.specs.Engine.{Party}
use Rattle.ltp_session.specs.World.{Event, World, clock, deliver, happens, run, submit}
use Rattle.ltp_drain.specs.Clean.{AreCleanFrom, link_deadline, passed}
use Rattle.ltp_drain.specs.Effects.{effects_at}
use Rattle.ltp_drain.specs.Hopeful.{Hopeful, Room, cost}
use Rattle.ltp_world.specs.declared.effects.Drained.{Drained}
use Rattle.ltp_world.specs.declared.effects.EndEffects.{EndEffects}
use Rattle.ltp_world.specs.Drain.{Completed, InEveryRun, told_of}
use Rattle.ltp_world.specs.Shows.{ShowsRun, link_after}
use Rattle.ltp_world.specs.Values.{parties_of}
use Rattle.contact_plan.specs.declared.window.Window.{Window}
use Rattle.contact_plan.specs.Windows.{IsMoment, is_open}
use Rattle.window_world.specs.declared.effects.At.{At}
use Rattle.window_world.specs.declared.effects.WindowDrained.{WindowDrained}
use Rattle.window_world.specs.Values.{WindowValue}

-- ---- when an event happens

-- the contact time at which an event happens: that of a clock is the one that it is set to
abbrev pub contact_of : World → Event → ℕ
contact_of w (submit end block red) = w.now
contact_of w (deliver k) = w.now
contact_of w (clock contact) = contact

-- these events of a link happen at these moments, and this is what the ends do
abbrev pub HappenAt : List Window → Party × Party → World → List Event → List At → Type 0
HappenAt plan parties w [] [] = Unit {0}
HappenAt plan parties w [] (at ∷ ats) = ⊥
HappenAt plan parties w (event ∷ events) [] = ⊥
HappenAt plan parties w (event ∷ events) (at ∷ ats) =
    IsMoment plan (contact_of w event) at.now
    × (at.effects ≡ map told_of (effects_at parties w event))
    × HappenAt plan parties (happens parties w event) events ats

-- an event at this contact time has no moment
abbrev pub HasNoMoment : List Window → ℕ → Type 0
HasNoMoment plan contact = (moment : ℕ) → IsMoment plan contact moment → ⊥

-- everything is delivered; and a drain ends where no timer runs, or, where the plan ends, where the
-- next deadline has no moment
abbrev pub EndsAt : List Window → Bool → Option ℕ → Type 0
EndsAt plan false due = due ≡ None
EndsAt plan true None = ⊥
EndsAt plan true (Some contact) = HasNoMoment plan contact

-- from one moment to another, events happen at open moments that never fall
abbrev pub GoOn : List Window → ℕ → ℕ → List At → Type 0
GoOn plan first last [] = last ≡ first
GoOn plan first last (at ∷ ats) =
    (first ≤ at.now) × (is_open plan at.now ≡ true) × GoOn plan at.now last ats

-- ---- what a drain answers

-- after a run of these events so many clean ones follow, each at its moment, until the drain ends;
-- and the new world stands after them
pub record DrainsAt (old new : WindowValue) (drained : WindowDrained) (events : List Event)
    : Type 0 where
  pub made : List Event
  pub count : length made ≡ drained.events
  pub clean : AreCleanFrom (parties_of old.link) (link_after old.link events) made
  pub moments :
      HappenAt old.plan (parties_of old.link) (link_after old.link events) made drained.effects
  pub delivered :
      passed (length (link_after old.link events).sent) made
      ≡ length (run (parties_of old.link) (link_after old.link events) made).sent
  pub ends :
      EndsAt old.plan drained.plan_ends
      (link_deadline (run (parties_of old.link) (link_after old.link events) made))
  pub shows : ShowsRun new.link (events ++ made)

-- in every run where the old world stands
pub record Drains (old new : WindowValue) (drained : WindowDrained) : Type 0 where
  pub whole : new.spent ≡ false
  pub plan : new.plan ≡ old.plan
  pub moments : GoOn old.plan old.moment new.moment drained.effects
  pub run : InEveryRun (DrainsAt old new drained) old.link new.link

-- ---- sessions are completed

-- what the ends do, without the moments
abbrev pub untimed : List At → List (List EndEffects)
untimed ats = map (λ at. at.effects) ats

abbrev pub without_moments : WindowDrained → Drained
without_moments drained =
    record { events = drained.events; effects = untimed drained.effects }

-- so many clean events lead on from a world, no more than its sessions cost
pub record CostsAtMost (parties : Party × Party) (w : World) (events : ℕ) : Type 0 where
  pub made : List Event
  pub count : length made ≡ events
  pub clean : AreCleanFrom parties w made
  pub bound : events ≤ cost parties w (run parties w made)

-- wherever the world stands, hopeful and with room: the plan's windows and gaps cost nothing; and
-- where the plan doesn't end, the drain completes as one of a link that is always open
abbrev pub Completes : WindowValue → WindowDrained → Type 0
Completes v drained =
    (events : List Event) → ShowsRun v.link events
    → Hopeful (parties_of v.link) (link_after v.link events) → Room (link_after v.link events)
    → CostsAtMost (parties_of v.link) (link_after v.link events) drained.events
    × (drained.plan_ends ≡ false
    → Completed (parties_of v.link) (link_after v.link events) (without_moments drained))
