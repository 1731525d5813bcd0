-- What a world hands up: fronts of the blocks that were submitted, each once.

use Rattle.std.specs.Prelude.{◌≡◌, List, ◌++◌, map}
use Rattle.std.specs.List.{AllByRecursion, flat_map}
use Rattle.ltp_session.specs.World.{Event, starts_world}
use Rattle.ltp_laws.specs.Log.{AtMostOnce, HandUp, IsFront, IsSame, Submission, hand_ups}
use Rattle.ltp_laws.specs.Log.{hand_ups_at, submissions}
use Rattle.ltp_engine.specs.declared.effects.Up.{Up}
use Rattle.ltp_world.specs.declared.effects.EndEffects.{EndEffects}
use Rattle.ltp_world.specs.declared.ends.End.{End}
use Rattle.ltp_world.specs.Ends.{named}
use Rattle.ltp_world.specs.Shows.{ShowsRun, link_after}
use Rattle.ltp_world.specs.Values.{WorldValue, parties_of}

abbrev pub submitted_in : WorldValue → List Event → List Submission
submitted_in v events = submissions (parties_of v) (starts_world (parties_of v)) events

abbrev pub handed_up_in : WorldValue → List Event → List HandUp
handed_up_in v events = hand_ups (parties_of v) (starts_world (parties_of v)) events

abbrev pub as_up : HandUp → Up
as_up u = record { session = u.session; body = u.body }

-- a red part is the front of the block that the run submitted for its session, up to its red
-- length; and the same end hasn't handed one of that session up before
pub record IsFrontOnce (v : WorldValue) (events : List Event) (u : HandUp) : Type 0 where
  pub front : IsFront (parties_of v) (submitted_in v events) u
  pub once : AllByRecursion (λ earlier. IsSame earlier u → ⊥) (handed_up_in v events)

-- the red parts that an event hands up are these, and each is a front once
pub record HandsUpFronts
    (v : WorldValue) (events : List Event) (event : Event) (handed : List Up) : Type 0 where
  pub ups : handed ≡ map as_up (hand_ups_at (parties_of v) (link_after v events) event)
  pub fronts :
      AllByRecursion (IsFrontOnce v events)
      (hand_ups_at (parties_of v) (link_after v events) event)

-- ---- in a drain

-- the red parts that ends tell of at some events, in order, each with its end
abbrev pub ups_of : EndEffects → List (End × Up)
ups_of told = map (λ up. (told.end, up)) told.effects.ups

abbrev pub ups_in : List (List EndEffects) → List (End × Up)
ups_in steps = flat_map (λ step. flat_map ups_of step) steps

abbrev pub as_told : HandUp → End × Up
as_told u = (named u.end, as_up u)

-- the red parts that are told of at events after a run; each is the front of the block that the
-- run submitted for its session, up to its red length; and no end handed two of one session up,
-- before or since
pub record HandsUpFrontsIn (v : WorldValue) (events : List Event) (steps : List (List EndEffects))
    : Type 0 where
  pub handed : List HandUp
  pub told : ups_in steps ≡ map as_told handed
  pub fronts : AllByRecursion (IsFront (parties_of v) (submitted_in v events)) handed
  pub once : AtMostOnce (handed_up_in v events ++ handed)

-- wherever the world stands
abbrev pub DrainHandsUpFronts : WorldValue → List (List EndEffects) → Type 0
DrainHandsUpFronts v steps =
    (events : List Event) → ShowsRun v events → HandsUpFrontsIn v events steps
