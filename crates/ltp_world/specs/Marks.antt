-- How the code keeps what is new in a drain with picks: of each end's datagrams those before a mark
-- are delivered, or were sent before the drain.

use Rattle.std.specs.Prelude.{◌≡◌, ℕ, ◌+◌, ◌<◌, ◌≤◌, ◌^◌, Bool, true, nat_le, min, List, [], ◌∷◌, ◌++◌}
use Rattle.std.specs.Prelude.{length, drop, Option, None, Some, Result, Ok, Err, if◌then◌else◌}
use Rattle.std.specs.List.{AllByRecursion, slice_get}
use Rattle.ltp_session.specs.Engine.{Party}
use Rattle.ltp_session.specs.World.{Event, at_end, clock}
use Rattle.ltp_session.specs.World.{Sent as LinkSent}
use Rattle.ltp_picks.specs.Picks.{AreNext, Crossing, Placed, Turn, after_pick, after_turns}
use Rattle.ltp_picks.specs.Picks.{after_picks, as_turns, crosses_at, events_of, pick_turn}
use Rattle.ltp_picks.specs.Picks.{picked_turns}
use Rattle.ltp_picks.specs.Picks.{Pick as LinkPick}
use Rattle.ltp_world.specs.declared.effects.EndEffects.{EndEffects}
use Rattle.ltp_world.specs.declared.ends.End.{End}
use Rattle.ltp_world.specs.declared.ends.End.TheVariants as ends
use Rattle.ltp_world.specs.declared.picks.Marks.{Marks}
use Rattle.ltp_world.specs.declared.picks.Pick.{Pick}
use Rattle.ltp_world.specs.declared.picks.Pick.TheVariants as picks
use Rattle.ltp_world.specs.declared.refused.DrainRefused.{DrainRefused}
use Rattle.ltp_world.specs.declared.refused.DrainRefused.TheVariants as causes
use Rattle.ltp_world.specs.declared.sent.Sent.{Sent}
use Rattle.ltp_world.specs.Clean.{TakesEvent, deadline_in}
use Rattle.ltp_world.specs.Drain.{InEveryRun, IsEarly, done_in}
use Rattle.ltp_world.specs.Ends.{is_end}
use Rattle.ltp_world.specs.Picks.{IsLateTurn, link_pick}
use Rattle.ltp_world.specs.Shows.{ShowsRun, link_after}
use Rattle.ltp_world.specs.Values.{WorldValue, parties_of}

-- the place of the first datagram of an end in a list that begins at a place, or where it stops
unfoldable pub next_place : End → ℕ → List Sent → ℕ
next_place end k [] = k
next_place end k (d ∷ ds) = if is_end d.from end then k else next_place end (k + 1) ds

-- the mark of an end
abbrev pub mark_of : Marks → End → ℕ
mark_of marks ends.First = marks.first
mark_of marks ends.Second = marks.second

abbrev pub with_mark : Marks → End → ℕ → Marks
with_mark marks ends.First at = record { first = at; second = marks.second }
with_mark marks ends.Second at = record { first = marks.first; second = at }

abbrev pub marks_at : Marks → ℕ × ℕ
marks_at marks = (marks.first, marks.second)

-- the segments from a place on that aren't before the marks of their ends
unfoldable pub new_from : ℕ → ℕ × ℕ → List LinkSent → List Placed
new_from k marks [] = []
new_from k marks (d ∷ ds) =
    if nat_le (at_end marks d.from) k
    then record { place = k; sent = d } ∷ new_from (k + 1) marks ds
    else new_from (k + 1) marks ds

-- this is what is new in a drain on a link, by the marks of its code
pub record AreMarks (marks : Marks) (d : Crossing) : Type 0 where
  pub new : d.new ≡ new_from 0 (marks_at marks) d.world.sent
  pub first : marks.first ≤ length d.world.sent
  pub second : marks.second ≤ length d.world.sent

-- ---- turns

-- from a drain where the world stands turns lead to where the new one stands
pub record TurnsTo (parties : Party × Party) (d d' : Crossing) (new : WorldValue) (m : Marks)
    (before now : List (List EndEffects)) (turns : List Turn) (events : List Event) : Type 0 where
  pub early : AllByRecursion IsEarly (events_of turns)
  pub told : now ≡ before ++ done_in parties d.world (events_of turns)
  pub shows : ShowsRun new (events ++ events_of turns)
  pub marks : AreMarks m d'
  pub stands : d'.world ≡ link_after new (events ++ events_of turns)

-- what a pick does in every run
abbrev pub PicksOne :
    WorldValue → WorldValue → Pick → Marks → Marks → List (List EndEffects)
    → List (List EndEffects) → Type 0
PicksOne old new pick marks marks' before now =
    InEveryRun
    (λ events. (d : Crossing) → d.world ≡ link_after old events → AreMarks marks d
    → TurnsTo (parties_of old) d
    (after_pick (parties_of old) d (pick_turn d (link_pick pick))) new marks' before now
    (as_turns (pick_turn d (link_pick pick))) events)
    old new

-- a datagram isn't before the mark of its end; one that isn't there never is
abbrev pub is_new_by : Marks → ℕ → Option Sent → Bool
is_new_by marks k None = true
is_new_by marks k (Some d) = nat_le (mark_of marks d.from) k

abbrev pub is_new_in : List Sent → ℕ → Marks → Bool
is_new_in sent k marks = is_new_by marks k (slice_get sent k)

-- the pick of an end's oldest new datagram
abbrev pub pick_of : End → Pick
pick_of ends.First = picks.First
pick_of ends.Second = picks.Second

-- what the picks so far did in every run
abbrev pub PicksFront :
    WorldValue → WorldValue → List LinkPick → Marks → List (List EndEffects) → Type 0
PicksFront old new picked marks now =
    InEveryRun
    (λ events. TurnsTo (parties_of old) (crosses_at (link_after old events))
    (after_picks (parties_of old) (crosses_at (link_after old events)) picked) new marks [] now
    (picked_turns (parties_of old) (crosses_at (link_after old events)) picked) events)
    old new

-- the marks aren't behind what was sent
abbrev pub AreWithin : Marks → WorldValue → Type 0
AreWithin marks v = (marks.first ≤ length v.sent) × (marks.second ≤ length v.sent)

-- where the pick would set the clock too late, nothing happens
abbrev pub PicksAs :
    WorldValue → WorldValue → Pick → Marks → List (List EndEffects) → List (List EndEffects)
    → Result Marks DrainRefused → Type 0
PicksAs old new pick marks before now (Ok marks') = PicksOne old new pick marks marks' before now
PicksAs old new pick marks before now (Err causes.TooLate) =
    (new ≡ old) × ((events : List Event) (d : Crossing) → ShowsRun old events
    → d.world ≡ link_after old events → AreMarks marks d
    → IsLateTurn (pick_turn d (link_pick pick)))
PicksAs old new pick marks before now (Err causes.Memory) = new.spent ≡ true

-- the clock is set to the least deadline; without one nothing happens
pub data SetsTo (old new : WorldValue) (before now : List (List EndEffects)) : Type 0 where
  rests : deadline_in old ≡ None → new ≡ old → now ≡ before → SetsTo old new before now
  ticks_to : (deadline : ℕ) → deadline_in old ≡ Some deadline → deadline < 2 ^ 62
      → old.moment < deadline → TakesEvent old new (clock deadline) before now
      → SetsTo old new before now

-- or it would be set too late
pub record IsTooLate (old new : WorldValue) : Type 0 where
  pub deadline : ℕ
  pub due : deadline_in old ≡ Some deadline
  pub late : 2 ^ 62 ≤ deadline
  pub same : new ≡ old

abbrev pub SetsClock :
    WorldValue → WorldValue → List (List EndEffects) → List (List EndEffects)
    → Result (Unit {0}) DrainRefused → Type 0
SetsClock old new before now (Ok done) = SetsTo old new before now
SetsClock old new before now (Err causes.TooLate) = IsTooLate old new
SetsClock old new before now (Err causes.Memory) = new.spent ≡ true

-- ---- after the picks

abbrev pub least_mark : Marks → ℕ
least_mark marks = min marks.first marks.second

-- what is new in a drain of which the segments before place k are delivered or old
abbrev pub AreLeft : ℕ → Marks → Crossing → Type 0
AreLeft k marks d = d.new ≡ new_from k (marks_at marks) (drop k d.world.sent)

-- turns that follow, at which the ends do this
pub record RestIn (parties : Party × Party) (d : Crossing) (new : WorldValue) (k : ℕ)
    (marks : Marks) (before now : List (List EndEffects)) (events : List Event) : Type 0 where
  pub turns : List Turn
  pub next : AreNext parties d turns
  pub early : AllByRecursion IsEarly (events_of turns)
  pub told : now ≡ before ++ done_in parties d.world (events_of turns)
  pub shows : ShowsRun new (events ++ events_of turns)
  pub left : AreLeft k marks (after_turns parties d turns)
  pub stands : (after_turns parties d turns).world ≡ link_after new (events ++ events_of turns)

-- in every run
abbrev pub RestTo :
    WorldValue → WorldValue → ℕ → ℕ → Marks → List (List EndEffects) → List (List EndEffects)
    → Type 0
RestTo old new k k' marks before now =
    InEveryRun
    (λ events. (d : Crossing) → d.world ≡ link_after old events → AreLeft k marks d
    → RestIn (parties_of old) d new k' marks before now events)
    old new
