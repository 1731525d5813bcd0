-- What ties the code to the definition: what it has of a script that is played.
use Rattle.std.specs.Prelude.{String, ◌≡◌, ℕ, ◌+◌, true, false, List, [], ◌++◌, length, Result, Ok, Err, Some}
use Rattle.std.specs.String.{string_bytes}
use Rattle.edge_traits.specs.declared.status.Status.TheVariants as statuses
use Rattle.edge_traits.specs.Settled.{Settled}
use Rattle.path_laws.specs.Path.{PathSetup, Path, PathEvent, path_step, path_run}
use Rattle.path_laws.specs.Log.{ups_in}
use Rattle.world_run.specs.Shows.{StandsOn}
use Rattle.world_run.specs.World.{says_event, says_drain, happens, event_text, events_text, drains_by, drain_text}
use Rattle.world_run.specs.Wanted.{MayWant}
use Rattle.make_run.specs.declared.making.Making.{Making}
use Rattle.make_run.specs.declared.stop.Stop.{Stop}
use Rattle.make_run.specs.declared.stop.Stop.TheVariants as stops
use Rattle.make_run.specs.Script.{Plan, events_of}
use Rattle.make_run.specs.Making.{is_over, is_past, sum_after, count_at_ends, Done, answer_of}
use Rattle.make_run.specs.Wanted.{RunsOutIn, RunsOut}

-- ---- one step

-- these octets were summed, and so many blocks counted
pub record Takes (old new : Making) (text : List ℕ) (count : ℕ) : Type 0 where
  pub sum : new.sum ≡ sum_after old.sum text
  pub ups : new.ups ≡ old.ups + count

-- an event was played on a path
pub record Played (s : PathSetup) (w : Path) (event : PathEvent) (old new : Making) : Type 0 where
  pub stands : StandsOn new.path s (path_step s w event).path
  pub goes_on : is_over (happens s w event) ≡ false
  pub takes :
      Takes old new (event_text s w event) (count_at_ends (path_step s w event).effects.ups)

-- or `world` ends with it; or memory ran out where it may be wanted
abbrev pub Plays : PathSetup → Path → PathEvent → Making → Making → Result (Unit {0}) Stop → Type 0
Plays s w event old new (Ok x) = Played s w event old new
Plays s w event old new (Err stops.Limit) = is_over (happens s w event) ≡ true
Plays s w event old new (Err stops.Memory) = MayWant old.path (says_event event) (happens s w event)

-- ---- so far

-- from a path on these events were played, within the limit
pub record SoFar (s : PathSetup) (w : Path) (played : List PathEvent) (m : Making) : Type 0 where
  pub stands : StandsOn m.path s (path_run s w played)
  pub fits : is_past s w played ≡ false
  pub sum : m.sum ≡ sum_after 0 (events_text s w played)
  pub ups : m.ups ≡ count_at_ends (ups_in s w played)

-- these plans are left of a script of events
pub record Leaves (s : PathSetup) (w : Path) (script : List PathEvent) (plans : List Plan)
    (m : Making) : Type 0 where
  pub played : List PathEvent
  pub so_far : SoFar s w played m
  pub goes_on : script ≡ played ++ events_of s (path_run s w played) plans

-- a script was played on up to some plans that are left; or `world` ends in it; or memory ran out in it
abbrev pub PlaysUpTo : PathSetup → Path → List PathEvent → List Plan → Making → Result (Unit {0}) Stop → Type 0
PlaysUpTo s w script plans m (Ok x) = Leaves s w script plans m
PlaysUpTo s w script plans m (Err stops.Limit) = is_past s w script ≡ true
PlaysUpTo s w script plans m (Err stops.Memory) = RunsOutIn s w script

-- ---- the drain

-- a drain that made these events was played: so many, within the limit
pub record Drained (s : PathSetup) (w : Path) (made : List PathEvent) (old new : Making)
    (events : ℕ) : Type 0 where
  pub events_are : events ≡ length made
  pub goes_on : is_over (drains_by s w made) ≡ false
  pub takes : Takes old new (drain_text s w made) (count_at_ends (ups_in s w made))
  pub sent : length new.path.sent ≡ length (path_run s w made).sent

-- or `world` ends with it; or memory ran out where it may be wanted
abbrev pub Drains : PathSetup → Path → List PathEvent → Making → Making → Result ℕ Stop → Type 0
Drains s w made old new (Ok events) = Drained s w made old new events
Drains s w made old new (Err stops.Limit) = is_over (drains_by s w made) ≡ true
Drains s w made old new (Err stops.Memory) = MayWant old.path says_drain (drains_by s w made)

-- what was done, by what was counted
abbrev pub done_so : Making → ℕ → Done
done_so m events = record { sent = length m.path.sent; ups = m.ups; events = events; sum = m.sum }

-- ---- the line

abbrev pub with_line : List ℕ → Settled
with_line line = record { text = line; ends = Some statuses.Done }

abbrev pub past_limit : Settled
past_limit = record { text = []; ends = Some statuses.Limit }

-- the answer to a seed and a number of sends is this line, or that the limit is passed; or memory ran out
abbrev pub MadeAs : {A : Type 0} → ℕ → ℕ → Result (String A) Stop → Type 0
MadeAs seed count (Ok line) = answer_of seed count ≡ with_line (string_bytes line)
MadeAs seed count (Err stops.Limit) = answer_of seed count ≡ past_limit
MadeAs seed count (Err stops.Memory) = RunsOut seed count
