-- What a drain promises: clean events of every run where the world stands.

use Rattle.std.specs.Prelude.{◌≡◌, ℕ, ◌<◌, ◌≤◌, ◌^◌, true, false, List, [], ◌∷◌, ◌++◌, length, map}
use Rattle.std.specs.Prelude.{Option, None, Some, Result, Ok, Err, ◌⊎◌}
use Rattle.std.specs.List.{AllByRecursion}
use Rattle.ltp_segment.specs.declared.session.Note.{Note}
use Rattle.ltp_segment.specs.declared.session.Note.TheVariants as notes
use Rattle.ltp_session.specs.Engine.{Party}
use Rattle.ltp_session.specs.World.{Event, World, clock, deliver, happens, other, run, submit}
use Rattle.ltp_session.specs.World.{End as LinkEnd}
use Rattle.ltp_laws.specs.View.{IsIn, view}
use Rattle.ltp_drain.specs.Clean.{AreCleanFrom, CleanRun, clean_event, passed}
use Rattle.ltp_drain.specs.Effects.{effects_at}
use Rattle.ltp_drain.specs.Effects.{EndEffects as LinkEffects}
use Rattle.ltp_drain.specs.Hopeful.{Hopeful, IsHanded, IsKeptSender, Room, cost}
use Rattle.ltp_engine.specs.declared.effects.Up.{Up}
use Rattle.ltp_engine.specs.Effects.{effects_of}
use Rattle.ltp_world.specs.declared.effects.Drained.{Drained}
use Rattle.ltp_world.specs.declared.effects.EndEffects.{EndEffects}
use Rattle.ltp_world.specs.declared.refused.DrainRefused.{DrainRefused}
use Rattle.ltp_world.specs.declared.refused.DrainRefused.TheVariants as causes
use Rattle.ltp_world.specs.declared.ends.End.{End}
use Rattle.ltp_world.specs.Ends.{named}
use Rattle.ltp_world.specs.Shows.{ShowsRun, link_after}
use Rattle.ltp_world.specs.Values.{WorldValue, parties_of}

-- ---- what the ends do

-- what an end does, as the code tells of it
abbrev pub told_of : LinkEffects → EndEffects
told_of e = record { end = named e.end; effects = effects_of e.effects }

-- event by event
unfoldable pub done_in : Party × Party → World → List Event → List (List EndEffects)
done_in parties w [] = []
done_in parties w (event ∷ events) =
    map told_of (effects_at parties w event) ∷ done_in parties (happens parties w event) events

-- ---- how far a drain goes

-- a clock is set to a moment below 2^62
abbrev pub IsEarly : Event → Type 0
IsEarly (submit end block red) = Unit {0}
IsEarly (deliver k) = Unit {0}
IsEarly (clock now) = now < 2 ^ 62

-- the next event is a clock that would be set to 2^62 or a later moment
abbrev pub IsLate : Option Event → Type 0
IsLate None = ⊥
IsLate (Some (submit end block red)) = ⊥
IsLate (Some (deliver k)) = ⊥
IsLate (Some (clock now)) = 2 ^ 62 ≤ now

-- ---- what it answers

-- after a run of these events so many clean ones follow, at which the ends do this, until nothing
-- is left to do; and the new world stands after them
pub record DrainsAll (old new : WorldValue) (drained : Drained) (events : List Event)
    : Type 0 where
  pub end : World
  pub clean : CleanRun (parties_of old) (link_after old events) drained.events end
  pub early : AllByRecursion IsEarly clean.events
  pub told : drained.effects ≡ done_in (parties_of old) (link_after old events) clean.events
  pub shows : ShowsRun new (events ++ clean.events)

-- clean events follow, until the next one is too late; and the new world stands after them
pub record DrainsUntilLate (old new : WorldValue) (events : List Event) : Type 0 where
  pub made : List Event
  pub clean : AreCleanFrom (parties_of old) (link_after old events) made
  pub early : AllByRecursion IsEarly made
  pub late :
      IsLate (clean_event (run (parties_of old) (link_after old events) made)
      (passed (length (link_after old events).sent) made))
  pub shows : ShowsRun new (events ++ made)

-- in every run where the old world stands
pub record InEveryRun (P : List Event → Type 0) (old new : WorldValue) : Type 0 where
  pub whole : new.spent ≡ false
  pub parties : parties_of new ≡ parties_of old
  pub run : (events : List Event) → ShowsRun old events → P events

abbrev pub Drains : WorldValue → WorldValue → Result Drained DrainRefused → Type 0
Drains old new (Ok drained) = InEveryRun (DrainsAll old new drained) old new
Drains old new (Err causes.TooLate) = InEveryRun (DrainsUntilLate old new) old new
Drains old new (Err causes.Memory) = new.spent ≡ true

-- ---- sessions are completed

-- at some event an end does this
pub record IsTold (steps : List (List EndEffects)) (told : EndEffects) : Type 0 where
  pub step : List EndEffects
  pub among : IsIn step steps
  pub does : IsIn told step

-- at some event an end notes this
pub record TellsNote (steps : List (List EndEffects)) (end : End) (note : Note) : Type 0 where
  pub told : EndEffects
  pub tells : IsTold steps told
  pub by : told.end ≡ end
  pub noted : IsIn note told.effects.notes

-- at some event an end hands up the red part of session n
pub record TellsUp (steps : List (List EndEffects)) (end : End) (n : ℕ) : Type 0 where
  pub told : EndEffects
  pub tells : IsTold steps told
  pub by : told.end ≡ end
  pub up : Up
  pub handed : IsIn up told.effects.ups
  pub session : up.session ≡ n

-- the clean events of a drain are no more than the sessions cost; each session that was open at its
-- sender is noted there as sent; and its red part had been handed up, or is in the drain
pub record Completed (parties : Party × Party) (w : World) (drained : Drained) : Type 0 where
  pub end : World
  pub clean : CleanRun parties w drained.events end
  pub bound : drained.events ≤ cost parties w end
  pub sent :
      (o : LinkEnd) (n : ℕ) → IsKeptSender (view parties w o n).sender
      → TellsNote drained.effects (named o) (notes.Sent n)
  pub handed :
      (o : LinkEnd) (n : ℕ) → IsKeptSender (view parties w o n).sender
      → IsHanded (view parties w o n).receiver ⊎ TellsUp drained.effects (named (other o)) n

-- wherever the world stands, hopeful and with room
abbrev pub Completes : WorldValue → Drained → Type 0
Completes v drained =
    (events : List Event) → ShowsRun v events
    → Hopeful (parties_of v) (link_after v events) → Room (link_after v events)
    → Completed (parties_of v) (link_after v events) drained
