-- What a drain of a path promises: clean events of every run where the world stands.

use Rattle.std.specs.Prelude.{◌≡◌, ℕ, ◌<◌, ◌≤◌, ◌^◌, true, false, List, [], ◌∷◌, ◌++◌, length}
use Rattle.std.specs.Prelude.{Option, None, Some, Result, Ok, Err, ◌⊎◌}
use Rattle.std.specs.List.{AllByRecursion, flat_map}
use Rattle.ltp_laws.specs.View.{IsIn}
use Rattle.ltp_drain.specs.Hopeful.{IsHanded, IsKeptSender}
use Rattle.ltp_world.specs.declared.refused.DrainRefused.{DrainRefused}
use Rattle.ltp_world.specs.declared.refused.DrainRefused.TheVariants as causes
use Rattle.path_laws.specs.declared.effects.NoteAt.{NoteAt}
use Rattle.path_laws.specs.declared.effects.PathEffects.{PathEffects}
use Rattle.path_laws.specs.declared.effects.UpAt.{UpAt}
use Rattle.path_laws.specs.declared.places.Place.{Place}
use Rattle.path_laws.specs.Laws.{HandsOn}
use Rattle.path_laws.specs.Log.{Begun, begun_in, ups_in}
use Rattle.path_laws.specs.Path.{Path, PathEvent, PathSetup, clock_shows, delivers, path_run}
use Rattle.path_laws.specs.Path.{path_step, sends, starts_path}
use Rattle.path_laws.specs.Places.{across}
use Rattle.path_drain.specs.PathRoom.{PathRoom}
use Rattle.path_drain.specs.Clean.{AreCleanOnPathFrom, PathCleanRun, path_clean_event}
use Rattle.path_drain.specs.Clean.{path_passed}
use Rattle.path_drain.specs.Completion.{IsPathComplete}
use Rattle.path_drain.specs.Effects.{IsNotedSent, IsUpAt, IsUpWhole, notes_in}
use Rattle.path_drain.specs.Hopeful.{PathHopeful, path_cost, session_at}
use Rattle.path_drain.specs.Left.{IsBefore}
use Rattle.path_world.specs.declared.drained.PathDrained.{PathDrained}
use Rattle.path_world.specs.Shows.{ShowsRun, path_after}
use Rattle.path_world.specs.Values.{PathValue, effects_told, path_deadline, setup_of}

-- ---- what is done

-- event by event; the numbers of datagrams go on from those that were sent before
unfoldable pub done_in : PathSetup → Path → List PathEvent → List PathEffects
done_in s w [] = []
done_in s w (event ∷ events) =
    effects_told (length w.sent) (path_step s w event).effects
    ∷ done_in s (path_step s w event).path events

-- the blocks that are handed up at some events, and the notes, in order
abbrev pub ups_told : List PathEffects → List UpAt
ups_told steps = flat_map (λ (e : PathEffects). e.ups) steps

abbrev pub notes_told : List PathEffects → List NoteAt
notes_told steps = flat_map (λ (e : PathEffects). e.notes) steps

-- ---- how far a drain goes

-- a clock is set to a moment below 2^62
abbrev pub IsEarly : PathEvent → Type 0
IsEarly event = IsBefore (2 ^ 62) event

-- the next event is a clock that would be set to 2^62 or a later moment
abbrev pub IsLate : Option PathEvent → Type 0
IsLate None = ⊥
IsLate (Some (sends end block)) = ⊥
IsLate (Some (delivers k)) = ⊥
IsLate (Some (clock_shows now)) = 2 ^ 62 ≤ now

-- ---- what it answers

-- after a run of these events so many clean ones follow, at which this is done, until nothing is
-- left to do; and the new world stands after them
pub record DrainsAll (drained : PathDrained) (old new : PathValue) (start : ℕ)
    (events : List PathEvent) : Type 0 where
  pub end : Path
  pub clean : PathCleanRun (setup_of old) (path_after old start events) drained.events end
  pub early : AllByRecursion IsEarly clean.events
  pub told : drained.effects ≡ done_in (setup_of old) (path_after old start events) clean.events
  pub shows : ShowsRun new start (events ++ clean.events)

-- clean events follow, until the next one is too late; and the new world stands after them
pub record DrainsUntilLate (old new : PathValue) (start : ℕ) (events : List PathEvent)
    : Type 0 where
  pub made : List PathEvent
  pub clean : AreCleanOnPathFrom (setup_of old) (path_after old start events) made
  pub early : AllByRecursion IsEarly made
  pub late :
      IsLate (path_clean_event (path_run (setup_of old) (path_after old start events) made)
      (path_passed (length (path_after old start events).sent) made))
  pub shows : ShowsRun new start (events ++ made)

-- in every run where the old world stands
pub record InEveryRun (P : ℕ → List PathEvent → Type 0) (old new : PathValue) : Type 0 where
  pub whole : new.spent ≡ false
  pub setup : setup_of new ≡ setup_of old
  pub run : (start : ℕ) (events : List PathEvent) → ShowsRun old start events → P start events

-- there is a deadline, and it is below 2^62: the first event of a drain sets the clock to it
abbrev pub IsDueEarly : Option ℕ → Type 0
IsDueEarly None = ⊥
IsDueEarly (Some deadline) = deadline < 2 ^ 62

-- Memory is wanted only for an event, so never where there is none, nor where the first one would be
-- too late. At which event it ran out isn't told.
abbrev pub Drains : PathValue → PathValue → Result PathDrained DrainRefused → Type 0
Drains old new (Ok drained) = InEveryRun (DrainsAll drained old new) old new
Drains old new (Err causes.TooLate) = InEveryRun (DrainsUntilLate old new) old new
Drains old new (Err causes.Memory) = (new.spent ≡ true) × IsDueEarly (path_deadline old)

-- ---- what is handed up was sent

-- with the drain's events a run hands up these blocks more; and of all that it hands up then, each
-- is the whole block of a session that was begun across the link, once, and comes from what an end
-- sent
pub record HandsUpAsSentIn (v : PathValue) (drained : PathDrained) (start : ℕ)
    (events : List PathEvent) : Type 0 where
  pub end : Path
  pub clean : PathCleanRun (setup_of v) (path_after v start events) drained.events end
  pub more :
      ups_in (setup_of v) (starts_path (setup_of v) start) (events ++ clean.events)
      ≡ ups_in (setup_of v) (starts_path (setup_of v) start) events ++ ups_told drained.effects
  pub hands_on :
      HandsOn (setup_of v)
      (begun_in (setup_of v) (starts_path (setup_of v) start) (events ++ clean.events))
      (ups_in (setup_of v) (starts_path (setup_of v) start) (events ++ clean.events))

-- wherever the world stands
abbrev pub DrainsAsSent : PathValue → PathDrained → Type 0
DrainsAsSent v drained =
    (start : ℕ) (events : List PathEvent) → ShowsRun v start events
    → HandsUpAsSentIn v drained start events

-- ---- sessions are completed

-- The clean events of a drain are no more than the sessions cost, and complete them; and what they
-- note and hand up is what is told. So each session that was open at its sender, or that was begun in
-- the drain, is told of as sent; and its block had been handed up across its link, or is told of.
pub record Completed (s : PathSetup) (w : Path) (drained : PathDrained) : Type 0 where
  pub end : Path
  pub clean : PathCleanRun s w drained.events end
  pub bound : drained.events ≤ path_cost s w end
  pub complete : IsPathComplete s w clean.events end
  pub notes : notes_told drained.effects ≡ notes_in s w clean.events
  pub ups : ups_told drained.effects ≡ ups_in s w clean.events
  pub sent :
      (place : Place) (n : ℕ) → IsKeptSender (session_at s w place n).sender
      → IsNotedSent (notes_told drained.effects) place n
  pub handed :
      (place : Place) (n : ℕ) → IsKeptSender (session_at s w place n).sender
      → IsHanded (session_at s w place n).receiver
      ⊎ IsUpAt (ups_told drained.effects) (across place) n
  pub begun_sent :
      (b : Begun) → IsIn b (begun_in s w clean.events)
      → IsNotedSent (notes_told drained.effects) b.place b.session
  pub begun_handed :
      (b : Begun) → IsIn b (begun_in s w clean.events) → IsUpWhole (ups_told drained.effects) b

-- wherever the world stands, hopeful and with room
abbrev pub Completes : PathValue → PathDrained → Type 0
Completes v drained =
    (start : ℕ) (events : List PathEvent) → ShowsRun v start events
    → PathHopeful (setup_of v) (path_after v start events)
    → PathRoom (setup_of v) (path_after v start events)
    → Completed (setup_of v) (path_after v start events) drained
