-- The laws over every run: any two engines that name each other, any list of submits, deliveries
-- of anything ever sent in any order and number, and clocks.

use Rattle.std.specs.Prelude.{◌≡◌, ℕ, List, slice_get, Some}
use Rattle.ltp_segment.specs.Legal.{IsSegment}
use Rattle.ltp_session.specs.Engine.{Party}
use Rattle.ltp_session.specs.World.{ArePeers, End, Event, Sent, World, at_end, happens, run}
use Rattle.ltp_session.specs.World.{starts_world}
use Rattle.ltp_laws.specs.Deadlines.{AreAhead, Waits}
use Rattle.ltp_laws.specs.Engines.{IsWellFormed}
use Rattle.ltp_laws.specs.Frame.{IsAbout, IsLeftAlone}
use Rattle.ltp_laws.specs.HandUps.{up_by}
use Rattle.ltp_laws.specs.Log.{HandsUpFronts, HasFacts, HasSession, hand_ups, submissions}
use Rattle.ltp_laws.specs.Spelling.{IsRedPart}
use Rattle.ltp_laws.specs.View.{View, said, view}
use Rattle.ltp_laws.specs.Writable.{HasSmallNumbers}

-- the facts F hold of every session in every run, with the block that was submitted for it; of a
-- number that no session has yet nothing is kept, and nothing was said
abbrev pub EveryRun : (List ℕ → ℕ → View → Type 0) → Type 0
EveryRun F =
    (parties : Party × Party) (events : List Event) → ArePeers parties → (o : End) (n : ℕ)
    → HasFacts F (submissions parties (starts_world parties) events) o n
    (view parties (run parties (starts_world parties) events) o n)

-- each red part that is handed up is the front of the submitted block, up to its red length, and
-- none is handed up twice
abbrev pub RedPartsAreFronts : Type 0
RedPartsAreFronts =
    (parties : Party × Party) (events : List Event) → ArePeers parties
    → HandsUpFronts parties (submissions parties (starts_world parties) events)
    (hand_ups parties (starts_world parties) events)

-- what a delivery hands up is what was sent in the session, octet by octet, up to where its red
-- part ends
abbrev pub HandedUpIsSent : Type 0
HandedUpIsSent =
    (parties : Party × Party) (events : List Event) → ArePeers parties → (k : ℕ) (d : Sent)
    → slice_get (run parties (starts_world parties) events).sent k ≡ Some d
    → (body : List ℕ) → up_by parties (run parties (starts_world parties) events) d ≡ Some body
    → IsRedPart (said d.from d.segment.originator d.segment.session
    (run parties (starts_world parties) events).sent) body

-- every segment that was ever sent is of a session that was begun
abbrev pub SegmentsHaveSessions : Type 0
SegmentsHaveSessions =
    (parties : Party × Party) (events : List Event) → ArePeers parties → (k : ℕ) (d : Sent)
    → slice_get (run parties (starts_world parties) events).sent k ≡ Some d
    → HasSession parties (run parties (starts_world parties) events) d

-- every deadline is after the clock, where both policies wait at all
abbrev pub DeadlinesAreAhead : Type 0
DeadlinesAreAhead =
    (parties : Party × Party) (events : List Event) → ArePeers parties
    → Waits parties.0.policy → Waits parties.1.policy → (o : End) (n : ℕ)
    → AreAhead (run parties (starts_world parties) events).now
    (run parties (starts_world parties) events).now
    (view parties (run parties (starts_world parties) events) o n)

-- in any world an event leaves each session alone that it isn't about
abbrev pub SessionsAreApart : Type 0
SessionsAreApart =
    (parties : Party × Party) (w : World) (event : Event) → ArePeers parties
    → (o : End) (n : ℕ) → (IsAbout parties w event o n → ⊥)
    → IsLeftAlone (view parties w o n) (view parties (happens parties w event) o n)

-- every engine is well formed
abbrev pub EnginesAreWellFormed : Type 0
EnginesAreWellFormed =
    (parties : Party × Party) (events : List Event) → ArePeers parties → (o : End)
    → IsWellFormed (at_end parties o)
    (at_end (run parties (starts_world parties) events).engines o)

-- every segment that was ever sent can be written, so that it is read back as itself
abbrev pub SegmentsCanBeWritten : Type 0
SegmentsCanBeWritten =
    (parties : Party × Party) (events : List Event) → ArePeers parties
    → HasSmallNumbers parties.0 → HasSmallNumbers parties.1 → (k : ℕ) (d : Sent)
    → slice_get (run parties (starts_world parties) events).sent k ≡ Some d → IsSegment d.segment
