-- What an event leaves alone: sessions are apart from each other.

use Rattle.std.specs.Prelude.{◌≡◌, ℕ, slice_get, Option, None, Some, ◌⊎◌}
use Rattle.ltp_session.specs.Engine.{Party}
use Rattle.ltp_session.specs.Receiver.{Receiving}
use Rattle.ltp_session.specs.World.{End, Event, Sent, World, at_end, clock, deliver, submit}
use Rattle.ltp_laws.specs.View.{View, evicted}

-- a segment is of session n that an end sends
abbrev pub IsOfSession : Party × Party → End → ℕ → Option Sent → Type 0
IsOfSession parties o n None = ⊥
IsOfSession parties o n (Some d) =
    (d.segment.originator ≡ (at_end parties o).own) × (d.segment.session ≡ n)

-- an event is about a session: a submit about the one that would begin, a delivery about the one
-- of its segment, and a clock about all
abbrev pub IsAbout : Party × Party → World → Event → End → ℕ → Type 0
IsAbout parties w (submit end block red) o n = (end ≡ o) × ((at_end w.engines end).next ≡ n)
IsAbout parties w (deliver k) o n = IsOfSession parties o n (slice_get w.sent k)
IsAbout parties w (clock now) o n = Unit {0}

-- the view is as it was; or a receiver was kept, and was closed to make room for another
abbrev pub IsLeftAlone : View → View → Type 0
IsLeftAlone v v' = (v' ≡ v) ⊎ (((r : Receiving) × (v.receiver ≡ Some r)) × (v' ≡ evicted v))
