-- The sessions that a gateway itself began: their numbers, and how each ends.

use Rattle.std.specs.Prelude.{◌≡◌, ℕ, ◌<◌, ◌≤◌, true, false, List, ◌∷◌, length}
use Rattle.std.specs.Prelude.{Option, None, Some}
use Rattle.std.specs.List.{AllByRecursion, list_any}
use Rattle.gate_cases.specs.declared.face.Face.{Face}
use Rattle.gateway_core.specs.Gate.{at_face}
use Rattle.journal_file.specs.Values.{KeptValue}
use Rattle.peer_gateway.specs.Gate.{BegunAt}
use Rattle.peer_gateway.specs.Steps.{PeerEvent, a_datagram, a_kept_piece, a_tick}
use Rattle.peer_events.specs.Laws.{is_end_at}
use Rattle.peer_half.specs.Steps.{opens_in}
use Rattle.peer_half.specs.Runs.{EventIn, Run}
use Rattle.peer_session_laws.specs.Events.{Beginning, gate_after, sessions_of, step_with}
use Rattle.peer_session_laws.specs.Runs.{beginning_of}

-- ---- numbers

-- each session that began at a face has this number at least, and one below that
abbrev pub AreFrom : Face → ℕ → ℕ → List BegunAt → Type 0
AreFrom at from to begun =
    AllByRecursion (λ (b : BegunAt). b.face ≡ at → (from ≤ b.session) × (b.session < to)) begun

-- the number of a face's next session
abbrev pub next_of : Beginning → Face → List EventIn → ℕ
next_of b at events = (sessions_of b at events).engine.next

-- The sessions that begin at a face with an event have numbers that no session of it had before: from its next
-- number on, and below that of the session after them.
abbrev pub NumbersRise : Type 0
NumbersRise = (b : Beginning) (at : Face) (event : EventIn) (earlier : List EventIn)
    → AreFrom at (next_of b at earlier) (next_of b at (event ∷ earlier)) (step_with b event earlier).effects.begun

-- the numbers below this one earlier runs had reserved at a face
abbrev pub reserved_before : Face → Option KeptValue → ℕ
reserved_before at None = 0
reserved_before at (Some kept) = at_face (kept.old_reserved, kept.new_reserved) at

-- No session that begins in a run has one of these.
abbrev pub NumbersGoOn : Type 0
NumbersGoOn = (r : Run) (at : Face) (event : EventIn) (earlier : List EventIn)
    → AllByRecursion (λ (b : BegunAt). b.face ≡ at → reserved_before at r.kept ≤ b.session)
    (step_with (beginning_of r) event earlier).effects.begun

-- ---- blocks

-- where the event is to add a piece of an earlier run, that has an octet
abbrev pub IsSomePiece : PeerEvent → Type 0
IsSomePiece (a_datagram face read) = Unit {0}
IsSomePiece a_tick = Unit {0}
IsSomePiece (a_kept_piece face octets came) = 0 < length octets

-- ---- ends

-- With an event after which a session isn't open that was open before it, it is told that it was sent, failed, or
-- was cancelled.
abbrev pub EndsAreTold : Type 0
EndsAreTold = (b : Beginning) (at : Face) (n : ℕ) (event : EventIn) (earlier : List EventIn)
    → opens_in (gate_after b earlier) at n ≡ true → opens_in (gate_after b (event ∷ earlier)) at n ≡ false
    → list_any (is_end_at at n) (step_with b event earlier).effects.told ≡ true
