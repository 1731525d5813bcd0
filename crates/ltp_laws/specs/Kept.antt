-- What holds of a session's state where one is kept, and after a change.

use Rattle.std.specs.Prelude.{◌≡◌, Bool, true, Option, None, Some}
use Rattle.ltp_session.specs.Receiver.{Receiving}
use Rattle.ltp_session.specs.Step.{Change, ends, keeps, stays}

-- where something is kept, P holds of it
abbrev pub IfKept : {S : Type 0} → (S → Type 0) → Option S → Type 0
IfKept P None = Unit {0}
IfKept P (Some s) = P s

-- a receiver's number is closed, or P holds of what is kept of it
abbrev pub IsClosedOr : (Receiving → Type 0) → Option Receiving → Bool → Type 0
IsClosedOr P None closed = closed ≡ true
IsClosedOr P (Some r) closed = P r

-- where a change keeps a new state, P holds of it
abbrev pub IfKeeps : {S : Type 0} → (S → Type 0) → Change S → Type 0
IfKeeps P stays = Unit {0}
IfKeeps P (keeps s) = P s
IfKeeps P ends = Unit {0}

-- something becomes of the session: it is over, or P holds of its new state
abbrev pub KeepsOrEnds : {S : Type 0} → (S → Type 0) → Change S → Type 0
KeepsOrEnds P stays = ⊥
KeepsOrEnds P (keeps s) = P s
KeepsOrEnds P ends = Unit {0}
