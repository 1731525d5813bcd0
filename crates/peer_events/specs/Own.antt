-- The sessions of the gateway's own: those that it began and that haven't ended, each with its block.

use Rattle.std.specs.Prelude.{ℕ, Bool, false, ◌==◌, List, [], ◌∷◌, Option, None, Some}
use Rattle.std.specs.Prelude.{IfSome, if◌then◌else◌}
use Rattle.gate_cases.specs.declared.face.Face.{Face}
use Rattle.gateway_core.specs.Gate.{if_same}
use Rattle.gate_log.specs.Subjects.{IsSubject, subject_of}
use Rattle.gate_events.specs.declared.own.Own.{Own}
use Rattle.gate_events.specs.Own.{OpenAt}
use Rattle.peer_gateway.specs.Gate.{BegunAt}
use Rattle.peer_events.specs.declared.own.OwnBlock.{OwnBlock}

-- a session that begins: it carries a block of pieces, of which the first bundle is the block's subject
abbrev pub own_with : BegunAt → OwnBlock
own_with begun = record {
  face = begun.face;
  session = begun.session;
  subject = subject_of begun.block;
  pieces = begun.pieces;
}

-- the same session without its number of pieces
abbrev pub own_seen : OwnBlock → Own
own_seen own = record { face = own.face; session = own.session; subject = own.subject }

-- one whose bundle has names that have texts
abbrev pub IsNamedOwn : OwnBlock → Type 0
IsNamedOwn own = IfSome own.subject IsSubject

-- ---- one of them, by its face and its number

abbrev pub is_of : Face → ℕ → OwnBlock → Bool
is_of face session own = if_same own.face face (own.session == session) false

unfoldable pub find_own : Face → ℕ → List OwnBlock → Option OwnBlock
find_own face session [] = None
find_own face session (own ∷ more) =
    if is_of face session own then Some own else find_own face session more

unfoldable pub without_own : Face → ℕ → List OwnBlock → List OwnBlock
without_own face session [] = []
without_own face session (own ∷ more) =
    if is_of face session own then more else own ∷ without_own face session more

-- ---- the end of one

-- A session ends in a step where it was open before it and isn't open after it. A note of the step
-- with its number tells of that end, where no note before it did.
abbrev pub end_of : OpenAt → Face → ℕ → List OwnBlock → Option OwnBlock
end_of is_open face session own = if is_open face session then None else find_own face session own

-- those of whose end no note told, after a note with this number
abbrev pub left_by : OpenAt → Face → ℕ → List OwnBlock → List OwnBlock
left_by is_open face session own =
    if is_open face session then own else without_own face session own
