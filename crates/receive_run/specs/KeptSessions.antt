-- The sessions of which a piece came, and how each of them stands.
use Rattle.std.specs.Prelude.{ℕ, Bool, true, false, ◌==◌, ◌&&◌, List, [], ◌∷◌, count_by, if◌then◌else◌}
use Rattle.ltp_session.specs.declared.name.SessionName.{SessionName}
use Rattle.receive_run.specs.Session.{Session, fresh, open_part, handed_up}

-- the test that two names are one
abbrev pub same_name : SessionName → SessionName → Bool
same_name name second = (name.originator == second.originator) && (name.number == second.number)

-- a session that came, and how it stands
pub record Kept : Type 0 where
  pub name : SessionName
  pub state : Session

-- how a session stands
unfoldable pub session_in : SessionName → List Kept → Session
session_in name [] = fresh
session_in name (k ∷ kept) = if same_name k.name name then k.state else session_in name kept

-- the sessions, with one of them standing so
unfoldable pub with_session : SessionName → Session → List Kept → List Kept
with_session name state [] = record { name = name; state = state } ∷ []
with_session name state (k ∷ kept) =
    if same_name k.name name then record { name = name; state = state } ∷ kept
    else k ∷ with_session name state kept

-- pieces of it came, and it wasn't handed up
abbrev pub is_unfinished : Session → Bool
is_unfinished fresh = false
is_unfinished (open_part cells length) = true
is_unfinished handed_up = false

abbrev pub unfinished : List Kept → ℕ
unfinished kept = count_by (λ k. is_unfinished k.state) kept
