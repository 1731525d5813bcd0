-- A session that earlier runs had claimed in part stays closed for a whole run.

use Rattle.std.specs.Prelude.{◌≡◌, ℕ, true, List, Some, IfSome}
use Rattle.std.specs.List.{AllByRecursion}
use Rattle.ltp_session.specs.Engine.{is_closed}
use Rattle.gate_cases.specs.declared.face.Face.{Face}
use Rattle.gateway_core.specs.Gate.{at_face}
use Rattle.journal_file.specs.Legal.{IsLegal}
use Rattle.gate_records.specs.Happened.{reports_on}
use Rattle.peer_half.specs.Laws.{tried_at, waiting_at}
use Rattle.peer_half.specs.Runs.{Run, acts_of, marked_before, stands_at}

-- none of some datagrams is a report on a session
abbrev pub NoneReports : ℕ → List (List ℕ) → Type 0
NoneReports n datagrams = AllByRecursion (λ (datagram : List ℕ). reports_on datagram ≡ Some n → ⊥) datagrams

-- no report on a session of a face's peer goes out in a run, sent or lost, nor waits after it
pub record StaysClosed (r : Run) (at : Face) (n : ℕ) : Type 0 where
  pub reports : NoneReports n (tried_at at (acts_of r))
  pub waiting : NoneReports n (waiting_at at (stands_at r))

-- So it is with each session that is marked when the run begins. What earlier runs kept is legal, as what is read of
-- a journal is.
abbrev pub MarkedStayClosed : Type 0
MarkedStayClosed = (r : Run) (at : Face) (n : ℕ)
    → IfSome r.kept IsLegal → is_closed n (at_face (marked_before r) at) ≡ true → StaysClosed r at n
