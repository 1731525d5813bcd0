-- What is kept of sessions, by their numbers in ascending order.

use Rattle.std.specs.Prelude.{ℕ, ◌+◌, ◌≤◌, ◌==◌, nat_lt, List, [], ◌∷◌, Option, None, Some, if◌then◌else◌}
use Rattle.ltp_session.specs.Step.{Change, stays, keeps, ends}

-- what is kept of a number, where it is kept
unfoldable pub find : {S : Type 0} → ℕ → List (ℕ × S) → Option S
find n [] = None
find n (entry ∷ entries) = if entry.0 == n then Some entry.1 else find n entries

-- the table with this state of a number, which is added where it isn't kept
unfoldable pub put : {S : Type 0} → ℕ → S → List (ℕ × S) → List (ℕ × S)
put n state [] = (n, state) ∷ []
put n state (entry ∷ entries) =
    if entry.0 == n then (n, state) ∷ entries
    else if nat_lt n entry.0 then (n, state) ∷ (entry ∷ entries)
    else entry ∷ put n state entries

-- the table without a number
unfoldable pub without : {S : Type 0} → ℕ → List (ℕ × S) → List (ℕ × S)
without n [] = []
without n (entry ∷ entries) =
    if entry.0 == n then without n entries else entry ∷ without n entries

-- the table after a change of a number's session
abbrev pub settled : {S : Type 0} → ℕ → Change S → List (ℕ × S) → List (ℕ × S)
settled n stays entries = entries
settled n (keeps state) entries = put n state entries
settled n ends entries = without n entries

-- the numbers ascend, from a number on
abbrev pub AreAscending : {S : Type 0} → ℕ → List (ℕ × S) → Type 0
AreAscending low [] = Unit {0}
AreAscending low (entry ∷ entries) = (low ≤ entry.0) × AreAscending (entry.0 + 1) entries

-- ---- a tick of all sessions, in ascending order

abbrev pub then_kept : {S : Type 0} → ℕ × S → Change S → List (ℕ × S) → List (ℕ × S)
then_kept entry stays entries = entry ∷ entries
then_kept entry (keeps state) entries = (entry.0, state) ∷ entries
then_kept entry ends entries = entries

-- the sessions after it
unfoldable pub ticked : {S : Type 0} → (S → Change S) → List (ℕ × S) → List (ℕ × S)
ticked change [] = []
ticked change (entry ∷ entries) = then_kept entry (change entry.1) (ticked change entries)

abbrev pub then_ended : {S : Type 0} → ℕ → Change S → List ℕ → List ℕ
then_ended n stays numbers = numbers
then_ended n (keeps state) numbers = numbers
then_ended n ends numbers = n ∷ numbers

-- the numbers of those that are over after it
unfoldable pub ended : {S : Type 0} → (S → Change S) → List (ℕ × S) → List ℕ
ended change [] = []
ended change (entry ∷ entries) = then_ended entry.0 (change entry.1) (ended change entries)
