-- Sessions of the code in a map, as the table of their states.

use Rattle.std.specs.Prelude.{◌≡◌, ℕ, Bool, true, false, List, [], ◌∷◌, map, Option, None, Some}
use Rattle.std.specs.Map.{remove_entry}
use Rattle.std.specs.Prelude.{is_some, if◌then◌else◌}
use Rattle.std.specs.BTreeMap.{is_at, insert_entry}
use Rattle.std.specs.Ordering.{nat_cmp}
use Rattle.ltp_segment.specs.Policy.{PolicyValue}
use Rattle.ltp_segment.specs.declared.session.Step.{Step}
use Rattle.ltp_session.specs.Step.{Change, stays, keeps, ends, StepValue}
use Rattle.ltp_session.specs.Table.{put, settled}
use Rattle.ltp_session.specs.Views.{SessionValue, answer_of}

abbrev pub with_kept : {S : Type 0} → ℕ → Option S → List (ℕ × S) → List (ℕ × S)
with_kept n None table = table
with_kept n (Some state) table = (n, state) ∷ table

-- the states of the sessions that aren't over
abbrev pub table_of : {S : Type 0} → List (ℕ × SessionValue S) → List (ℕ × S)
table_of [] = []
table_of (entry ∷ entries) = with_kept entry.0 entry.1.kept (table_of entries)

-- a session in this state, whole
abbrev pub live : {S : Type 0} → ℕ → PolicyValue → ℕ → S → SessionValue S
live originator policy n state = record {
  spent = false;
  name = record { originator = originator; number = n };
  policy = policy;
  kept = Some state;
}

abbrev pub live_entry : {S : Type 0} → ℕ → PolicyValue → ℕ × S → ℕ × SessionValue S
live_entry originator policy entry = (entry.0, live originator policy entry.0 entry.1)

-- sessions in these states
abbrev pub live_all : {S : Type 0} → ℕ → PolicyValue → List (ℕ × S) → List (ℕ × SessionValue S)
live_all originator policy table = map (live_entry originator policy) table

-- the sessions are whole and none of them is over
abbrev pub AreLive : {S : Type 0} → ℕ → PolicyValue → List (ℕ × SessionValue S) → Type 0
AreLive originator policy entries = entries ≡ live_all originator policy (table_of entries)

-- a session did a step of its definition: this is kept now, and this was answered
pub record Does {S : Type 0} (originator : ℕ) (policy : PolicyValue) (n : ℕ) (step : StepValue S)
    (old new : List (ℕ × SessionValue S)) (told : Step) : Type 0 where
  pub next : new ≡ live_all originator policy (settled n step.next (table_of old))
  pub says : told ≡ answer_of (record { originator = originator; number = n }) step

-- the sessions without one that is over
abbrev pub swept : {S : Type 0} → ℕ → Bool → List (ℕ × S) → List (ℕ × S)
swept n true entries = remove_entry (is_at (nat_cmp n)) entries
swept n false entries = entries

-- sessions in ascending order of their numbers
unfoldable pub by_number : {S : Type 0} → List (ℕ × S) → List (ℕ × S)
by_number [] = []
by_number (entry ∷ entries) = put entry.0 entry.1 (by_number entries)

-- a change is the end of a session
abbrev pub is_ended : {S : Type 0} → Change S → Bool
is_ended stays = false
is_ended (keeps state) = false
is_ended ends = true

-- the sessions with one that begins, where it isn't over at once
abbrev pub with_begun :
    {S : Type 0} → ℕ → SessionValue S → List (ℕ × SessionValue S) → List (ℕ × SessionValue S)
with_begun n v entries = if is_some v.kept then insert_entry nat_cmp entries n v else entries
