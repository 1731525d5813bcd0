-- The steps of the receiving side, over what the code keeps.

use Rattle.std.specs.Prelude.{◌≡◌, ℕ, ◌+◌, Bool, true, false, nat_le, List, [], ◌∷◌, ◌++◌, length}
use Rattle.std.specs.Prelude.{Option, None, Some, if◌then◌else◌, nat_eq}
use Rattle.std.specs.Map.{keys_of, lookup, remove_entry}
use Rattle.ltp_segment.specs.declared.session.Step.{Step}
use Rattle.ltp_segment.specs.Policy.{PolicyValue}
use Rattle.ltp_segment.specs.Values.{PieceValue}
use Rattle.ltp_session.specs.Step.{Change, stays, keeps, ends, StepValue, noting, note_closed}
use Rattle.ltp_session.specs.Receiver.{Receiving, Admission, is_cancelling, piece_step}
use Rattle.ltp_session.specs.Table.{find, settled, ticked, ended}
use Rattle.ltp_session.specs.Engine.{untouched, untouched_all, longest_untouched}
use Rattle.ltp_session.specs.Views.{SessionValue, answer_of}
use Rattle.ltp_engine.specs.Closed.{ClosedValue, is_among, also_closed, all_closed}
use Rattle.ltp_engine.specs.Values.{InboundValue}
use Rattle.ltp_engine.specs.Tables.{table_of, AreLive, by_number}
use Rattle.ltp_engine.specs.Ticks.{receiver_change}
use Rattle.ltp_engine.specs.declared.inbound.Inbound.{Inbound}

-- the code keeps its sessions from the longest untouched to the last touched
abbrev pub inbound_of : Inbound → InboundValue
inbound_of i = record {
  receivers = by_number (table_of i.receivers.entries);
  touched = keys_of i.receivers.entries;
  closed = i.closed;
}

-- the code keeps this, and no session of it is over or spent
pub record Keeps (peer : ℕ) (policy : PolicyValue) (i : Inbound) (v : InboundValue) : Type 0 where
  pub live : AreLive peer policy i.receivers.entries
  pub is : inbound_of i ≡ v

-- the order of touch after a change of session n
abbrev pub touched_after : ℕ → Change Receiving → List ℕ → List ℕ
touched_after n stays touched = touched
touched_after n (keeps r) touched = untouched n touched ++ n ∷ []
touched_after n ends touched = untouched n touched

-- the closed numbers after it
abbrev pub closed_after : ℕ → Change Receiving → ClosedValue → ClosedValue
closed_after n stays c = c
closed_after n (keeps r) c = c
closed_after n ends c = also_closed n c

abbrev pub settled_in : InboundValue → ℕ → Change Receiving → InboundValue
settled_in i n change = record {
  receivers = settled n change i.receivers;
  touched = touched_after n change i.touched;
  closed = closed_after n change i.closed;
}

-- the session that makes room for another, where so many are kept at most
unfoldable pub evicted_in : ℕ → InboundValue → Option ℕ
evicted_in sessions i =
    if nat_le sessions (length i.receivers) then longest_untouched i.touched i.receivers else None

abbrev pub with_room : InboundValue → Option ℕ → InboundValue
with_room i None = i
with_room i (Some n) = settled_in i n ends

-- the session that is evicted, where one that wasn't kept opens
abbrev pub evicted_for :
    ℕ → InboundValue → Option Receiving → Change Receiving → Option ℕ
evicted_for sessions i None (keeps r) = evicted_in sessions i
evicted_for sessions i kept change = None

-- what a receiving session has to know of its engine, where blocks of so many octets at most are
-- taken, and so many runs of closed numbers are remembered
abbrev pub admission_in : InboundValue → ℕ → ℕ → ℕ → Admission
admission_in i most history n = record {
  session = n;
  most = most;
  closed = is_among i.closed n;
  full = nat_le history (i.closed.runs + length i.receivers);
}

-- ---- a step of a session

-- the sessions, where one of them was touched: it is the last one now
abbrev pub then_last : {S : Type 0} → ℕ → Option S → List (ℕ × S) → List (ℕ × S)
then_last n None entries = entries
then_last n (Some state) entries = remove_entry (nat_eq n) entries ++ (n, state) ∷ []

abbrev pub with_touched : {S : Type 0} → ℕ → List (ℕ × S) → List (ℕ × S)
with_touched n entries = then_last n (lookup (nat_eq n) entries) entries

-- they, once a session is over, or was touched, or neither
abbrev pub moved : {S : Type 0} → ℕ → Bool → Bool → List (ℕ × S) → List (ℕ × S)
moved n true touches entries = remove_entry (nat_eq n) entries
moved n false true entries = with_touched n entries
moved n false false entries = entries

abbrev pub closed_if : ℕ → Bool → ClosedValue → ClosedValue
closed_if n true c = also_closed n c
closed_if n false c = c

-- session n did a step of its definition
pub record Receives (peer : ℕ) (policy : PolicyValue) (n : ℕ) (step : StepValue Receiving)
    (old new : Inbound) (told : Step) : Type 0 where
  pub next : Keeps peer policy new (settled_in (inbound_of old) n step.next)
  pub says : told ≡ answer_of (record { originator = peer; number = n }) step

-- it did, and another was evicted where it opened
pub record Takes (peer : ℕ) (policy : PolicyValue) (sessions n : ℕ) (step : StepValue Receiving)
    (old new : Inbound) (told : Option ℕ × Step) : Type 0 where
  pub gone : told.0
      ≡ evicted_for sessions (inbound_of old) (find n (inbound_of old).receivers) step.next
  pub next : Keeps peer policy new
      (settled_in (with_room (inbound_of old) told.0) n step.next)
  pub says : told.1 ≡ answer_of (record { originator = peer; number = n }) step

-- what a kept session does about a piece
abbrev pub kept_piece : PolicyValue → Receiving → PieceValue → ℕ → StepValue Receiving
kept_piece policy r piece now =
    if is_cancelling r.phase then noting stays [] note_closed else piece_step policy r piece now

-- a piece came for a session that is kept: it did the definition's step; else nothing happened
abbrev pub TakesKept : ℕ → PolicyValue → ℕ → PieceValue → ℕ → Inbound → Inbound
    → Option Receiving → Option Step → Type 0
TakesKept peer policy n piece now old new None None =
    Keeps peer policy new (inbound_of old)
TakesKept peer policy n piece now old new None (Some told) = ⊥
TakesKept peer policy n piece now old new (Some r) None = ⊥
TakesKept peer policy n piece now old new (Some r) (Some told) =
    Receives peer policy n (kept_piece policy r piece now) old new told

abbrev pub TakesNext : ℕ → PolicyValue → ℕ → PieceValue → ℕ → Inbound → Inbound
    → Option Step → Type 0
TakesNext peer policy n piece now old new told =
    TakesKept peer policy n piece now old new (find n (inbound_of old).receivers) told

-- ---- all sessions tick

-- the numbers, where a session may be over
abbrev pub numbers_after : ℕ → Change Receiving → List ℕ → List ℕ
numbers_after n stays numbers = numbers
numbers_after n (keeps r) numbers = numbers
numbers_after n ends numbers = untouched n numbers

-- a session did a step of its definition, which touches none
pub record Turns (peer : ℕ) (policy : PolicyValue) (n : ℕ) (step : StepValue Receiving)
    (old new : List (ℕ × SessionValue Receiving)) (told : Step) : Type 0 where
  pub live : AreLive peer policy new
  pub next : by_number (table_of new) ≡ settled n step.next (by_number (table_of old))
  pub numbers : keys_of new ≡ numbers_after n step.next (keys_of old)
  pub says : told ≡ answer_of (record { originator = peer; number = n }) step

abbrev pub ticked_in : PolicyValue → ℕ → InboundValue → InboundValue
ticked_in policy now i = record {
  receivers = ticked (receiver_change policy now) i.receivers;
  touched = untouched_all (ended (receiver_change policy now) i.receivers) i.touched;
  closed = all_closed (ended (receiver_change policy now) i.receivers) i.closed;
}
