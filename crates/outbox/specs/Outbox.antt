-- What a face has to send: which datagrams wait, and when the first of them goes.

use Rattle.std.specs.Prelude.{◌≡◌, ℕ, ◌+◌, ◌-◌, ◌*◌, ◌^◌, min, Bool, true, false, ◌&&◌, ◌==◌}
use Rattle.std.specs.Prelude.{nat_le, List, [], ◌∷◌, ◌++◌, length, Option, None, Some, Result, Ok, Err}
use Rattle.std.specs.Prelude.{if◌then◌else◌}
use Rattle.std.specs.Option.{is_some}
use Rattle.outbox.specs.declared.reading.Reading.{Reading}
use Rattle.outbox.specs.Schedule.{ScheduleValue, contact_at, rate_of}

pub record OutboxValue : Type 0 where
  pub schedule : ScheduleValue
  -- how many octets may wait
  pub limit : ℕ
  -- the datagrams that wait, the oldest first
  pub waiting : List (List ℕ)
  -- how many were dropped, since they would have passed the limit
  pub dropped : ℕ
  -- the octets sent ahead of the pace, a thousandfold: a rate of one octet a second takes one of
  -- them off each millisecond
  pub debt : ℕ
  -- the last reading of the clocks; none before the first one
  pub reading : Option Reading

-- an outbox in which nothing waits, before the first reading
abbrev pub starts : ScheduleValue → ℕ → OutboxValue
starts schedule limit = record {
  schedule = schedule;
  limit = limit;
  waiting = [];
  dropped = 0;
  debt = 0;
  reading = None;
}

-- ---- the contact

-- the contact that a reading of the wall clock lies in
abbrev pub contact_by : ScheduleValue → Option Reading → Option ℕ
contact_by s None = None
contact_by s (Some reading) = contact_at s reading.wall

abbrev pub contact_of : OutboxValue → Option ℕ
contact_of b = contact_by b.schedule b.reading

abbrev pub rate_now : OutboxValue → Option ℕ
rate_now b = rate_of b.schedule (contact_of b)

-- two readings lie in one contact
abbrev pub is_same : Option ℕ → Option ℕ → Bool
is_same None None = false
is_same None (Some after) = false
is_same (Some before) None = false
is_same (Some before) (Some after) = before == after

-- ---- a reading of the clocks

-- the milliseconds of the monotonic clock since the reading before
abbrev pub since : Option Reading → Reading → ℕ
since None now = 0
since (Some before) now = now.monotonic - before.monotonic

-- what is left of a debt after so many milliseconds at a rate
abbrev pub paid_off : Option ℕ → ℕ → ℕ → ℕ
paid_off None debt time = 0
paid_off (Some rate) debt time = debt - rate * time

-- in the contact of the reading before, and at its rate, time pays the debt off; else there is none
abbrev pub debt_at : OutboxValue → Reading → ℕ
debt_at b now =
    if is_same (contact_of b) (contact_at b.schedule now.wall)
    then paid_off (rate_of b.schedule (contact_at b.schedule now.wall)) b.debt (since b.reading now)
    else 0

abbrev pub after_reading : OutboxValue → Reading → OutboxValue
after_reading b now = record b { debt = debt_at b now; reading = Some now }

-- ---- a datagram that is put

abbrev pub octets_in : List (List ℕ) → ℕ
octets_in [] = 0
octets_in (datagram ∷ datagrams) = length datagram + octets_in datagrams

-- with the datagram no more octets wait than may
abbrev pub fits : OutboxValue → List ℕ → Bool
fits b datagram = nat_le (octets_in b.waiting + length datagram) b.limit

-- a count with one more, up to the greatest number of 64 bits
abbrev pub one_more : ℕ → ℕ
one_more count = min (count + 1) (2 ^ 64 - 1)

-- a datagram that fits is the last to wait; else it is dropped, and counted
abbrev pub after_putting : OutboxValue → List ℕ → OutboxValue
after_putting b datagram = record b {
  waiting = if fits b datagram then b.waiting ++ datagram ∷ [] else b.waiting;
  dropped = if fits b datagram then b.dropped else one_more b.dropped;
}

-- putting a datagram told whether it was kept; or there was no memory for one that fits, and all
-- is as it was
abbrev pub Puts : {E : Type 0} → OutboxValue → OutboxValue → List ℕ → Result Bool E → Type 0
Puts old new datagram (Ok kept) =
    (kept ≡ fits old datagram) × (new ≡ after_putting old datagram)
Puts old new datagram (Err error) = (fits old datagram ≡ true) × (new ≡ old)

-- one isn't put, since others keep the room that it would take: it is dropped, and counted too
abbrev pub after_refusing : OutboxValue → OutboxValue
after_refusing b = record b { dropped = one_more b.dropped }

-- ---- sending

-- a debt is at most what the rate carries in 10 milliseconds
abbrev pub is_paced : Option ℕ → ℕ → Bool
is_paced None debt = true
is_paced (Some rate) debt = nat_le debt (10 * rate)

-- the link is open at the last reading, and the pace lets a datagram go
abbrev pub may_send : OutboxValue → Bool
may_send b = is_some (contact_of b) && is_paced (rate_now b) b.debt

-- the first datagram of those that wait, and the others
abbrev pub first_of : List (List ℕ) → Option (List ℕ)
first_of [] = None
first_of (datagram ∷ datagrams) = Some datagram

abbrev pub others_of : List (List ℕ) → List (List ℕ)
others_of [] = []
others_of (datagram ∷ datagrams) = datagrams

-- the datagram that goes next, if any goes now
abbrev pub next_of : OutboxValue → Option (List ℕ)
next_of b = if may_send b then first_of b.waiting else None

-- a debt with so many octets more: a thousandfold of them, where there is a rate
abbrev pub owed_octets : Option ℕ → ℕ → ℕ → ℕ
owed_octets None debt octets = debt
owed_octets (Some rate) debt octets = debt + 1000 * octets

-- a debt with the datagram that goes, if one does
abbrev pub owed : Option ℕ → ℕ → Option (List ℕ) → ℕ
owed rate debt None = debt
owed rate debt (Some datagram) = owed_octets rate debt (length datagram)

abbrev pub after_sending : OutboxValue → OutboxValue
after_sending b = record b {
  waiting = if may_send b then others_of b.waiting else b.waiting;
  debt = owed (rate_now b) b.debt (next_of b);
}
