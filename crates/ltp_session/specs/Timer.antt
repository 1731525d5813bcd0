-- How often a segment that waits for an answer was sent, and until when it waits (RFC 5326,
-- sections 6.7, 6.8 and 6.16). The serial numbers of such segments.

use Rattle.std.specs.Prelude.{ℕ, ◌+◌, ◌%◌, ◌^◌, ◌<◌, Bool, ◌==◌, nat_lt, nat_le}
use Rattle.ltp_segment.specs.Policy.{PolicyValue, wait_after}
use Rattle.ltp_session.specs.declared.timer.Timer.{Timer}

-- A segment was sent for the first time at this moment. The timer starts with the step that sends
-- it, and runs by how often it was sent (own rule).
abbrev pub first_timer : PolicyValue → ℕ → Timer
first_timer policy now = record { times = 1; deadline = now + wait_after policy 1 }

-- it was sent once more at this moment
abbrev pub next_timer : PolicyValue → Timer → ℕ → Timer
next_timer policy timer now =
    record { times = timer.times + 1; deadline = now + wait_after policy (timer.times + 1) }

-- it waited long enough
abbrev pub is_due : Timer → ℕ → Bool
is_due timer now = nat_le timer.deadline now

-- it may be sent once more: it is sent `limit` times at most, the first one counted
abbrev pub may_repeat : PolicyValue → Timer → Bool
may_repeat policy timer = nat_lt timer.times policy.limit

-- ---- serial numbers

-- the serial of a session's first checkpoint and of its first report. Own rule: the standard asks
-- for a random one; this one is small and differs between neighbouring sessions
abbrev pub first_serial : ℕ → ℕ
first_serial session = 1 + session % 16383

-- Such a number isn't 0, which no checkpoint and no report may have (RFC 5326, sections 3.2.1 and
-- 3.2.2), and two octets of an SDNV have room for it.
abbrev pub FirstSerialsAreShort : Type 0
FirstSerialsAreShort = (session : ℕ) → (0 < first_serial session) × (first_serial session < 2 ^ 14)

-- Serials rise by one, and we send no segment with this one. Own rule.
abbrev pub is_past_serials : ℕ → Bool
is_past_serials serial = serial == 2 ^ 32
