-- An outbox, and a face's time, as the code keeps them.

use Rattle.std.specs.Prelude.{◌≡◌, ℕ, ◌≤◌, ◌<◌, ◌^◌, Option, None, Some}
use Rattle.outbox.specs.declared.face_time.Told.{Told}
use Rattle.outbox.specs.FaceTime.{FaceMoment}
use Rattle.outbox.specs.Outbox.{OutboxValue, contact_of, octets_in, rate_now}

-- how many octets wait is counted; the contact of the last reading is at hand, and its rate
pub record IsKept (b : OutboxValue) (octets : ℕ) (contact rate : Option ℕ) : Type 0 where
  pub counted : octets ≡ octets_in b.waiting
  pub within : octets ≤ b.limit
  pub lies_in : contact ≡ contact_of b
  pub goes_at : rate ≡ rate_now b

-- a face's time as contracts see it
abbrev pub told_of : Option Told → Option FaceMoment
told_of None = None
told_of (Some told) = Some record { moment = told.moment; reading = told.reading }

-- a face's moment is one that a clock shows
abbrev pub IsClockMoment : Option FaceMoment → Type 0
IsClockMoment None = Unit {0}
IsClockMoment (Some face) = face.moment < 2 ^ 62
