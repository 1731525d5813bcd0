-- When the link of a face is open, and how many octets a second it takes.

use Rattle.std.specs.Prelude.{ℕ, List, [], ◌∷◌, Option, None, Some}
use Rattle.std.specs.List.{slice_get}
use Rattle.contact_plan.specs.declared.window.Window.{Window}
use Rattle.contact_plan.specs.Windows.{index_at}

pub record ScheduleValue : Type 0 where
  -- its contacts, in order; the link is always open where there are none
  pub windows : List Window
  -- for each contact, in the same order, its own rate where it has one
  pub rates : List (Option ℕ)
  -- the rate of all others, in octets a second; none where there is no pace
  pub rate : Option ℕ

-- the contact that a moment lies in, by its index; none where the link is closed
abbrev pub contact_in : List Window → ℕ → Option ℕ
contact_in [] moment = Some 0
contact_in (window ∷ windows) moment = index_at (window ∷ windows) moment

abbrev pub contact_at : ScheduleValue → ℕ → Option ℕ
contact_at s moment = contact_in s.windows moment

-- a contact's own rate, else that of the face
abbrev pub own_or : Option (Option ℕ) → Option ℕ → Option ℕ
own_or None rate = rate
own_or (Some None) rate = rate
own_or (Some (Some own)) rate = Some own

-- the rate in a contact; none while the link is closed
abbrev pub rate_of : ScheduleValue → Option ℕ → Option ℕ
rate_of s None = None
rate_of s (Some contact) = own_or (slice_get s.rates contact) s.rate
