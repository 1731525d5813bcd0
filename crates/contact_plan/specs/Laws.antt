-- What the words of a plan mean.

use Rattle.std.specs.Prelude.{◌≡◌, ℕ, ◌<◌, ◌≤◌, true, List, None, ◌↔◌}
use Rattle.contact_plan.specs.declared.window.Window.{Window}
use Rattle.contact_plan.specs.Fault.{plan_fault}
use Rattle.contact_plan.specs.Windows.{IsMoment, IsPlan, elapsed, is_open, total}

-- windows have no fault if and only if they are a plan
abbrev pub FaultlessIsPlan : Type 0
FaultlessIsPlan = (windows : List Window) → (plan_fault windows ≡ None) ↔ IsPlan windows

-- each contact time below the sum of the windows has a moment
pub record HasMoment (windows : List Window) (contact : ℕ) : Type 0 where
  pub moment : ℕ
  pub is : IsMoment windows contact moment

abbrev pub ContactHasMoments : Type 0
ContactHasMoments =
    (windows : List Window) (contact : ℕ) → IsPlan windows → contact < total windows
    → HasMoment windows contact

-- no two moments have one contact time, and there is none from the sum of the windows on
abbrev pub MomentsAreApart : Type 0
MomentsAreApart =
    (windows : List Window) (contact t u : ℕ) → IsPlan windows → IsMoment windows contact t
    → (contact < total windows) × (IsMoment windows contact u → t ≡ u)

-- a later moment has no earlier contact time; and a moment after an open one has a later one
abbrev pub ContactGoesOn : Type 0
ContactGoesOn =
    (windows : List Window) (t u : ℕ)
    → (t ≤ u → elapsed windows t ≤ elapsed windows u)
    × (is_open windows t ≡ true → t < u → elapsed windows t < elapsed windows u)

-- contact time is at most the moment itself, and at most the sum of the windows
abbrev pub ContactIsBounded : Type 0
ContactIsBounded =
    (windows : List Window) (t : ℕ) → IsPlan windows
    → (elapsed windows t ≤ t) × (elapsed windows t ≤ total windows)
