-- Contact windows: when a link is open, and contact time, which stands still while it is closed.

use Rattle.std.specs.Prelude.{◌≡◌, ℕ, zero, suc, ◌+◌, ◌-◌, ◌<◌, ◌≤◌, ◌^◌, Bool, true, ◌&&◌, List}
use Rattle.std.specs.Prelude.{[], ◌∷◌, length, nat_lt, nat_le, if◌then◌else◌, Option, None, Some}
use Rattle.std.specs.List.{list_any, position_from}
use Rattle.contact_plan.specs.declared.window.Window.{Window}

-- ---- when a link is open

-- a moment lies in a window: at or after its beginning, and before its end
abbrev pub lies_in : Window → ℕ → Bool
lies_in window moment = nat_le window.from moment && nat_lt moment window.to

abbrev pub is_open : List Window → ℕ → Bool
is_open windows moment = list_any (λ window. lies_in window moment) windows

-- the index of the window that a moment lies in
abbrev pub index_at : List Window → ℕ → Option ℕ
index_at windows moment = position_from (λ window. lies_in window moment) 0 windows

-- the first beginning of a window after a moment
abbrev pub next_from : List Window → ℕ → Option ℕ
next_from [] moment = None
next_from (window ∷ windows) moment =
    if nat_lt moment window.from then Some window.from else next_from windows moment

-- ---- contact time

-- the number of moments below t that lie in a window
unfoldable pub elapsed : List Window → ℕ → ℕ
elapsed windows zero = 0
elapsed windows (suc t) = (if is_open windows t then 1 else 0) + elapsed windows t

-- a moment that lies in a window, and below which so many moments do
pub record IsMoment (windows : List Window) (contact moment : ℕ) : Type 0 where
  pub is_in : is_open windows moment ≡ true
  pub below : elapsed windows moment ≡ contact

-- the sum of the windows' lengths
abbrev pub total : List Window → ℕ
total [] = 0
total (window ∷ windows) = (window.to - window.from) + total windows

-- ---- which windows are a plan

-- each window has a moment, ends at 2^62 at the latest, and begins at or after the end of the one
-- before it; the first one begins at or after this end
abbrev pub AreInOrder : ℕ → List Window → Type 0
AreInOrder end [] = Unit {0}
AreInOrder end (window ∷ windows) =
    (end ≤ window.from) × (window.from < window.to) × (window.to ≤ 2 ^ 62)
    × AreInOrder window.to windows

pub record IsPlan (windows : List Window) : Type 0 where
  pub few : length windows ≤ 4096
  pub order : AreInOrder 0 windows
