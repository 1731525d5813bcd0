-- Windows as a plan keeps them: each with the contact time at its end.

use Rattle.std.specs.Prelude.{◌≡◌, ℕ, ◌+◌, ◌-◌, ◌<◌, ◌≤◌, ◌^◌, List, [], ◌∷◌, length, map, get_or}
use Rattle.contact_plan.specs.declared.kept.Kept.{Kept}
use Rattle.contact_plan.specs.declared.window.Window.{Window}

abbrev pub windows_of : List Kept → List Window
windows_of keeps = map (λ k. k.window) keeps

-- windows in order after one that ends here, at this contact time
abbrev pub AreKept : ℕ → ℕ → List Kept → Type 0
AreKept end contact [] = Unit {0}
AreKept end contact (k ∷ keeps) =
    (end ≤ (k.window).from) × ((k.window).from < (k.window).to) × ((k.window).to ≤ 2 ^ 62)
    × (k.contact ≡ contact + ((k.window).to - (k.window).from))
    × AreKept (k.window).to k.contact keeps

pub record IsKept (keeps : List Kept) : Type 0 where
  pub few : length keeps ≤ 4096
  pub order : AreKept 0 0 keeps

-- where the last window ends, and the contact time there
abbrev pub last_from : ℕ → ℕ → List Kept → ℕ × ℕ
last_from end contact [] = (end, contact)
last_from end contact (k ∷ keeps) = last_from (k.window).to k.contact keeps

-- those before index i have a number of at most x, and the one there has a greater one
pub record Parts (number : Kept → ℕ) (x : ℕ) (keeps : List Kept) (i : ℕ) : Type 0 where
  pub within : i ≤ length keeps
  pub before : (k : ℕ) (d : Kept) → k < i → number (get_or keeps k d) ≤ x
  pub after : (d : Kept) → i < length keeps → x < number (get_or keeps i d)
