-- What several calls on a store that are one step leave of its file.
use Rattle.std.specs.Prelude.{◌≡◌, ◌⊎◌, ℕ, List, [], ◌∷◌, ◌++◌, length, take}
use Rattle.store_traits.specs.Disk.{Torn}

-- a file that might have been left before, but for a write of so many octets at a place that was cut short
abbrev pub TornOnly : ℕ → ℕ → (List ℕ → Type 0) → List ℕ → Type 0
TornOnly at n may_leave c = (d : List ℕ) × may_leave d × Torn at n d c

-- the file ends with a closed gate at this place
pub record IsShutAt (gate : ℕ) (file : List ℕ) : Type 0 where
  pub front : List ℕ
  pub parts : file ≡ front ++ 0 ∷ []
  pub place : gate ≡ length front

-- the file with the gate open and these octets behind it
abbrev pub opened : ℕ → List ℕ → List ℕ → List ℕ
opened gate octets file = take gate file ++ 1 ∷ octets

-- what a crash may leave while octets are written behind the closed gate, and it is opened: the file as it
-- was and anything behind it, or all of the octets behind any gate
abbrev pub MayStand : ℕ → List ℕ → List ℕ → List ℕ → Type 0
MayStand gate octets file c =
    ((torn : List ℕ) × (c ≡ file ++ torn)) ⊎ ((g : ℕ) × (c ≡ take gate file ++ g ∷ octets))
