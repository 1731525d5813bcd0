-- A place as one number below 2 ^ 32, where it is a usual one.

use Rattle.std.specs.Prelude.{◌≡◌, ℕ, ◌*◌, ◌-◌, ◌^◌, ◌/◌, ◌%◌, ◌<◌, ◌≤◌, nat_lt, ◌==◌}
use Rattle.std.specs.Prelude.{List, length, map, get_or, if◌then◌else◌}
use Rattle.endpoint.specs.declared.place.Place.{Place}
use Rattle.endpoint.specs.declared.place.Place.TheVariants as places

-- no name is empty: a part of no octets is the null endpoint's
abbrev pub part_at : ℕ → ℕ → Place
part_at from size = if size == 0 then places.Null else places.Dtn from size

-- the place that a number stands for; one from 3 * 2 ^ 30 on says which it is of the others
unfoldable pub place_of : List Place → ℕ → Place
place_of others word =
    if nat_lt word (2 ^ 30) then part_at (word / 1024) (word % 1024)
    else if nat_lt word (2 * 2 ^ 30) then places.Written ((word - 2 ^ 30) / 64) ((word - 2 ^ 30) % 64)
    else if nat_lt word (3 * 2 ^ 30) then places.Ipn ((word - 2 * 2 ^ 30) / 2 ^ 15) ((word - 2 * 2 ^ 30) % 2 ^ 15)
    else get_or others (word - 3 * 2 ^ 30) places.Null

-- the places that numbers stand for
abbrev pub places_of : List Place → List ℕ → List Place
places_of others words = map (place_of others) words

-- where the number says which of the others it is, that one is there
abbrev pub IsAmong : List Place → ℕ → Type 0
IsAmong others word = 3 * 2 ^ 30 ≤ word → word - 3 * 2 ^ 30 < length others

-- the number stands for the place, whatever the others are
pub record IsUsual (word : ℕ) (place : Place) : Type 0 where
  pub low : word < 3 * 2 ^ 30
  pub is : (others : List Place) → place_of others word ≡ place

-- the number says that its place is the one with that number among the others
pub record IsOther (at word : ℕ) : Type 0 where
  pub high : 3 * 2 ^ 30 ≤ word
  pub index : word - 3 * 2 ^ 30 ≡ at
