-- Sets of session numbers, from 0 to 2^64 - 1.

use Rattle.std.specs.Prelude.{ℕ, ◌+◌, ◌-◌, Bool, false, not, ◌==◌, ◌&&◌, ◌||◌, if◌then◌else◌, List, length}
use Rattle.spans.specs.Places.{is_covered, uncovered, with_covered, runs_of}
use Rattle.session_memory.specs.declared.numbers.TheConstants.{LAST}

-- whether each number below the last is one of them, and whether the last is
pub record NumberSet : Type 0 where
  pub places : List Bool
  pub last : Bool

abbrev pub has : NumberSet → ℕ → Bool
has numbers n = is_covered numbers.places n || (numbers.last && (n == LAST))

abbrev pub no_numbers : NumberSet
no_numbers = record { places = uncovered LAST; last = false }

-- with one number, which may be among them already
abbrev pub places_with : ℕ → List Bool → List Bool
places_with n places = if n == LAST then places else with_covered n (n + 1) places

unfoldable pub with_number : ℕ → NumberSet → NumberSet
with_number n numbers = record {
  places = places_with n numbers.places;
  last = numbers.last || (n == LAST);
}

-- the last number is a run of its own: it is one of them, and the one before it isn't
abbrev pub last_runs : NumberSet → ℕ
last_runs numbers = if numbers.last && not (is_covered numbers.places (LAST - 1)) then 1 else 0

-- how many runs of consecutive numbers they are: longest ranges, all of whose numbers are among them
unfoldable pub runs_in : NumberSet → ℕ
runs_in numbers = length (runs_of numbers.places) + last_runs numbers
