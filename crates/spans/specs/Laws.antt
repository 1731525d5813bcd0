-- What the words of `Places` mean, place by place and range by range.

use Rattle.std.specs.Prelude.{◌≡◌, ℕ, ◌+◌, ◌<◌, ◌≤◌, ◌↔◌, Bool, true, false, ◌||◌, List, [], length}
use Rattle.std.specs.Prelude.{Some, slice_get}
use Rattle.spans.specs.declared.range.Run.{Run}
use Rattle.spans.specs.Places.{uncovered, is_covered, is_in, with_covered, uncovered_in, covered_count}
use Rattle.spans.specs.Places.{all_covered, AreCovered, runs_of, runs_below}
use Rattle.spans.specs.Places.{runs_reaching}
use Rattle.spans.specs.Runs.{AreApart, FirstHasAll, has_place}

-- where nothing was covered no place is covered, there is no run, and the limit is the length
abbrev pub NothingIsCovered : Type 0
NothingIsCovered =
    (limit : ℕ)
    → ((k : ℕ) → is_covered (uncovered limit) k ≡ false)
    × (runs_of (uncovered limit) ≡ [])
    × (length (uncovered limit) ≡ limit)

-- covering a range covers its places and no others, and the limit stays
abbrev pub CoversTheRange : Type 0
CoversTheRange =
    (from to : ℕ) (places : List Bool) → from ≤ to → to ≤ length places
    → ((k : ℕ)
    → is_covered (with_covered from to places) k ≡ (is_covered places k || is_in from to k))
    × (length (with_covered from to places) ≡ length places)

-- as many places more are covered as were not covered in the range
abbrev pub CountsTheFresh : Type 0
CountsTheFresh =
    (from to : ℕ) (places : List Bool) → from ≤ to → to ≤ length places
    → uncovered_in from to places + covered_count places
    ≡ covered_count (with_covered from to places)

-- all are covered if and only if each is
abbrev pub AllIsEach : Type 0
AllIsEach =
    (from to : ℕ) (places : List Bool) → to ≤ length places
    → (all_covered from to places ≡ true) ↔ AreCovered from to places

-- a maximal covered range has a place, all its places are covered, and those beside it are not
pub record IsMaximal (r : Run) (places : List Bool) : Type 0 where
  pub some : r.from < r.to
  pub within : r.to ≤ length places
  pub covered : AreCovered r.from r.to places
  pub before : (k : ℕ) → k + 1 ≡ r.from → is_covered places k ≡ false
  pub after : is_covered places r.to ≡ false

-- the runs are maximal covered ranges, come in order, and have each covered place
abbrev pub RunsAreMaximal : Type 0
RunsAreMaximal =
    (places : List Bool)
    → ((i : ℕ) (r : Run) → slice_get (runs_of places) i ≡ Some r → IsMaximal r places)
    × AreApart 0 (runs_of places)
    × ((k : ℕ) → has_place (runs_of places) k ≡ is_covered places k)

-- the runs from a place on are maximal covered ranges that end there or later, come in order, and
-- have each covered place from there on
abbrev pub RunsReachOn : Type 0
RunsReachOn =
    (place : ℕ) (places : List Bool)
    → ((i : ℕ) (r : Run) → slice_get (runs_reaching place places) i ≡ Some r
    → IsMaximal r places × (place ≤ r.to))
    × AreApart 0 (runs_reaching place places)
    × ((k : ℕ) → place ≤ k → has_place (runs_reaching place places) k ≡ is_covered places k)

-- all places below `to` are covered if and only if the first run begins at 0 and reaches `to`
abbrev pub WholeIsOneRun : Type 0
WholeIsOneRun =
    (to : ℕ) (places : List Bool) → 0 < to → to ≤ length places
    → (all_covered 0 to places ≡ true) ↔ FirstHasAll 0 to (runs_of places)

-- the runs that begin below `to` are as many as are counted, and they are the first ones
abbrev pub CountsThoseBelow : Type 0
CountsThoseBelow =
    (to : ℕ) (places : List Bool) (i : ℕ) (r : Run) → slice_get (runs_of places) i ≡ Some r
    → (i < runs_below to places) ↔ (r.from < to)
