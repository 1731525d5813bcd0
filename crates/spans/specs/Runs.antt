-- Runs in order that do not touch.

use Rattle.std.specs.Prelude.{◌≡◌, ℕ, ◌+◌, ◌-◌, ◌<◌, ◌≤◌, Bool, true, false, ◌||◌, List, [], ◌∷◌}
use Rattle.spans.specs.declared.range.Run.{Run}
use Rattle.spans.specs.Places.{is_in}

-- the runs begin at or after `low`, and no run touches the next
abbrev pub AreApart : ℕ → List Run → Type 0
AreApart low [] = Unit {0}
AreApart low (r ∷ rs) = (low ≤ r.from) × (r.from < r.to) × AreApart (r.to + 1) rs

-- no run ends past the limit
abbrev pub AreWithin : ℕ → List Run → Type 0
AreWithin limit [] = Unit {0}
AreWithin limit (r ∷ rs) = (r.to ≤ limit) × AreWithin limit rs

-- whether one of the runs has place k
abbrev pub has_place : List Run → ℕ → Bool
has_place [] k = false
has_place (r ∷ rs) k = is_in r.from r.to k || has_place rs k

-- how many places the runs have
abbrev pub places_in : List Run → ℕ
places_in [] = 0
places_in (r ∷ rs) = (r.to - r.from) + places_in rs

-- all places from `from` to before `to` are places of the runs
abbrev pub HasAll : ℕ → ℕ → List Run → Type 0
HasAll from to runs = (k : ℕ) → from ≤ k → k < to → has_place runs k ≡ true

-- the first run has all of them
abbrev pub FirstHasAll : ℕ → ℕ → List Run → Type 0
FirstHasAll from to [] = ⊥
FirstHasAll from to (r ∷ rs) = (r.from ≤ from) × (to ≤ r.to)

-- all runs end before a place
abbrev pub EndBefore : ℕ → List Run → Type 0
EndBefore place [] = Unit {0}
EndBefore place (r ∷ rs) = (r.to < place) × EndBefore place rs

-- the first run, where there is one, ends at or after a place
abbrev pub FirstReaches : ℕ → List Run → Type 0
FirstReaches place [] = Unit {0}
FirstReaches place (r ∷ rs) = place ≤ r.to

-- the first run, where there is one, begins after a place
abbrev pub FirstBeginsAfter : ℕ → List Run → Type 0
FirstBeginsAfter place [] = Unit {0}
FirstBeginsAfter place (r ∷ rs) = place < r.from

-- there is a first run, and it begins at or before a place
abbrev pub BeginsBy : ℕ → List Run → Type 0
BeginsBy to [] = ⊥
BeginsBy to (r ∷ rs) = r.from ≤ to

-- where the last run ends, or `place` where there is none
abbrev pub end_after : ℕ → List Run → ℕ
end_after place [] = place
end_after place (r ∷ rs) = end_after r.to rs

-- where the last run begins, or `place` where there is none
abbrev pub last_begin : ℕ → List Run → ℕ
last_begin place [] = place
last_begin place (r ∷ rs) = last_begin r.from rs

-- the runs once the places from `from` to before `to` are covered too, of which n were not
pub record Covers (from to : ℕ) (old new : List Run) (n : ℕ) : Type 0 where
  pub apart : AreApart 0 new
  pub within : (limit : ℕ) → to ≤ limit → AreWithin limit old → AreWithin limit new
  pub places : (k : ℕ) → has_place new k ≡ (has_place old k || is_in from to k)
  pub count : n + places_in old ≡ places_in new

-- no run has a place of the range, or one beside it
pub record IsApartFrom (from to : ℕ) (runs : List Run) : Type 0 where
  pub some : from < to
  pub none : (k : ℕ) → from ≤ k + 1 → k ≤ to → has_place runs k ≡ false
