-- The places below a limit, as the list of truth values that says which of them are covered.

use Rattle.std.specs.Prelude.{◌≡◌, ℕ, ◌+◌, ◌-◌, ◌<◌, ◌≤◌, Bool, true, false, not, ◌&&◌, List, []}
use Rattle.std.specs.Prelude.{◌∷◌, ◌++◌, take, drop, replicate, slice_index_or, slice_range}
use Rattle.std.specs.Prelude.{if◌then◌else◌, ◌==◌, nat_lt, nat_le, length, ◌⊎◌}
use Rattle.std.specs.List.{list_all, count_by, filter}
use Rattle.spans.specs.declared.range.Run.{Run}
use Rattle.spans.specs.declared.chunk.TheConstants.{FEW}

-- whether place k is covered; no place at or past the limit is
abbrev pub is_covered : List Bool → ℕ → Bool
is_covered places k = slice_index_or places k false

-- all places from `from` to before `to` are covered
abbrev pub AreCovered : ℕ → ℕ → List Bool → Type 0
AreCovered from to places = (k : ℕ) → from ≤ k → k < to → is_covered places k ≡ true

-- whether place k is in the range from `from` to before `to`
abbrev pub is_in : ℕ → ℕ → ℕ → Bool
is_in from to k = nat_le from k && nat_lt k to

-- the places below a limit, none of them covered
unfoldable pub uncovered : ℕ → List Bool
uncovered limit = replicate limit false

-- the places, with those from `from` to before `to` covered too
unfoldable pub with_covered : ℕ → ℕ → List Bool → List Bool
with_covered from to places = take from places ++ (replicate (to - from) true ++ drop to places)

-- how many of the places from `from` to before `to` are not covered
unfoldable pub uncovered_in : ℕ → ℕ → List Bool → ℕ
uncovered_in from to places = count_by not (slice_range places from to)

-- how many of the places are covered
unfoldable pub covered_count : List Bool → ℕ
covered_count places = count_by (λ covered. covered) places

-- whether all places from `from` to before `to` are covered
unfoldable pub all_covered : ℕ → ℕ → List Bool → Bool
all_covered from to places = list_all (λ covered. covered) (slice_range places from to)

-- to cover these places adds a run: there are some, and no place of them or beside them is covered
pub record AddsRun (from to : ℕ) (places : List Bool) : Type 0 where
  pub some : from < to
  pub apart : (k : ℕ) → from ≤ k + 1 → k ≤ to → is_covered places k ≡ false

-- the runs once place k before them is covered too: it lengthens the first one, or is a run itself
abbrev pub grown_by : ℕ → List Run → List Run
grown_by k [] = record { from = k; to = k + 1 } ∷ []
grown_by k (r ∷ rs) =
    if r.from == k + 1
    then record { from = k; to = r.to } ∷ rs
    else record { from = k; to = k + 1 } ∷ (r ∷ rs)

-- the maximal covered ranges of places of which the first is place k
abbrev pub runs_from : ℕ → List Bool → List Run
runs_from k [] = []
runs_from k (false ∷ places) = runs_from (k + 1) places
runs_from k (true ∷ places) = grown_by k (runs_from (k + 1) places)

-- the maximal covered ranges, in order
unfoldable pub runs_of : List Bool → List Run
runs_of places = runs_from 0 places

-- the maximal covered ranges that end at or after a place, in order
unfoldable pub runs_reaching : ℕ → List Bool → List Run
runs_reaching place places = filter (λ r. nat_le place r.to) (runs_of places)

-- how many of the maximal covered ranges begin below `to`
unfoldable pub runs_below : ℕ → List Bool → ℕ
runs_below to places = count_by (λ r. nat_lt r.from to) (runs_of places)

-- a run more may want memory: there is none yet, or there are a few
abbrev pub MayWant : List Run → Type 0
MayWant runs = (length runs ≡ 0) ⊎ (FEW ≤ length runs)
