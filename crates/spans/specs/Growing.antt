-- A run that grows over those after it.

use Rattle.std.specs.Prelude.{ℕ, ◌+◌, ◌-◌, List, [], ◌∷◌, min, max, if◌then◌else◌, nat_le}
use Rattle.spans.specs.declared.range.Run.{Run}
use Rattle.spans.specs.declared.growth.Growth.{Growth}

-- a growing run that takes in the next one, over the gap before it
abbrev pub over : Growth → Run → Growth
over g r = record { end = r.to; fresh = g.fresh + (r.from - g.end) }

-- a growing run, over each run that begins at or before `to`
abbrev pub grown_over : ℕ → Growth → List Run → Growth
grown_over to g [] = g
grown_over to g (r ∷ rs) = if nat_le r.from to then grown_over to (over g r) rs else g

-- the runs that it leaves
abbrev pub left_after : ℕ → List Run → List Run
left_after to [] = []
left_after to (r ∷ rs) = if nat_le r.from to then left_after to rs else r ∷ rs

-- a first run that grows to begin at or before `from` and to cover what it meets up to `to`
abbrev pub grown_first : ℕ → ℕ → Run → List Run → Growth
grown_first from to r rs = grown_over to (record { end = r.to; fresh = r.from - from }) rs

-- the runs once the first is widened to cover from `from` to before `to`, over those that it meets
abbrev pub widened : ℕ → ℕ → List Run → List Run
widened from to [] = []
widened from to (r ∷ rs) =
    let grown = grown_first from to r rs in
    record { from = min from r.from; to = max to grown.end } ∷ left_after to rs

-- how many places that adds
abbrev pub widening : ℕ → ℕ → List Run → ℕ
widening from to [] = 0
widening from to (r ∷ rs) = let grown = grown_first from to r rs in grown.fresh + (to - grown.end)
