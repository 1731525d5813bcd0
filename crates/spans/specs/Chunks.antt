-- Chunks, and the list of their runs.

use Rattle.std.specs.Prelude.{◌≡◌, ℕ, zero, suc, ◌+◌, ◌<◌, ◌≤◌, List, [], ◌∷◌, ◌++◌, length, take}
use Rattle.std.specs.Prelude.{drop}
use Rattle.std.specs.List.{flat_map}
use Rattle.spans.specs.declared.range.Run.{Run}
use Rattle.spans.specs.declared.growth.Growth.{Growth}
use Rattle.spans.specs.Runs.{AreApart}
use Rattle.spans.specs.Growing.{grown_over, left_after}

-- the runs of all chunks
abbrev pub joined : List (List Run) → List Run
joined chunks = flat_map (λ c. c) chunks

-- no chunk is empty
abbrev pub AreFilled : List (List Run) → Type 0
AreFilled [] = Unit {0}
AreFilled (c ∷ cs) = (0 < length c) × AreFilled cs

-- an index of the first chunk, where there is one
abbrev pub IsAhead : List (List Run) → ℕ → Type 0
IsAhead [] at = Unit {0}
IsAhead (k ∷ ks) at = (at < length k) × AreFilled ks

-- the runs before the i-th of chunk c
abbrev pub before : List (List Run) → ℕ → ℕ → List Run
before [] c i = []
before (k ∷ ks) zero i = take i k
before (k ∷ ks) (suc c) i = k ++ before ks c i

-- the runs from the i-th of chunk c on
abbrev pub from_there : List (List Run) → ℕ → ℕ → List Run
from_there [] c i = []
from_there (k ∷ ks) zero i = drop i k ++ joined ks
from_there (k ∷ ks) (suc c) i = from_there ks c i

-- chunk c cut in two, of which the first keeps `keep` runs
abbrev pub split_at : ℕ → ℕ → List (List Run) → List (List Run)
split_at c keep [] = []
split_at zero keep (k ∷ ks) = take keep k ∷ (drop keep k ∷ ks)
split_at (suc c) keep (k ∷ ks) = k ∷ split_at c keep ks

-- a growing run meets the chunks from `from` to before `whole`, each as a whole
pub record MeetsWhole (to : ℕ) (first now : Growth) (chunks : List (List Run)) (from whole : ℕ)
    : Type 0 where
  pub low : from ≤ whole
  pub within : whole ≤ length chunks
  pub left : left_after to (joined (drop from chunks)) ≡ left_after to (joined (drop whole chunks))
  pub grown :
      grown_over to first (joined (drop from chunks)) ≡ grown_over to now (joined (drop whole chunks))
  pub apart : AreApart (now.end + 1) (joined (drop whole chunks))
  pub bound : now.fresh ≤ now.end
