-- What is kept below a limit, and the places that it stands for.

use Rattle.std.specs.Prelude.{ℕ, ◌-◌, ◌^◌, ◌<◌, Bool, true, false, List, [], ◌∷◌, ◌++◌, replicate}
use Rattle.spans.specs.declared.range.Run.{Run}
use Rattle.spans.specs.Runs.{AreApart, AreWithin}
use Rattle.spans.specs.Chunks.{joined, AreFilled}

-- the places from `at` to before the limit that these runs cover
unfoldable pub places_from : ℕ → ℕ → List Run → List Bool
places_from at limit [] = replicate (limit - at) false
places_from at limit (r ∷ rs) =
    replicate (r.from - at) false ++ (replicate (r.to - r.from) true ++ places_from r.to limit rs)

-- what is kept below a limit
pub record IsKept (limit : ℕ) (chunks : List (List Run)) : Type 0 where
  pub apart : AreApart 0 (joined chunks)
  pub within : AreWithin limit (joined chunks)
  pub filled : AreFilled chunks
  pub small : limit < 2 ^ 64
