-- The loop of a growing run, over plain variables.

use Rattle.std.proofs.Common.{◌≡◌, ℕ, ◌+◌, ◌<◌, ◌≤◌, List, ◌∷◌, length, drop, get_or, refl, sym, ap, ◌∙◌}
use Rattle.std.proofs.lemmas.Bool.{le-leb, lt-leb}
use Rattle.std.proofs.lemmas.List.{drop_more}
use Rattle.spans.specs.declared.range.Run.{Run}
use Rattle.spans.specs.declared.growth.Growth.{Growth}
use Rattle.spans.specs.Growing.{over, grown_over, left_after}
use Rattle.spans.specs.Runs.{AreApart}

-- the list from an index on, where an element was read there
pub drop-read : {X : Type 0} (xs : List X) (i : ℕ) (x : X) → i < length xs → x ≡ get_or xs i x → drop i xs ≡ x ∷ drop (i + 1) xs
drop-read xs i x below read = drop_more xs i x below ∙ ap (λ y. y ∷ drop (i + 1) xs) (sym read)

pub grown_over-yes : (to : ℕ) (g : Growth) (r : Run) (rs : List Run) → r.from ≤ to → grown_over to g (r ∷ rs) ≡ grown_over to (over g r) rs
grown_over-yes to g r rs h = rw (le-leb r.from to h) refl

pub grown_over-no : (to : ℕ) (g : Growth) (r : Run) (rs : List Run) → to < r.from → grown_over to g (r ∷ rs) ≡ g
grown_over-no to g r rs h = rw (lt-leb r.from to h) refl

pub left_after-yes : (to : ℕ) (r : Run) (rs : List Run) → r.from ≤ to → left_after to (r ∷ rs) ≡ left_after to rs
left_after-yes to r rs h = rw (le-leb r.from to h) refl

pub left_after-no : (to : ℕ) (r : Run) (rs : List Run) → to < r.from → left_after to (r ∷ rs) ≡ r ∷ rs
left_after-no to r rs h = rw (lt-leb r.from to h) refl

-- the first i of the runs are taken, and the rest is as it was
pub record Growing (to : ℕ) (first now : Growth) (runs : List Run) (taken i : ℕ) : Type 0 where
  pub counts : taken ≡ i
  pub grown : grown_over to first runs ≡ grown_over to now (drop i runs)
  pub left : left_after to runs ≡ left_after to (drop i runs)
  pub apart : AreApart (now.end + 1) (drop i runs)
  pub bound : now.fresh ≤ now.end
