-- The blocks so far, as far as they decide on the next: what code keeps of them.

use Rattle.std.specs.Prelude.{◌≡◌, ◌≤◌, ℕ, ◌+◌, true, ◌==◌, if◌then◌else◌}
use Rattle.bundle6.specs.declared.block.Seen.{Seen}

-- one more of this type
abbrev pub seen_with : Seen → ℕ → Seen
seen_with seen kind =
    if kind == 1 then record { paid = true; others = seen.others }
    else record { paid = seen.paid; others = seen.others + 1 }

-- how many they are
abbrev pub how_many : Seen → ℕ
how_many seen = seen.others + (if seen.paid then 1 else 0)

-- one more block may follow, and is counted
pub record Follows (most : ℕ) (seen next : Seen) : Type 0 where
  pub room : how_many seen ≤ most
  pub counted : how_many next ≡ how_many seen + 1
  pub few : next.others ≤ most
