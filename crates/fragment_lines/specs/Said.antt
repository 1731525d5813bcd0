-- What a command says of a bundle.
use Rattle.std.specs.Prelude.{ℕ, List}

-- what a command says of a bundle: its lines, and the state after it; or the bundle is refused, by
-- the cause's word
pub data Said (S : Type 0) : Type 0 where
  says : List ℕ → S → Said S
  refuses : List ℕ → Said S
