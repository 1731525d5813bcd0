-- The numbers that `make` draws, one after the other.
use Rattle.std.specs.Prelude.{ℕ, ◌+◌, ◌*◌, ◌/◌, ◌%◌, ◌^◌}

-- a draw leaves another state of the generator: a number of 64 bits
unfoldable pub next : ℕ → ℕ
next x = (6364136223846793005 * x + 1442695040888963407) % 2 ^ 64

-- the number that is drawn, by the state that the draw leaves: its upper 31 bits
unfoldable pub drawn : ℕ → ℕ
drawn x = x / 2 ^ 33
