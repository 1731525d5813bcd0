-- What is remembered of octets.
use Rattle.std.specs.Prelude.{ℕ, ◌-◌, List, drop, length}

-- the last ones, so many of them where there are as many
abbrev pub last_octets : ℕ → List ℕ → List ℕ
last_octets most octets = drop (length octets - most) octets
