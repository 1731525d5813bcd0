-- When a bundle expires. The record has it exactly; version 6 counts a lifetime in whole seconds.

use Rattle.std.specs.Prelude.{ℕ, ◌+◌, ◌-◌, ◌*◌, ◌/◌, ◌≤◌}
use Rattle.bundle_meaning.specs.declared.shared.Shared.{Shared}

-- when a version 6 bundle of this record with this lifetime expires, in milliseconds
abbrev pub expiry6 : Shared → ℕ → ℕ
expiry6 shared lifetime = 1000 * (shared.millis / 1000 + lifetime)

-- the lifetime isn't over before the exact expiry, and no smaller one is so
pub record IsLifetime6 (shared : Shared) (lifetime : ℕ) : Type 0 where
  pub reaches : shared.expiry ≤ expiry6 shared lifetime
  pub least : (other : ℕ) → shared.expiry ≤ expiry6 shared other → lifetime ≤ other

-- it is the exact expiry in seconds, rounded up, from the second of the creation on
abbrev pub lifetime6_of : Shared → ℕ
lifetime6_of shared = (shared.expiry + 999) / 1000 - shared.millis / 1000

-- how many milliseconds later than the exact expiry it is over
abbrev pub slack_of : Shared → ℕ
slack_of shared = expiry6 shared (lifetime6_of shared) - shared.expiry
