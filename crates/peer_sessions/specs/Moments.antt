-- The moments at which sessions were touched, as the code goes through them.

use Rattle.std.specs.Prelude.{ℕ, ◌-◌, Bool, true, false, nat_le, if◌then◌else◌, List, [], ◌∷◌, ◌++◌, map}
use Rattle.std.specs.List.{filter}
use Rattle.ltp_session.specs.Table.{without}

-- the sessions that nothing touched for a time
abbrev pub stale_in : ℕ → ℕ → List (ℕ × ℕ) → List ℕ
stale_in keep_ms now moments =
    map (λ (entry : ℕ × ℕ). entry.0) (filter (λ (entry : ℕ × ℕ). nat_le keep_ms (now - entry.1)) moments)

abbrev pub added_if : ℕ → Bool → List ℕ
added_if n false = []
added_if n true = n ∷ []

-- a session was touched, if it was
abbrev pub moments_if : ℕ → ℕ → Bool → List (ℕ × ℕ) → List (ℕ × ℕ)
moments_if n now touched moments = if touched then without n moments ++ (n, now) ∷ [] else moments
