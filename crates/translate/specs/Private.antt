-- The gateway's private blocks among the others.

use Rattle.std.specs.Prelude.{ℕ, ◌==◌, Bool, ◌&&◌, List, Result, Ok, Err}
use Rattle.endpoint.specs.Endpoints.{begins}
use Rattle.bundle_meaning.specs.Blocks.{mark, residue_kind, wrap_kind}

-- a block of this type and body is a residue, or a wrap
abbrev pub is_residue : ℕ → List ℕ → Bool
is_residue kind body = kind == residue_kind && begins mark body

abbrev pub is_wrap : ℕ → List ℕ → Bool
is_wrap kind body = kind == wrap_kind && begins mark body

-- the value that was read, or another in its place
abbrev pub value_or : {A E : Type 0} → A → Result A E → A
value_or other (Ok value) = value
value_or other (Err fault) = other
