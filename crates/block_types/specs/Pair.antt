-- Which types residues and wraps may have on a wire (own rule), and numbers that change places.

use Rattle.std.specs.Prelude.{◌≡◌, ℕ, ◌<◌, ◌≤◌, ◌==◌, if◌then◌else◌}

-- private types, from 192 to 255 (RFC 5050, section 4.2; RFC 9171, section 9.1): two of them, of which the
-- residue's isn't the usual one of a wrap, nor the wrap's that of a residue
pub record IsPair (residue wrap : ℕ) : Type 0 where
  pub residue_low : 192 ≤ residue
  pub residue_high : residue < 256
  pub residue_other : residue ≡ 193 → ⊥
  pub wrap_low : 192 ≤ wrap
  pub wrap_high : wrap < 256
  pub wrap_other : wrap ≡ 192 → ⊥
  pub apart : wrap ≡ residue → ⊥

-- one of two numbers becomes the other; all others stay
abbrev pub swap : ℕ → ℕ → ℕ → ℕ
swap one other number = if number == one then other else if number == other then one else number
