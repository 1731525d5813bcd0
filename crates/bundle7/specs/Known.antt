-- What is known of the checks in some octets, beside what reading them gives: where they are known to be
-- right, reading doesn't refuse.
use Rattle.std.specs.Prelude.{ℕ, Result, IsOk}
use Rattle.wire_fields.specs.Refusal.{Stop}
use Rattle.bundle7.specs.declared.fault.Cause7.{Cause7}
use Rattle.bundle7.specs.declared.check.Checks.{Checks}
use Rattle.bundle7.specs.declared.check.Checks.TheVariants.{Untested, Right}

abbrev pub Knows : {A : Type 0} → Checks → Result A (ℕ × Stop Cause7) → Type 0
Knows Untested given = Unit {0}
Knows Right given = IsOk given
