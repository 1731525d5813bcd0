-- A table of another format as a part of this one: its fields, each with this format's cause.

use Rattle.std.specs.Prelude.{option_map}
use Rattle.wire_fields.specs.Format.{Format, give, place, since, field, such_that, and_then}

-- the same fields under the same conditions, all with one cause
abbrev pub with_cause : {C D A : Type 0} → D → Format C A → Format D A
with_cause cause (give x) = give x
with_cause cause place = place
with_cause cause (since p) = since p
with_cause cause (field k c) = field k cause
with_cause cause (such_that f conditions) =
    such_that (with_cause cause f) (λ x. option_map (λ c. cause) (conditions x))
with_cause cause (and_then f g) = and_then (with_cause cause f) (λ x. with_cause cause (g x))
