-- The own sessions whose block the journal keeps: each has the id of its block.

use Rattle.std.specs.Prelude.{ℕ, Bool, false, ◌==◌, List, [], ◌∷◌, Option, None, Some, if◌then◌else◌}
use Rattle.gate_cases.specs.declared.face.Face.{Face}
use Rattle.gateway_core.specs.Gate.{if_same}
use Rattle.gate_records.specs.declared.named.Named.{Named}

abbrev pub named_with : Face → ℕ → ℕ → Named
named_with face session id = record { face = face; session = session; id = id }

-- ---- one of them, by its face and its number

abbrev pub is_of : Face → ℕ → Named → Bool
is_of face session n = if_same n.face face (n.session == session) false

unfoldable pub find_id : Face → ℕ → List Named → Option ℕ
find_id face session [] = None
find_id face session (n ∷ more) =
    if is_of face session n then Some n.id else find_id face session more

unfoldable pub without_named : Face → ℕ → List Named → List Named
without_named face session [] = []
without_named face session (n ∷ more) =
    if is_of face session n then more else n ∷ without_named face session more

-- ---- whether one of them has an id

abbrev pub has_id : ℕ → Named → Bool
has_id id n = n.id == id
