-- Words for short drains of a path.

use Rattle.std.specs.Prelude.{ℕ, List, [], ◌∷◌}
use Rattle.endpoint.specs.declared.name.Endpoint.{Endpoint}
use Rattle.ltp_session.specs.Examples.{policy}
use Rattle.path_laws.specs.declared.places.PathEnd.TheVariants as ends
use Rattle.path_laws.specs.Path.{Path, path_run, path_setup, sends, starts_path}

-- the old node sent a block as the clock showed this moment
abbrev pub path_that_sent : Endpoint → ℕ → ℕ → List ℕ → Path
path_that_sent gate cut now block =
    path_run (path_setup gate policy cut) (starts_path (path_setup gate policy cut) now)
    (sends ends.Old block ∷ [])
