-- Where the answer of `make` may be want of memory.
use Rattle.std.specs.Prelude.{◌≡◌, ℕ, ◌⊎◌, false, List, ◌∷◌, ◌++◌}
use Rattle.path_laws.specs.Path.{PathSetup, Path, PathEvent, path_run}
use Rattle.path_world.specs.Values.{PathValue}
use Rattle.world_run.specs.Shows.{StandsOn}
use Rattle.world_run.specs.World.{says_event, says_drain, happens, drain_made, drains_by}
use Rattle.world_run.specs.Wanted.{MayWant}
use Rattle.make_run.specs.Making.{is_past}
use Rattle.make_run.specs.Script.{the_setup, the_start, script_of}

-- memory may be wanted at one of the events of a script, before which no limit is passed, on the path as
-- it is then
pub record RunsOutIn (s : PathSetup) (w : Path) (script : List PathEvent) : Type 0 where
  pub earlier : List PathEvent
  pub event : PathEvent
  pub later : List PathEvent
  pub script_is : script ≡ earlier ++ event ∷ later
  pub fits : is_past s w earlier ≡ false
  pub path : PathValue
  pub stands : StandsOn path s (path_run s w earlier)
  pub wants : MayWant path (says_event event) (happens s (path_run s w earlier) event)

-- no limit is passed in the script, and memory may be wanted for the drain after it, or for its lines
pub record RunsOutAfter (s : PathSetup) (w : Path) (script : List PathEvent) : Type 0 where
  pub fits : is_past s w script ≡ false
  pub path : PathValue
  pub stands : StandsOn path s (path_run s w script)
  pub wants :
      MayWant path says_drain
      (drains_by s (path_run s w script) (drain_made s (path_run s w script)))

-- so it is in the script that is drawn for a seed and a number of sends
abbrev pub RunsOut : ℕ → ℕ → Type 0
RunsOut seed count =
    RunsOutIn the_setup the_start (script_of seed count)
    ⊎ RunsOutAfter the_setup the_start (script_of seed count)
