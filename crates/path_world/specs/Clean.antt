-- What one call inside a drain of a path does.

use Rattle.std.specs.Prelude.{◌≡◌, ℕ, List, ◌++◌}
use Rattle.std.specs.List.{AllByRecursion}
use Rattle.path_laws.specs.declared.effects.PathEffects.{PathEffects}
use Rattle.path_laws.specs.Path.{Path, PathEvent, PathSetup}
use Rattle.path_drain.specs.Clean.{AreCleanOnPath, path_passed}
use Rattle.path_world.specs.Drain.{InEveryRun, IsEarly, done_in}
use Rattle.path_world.specs.Shows.{ShowsRun, path_after}
use Rattle.path_world.specs.Values.{PathValue, setup_of}

-- from a path after some events, of whose segments c are delivered or lost, clean events lead to
-- where the new world stands and d are; what was done is told after what was told before
pub record LeadsIn
    (s : PathSetup) (w : Path) (new : PathValue) (c d : ℕ) (before now : List PathEffects)
    (start : ℕ) (events : List PathEvent) : Type 0 where
  pub made : List PathEvent
  pub clean : AreCleanOnPath s w c made
  pub reaches : path_passed c made ≡ d
  pub early : AllByRecursion IsEarly made
  pub told : now ≡ before ++ done_in s w made
  pub shows : ShowsRun new start (events ++ made)

abbrev pub LeadsOn :
    PathValue → PathValue → ℕ → ℕ → List PathEffects → List PathEffects → Type 0
LeadsOn old new c d before now =
    InEveryRun
    (λ start events. LeadsIn (setup_of old) (path_after old start events) new c d before now start
    events)
    old new
