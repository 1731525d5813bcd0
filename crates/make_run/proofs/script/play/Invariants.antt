use Rattle.std.proofs.Common.{◌≡◌, ◌-◌, List, false}
use Rattle.path_laws.specs.Path.{PathSetup, Path, PathEvent}
use Rattle.make_run.specs.Script.{plans}
use Rattle.make_run.specs.Ties.{Leaves}
use Rattle.make_run.proofs.script.play.Given as goal

abbrev pub invariant-rounds : goal.invariant-rounds
invariant-rounds l = record {
  whole : l.making.path.spent ≡ false;
  left : (s : PathSetup) (w : Path) (script : List PathEvent)
      → Leaves s w script (plans l.count 0 l.seed) l.fn.making
      → Leaves s w script (plans (l.count - l.i) l.i l.draws.state) l.making;
}
