use Rattle.std.proofs.Common.{◌≡◌, ℕ, ◌+◌, ◌-◌, List, false, suc}
use Rattle.path_laws.specs.Path.{PathSetup, Path, PathEvent}
use Rattle.make_run.specs.Script.{plans}
use Rattle.make_run.specs.Ties.{Leaves}
use Rattle.make_run.proofs.PlayLemmas.{due}
use Rattle.make_run.proofs.script.play_round.Given as goal

abbrev pub invariant-others : goal.invariant-others
invariant-others l = record {
  whole : l.making.path.spent ≡ false;
  left : (s : PathSetup) (w : Path) (script : List PathEvent) (left : ℕ)
      → Leaves s w script (plans (suc left) l.i l.fn.draws.state) l.fn.making
      → Leaves s w script (due (8 - l.counter) left (l.i + 1) l.draws.state) l.making;
}
