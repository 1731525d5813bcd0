use Rattle.edge_traits.specs.Faults.{NoneFailed}
use Rattle.gate_run.specs.Course.{Point}
use Rattle.gate_run.specs.Stages.{IsAt, turns_over}
use Rattle.gate_run.proofs.TurnLemmas.{Turning}
use Rattle.gate_run.proofs.driven.Driven.turns.Given as goal

abbrev pub invariant-turning : goal.invariant-turning
invariant-turning g l = record {
  turning : (p : Point) → IsAt (g.T.HalfParts.Shows l.initial.self.parts) (g.O.Outside.ahead l.initial.outside) p
      → Turning (g.T.HalfParts.Shows l.self.parts) (g.O.Outside.ahead l.outside)
      (g.O.Outside.made l.initial.outside) (g.O.Outside.made l.outside) l.board l.left
      (turns_over l.board l.turns p);
  writes : NoneFailed (g.O.Outside.writes l.initial.outside) (g.O.Outside.writes l.outside);
  stores : NoneFailed (g.O.Outside.stores l.initial.outside) (g.O.Outside.stores l.outside);
}

abbrev pub decreases-turning : goal.decreases-turning
decreases-turning g l = l.left
