use Rattle.std.proofs.Common.{◌≡◌}
use Rattle.serve_run.specs.Turns.{turns}
use Rattle.serve_run.proofs.ActLemmas.{Going}
use Rattle.serve_run.proofs.turning.drive_turns.Given as goal

abbrev pub invariant-turning : goal.invariant-turning
invariant-turning g l = record {
  going : (state : g.T.TurnStep.State) → g.T.TurnStep.Shows l.fn.step state
      → (now : g.T.TurnStep.State) × g.T.TurnStep.Shows l.driven.step now
      × Going (turns g.T.TurnStep.rules l.count state) (turns g.T.TurnStep.rules l.left now)
      (g.E.Edges.outside l.initial.edges) (g.E.Edges.outside l.edges)
      (g.E.Edges.sink l.initial.edges) (g.E.Edges.sink l.edges);
  lent : g.E.Edges.lent l.edges ≡ g.E.Edges.lent l.initial.edges;
}

abbrev pub decreases-turning : goal.decreases-turning
decreases-turning g l = l.left
