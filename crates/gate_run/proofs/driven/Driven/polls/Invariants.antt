use Rattle.std.proofs.Common.{◌≡◌}
use Rattle.gate_run.specs.Comes.{most_polls}
use Rattle.gate_run.specs.Course.{Point}
use Rattle.gate_run.specs.Stages.{IsAt, polls_within}
use Rattle.gate_run.proofs.PollLemmas.{Polling}
use Rattle.gate_run.proofs.driven.Driven.polls.Given as goal

abbrev pub invariant-polling : goal.invariant-polling
invariant-polling g l = record {
  polling : (p : Point) → IsAt (g.T.HalfParts.Shows l.initial.self.parts) (g.O.Outside.ahead l.initial.outside) p
      → Polling (g.T.HalfParts.Shows l.self.parts) (g.O.Outside.ahead l.outside) l.left l.face (polls_within most_polls l.face p);
  made : g.O.Outside.made l.outside ≡ g.O.Outside.made l.initial.outside;
  writes : g.O.Outside.writes l.outside ≡ g.O.Outside.writes l.initial.outside;
  stores : g.O.Outside.stores l.outside ≡ g.O.Outside.stores l.initial.outside;
}

abbrev pub decreases-polling : goal.decreases-polling
decreases-polling g l = l.left
