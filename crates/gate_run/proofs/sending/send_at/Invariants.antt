use Rattle.std.proofs.Common.{◌≡◌}
use Rattle.gate_run.specs.Course.{Point}
use Rattle.gate_run.specs.Stages.{IsAt, sends_over}
use Rattle.gate_run.proofs.SendLemmas.{Sending}
use Rattle.gate_run.proofs.sending.send_at.Given as goal

abbrev pub invariant-sending : goal.invariant-sending
invariant-sending g l = record {
  sending : (p : Point) → IsAt (g.T.HalfParts.Shows l.initial.parts) (g.O.Outside.ahead l.initial.outside) p
      → Sending (g.T.HalfParts.Shows l.parts) (g.O.Outside.ahead l.outside)
      (g.O.Outside.made l.initial.outside) (g.O.Outside.made l.outside) l.left l.face (sends_over l.face p);
  writes : g.O.Outside.writes l.outside ≡ g.O.Outside.writes l.initial.outside;
  stores : g.O.Outside.stores l.outside ≡ g.O.Outside.stores l.initial.outside;
}

abbrev pub decreases-sending : goal.decreases-sending
decreases-sending g l = l.left
