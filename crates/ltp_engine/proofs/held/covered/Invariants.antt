use Rattle.ltp_engine.proofs.OctetLemmas.{CountedSoFar}
use Rattle.ltp_engine.proofs.held.covered.Given as goal

abbrev pub invariant-runs : goal.invariant-runs
invariant-runs l =
    (goal.iterator-runs).can_next l.run-iterator × (goal.iterator-runs).is_finite l.run-iterator
    × CountedSoFar l.places l.run-iterator l.count
