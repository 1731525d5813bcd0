use Rattle.std.proofs.Common.{◌∷◌, arith}
use Rattle.ltp_engine.proofs.OctetLemmas.{CountedSoFar, counted-start, counted-more, counted-below, counted-end}
use Rattle.ltp_engine.proofs.held.covered.Goals as goal

pub runs-init : goal.runs-init
runs-init c = (tt, tt, rw (c.into_iter-run-iterator.ensures.into_iter_gives, c.runs-run-items.ensures) (counted-start c.args.places.now))

pub overflow_add-count : goal.overflow_add-count
overflow_add-count c =
    let so_far : CountedSoFar c.args.places.now (c.in-Some.run' ∷ c.next.new.self) c.runs.count = rw c.in-Some.ensures.steps at c.runs.invariant.2 in
    let below = counted-below c.args.places.now c.in-Some.run' c.next.new.self c.runs.count so_far in
    omega (arith, below, c.saturating_sub-count.ensures, c.requires)

pub runs-preserved : goal.runs-preserved
runs-preserved c =
    let so_far : CountedSoFar c.args.places.now (c.in-Some.run' ∷ c.next.new.self) c.runs.count = rw c.in-Some.ensures.steps at c.runs.invariant.2 in
    (tt, tt, rw c.saturating_sub-count.ensures (counted-more c.args.places.now c.in-Some.run' c.next.new.self c.runs.count so_far))

pub returns : goal.returns
returns c = counted-end c.args.places.now c.runs.count (rw (c.in-None.ensures.steps).0 at c.runs.invariant.2)
