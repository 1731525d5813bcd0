use Rattle.make_run.proofs.PlayLemmas.{ups-wanted}
use Rattle.make_run.proofs.making.Making.take.Goals as goal

pub returns-in_err-count-clause-memory : goal.returns-in_err-count-clause-memory
returns-in_err-count-clause-memory c =
    let some = rw c.as_slice.ensures at c.in_err-count.ensures.memory in
    ups-wanted c.args.effects some c.from_residual.result
