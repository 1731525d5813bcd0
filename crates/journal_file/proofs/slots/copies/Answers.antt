use Rattle.journal_file.proofs.WantsLemmas.{some-held, on_err_of}
use Rattle.journal_file.proofs.slots.copies.Goals as goal

pub returns-in_err-copy-clause-memory : goal.returns-in_err-copy-clause-memory
returns-in_err-copy-clause-memory c =
    on_err_of c.from_residual.result _ (some-held c.args.slots.now c.copying.slot-index _ c.copying-test.true c.in_err-copy.ensures.memory)
