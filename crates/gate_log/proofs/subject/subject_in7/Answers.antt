use Rattle.std.proofs.Common.{Err, ap, ◌∙◌}
use Rattle.gate_log.proofs.SubjectLemmas.{spelled7}
use Rattle.gate_log.proofs.subject.subject_in7.Goals as goal

pub returns-in-Err-Memory-clause-memory : goal.returns-in-Err-Memory-clause-memory
returns-in-Err-Memory-clause-memory c =
    spelled7 c.args.block.now (c.decode7.ensures.memory (c.in-Err-Memory.is ∙ ap Err c.in-Err-Memory.field-0-is))
