use Rattle.std.proofs.Common.{sym, ◌∙◌}
use Rattle.gate_cases.proofs.SendLemmas.{long-sent}
use Rattle.gate_cases.proofs.sending.send_pieces.Goals as goal

pub returns-then-is_any_over : goal.returns-then-is_any_over
returns-then-is_any_over c = λ room enough.
    long-sent c.args.to c.args.records room c.unsent.result c.all_fit.result
    (sym (rw c.as_slice.ensures at c.is_any_over.ensures) ∙ c.if-is_any_over.true)
    (rw c.as_slice-then-is_any_over.ensures at c.all_fit.ensures) c.unsent.ensures
