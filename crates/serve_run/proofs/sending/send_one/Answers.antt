use Rattle.serve_run.proofs.ActLemmas.{sent-ok, sent-noted}
use Rattle.serve_run.proofs.sending.send_one.Goals as goal

pub returns-in-Ok-clause-sent : goal.returns-in-Ok-clause-sent
returns-in-Ok-clause-sent g c =
    sent-ok c.args.routed.now _ _ _ c.send.result (rw c.as_slice.ensures at c.send.ensures.sent) c.in-Ok.field-0 c.in-Ok.is

pub returns-in-Err-clause-sent : goal.returns-in-Err-clause-sent
returns-in-Err-clause-sent g c =
    sent-noted c.args.routed.now _ _ _ c.send.result (rw c.as_slice.ensures at c.send.ensures.sent) c.in-Err.field-0 c.in-Err.is
    _ c.note_lost.ensures.noted
