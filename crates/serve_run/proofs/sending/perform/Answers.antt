use Rattle.serve_run.specs.Effects.{effects_in}
use Rattle.serve_run.proofs.ActLemmas.{performed, performed-stopped, stopped-at-once}
use Rattle.serve_run.proofs.sending.perform.Goals as goal

pub returns-in_default-clause-goes : goal.returns-in_default-clause-goes
returns-in_default-clause-goes g c = stopped-at-once _ _ _

pub returns-in-Ok-write_after-clause-goes : goal.returns-in-Ok-write_after-clause-goes
returns-in-Ok-write_after-clause-goes g c =
    let sent = rw (c.as_slice-2.ensures, c.in-Ok.ensures.ok.0) at c.send_all.ensures.sent in
    let wrote = rw (c.as_str.ensures.value, c.send_all.ensures.sink) at c.write_after.ensures.wrote in
    performed (effects_in c.args.effects) _ _ _ _ _ _ c.write_after.result sent wrote c.in-Ok-write_after.field-0 c.in-Ok-write_after.is

pub returns-clause-goes : goal.returns-clause-goes
returns-clause-goes g c =
    let sent = rw (c.as_slice-2.ensures, c.in-Ok.ensures.ok.0) at c.send_all.ensures.sent in
    let wrote = rw (c.as_str.ensures.value, c.send_all.ensures.sink) at c.write_after.ensures.wrote in
    performed-stopped (effects_in c.args.effects) _ _ _ _ _ _ c.write_after.result sent wrote c.in-Err.field-0 c.in-Err.is
