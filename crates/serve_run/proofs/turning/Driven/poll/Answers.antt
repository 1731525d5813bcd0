use Rattle.std.proofs.Common.{rules, ◌≡◌, ◌++◌, length, take, drop}
use Rattle.std.proofs.lemmas.List.{take_at}
use Rattle.serve_run.proofs.ActLemmas.{polled-ok, polled-failed, polled-stopped}
use Rattle.serve_run.proofs.turning.Driven.poll.Goals as goal

pub returns-in-Ok-clause-goes : goal.returns-in-Ok-clause-goes
returns-in-Ok-clause-goes g c =
    let size : length c.poll.new.buf ≡ c.args.self.now.buffer.len = search rules in
    let same : take c.args.self.now.buffer.len (c.poll.new.buf ++ drop (length c.poll.new.buf) c.args.self.now.buffer.items) ≡ c.poll.new.buf =
    take_at c.poll.new.buf _ _ size in
    rw (same, c.poll.ensures.sink) (polled-ok c.args.face c.poll.new.buf _ _ c.poll.result c.poll.ensures.polled _ c.in-Ok.came c.in-Ok.is c.poll.ensures.bound)

pub returns-in-Ok-write_poll_failed-clause-goes : goal.returns-in-Ok-write_poll_failed-clause-goes
returns-in-Ok-write_poll_failed-clause-goes g c =
    polled-failed c.args.face _ _ _ c.poll.result c.poll.ensures.polled c.in-Err.field-0 c.in-Err.is _ _ _
    c.write_poll_failed.result (rw c.poll.ensures.sink at c.write_poll_failed.ensures.wrote) c.in-Ok-write_poll_failed.field-0 c.in-Ok-write_poll_failed.is

pub returns-in-Err-write_poll_failed-clause-goes : goal.returns-in-Err-write_poll_failed-clause-goes
returns-in-Err-write_poll_failed-clause-goes g c =
    polled-stopped c.args.face _ _ _ c.poll.result c.poll.ensures.polled c.in-Err.field-0 c.in-Err.is _ _ _
    c.write_poll_failed.result (rw c.poll.ensures.sink at c.write_poll_failed.ensures.wrote) c.in-Err-write_poll_failed.field-0 c.in-Err-write_poll_failed.is
