use Rattle.gate_run.proofs.WholeLemmas.{run-done, run-stopped, stopped-writes, stopped-stores, stopped-otherwise}
use Rattle.gate_run.proofs.running.run_from.Goals as goal

pub returns-in-Ok-clause-made : goal.returns-in-Ok-clause-made
returns-in-Ok-clause-made g c = λ kept ahead shown is told.
    run-done _ c.args.file.now kept _ c.args.turns c.args.reading _ ahead _ _ c.requires.some
    c.is_some-board.ensures shown is told c.in-Ok.ensures.goes

pub returns-in-Err-clause-made : goal.returns-in-Err-clause-made
returns-in-Err-clause-made g c = λ kept ahead shown is told.
    rw c.status.ensures
    (run-stopped _ c.args.file.now kept _ c.args.turns c.args.reading _ ahead c.in-Err.stop _ _ c.requires.some
    c.is_some-board.ensures shown is told c.in-Err.ensures.goes)

pub returns-in-Err-clause-writes : goal.returns-in-Err-clause-writes
returns-in-Err-clause-writes g c =
    rw c.status.ensures (stopped-writes c.in-Err.stop (Unit {0}) _ _ c.in-Err.ensures.writes)

pub returns-in-Err-clause-stores : goal.returns-in-Err-clause-stores
returns-in-Err-clause-stores g c =
    rw c.status.ensures (stopped-stores c.in-Err.stop (Unit {0}) _ _ c.in-Err.ensures.stores)

pub returns-in-Err-clause-used : goal.returns-in-Err-clause-used
returns-in-Err-clause-used g c = λ face used.
    stopped-otherwise c.in-Err.stop c.status.result face c.status.ensures used
