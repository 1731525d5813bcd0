use Rattle.std.proofs.Common.{◌-◌, refl, ◌∙◌}
use Rattle.serve_run.specs.declared.stop.Stop.TheVariants.{NoMemory}
use Rattle.serve_run.proofs.ActLemmas.{stopped-at-once, ran-stopped, ran-out, none-made, turns-done, turns-stopped, one-less}
use Rattle.serve_run.proofs.turning.drive_turns.Goals as goal

pub returns-in_default-clause-goes : goal.returns-in_default-clause-goes
returns-in_default-clause-goes g c = λ state shows. ran-stopped _ NoMemory _ _ _ _ (stopped-at-once _ _ _)

pub turning-init : goal.turning-init
turning-init g c = record { going = λ state shows. none-made _ g.T.TurnStep.rules c.args.count state _ _ shows; lent = refl }

pub turning-preserved : goal.turning-preserved
turning-preserved g c = record {
  going = λ state shows.
      let (now, shown, going) = c.turning.invariant.going state shows in
      let left = one-less c.turning.left c.turning-test.true in
      turns-done g.T.TurnStep.rules (c.turning.left - 1) now _ _ _ _ _ _ _ _ (rw left at going) (c.in-Ok-turn.ensures.goes now shown);
  lent = c.turn.ensures.lent ∙ c.turning.invariant.lent;
}

pub returns-in-Err-clause-goes : goal.returns-in-Err-clause-goes
returns-in-Err-clause-goes g c = λ state shows.
    let (now, shown, going) = c.turning.invariant.going state shows in
    let left = one-less c.turning.left c.turning-test.true in
    rw c.status.ensures (ran-stopped _ c.in-Err.stop _ _ _ _
    (turns-stopped g.T.TurnStep.rules (c.turning.left - 1) now _ c.in-Err.stop _ _ _ _ _ _ (rw left at going) (c.in-Err.ensures.goes now shown)))

pub returns-clause-goes : goal.returns-clause-goes
returns-clause-goes g c = λ state shows.
    let (now, shown, going) = c.turning.invariant.going state shows in
    ran-out g.T.TurnStep.rules _ _ _ _ _ c.turning.left c.turning-test.false now going
