use Rattle.std.proofs.Common.{◌+◌, ◌-◌}
use Rattle.make_run.specs.Draws.{next}
use Rattle.make_run.specs.Script.{plans}
use Rattle.make_run.proofs.PlayLemmas.{stops-so, due, due-all, due-step, due-end}
use Rattle.make_run.proofs.script.play_round.Goals as goal

pub returns-in_err-play_send-clause-plays : goal.returns-in_err-play_send-clause-plays
returns-in_err-play_send-clause-plays c = λ s w script left leaves.
    let first = rw (due-all left c.args.i c.args.draws.now.state) at leaves in
    stops-so s w script (due 8 left (c.args.i + 1) (next c.args.draws.now.state)) (plans left (c.args.i + 1) c.play_send.new.draws.state)
    c.play_send.new.making c.play_send.new.making c.in_err-play_send.field-0.0
    (c.in_err-play_send.ensures.plays s w script (due 8 left (c.args.i + 1) (next c.args.draws.now.state)) first)
    c.from_residual.result c.from_residual.ensures.1

pub others-init : goal.others-init
others-init c = record {
  whole = c.in_ok-play_send.ensures.whole;
  left = λ s w script left leaves.
      let first = rw (due-all left c.args.i c.args.draws.now.state) at leaves in
      rw c.in_ok-play_send.ensures.draws
      (c.in_ok-play_send.ensures.plays s w script (due 8 left (c.args.i + 1) (next c.args.draws.now.state)) first);
}

pub returns-in_err-play_other-clause-plays : goal.returns-in_err-play_other-clause-plays
returns-in_err-play_other-clause-plays c = λ s w script left leaves.
    let one = due-step s w script c.others.making 8 c.others.counter left (c.args.i + 1) c.others.draws.state c.others-test.true
    (c.others.invariant.left s w script left leaves) in
    stops-so s w script (due (8 - (c.others.counter + 1)) left (c.args.i + 1) (next (next c.others.draws.state)))
    (plans left (c.args.i + 1) c.play_other.new.draws.state) c.play_other.new.making c.play_other.new.making c.in_err-play_other.field-0.0
    (c.in_err-play_other.ensures.plays s w script (due (8 - (c.others.counter + 1)) left (c.args.i + 1) (next (next c.others.draws.state))) one)
    c.from_residual-in_err-play_other.result c.from_residual-in_err-play_other.ensures.1

pub others-preserved : goal.others-preserved
others-preserved c = record {
  whole = c.in_ok-play_other.ensures.whole;
  left = λ s w script left leaves.
      let one = due-step s w script c.others.making 8 c.others.counter left (c.args.i + 1) c.others.draws.state c.others-test.true
      (c.others.invariant.left s w script left leaves) in
      rw c.in_ok-play_other.ensures.draws
      (c.in_ok-play_other.ensures.plays s w script (due (8 - (c.others.counter + 1)) left (c.args.i + 1) (next (next c.others.draws.state))) one);
}

pub returns-clause-plays : goal.returns-clause-plays
returns-clause-plays c = λ s w script left leaves.
    due-end s w script c.others.making 8 c.others.counter left (c.args.i + 1) c.others.draws.state c.others-test.false
    (c.others.invariant.left s w script left leaves)
