use Rattle.std.proofs.Common.{[], ◌+◌, ◌-◌}
use Rattle.make_run.specs.Script.{plans}
use Rattle.make_run.proofs.PlayLemmas.{stops-so, plans-step, plans-end}
use Rattle.make_run.proofs.script.play.Goals as goal

pub returns-in_err-play_round-clause-plays : goal.returns-in_err-play_round-clause-plays
returns-in_err-play_round-clause-plays c = λ s w script leaves.
    let one = plans-step s w script c.rounds.making c.args.count c.rounds.i c.rounds.draws.state c.rounds-test.true
    (c.rounds.invariant.left s w script leaves) in
    stops-so s w script (plans (c.args.count - (c.rounds.i + 1)) (c.rounds.i + 1) c.play_round.new.draws.state) []
    c.play_round.new.making c.play_round.new.making c.in_err-play_round.field-0.0
    (c.in_err-play_round.ensures.plays s w script (c.args.count - (c.rounds.i + 1)) one) c.from_residual.result c.from_residual.ensures.1

pub returns-clause-plays : goal.returns-clause-plays
returns-clause-plays c = λ s w script leaves.
    plans-end s w script c.rounds.making c.args.count c.rounds.i c.rounds.draws.state c.rounds-test.false
    (c.rounds.invariant.left s w script leaves)
