use Rattle.std.proofs.Common.{rules}
use Rattle.edge_traits.proofs.FaultsLemmas.{NoneFailed-same, NoneFailed-more}
use Rattle.gate_run.specs.Stages.{turns_over}
use Rattle.gate_run.proofs.MadeLemmas.{err-is, goes-err, one-less}
use Rattle.gate_run.proofs.TellLemmas.{stops-err, stores-err}
use Rattle.gate_run.proofs.TurnLemmas.{turning-start, turning-more, turning-stops, turning-end}
use Rattle.gate_run.proofs.driven.Driven.turns.Goals as goal

pub turning-init : goal.turning-init
turning-init g c = record {
  turning = λ p at. turning-start _ _ _ c.args.board c.args.turns p at;
  writes = NoneFailed-same _;
  stores = NoneFailed-same _;
}

pub returns-in_err-turn-clause-goes : goal.returns-in_err-turn-clause-goes
returns-in_err-turn-clause-goes g c = λ p at.
    let turning = rw (one-less c.turning.left c.turning-test.true) at c.turning.invariant.turning p at in
    goes-err _ (turns_over c.args.board c.args.turns p) c.from_residual.result c.in_err-turn.field-0.0 _ _ _ (err-is _ _ c.from_residual.ensures.1)
    (turning-stops _ _ _ _ _ c.args.board _ _ turning (c.in_err-turn.ensures.goes turning.point turning.at))

pub returns-in_err-turn-clause-writes : goal.returns-in_err-turn-clause-writes
returns-in_err-turn-clause-writes g c =
    stops-err (Unit {0}) c.from_residual.result c.in_err-turn.field-0.0 _ _ _ (err-is _ _ c.from_residual.ensures.1)
    c.turning.invariant.writes c.in_err-turn.ensures.writes

pub returns-in_err-turn-clause-stores : goal.returns-in_err-turn-clause-stores
returns-in_err-turn-clause-stores g c =
    stores-err (Unit {0}) c.from_residual.result c.in_err-turn.field-0.0 _ _ _ (err-is _ _ c.from_residual.ensures.1)
    c.turning.invariant.stores c.in_err-turn.ensures.stores

pub turning-preserved : goal.turning-preserved
turning-preserved g c = record {
  turning = λ p at.
      let turning = rw (one-less c.turning.left c.turning-test.true) at c.turning.invariant.turning p at in
      turning-more _ _ _ _ _ _ _ c.args.board _ _ turning (c.in_ok-turn.ensures.goes turning.point turning.at);
  writes = NoneFailed-more _ _ _ c.turning.invariant.writes c.in_ok-turn.ensures.writes;
  stores = NoneFailed-more _ _ _ c.turning.invariant.stores c.in_ok-turn.ensures.stores;
}

pub returns-clause-goes : goal.returns-clause-goes
returns-clause-goes g c = λ p at.
    turning-end _ _ _ _ c.args.board c.turning.left _ (search rules) (c.turning.invariant.turning p at)
