use Rattle.std.proofs.Common.{rules, ◌≡◌, true, false, sym, ◌∙◌}
use Rattle.gate_edges.specs.Ahead.{polled_at}
use Rattle.gate_run.specs.Stages.{is_given}
use Rattle.gate_run.proofs.MadeLemmas.{one-less}
use Rattle.gate_run.proofs.PollLemmas.{polling-start, polling-more, polling-last, polling-end}
use Rattle.gate_run.proofs.driven.Driven.polls.Goals as goal

pub polling-init : goal.polling-init
polling-init g c = record {
  polling = λ p at. polling-start _ _ c.args.face p at;
  made = search rules;
  writes = search rules;
  stores = search rules;
}

pub returns-then-not-branch-clause-at : goal.returns-then-not-branch-clause-at
returns-then-not-branch-clause-at g c = λ p at.
    let polling = rw (one-less c.polling.left c.polling-test.true) at c.polling.invariant.polling p at in
    let given : is_given (polled_at c.args.face (polling.point).ahead) ≡ false =
    sym (c.in_ok-poll.ensures.came polling.point polling.at) ∙ c.if-not-branch.true in
    polling-last _ _ _ _ _ c.args.face _ polling given (c.in_ok-poll.ensures.at polling.point polling.at)

pub polling-preserved : goal.polling-preserved
polling-preserved g c = record {
  polling = λ p at.
      let polling = rw (one-less c.polling.left c.polling-test.true) at c.polling.invariant.polling p at in
      let given : is_given (polled_at c.args.face (polling.point).ahead) ≡ true =
      sym (c.in_ok-poll.ensures.came polling.point polling.at) ∙ c.if-not-branch.false in
      polling-more _ _ _ _ _ c.args.face _ polling given (c.in_ok-poll.ensures.at polling.point polling.at);
  made = search rules;
  writes = search rules;
  stores = search rules;
}

pub returns-clause-at : goal.returns-clause-at
returns-clause-at g c = λ p at.
    polling-end _ _ c.polling.left c.args.face _ (search rules) (c.polling.invariant.polling p at)
