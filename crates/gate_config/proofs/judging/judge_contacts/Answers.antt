use Rattle.std.proofs.Common.{sym, ◌∙◌}
use Rattle.gate_config.specs.Lent.{refusal_for}
use Rattle.gate_config.proofs.DocumentLemmas.{contacts_refused, contacts_passed, contacts_refusal-end}
use Rattle.gate_config.proofs.judging.judge_contacts.Goals as goal

pub returns-in-Err : goal.returns-in-Err
returns-in-Err c =
    sym (contacts_refused c.args.face c.values.before c.args.values.now c.values.index c.index-values-index.result (refusal_for c.in-Err.flaw)
    c.values-test.true c.index-values-index.is c.in-Err.ensures) ∙ c.values.invariant

pub values-preserved : goal.values-preserved
values-preserved c =
    rw c.moment_at-before.ensures
    (sym (contacts_passed c.args.face c.values.before c.args.values.now c.values.index c.index-values-index.result
    c.values-test.true c.index-values-index.is c.in-Ok.ensures) ∙ c.values.invariant)

pub returns : goal.returns
returns c = sym (contacts_refusal-end c.args.face c.values.index c.values.before c.args.values.now c.values.index c.values-test.false) ∙ c.values.invariant
