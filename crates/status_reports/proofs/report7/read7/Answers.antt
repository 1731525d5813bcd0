-- Each clause follows from the exact one.
use Rattle.std.proofs.Common.{arith}
use Rattle.status_reports.specs.Table7.{report7}
use Rattle.status_reports.specs.Order.{cause7}
use Rattle.status_reports.proofs.AnswerLemmas.{answers-found, answers-only, answers-refused}
use Rattle.status_reports.proofs.SpelledLemmas7.{answers-legal, answers-same}
use Rattle.status_reports.proofs.report7.read7.Goals as goal

pub returns-clause-found : goal.returns-clause-found
returns-clause-found c =
    answers-found report7 (cause7 c.args.body.now) c.owned7.result c.args.body.now (λ i. omega (arith, c.type_inv.body i)) c.owned7.ensures.exact

pub returns-clause-only : goal.returns-clause-only
returns-clause-only c =
    answers-only report7 (cause7 c.args.body.now) c.owned7.result c.args.body.now c.owned7.ensures.exact

pub returns-clause-refused : goal.returns-clause-refused
returns-clause-refused c =
    answers-refused report7 (cause7 c.args.body.now) c.owned7.result c.args.body.now (λ i. omega (arith, c.type_inv.body i)) c.owned7.ensures.exact

pub returns-clause-legal : goal.returns-clause-legal
returns-clause-legal c = answers-legal c.owned7.result c.args.body.now (λ i. omega (arith, c.type_inv.body i)) c.owned7.ensures.exact

pub returns-clause-same : goal.returns-clause-same
returns-clause-same c = answers-same c.owned7.result c.args.body.now (λ i. omega (arith, c.type_inv.body i)) c.owned7.ensures.exact
