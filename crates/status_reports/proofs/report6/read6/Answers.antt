-- Each clause follows from the exact one.
use Rattle.std.proofs.Common.{arith}
use Rattle.status_reports.specs.Table6.{report6}
use Rattle.status_reports.specs.Order.{cause6}
use Rattle.status_reports.proofs.AnswerLemmas.{answers-found, answers-only, answers-refused}
use Rattle.status_reports.proofs.SpelledLemmas6.{answers-legal, answers-same}
use Rattle.status_reports.proofs.report6.read6.Goals as goal

pub returns-clause-found : goal.returns-clause-found
returns-clause-found c =
    answers-found report6 (cause6 c.args.body.now) c.owned6.result c.args.body.now (λ i. omega (arith, c.type_inv.body i)) c.owned6.ensures.exact

pub returns-clause-only : goal.returns-clause-only
returns-clause-only c =
    answers-only report6 (cause6 c.args.body.now) c.owned6.result c.args.body.now c.owned6.ensures.exact

pub returns-clause-refused : goal.returns-clause-refused
returns-clause-refused c =
    answers-refused report6 (cause6 c.args.body.now) c.owned6.result c.args.body.now (λ i. omega (arith, c.type_inv.body i)) c.owned6.ensures.exact

pub returns-clause-legal : goal.returns-clause-legal
returns-clause-legal c = answers-legal c.owned6.result c.args.body.now (λ i. omega (arith, c.type_inv.body i)) c.owned6.ensures.exact

pub returns-clause-same : goal.returns-clause-same
returns-clause-same c = answers-same c.owned6.result c.args.body.now (λ i. omega (arith, c.type_inv.body i)) c.owned6.ensures.exact
