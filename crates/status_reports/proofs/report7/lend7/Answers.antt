use Rattle.std.proofs.Common.{arith}
use Rattle.status_reports.proofs.SpelledLemmas7.{lent-legal}
use Rattle.status_reports.proofs.report7.lend7.Goals as goal

pub returns-clause-legal : goal.returns-clause-legal
returns-clause-legal c = lent-legal c.judged7.result c.args.body.now (λ i. omega (arith, c.type_inv.body i)) c.judged7.ensures
