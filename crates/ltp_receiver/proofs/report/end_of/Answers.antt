use Rattle.std.proofs.Common.{sym, arith}
use Rattle.ltp_receiver.proofs.ReportLemmas.{end_from-last, last-some}
use Rattle.ltp_receiver.proofs.report.end_of.Goals as goal

pub overflow_add-result : goal.overflow_add-result
overflow_add-result c =
    let is = sym c.in-Some.ensures.value in
    omega (arith, c.requires, end_from-last 0 c.args.claims.now c.in-Some.claim.now _ (last-some c.args.claims.now c.in-Some.claim.now is) is)

pub returns-in-Some : goal.returns-in-Some
returns-in-Some c =
    let is = sym c.in-Some.ensures.value in
    end_from-last 0 c.args.claims.now c.in-Some.claim.now _ (last-some c.args.claims.now c.in-Some.claim.now is) is
