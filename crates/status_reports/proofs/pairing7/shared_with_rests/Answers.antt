use Rattle.std.proofs.Common.{rules, length, ◌≡◌}
use Rattle.status_reports.proofs.PairLemmas.{shared7-valid}
use Rattle.status_reports.proofs.pairing7.shared_with_rests.Goals as goal

pub returns-clause-valid : goal.returns-clause-valid
returns-clause-valid c =
    let four : length c.args.rests ≡ 4 = search rules in
    shared7-valid c.args.report.now c.args.rests c.in_ok-copy.field-0 c.requires.legal c.in_ok-copy.ensures.copied
    (rw c.has_counterpart.ensures at c.if-not-has_counterpart.false) four c.requires.rests
