use Rattle.std.proofs.Common.{sym, subst}
use Rattle.status_reports.specs.Legal.{IsReport6}
use Rattle.status_reports.proofs.PairLemmas.{viewed6, pair6-back, report6-legal, report6-takes}
use Rattle.status_reports.proofs.pairing6.view6.Goals as goal

pub returns-clause-paired : goal.returns-clause-paired
returns-clause-paired c =
    pair6-back c.args.report.now _ c.requires
    (viewed6 c.args.report.now c.statuses_of.result c.times_of.result c.id_of-id.result c.in_ok-copy.field-0
    c.statuses_of.ensures c.times_of.ensures c.id_of-id.ensures c.in_ok-copy.ensures.copied)

pub returns-clause-legal : goal.returns-clause-legal
returns-clause-legal c =
    let viewed = viewed6 c.args.report.now c.statuses_of.result c.times_of.result c.id_of-id.result c.in_ok-copy.field-0
    c.statuses_of.ensures c.times_of.ensures c.id_of-id.ensures c.in_ok-copy.ensures.copied in
    subst IsReport6 (sym viewed) (report6-legal c.args.report.now c.requires)

pub returns-clause-mask : goal.returns-clause-mask
returns-clause-mask c = rw (c.statuses_of.ensures, c.times_of.ensures) (report6-takes c.args.report.now)
