use Rattle.std.proofs.Common.{sym, subst}
use Rattle.std.proofs.lemmas.Bool.{false≢true}
use Rattle.bundle_meaning.specs.Reports.{IsReport}
use Rattle.bundle_meaning.specs.Creation.{id7_of}
use Rattle.status_reports.proofs.PairLemmas.{said6, pair6-there, shared6-valid, below}
use Rattle.status_reports.proofs.pairing6.shared_from6.Goals as goal

pub returns-clause-paired : goal.returns-clause-paired
returns-clause-paired c =
    pair6-there c.args.report.now c.args.no_time _ c.requires.legal c.requires.mask
    (said6 c.args.report.now c.args.no_time c.stamps_of.result c.rests_of.result c.in_ok-copy.field-0 c.in-Ok.id
    c.stamps_of.ensures c.rests_of.ensures c.in_ok-copy.ensures.copied c.in-Ok.ensures.paired)

pub returns-clause-valid : goal.returns-clause-valid
returns-clause-valid c =
    let said = said6 c.args.report.now c.args.no_time c.stamps_of.result c.rests_of.result c.in_ok-copy.field-0 c.in-Ok.id
    c.stamps_of.ensures c.rests_of.ensures c.in_ok-copy.ensures.copied c.in-Ok.ensures.paired in
    subst IsReport (sym said)
    (shared6-valid c.args.report.now c.args.no_time c.requires.legal c.requires.mask (rw c.times_fit.ensures at c.if-not-times_fit.false)
    (below (id7_of c.args.report.now.seconds c.args.report.now.sequence).millis (λ large. false≢true (c.in-Ok.ensures.refused.1 large))))
