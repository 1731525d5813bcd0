use Rattle.std.proofs.Common.{refl}
use Rattle.bundle_meaning.specs.Creation.{id7_of}
use Rattle.status_reports.specs.Views.{report6_lent}
use Rattle.status_reports.proofs.PairLemmas.{said6, pair6-there}
use Rattle.status_reports.proofs.report6.LentReport6.shared.Goals as goal

pub returns-clause-paired : goal.returns-clause-paired
returns-clause-paired c =
    let lent = report6_lent c.args.self.now in
    pair6-there lent c.args.no_time _ c.requires.legal c.requires.mask
    (said6 lent c.args.no_time c.stamps_of.result c.rests_of.result c.in_ok-owned.field-0 (id7_of lent.seconds lent.sequence)
    c.stamps_of.ensures c.rests_of.ensures c.in_ok-owned.ensures.owned refl)
