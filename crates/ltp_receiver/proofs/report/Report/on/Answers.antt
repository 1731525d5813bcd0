use Rattle.std.proofs.Common.{arith}
use Rattle.ltp_receiver.specs.declared.report.TheConstants.{MOST_CLAIMS}
use Rattle.ltp_receiver.proofs.ReportLemmas.{end-within, report-legal, report-made}
use Rattle.ltp_receiver.proofs.report.Report.on.Goals as goal

pub cut_after-upper-requires : goal.cut_after-upper-requires
cut_after-upper-requires c =
    rw (c.deref.ensures.value, c.in_ok-claims.ensures)
    (omega (arith, end-within MOST_CLAIMS c.args.upper c.args.places.now, c.ranges.upper.fits))

pub invariant_of-result : goal.invariant_of-result
invariant_of-result c =
    report-legal MOST_CLAIMS c.args.serial c.args.checkpoint c.args.upper c.cut_after-upper.result c.args.places.now c.in_ok-claims.claims.items
    (omega arith) c.requires.named c.requires.some c.ranges.serial.fits c.ranges.checkpoint.fits c.cut_after-upper.type_inv
    c.in_ok-claims.ensures (rw (c.deref.ensures.value, c.in_ok-claims.ensures, c.count.ensures) at c.cut_after-upper.ensures)

pub returns : goal.returns
returns c =
    report-made MOST_CLAIMS c.args.serial c.args.checkpoint c.args.upper c.cut_after-upper.result c.args.places.now c.in_ok-claims.claims.items
    c.in_ok-claims.ensures (rw (c.deref.ensures.value, c.in_ok-claims.ensures, c.count.ensures) at c.cut_after-upper.ensures)
