use Rattle.std.proofs.Common.{◌≡◌, ◌<◌, ◌∷◌, arith, length}
use Rattle.ltp_receiver.specs.declared.report.TheConstants.{MOST_CLAIMS}
use Rattle.ltp_receiver.proofs.ReportLemmas.{claims-start, claims-more}
use Rattle.ltp_receiver.proofs.report.claims_below.Goals as goal

pub claiming-init : goal.claiming-init
claiming-init c =
    rw (c.in_ok-claims.ensures.items, c.into_iter-run-iterator.ensures.into_iter_gives, c.runs-run-items.ensures)
    (claims-start MOST_CLAIMS c.args.upper c.args.places.now)

pub claiming-preserved : goal.claiming-preserved
claiming-preserved c =
    let runs : c.claiming.run-iterator ≡ c.in-Some.run' ∷ c.next.new.self = c.in-Some.ensures.steps in
    let room : length c.claiming.claims.items < MOST_CLAIMS = omega (arith, c.if-len-ge-MOST_CLAIMS.false, c.len.ensures) in
    claims-more MOST_CLAIMS c.args.upper c.claiming.claims.items c.push.new.self.items c.in-Some.run' c.next.new.self _
    (rw runs at c.claiming.invariant) (omega (arith, c.if-run-upper.false)) room (rw c.min.ensures at c.in_ok-push.ensures.items)
