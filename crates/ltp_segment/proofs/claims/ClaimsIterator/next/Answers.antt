use Rattle.std.proofs.Common.{length, ap, sym, arith}
use Rattle.ltp_segment.proofs.ClaimsLemmas.{claims_in-none, claims_in-end, claims_in-next}
use Rattle.ltp_segment.proofs.claims.ClaimsIterator.next.Goals as goal

pub returns-then-self-eq0-clause-steps : goal.returns-then-self-eq0-clause-steps
returns-then-self-eq0-clause-steps c =
    let none = claims_in-none c.args.self.now.count c.args.self.now.rest.now c.if-self-eq0.true in (none, none)

pub returns-in_err-claim-clause-steps : goal.returns-in_err-claim-clause-steps
returns-in_err-claim-clause-steps c =
    let none = claims_in-end c.args.self.now.count c.args.self.now.rest.now (sym c.in_err-claim.ensures) in
    rw c.from_residual.ensures (none, none)

pub returns-clause-steps : goal.returns-clause-steps
returns-clause-steps c =
    claims_in-next c.args.self.now.count c.args.self.now.rest.now c.in_ok-claim.claim c.in_ok-claim.rest.now
    c.if-self-eq0.false (sym c.in_ok-claim.ensures)

pub returns-clause-goes : goal.returns-clause-goes
returns-clause-goes c =
    let next = claims_in-next c.args.self.now.count c.args.self.now.rest.now c.in_ok-claim.claim c.in_ok-claim.rest.now
    c.if-self-eq0.false (sym c.in_ok-claim.ensures) in
    record { on = λ finite. (tt, tt, omega (arith, ap length next)); keeps = tt; rests = λ finite. tt }
