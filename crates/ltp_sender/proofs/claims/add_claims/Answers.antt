use Rattle.std.proofs.Common.{List, sym, ap, subst, arith}
use Rattle.ltp_segment.specs.declared.segment.Claim.{Claim}
use Rattle.ltp_segment.specs.Claims.{claims_left}
use Rattle.ltp_session.specs.Claims.{with_claims}
use Rattle.ltp_sender.proofs.ClaimLemmas.{AreAdded, AreAdded-first, AreAdded-fit, AreAdded-next, AreAdded-last, length-with_claims}
use Rattle.ltp_sender.proofs.claims.add_claims.Goals as goal

pub adding-init : goal.adding-init
adding-init c =
    subst (λ (claims : List Claim). AreAdded c.args.lower c.args.upper claims c.args.claimed.now
    (with_claims c.args.lower (claims_left c.args.claims) c.args.claimed.now))
    (ap claims_left (sym c.into_iter-claim-iterator.ensures.into_iter_gives))
    (AreAdded-first c.args.lower c.args.upper (claims_left c.args.claims) c.args.claimed.now c.requires.legal)

pub overflow_add-from : goal.overflow_add-from
overflow_add-from c =
    let fit = AreAdded-fit c.args.lower c.args.upper c.in-Some.claim _ _ _ _ c.requires.bounds c.in-Some.ensures.steps c.adding.invariant in
    let high = c.ranges.upper.fits in
    record { fits = omega (arith, fit, high) }

pub overflow_add-from-in-adding : goal.overflow_add-from-in-adding
overflow_add-from-in-adding c =
    let fit = AreAdded-fit c.args.lower c.args.upper c.in-Some.claim _ _ _ _ c.requires.bounds c.in-Some.ensures.steps c.adding.invariant in
    let high = c.ranges.upper.fits in
    record { fits = omega (arith, fit, high) }

pub cover-requires-clause-within : goal.cover-requires-clause-within
cover-requires-clause-within c =
    let fit = AreAdded-fit c.args.lower c.args.upper c.in-Some.claim _ _ _ _ c.requires.bounds c.in-Some.ensures.steps c.adding.invariant in
    let limit = c.adding.invariant.limit in
    let all = length-with_claims c.args.lower (claims_left c.args.claims) c.args.claimed.now in
    omega (arith, fit, limit, all, c.requires.within)

pub adding-preserved : goal.adding-preserved
adding-preserved c =
    let all = length-with_claims c.args.lower (claims_left c.args.claims) c.args.claimed.now in
    AreAdded-next c.args.lower c.args.upper c.in-Some.claim _ _ _ _ _ c.requires.bounds (omega (arith, all, c.requires.within))
    c.in-Some.ensures.steps c.adding.invariant c.in_ok-cover.ensures.covered

pub returns : goal.returns
returns c = AreAdded-last c.args.lower c.args.upper _ _ _ c.in-None.ensures.steps.0 c.adding.invariant
