use Rattle.std.proofs.Common.{◌≡◌, ◌+◌, ◌-◌, sym, ap, ◌∙◌, subst, arith}
use Rattle.ltp_audit.specs.Recorded.{are_held}
use Rattle.ltp_audit.specs.Held.{HeldIn}
use Rattle.ltp_audit.proofs.RedPartLemmas.{left-fits, claims-more, claims-not}
use Rattle.ltp_audit.proofs.red_parts.RedParts.has_all.Goals as goal

pub claimed-preserved : goal.claimed-preserved
claimed-preserved c = (
  (_, (left-fits _ _ c.in-Some.claim _ _ c.claimed.invariant.0.1 c.in-Some.ensures.steps).1),
  λ octet held.
      let size : c.args.lower + c.in-Some.claim.offset + c.in-Some.claim.length - (c.args.lower + c.in-Some.claim.offset) ≡ c.in-Some.claim.length = omega arith in
      claims-more octet c.args.lower c.in-Some.claim _ _ _ c.in-Some.ensures.steps
      (ap (are_held octet (c.args.lower + c.in-Some.claim.offset)) (sym size)
      ∙ (sym (c.are_held.ensures octet (subst (λ p. HeldIn p octet) (sym c.get-places.ensures.value) held)) ∙ c.if-not-are_held.false))
      (c.claimed.invariant.1 octet held),
)

pub returns-then-not-are_held : goal.returns-then-not-are_held
returns-then-not-are_held c = λ octet held.
    let size : c.args.lower + c.in-Some.claim.offset + c.in-Some.claim.length - (c.args.lower + c.in-Some.claim.offset) ≡ c.in-Some.claim.length = omega arith in
    claims-not octet c.args.lower c.in-Some.claim _ _ _ c.in-Some.ensures.steps
    (ap (are_held octet (c.args.lower + c.in-Some.claim.offset)) (sym size)
    ∙ (sym (c.are_held.ensures octet (subst (λ p. HeldIn p octet) (sym c.get-places.ensures.value) held)) ∙ c.if-not-are_held.true))
    (c.claimed.invariant.1 octet held)
