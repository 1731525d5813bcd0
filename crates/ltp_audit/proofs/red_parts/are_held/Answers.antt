use Rattle.std.proofs.Common.{subst, sym, ◌∙◌, arith}
use Rattle.std.specs.Option.{option_copied}
use Rattle.ltp_audit.specs.Held.{HeldIn}
use Rattle.ltp_audit.proofs.HeldLemmas.{covered-held, none-held}
use Rattle.ltp_audit.proofs.red_parts.are_held.Goals as goal

pub returns-in-Some : goal.returns-in-Some
returns-in-Some c = λ octet held.
    let high = c.ranges.to.fits in
    c.have.ensures ∙ covered-held c.in-Some.places.now octet c.args.from c.args.to
    (subst (λ o. HeldIn (option_copied o) octet) c.in-Some.is held) (omega (arith, c.requires)) (omega (arith, high))

pub returns-in-None : goal.returns-in-None
returns-in-None c = λ octet held.
    sym (none-held octet c.args.from c.args.to (subst (λ o. HeldIn (option_copied o) octet) c.in-None.is held) c.requires)
