use Rattle.std.proofs.Common.{subst, sym, ◌∙◌}
use Rattle.ltp_audit.specs.Held.{HeldIn}
use Rattle.ltp_audit.specs.declared.places.TheConstants.{LAST}
use Rattle.ltp_audit.proofs.KeyLemmas.{name_cmp-is}
use Rattle.ltp_audit.proofs.HeldLemmas.{covers-none}
use Rattle.ltp_audit.proofs.red_parts.RedParts.take_places.Goals as goal

pub returns-in-Some-clause-places : goal.returns-in-Some-clause-places
returns-in-Some-clause-places c = λ octet held. subst (λ p. HeldIn p octet) (sym c.remove.ensures.value ∙ c.in-Some.is) held

pub returns-in-Some-clause-others : goal.returns-in-Some-clause-others
returns-in-Some-clause-others c = λ o n other. c.remove.ensures.updates.2 (o, n) (name_cmp-is c.args.name.originator c.args.name.number o n ∙ other)

pub returns-in-None-clause-places : goal.returns-in-None-clause-places
returns-in-None-clause-places c = λ octet held. covers-none _ LAST octet c.none.ensures.places c.none.ensures.limit
    (subst (λ p. HeldIn p octet) (sym c.remove.ensures.value ∙ c.in-None.is) held)

pub returns-in-None-clause-others : goal.returns-in-None-clause-others
returns-in-None-clause-others c = λ o n other. c.remove.ensures.updates.2 (o, n) (name_cmp-is c.args.name.originator c.args.name.number o n ∙ other)
