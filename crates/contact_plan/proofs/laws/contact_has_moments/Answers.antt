use Rattle.contact_plan.proofs.ContactLemmas.{contact-has-moments}
use Rattle.contact_plan.proofs.laws.contact_has_moments.Goals as goal

pub returns : goal.returns
returns c = contact-has-moments
