use Rattle.contact_plan.proofs.ContactLemmas.{contact-goes-on}
use Rattle.contact_plan.proofs.laws.contact_goes_on.Goals as goal

pub returns : goal.returns
returns c = contact-goes-on
