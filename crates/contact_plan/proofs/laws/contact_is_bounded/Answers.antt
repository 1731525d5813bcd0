use Rattle.contact_plan.proofs.ContactLemmas.{contact-is-bounded}
use Rattle.contact_plan.proofs.laws.contact_is_bounded.Goals as goal

pub returns : goal.returns
returns c = contact-is-bounded
