use Rattle.contact_plan.proofs.ContactLemmas.{moments-are-apart}
use Rattle.contact_plan.proofs.laws.moments_are_apart.Goals as goal

pub returns : goal.returns
returns c = moments-are-apart
