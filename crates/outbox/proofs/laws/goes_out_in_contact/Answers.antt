use Rattle.outbox.proofs.ContactLemmas.{goes-out-in-contact}
use Rattle.outbox.proofs.laws.goes_out_in_contact.Goals as goal

pub returns : goal.returns
returns c = goes-out-in-contact
