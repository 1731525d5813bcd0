use Rattle.peer_half.proofs.ContactLemmas.{goes-in-contact}
use Rattle.peer_half.proofs.laws.goes_in_contact.Goals as goal

pub returns : goal.returns
returns c = goes-in-contact c.goes_out_in_contact.ensures
