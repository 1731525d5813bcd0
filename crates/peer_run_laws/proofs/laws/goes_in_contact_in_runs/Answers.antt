use Rattle.peer_run_laws.proofs.FaceLemmas.{goes-in-contact-in-runs}
use Rattle.peer_run_laws.proofs.laws.goes_in_contact_in_runs.Goals as goal

pub returns : goal.returns
returns c = goes-in-contact-in-runs c.goes_in_contact.ensures
