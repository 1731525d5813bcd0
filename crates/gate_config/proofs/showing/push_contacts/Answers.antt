use Rattle.gate_config.proofs.ListLemmas.{pushed, finished, contacts_shown-more, contacts_shown-end}
use Rattle.gate_config.proofs.showing.push_contacts.Goals as goal

pub contacts-preserved : goal.contacts-preserved
contacts-preserved c =
    rw c.in_ok-push_contact.ensures
    (pushed _ _ _ _ _ c.contacts.invariant (contacts_shown-more c.args.face c.args.contacts.now c.contacts.contact-index _ c.contacts-test.true))

pub returns : goal.returns
returns c = finished _ _ _ c.contacts.invariant (contacts_shown-end c.args.face c.args.contacts.now c.contacts.contact-index c.contacts-test.false)
