use Rattle.window_world.proofs.WindowLemmas.{contact-early, new-sound}
use Rattle.window_world.proofs.world.WindowWorld.new.Goals as goal

pub new-link-requires-clause-moment : goal.new-link-requires-clause-moment
new-link-requires-clause-moment c =
    contact-early c.args.plan c.args.now c.elapsed-contact.result c.requires.moment c.elapsed-contact.ensures.elapsed

pub invariant_of-result : goal.invariant_of-result
invariant_of-result c =
    new-sound c.new-link.result c.args.plan c.args.now c.elapsed-contact.result c.requires.moment c.elapsed-contact.ensures.plan c.elapsed-contact.ensures.elapsed
    c.new-link.ensures.shows

pub returns-clause-contact : goal.returns-clause-contact
returns-clause-contact c = (invariant_of-result c).contact
