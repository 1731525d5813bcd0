use Rattle.journal_file.proofs.slots.Book.take.Goals as goal

pub invariant_of-self-in-Done : goal.invariant_of-self-in-Done
invariant_of-self-in-Done c = (c.empty.ensures.rising, c.empty.ensures.bound _ c.self.invariant.1)
