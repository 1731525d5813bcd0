-- What is kept stays within its bounds, also where memory runs out.
use Rattle.std.proofs.Common.{sym, subst}
use Rattle.fragments.specs.Again.{AreKept}
use Rattle.fragments.proofs.KnownLemmas.{kept-others, kept-after}
use Rattle.fragments.proofs.joining.Joiner.added.Goals as goal

pub invariant_of-self : goal.invariant_of-self
invariant_of-self c =
    subst AreKept (sym c.in-Ok.ensures.taken.1)
    (kept-after c.self.inside.joins.items c.args.full.now c.in_ok-part.part
    (sym (rw c.as_slice.ensures.value at c.in_ok-part.ensures)) c.self.invariant)

pub invariant_of-self-in-Err : goal.invariant_of-self-in-Err
invariant_of-self-in-Err c =
    subst AreKept (sym c.in-Err.ensures.lost)
    (kept-others c.self.inside.joins.items c.args.full.now.shared c.in_ok-part.part
    (sym (rw c.as_slice.ensures.value at c.in_ok-part.ensures)) c.self.invariant)

pub returns-in-Ok-clause-bounded : goal.returns-in-Ok-clause-bounded
returns-in-Ok-clause-bounded c = (invariant_of-self c).bounded

pub returns-in-Err-clause-bounded : goal.returns-in-Err-clause-bounded
returns-in-Err-clause-bounded c = (invariant_of-self-in-Err c).bounded
