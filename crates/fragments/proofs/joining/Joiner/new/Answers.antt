use Rattle.std.proofs.Common.{sym, subst}
use Rattle.fragments.specs.Again.{IsBounded}
use Rattle.fragments.proofs.SmallLemmas.{bounded-none}
use Rattle.fragments.proofs.joining.Joiner.new.Goals as goal

pub returns-clause-bounded : goal.returns-clause-bounded
returns-clause-bounded c = subst IsBounded (sym c.new.ensures.items) bounded-none
