-- Nothing is summed.
use Rattle.std.proofs.Common.{refl}
use Rattle.bundle7.proofs.SumLemmas.{sums-none}
use Rattle.bundle7.proofs.check.Sum.new.Goals as goal

pub returns-clause-sums : goal.returns-clause-sums
returns-clause-sums c = λ text within. sums-none text _ refl within c.new.ensures c.new-2.ensures
