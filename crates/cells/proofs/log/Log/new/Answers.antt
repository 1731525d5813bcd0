use Rattle.std.proofs.Common.{refl}
use Rattle.cells.specs.Laid.{laid}
use Rattle.cells.proofs.log.Log.new.Goals as goal

pub invariant_of-result : goal.invariant_of-result
unfolding laid
invariant_of-result c = rw (c.new.ensures.items, c.new-2.ensures.items) (record { size = refl; reaches = refl })

pub returns : goal.returns
unfolding laid
returns c = rw (c.new-2.ensures.items) refl
