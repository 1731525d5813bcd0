use Rattle.std.proofs.Common.{◌≡◌, ◌++◌, take}
use Rattle.bundle6.specs.Numbering.{lent_out}
use Rattle.bundle6.proofs.numbering.lend_all.Given as goal

abbrev pub invariant-lending : goal.invariant-lending
invariant-lending l = lent_out l.found.items ≡ lent_out l.initial.found.items ++ take l.at l.refs
