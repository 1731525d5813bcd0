use Rattle.std.proofs.Common.{◌≡◌, ◌++◌, take}
use Rattle.bundle_meaning.specs.Body.{numbers_octets}
use Rattle.bundle_meaning.proofs.residue_new.write_rests.Given as goal

abbrev pub invariant-loop-rest : goal.invariant-loop-rest
invariant-loop-rest l = l.out.items ≡ l.initial.out.items ++ numbers_octets (take l.rest-index l.rests)
