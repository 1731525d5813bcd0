use Rattle.std.proofs.Common.{◌≡◌, ◌++◌, take}
use Rattle.bundle_meaning.specs.Body.{numbers_octets}
use Rattle.bundle_meaning.proofs.writing.write_numbers.Given as goal

abbrev pub invariant-loop-number : goal.invariant-loop-number
invariant-loop-number l = l.out.items ≡ l.initial.out.items ++ numbers_octets (take l.number-index l.numbers)
