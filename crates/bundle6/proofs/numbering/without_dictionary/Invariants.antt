use Rattle.std.proofs.Common.{◌≡◌, map, take}
use Rattle.bundle6.specs.Spelling.{numbers_of}
use Rattle.bundle6.specs.Numbering.{lent_out}
use Rattle.bundle6.proofs.numbering.without_dictionary.Given as goal

abbrev pub invariant-loop-endpoint : goal.invariant-loop-endpoint
invariant-loop-endpoint l = l.pairs.items ≡ map numbers_of (lent_out (take l.endpoint-index l.endpoints))
