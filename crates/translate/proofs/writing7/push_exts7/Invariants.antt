use Rattle.std.proofs.Common.{◌≡◌, ◌++◌, ◌+◌, ◌*◌, ◌≤◌, drop}
use Rattle.translate.specs.View7.{blocks7_of}
use Rattle.translate.proofs.writing7.push_exts7.Given as goal

abbrev pub invariant-adding : goal.invariant-adding
invariant-adding l = record {
  small : l.next ≤ l.first + 65 * l.ext-index;
  rest : l.blocks.items ++ blocks7_of l.exts l.next (drop l.ext-index l.exts)
      ≡ l.initial.blocks.items ++ blocks7_of l.exts l.first l.exts;
}
