use Rattle.std.proofs.Common.{◌≡◌, ◌-◌, ◌+◌, ◌≤◌, length}
use Rattle.translate.specs.View7.{free_from7, next_free7}
use Rattle.translate.proofs.writing7.next_free.Given as goal

abbrev pub invariant-passing : goal.invariant-passing
invariant-passing l = record {
  bound : l.free ≤ l.number + l.counter;
  rest : free_from7 (length l.exts - l.counter) l.exts l.free ≡ next_free7 l.exts l.number;
}
