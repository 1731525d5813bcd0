use Rattle.std.proofs.Common.{◌≡◌, ◌+◌, ◌-◌, ◌≤◌, ◌++◌, take, drop}
use Rattle.std.specs.Vec.{vec_len, vec_capacity}
use Rattle.piece_gathering.proofs.gathering.move_front.Given as goal

abbrev pub invariant-moving : goal.invariant-moving
invariant-moving l = record {
  moved : l.pieces.items ≡ l.initial.pieces.items ++ take l.counter l.initial.waiting.items;
  left : l.waiting.items ≡ drop l.counter l.initial.waiting.items;
  room : vec_len l.pieces + (l.count - l.counter) ≤ vec_capacity l.pieces;
}
