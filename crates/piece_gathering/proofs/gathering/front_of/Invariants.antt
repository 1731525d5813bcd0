use Rattle.std.proofs.Common.{◌≡◌, ◌-◌, ◌≤◌, length, drop}
use Rattle.piece_gathering.specs.declared.piece.TheConstants.{BLOCK_MAX}
use Rattle.piece_gathering.specs.Gathered.{front_from, front_of}
use Rattle.piece_gathering.specs.Fronts.{front_value}
use Rattle.piece_gathering.proofs.gathering.front_of.Given as goal

abbrev pub invariant-joining : goal.invariant-joining
invariant-joining l = record {
  all : front_from l.wanted (front_value l.front) (drop l.front.count l.waiting.items) ≡ front_of l.wanted l.waiting.items;
  within : l.front.count ≤ length l.waiting.items;
  fits : l.front.size ≤ BLOCK_MAX;
}

abbrev pub decreases-joining : goal.decreases-joining
decreases-joining l = length l.waiting.items - l.front.count
