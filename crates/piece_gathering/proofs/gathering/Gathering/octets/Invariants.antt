use Rattle.std.proofs.Common.{◌≡◌, ◌-◌, ◌^◌, min, map}
use Rattle.piece_gathering.specs.Gathered.{octets_waiting}
use Rattle.piece_gathering.proofs.gathering.Gathering.octets.Given as goal

abbrev pub invariant-pieces : goal.invariant-pieces
invariant-pieces l = l.octets ≡ min (octets_waiting (map (λ piece. piece.now) l.yielded)) (2 ^ 64 - 1)
