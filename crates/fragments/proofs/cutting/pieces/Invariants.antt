use Rattle.std.proofs.Common.{◌≡◌}
use Rattle.fragments.specs.Cutting.{pieces_from}
use Rattle.fragments.proofs.cutting.pieces.Given as goal

abbrev pub invariant-cutting : goal.invariant-cutting
invariant-cutting l = l.fulls.items ≡ pieces_from l.full l.size 0 l.i
