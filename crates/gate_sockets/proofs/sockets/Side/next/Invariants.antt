use Rattle.std.proofs.Common.{◌≡◌, ℕ, ◌+◌, ◌-◌, ◌^◌, min, zero, suc}
use Rattle.gate_sockets.proofs.sockets.Side.next.Given as goal

-- so many more were dropped: the greatest number that 64 bits show stays
abbrev pub dropped_after : (before more : ℕ) → ℕ
dropped_after before zero = before
dropped_after before (suc k) = min (before + suc k) (2 ^ 64 - 1)

abbrev pub invariant-foreign : goal.invariant-foreign
invariant-foreign l = l.self.foreign ≡ dropped_after l.initial.self.foreign l.counter
