use Rattle.std.proofs.Common.{◌≡◌, ◌++◌, length}
use Rattle.peer_sessions.specs.Sessions.{closes, to_trim}
use Rattle.peer_sessions.specs.Ties.{state_of, keys_in, IsWhole}
use Rattle.peer_sessions.proofs.parts.Parts.trim.Given as goal

abbrev pub invariant-trimming : goal.invariant-trimming
invariant-trimming l =
    IsWhole l.self
    × (l.self.keys ≡ l.initial.self.keys)
    × (l.gone.items ++ to_trim (keys_in l.self) (state_of l.self) ≡ to_trim (keys_in l.initial.self) (state_of l.initial.self))
    × (closes (to_trim (keys_in l.self) (state_of l.self)) (state_of l.self) ≡ closes (to_trim (keys_in l.initial.self) (state_of l.initial.self)) (state_of l.initial.self))

abbrev pub decreases-trimming : goal.decreases-trimming
decreases-trimming l = length l.self.engine.inbound.receivers
