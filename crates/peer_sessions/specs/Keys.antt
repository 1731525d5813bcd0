-- What an operator sets of a face among other implementations.

use Rattle.std.specs.Prelude.{ℕ, ◌/◌, List, [], ◌∷◌}
use Rattle.ltp_session.specs.Engine.{Party}
use Rattle.session_memory.specs.Memory.{Memory, nothing_remembered, marked_with}
use Rattle.face_room.specs.declared.bounds.Bounds.{Bounds}

-- Who is at a face; how many sessions there are each way, how many octets, and how many of them are wanted
-- in a block; how long a piece waits for others at most; and how many runs of numbers are remembered of
-- sessions that are over, and for how long. Of the party only these matter: the engine numbers, the first
-- session, the policy, and how many octets a block has at most.
pub record FaceKeys : Type 0 where
  pub party : Party
  pub bounds : Bounds
  pub wait_ms : ℕ
  pub remember : ℕ
  pub remember_ms : ℕ

-- some numbers are remembered for as long as the face is there
unfoldable pub with_marked : List ℕ → Memory → Memory
with_marked [] m = m
with_marked (n ∷ numbers) m = marked_with n (with_marked numbers m)

-- A face remembers in two lists, each of half the runs, from a moment on; and for as long as it is there, the
-- numbers of sessions of which an earlier run had claimed a part, and no whole block.
abbrev pub remembers_from : FaceKeys → ℕ → List ℕ → Memory
remembers_from k now marks = with_marked marks (nothing_remembered (k.remember / 2) k.remember_ms now)
