-- Which datagrams wait in a face's outbox, of those that are made one after the other (own rule).

use Rattle.std.specs.Prelude.{ℕ, ◌+◌, nat_le, Bool, ◌&&◌, if◌then◌else◌, List, [], ◌∷◌}
use Rattle.face_room.specs.declared.bounds.Bounds.{Bounds}
use Rattle.face_room.specs.Bounds.{half}

-- So many octets may wait in a face's outbox, while it keeps so many besides: they are no more than wait there
-- at most, and all that it keeps is at most half of its memory.
abbrev pub may_wait : Bounds → ℕ → ℕ → Bool
may_wait b kept octets = nat_le octets b.outbox && nat_le (kept + octets) (half b)

-- how many wait once a datagram was made: it is put where it may wait after those that do, and else dropped
abbrev pub queued_with : (may : ℕ → Bool) → ℕ → ℕ → ℕ
queued_with may queued octets = if may (queued + octets) then queued + octets else queued

-- whether each of some datagrams is put, by the octets that it has
unfoldable pub puts : (may : ℕ → Bool) → ℕ → List ℕ → List Bool
puts may queued [] = []
puts may queued (octets ∷ more) = may (queued + octets) ∷ puts may (queued_with may queued octets) more

-- how many octets wait then
unfoldable pub queued_after : (may : ℕ → Bool) → ℕ → List ℕ → ℕ
queued_after may queued [] = queued
queued_after may queued (octets ∷ more) = queued_after may (queued_with may queued octets) more
