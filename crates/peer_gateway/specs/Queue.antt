-- What may be put into a face's outbox, as the code keeps it.

use Rattle.std.specs.Prelude.{ℕ, Bool, List, map, length}
use Rattle.face_room.specs.Queues.{may_wait, puts, queued_after}
use Rattle.peer_gateway.specs.declared.queue.Queue.{Queue}

-- the octets of each of some datagrams
abbrev pub sizes_in : List (List ℕ) → List ℕ
sizes_in datagrams = map (λ (datagram : List ℕ). length datagram) datagrams

-- how many octets may wait
abbrev pub may_of : Queue → ℕ → Bool
may_of q octets = may_wait q.bounds q.kept octets

-- whether each of some datagrams is put, one after the other, and what is so then
abbrev pub puts_by : Queue → List (List ℕ) → List Bool
puts_by q datagrams = puts (may_of q) q.queued (sizes_in datagrams)

abbrev pub queue_after : Queue → List (List ℕ) → Queue
queue_after q datagrams = record q { queued = queued_after (may_of q) q.queued (sizes_in datagrams) }
