-- What the versions in memory keep: their room was taken when they were made.
use Rattle.std.specs.Prelude.{ℕ, ◌+◌, List, [], ◌∷◌, ◌++◌, Bool, true, false, Option, None, Some, length, nat_lt, nat_le, not, ◌&&◌, drop, sum_by, if◌then◌else◌}
use Rattle.edge_traits.specs.Faults.{one_more, fails_next, after_next}

-- ---- a source

-- a source in memory as it stands: the octets left, which reads are to fail, its faults
pub record MemSourceNow : Type 0 where
  pub left : List ℕ
  pub failing : List Bool
  pub faults : ℕ

-- a source in memory after a read into so much room: the room was filled as far as its octets
-- reach, or the read failed
abbrev pub after_read : MemSourceNow → ℕ → MemSourceNow
after_read s room = record {
  left = if fails_next s.failing then s.left else drop room s.left;
  failing = after_next s.failing;
  faults = if fails_next s.failing then one_more s.faults else s.faults;
}

-- ---- a sink

-- octets that are kept: how many have room, those kept, and whether a later piece was lost
pub record Keeping : Type 0 where
  pub room : ℕ
  pub octets : List ℕ
  pub lost : Bool

-- what is told of the octets so far, unless some were lost
abbrev pub unless_lost : {X : Type 0} → Bool → X → Option X
unless_lost true held = None
unless_lost false held = Some held

-- what is kept after a piece more: all of it, where it fits within the room and none was lost
-- before. So the octets kept are always a front of those written.
abbrev pub kept_after : Keeping → List ℕ → Keeping
kept_after k piece =
    if not k.lost && nat_le (length k.octets + length piece) k.room
    then record { room = k.room; octets = k.octets ++ piece; lost = false }
    else record { room = k.room; octets = k.octets; lost = true }

-- a sink in memory as it stands: what it keeps, which writes are to fail, its faults
pub record MemSinkNow : Type 0 where
  pub kept : Keeping
  pub failing : List Bool
  pub faults : ℕ

-- a sink in memory after a write of the piece: it is kept, or the write failed
abbrev pub after_write : MemSinkNow → List ℕ → MemSinkNow
after_write s piece = record {
  kept = if fails_next s.failing then s.kept else kept_after s.kept piece;
  failing = after_next s.failing;
  faults = if fails_next s.failing then one_more s.faults else s.faults;
}

-- ---- a link

-- datagrams that are kept: how many octets and how many datagrams have room, and those so far,
-- told as long as all had room
pub record KeepingGone : Type 0 where
  pub room : ℕ
  pub gone : Option (List (List ℕ))

-- which datagrams are gone after one more: all of them, where fewer than the room were gone and
-- their octets and its own fit within the room
abbrev pub gone_within : ℕ → Option (List (List ℕ)) → List ℕ → Option (List (List ℕ))
gone_within room None datagram = None
gone_within room (Some gone) datagram =
    if nat_lt (length gone) room && nat_le (sum_by length gone + length datagram) room
    then Some (gone ++ datagram ∷ []) else None

-- a link in memory as it stands: the datagrams to come, its room, those gone, which calls are to
-- fail, its faults
pub record MemLinkNow : Type 0 where
  pub coming : List (List ℕ)
  pub room : ℕ
  pub gone : Option (List (List ℕ))
  pub failing : List Bool
  pub faults : ℕ

-- a link in memory with one datagram more to come
abbrev pub with_coming : MemLinkNow → List ℕ → MemLinkNow
with_coming l datagram = record {
  coming = l.coming ++ datagram ∷ [];
  room = l.room;
  gone = l.gone;
  failing = l.failing;
  faults = l.faults;
}

-- a link in memory after a poll: the first datagram was taken, or the poll failed
abbrev pub after_poll : MemLinkNow → MemLinkNow
after_poll l = record {
  coming = if fails_next l.failing then l.coming else drop 1 l.coming;
  room = l.room;
  gone = l.gone;
  failing = after_next l.failing;
  faults = if fails_next l.failing then one_more l.faults else l.faults;
}

-- a link in memory after the datagram was sent: it is kept, or the sending failed
abbrev pub after_send : MemLinkNow → List ℕ → MemLinkNow
after_send l datagram = record {
  coming = l.coming;
  room = l.room;
  gone = if fails_next l.failing then l.gone else gone_within l.room l.gone datagram;
  failing = after_next l.failing;
  faults = if fails_next l.failing then one_more l.faults else l.faults;
}
