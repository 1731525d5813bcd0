-- What comes to a half, where it is known what the outside will give.

use Rattle.std.specs.Prelude.{ℕ, zero, suc, Bool, true, false, List, [], ◌∷◌}
use Rattle.gate_cases.specs.declared.face.Face.{Face}
use Rattle.gate_edges.specs.Ahead.{Ahead, LinkAhead, Polled, failed, empty, gave, polled_of}
use Rattle.gate_edges.specs.Ahead.{link_past_poll, link_past_count, link_of, with_link}
use Rattle.gate_edges.specs.Ahead.{past_reading, reading_next}
use Rattle.gate_edges.specs.Ahead.{show_fails}
use Rattle.peer_half.specs.Half.{Came}

-- what polls of a link come to: the datagrams that they give, in order, whether the last of them
-- failed, and the link after them
pub record Taken : Type 0 where
  pub datagrams : List (List ℕ)
  pub poll_failed : Bool
  pub link : LinkAhead

-- a poll that comes to this, and the link after it; where it gives a datagram more polls follow
abbrev pub taken_by : Polled → LinkAhead → (more : Taken) → Taken
taken_by failed link more = record { datagrams = []; poll_failed = true; link = link }
taken_by empty link more = record { datagrams = []; poll_failed = false; link = link }
taken_by (gave datagram) link more = record {
  datagrams = datagram ∷ more.datagrams;
  poll_failed = more.poll_failed;
  link = more.link;
}

-- a link is polled until a poll gives nothing or fails, at most so many times
unfoldable pub takes : ℕ → LinkAhead → Taken
takes zero link = record { datagrams = []; poll_failed = false; link = link }
takes (suc n) link = taken_by (polled_of link) (link_past_poll link) (takes n (link_past_poll link))

-- a half polls at most so often
unfoldable pub most_polls : ℕ
most_polls = 256

-- what the polls of a face's half come to
abbrev pub taken_at : Face → Ahead → Taken
taken_at face ahead = takes most_polls (link_of face ahead)

-- the clocks were read, and the face's link was polled and asked how many datagrams from elsewhere were
-- dropped
abbrev pub past_polls : Face → Ahead → Ahead
past_polls face ahead =
    with_link face (link_past_count (taken_at face ahead).link) (past_reading ahead)

-- what comes to a face's half
unfoldable pub comes : Face → Ahead → Came
comes face ahead = record {
  reading = reading_next ahead;
  datagrams = (taken_at face ahead).datagrams;
  poll_failed = (taken_at face ahead).poll_failed;
  foreign = ((taken_at face ahead).link).dropped;
  old_failing = ((past_polls face ahead).old).failing;
  new_failing = ((past_polls face ahead).new).failing;
  show_fails = show_fails ahead;
}
