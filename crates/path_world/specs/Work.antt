-- How much is left of a drain in a path world of the code, which keeps datagrams.

use Rattle.std.specs.Prelude.{ℕ, ◌+◌, ◌-◌, ◌*◌, ◌^◌, List, [], ◌∷◌, drop}
use Rattle.ltp_segment.specs.Reading.{segment_of}
use Rattle.ltp_drain.specs.Left.{senders_left}
use Rattle.ltp_engine.specs.Values.{EngineValue}
use Rattle.ltp_world.specs.Work.{read_burden}
use Rattle.path_drain.specs.Left.{session_left}
use Rattle.path_laws.specs.Path.{PathSetup}
use Rattle.path_world.specs.declared.sent.Sent.{Sent}
use Rattle.path_world.specs.Values.{PathValue, setup_of}

-- no engine takes a longer block
abbrev pub most_of : PathSetup → ℕ
most_of s = s.nodes.0.most + s.nodes.1.most + s.gate.parties.0.most + s.gate.parties.1.most

-- what is left of the sessions that an engine sends, and of those that it may yet begin
abbrev pub value_left : ℕ → EngineValue → ℕ
value_left most v = (2 ^ 32 - v.next) * session_left most + senders_left v.senders

unfoldable pub datagrams_burden : List Sent → ℕ
datagrams_burden [] = 0
datagrams_burden (d ∷ ds) = read_burden (segment_of d.datagram) + datagrams_burden ds

-- at the four engines, and of the datagrams all but the first k
abbrev pub left_of : PathValue → ℕ → ℕ
left_of v k =
    value_left (most_of (setup_of v)) v.nodes.0 + value_left (most_of (setup_of v)) v.gate.engines.0
    + value_left (most_of (setup_of v)) v.gate.engines.1
    + value_left (most_of (setup_of v)) v.nodes.1 + datagrams_burden (drop k v.sent)
