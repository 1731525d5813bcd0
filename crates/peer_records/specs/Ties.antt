-- Values of the code as those of the definitions.

use Rattle.std.specs.Prelude.{ℕ, ◌+◌, Bool, true, false, List, map, Option, None, Some}
use Rattle.std.specs.List.{flat_map}
use Rattle.gate_records.specs.declared.named.Named.{Named}
use Rattle.gate_records.specs.Named.{named_with}
use Rattle.peer_gateway.specs.declared.told.Added.{Added}
use Rattle.peer_gateway.specs.declared.told.BlockBegun.{BlockBegun}
use Rattle.peer_gateway.specs.Answers.{added_seen, begun_seen}
use Rattle.peer_records.specs.declared.sending.Sending.{Sending}
use Rattle.peer_records.specs.Keeping.{Waiting}
use Rattle.peer_records.specs.Records.{Going, waiting_with, all_go}

-- the pieces of a session
abbrev pub named_of : Sending → List Named
named_of s = map (named_with s.face s.session) s.ids.items

abbrev pub named_all : List Sending → List Named
named_all sessions = flat_map named_of sessions

-- these wait, and the sessions are as before
abbrev pub with_waiting : Going → Waiting × Waiting → Going
with_waiting g waiting = record { waiting = waiting; named = g.named }

-- these are in sessions, and those that wait are as before
abbrev pub with_named : Going → List Named → Going
with_named g named = record { waiting = g.waiting; named = named }

-- the id that a piece is given, after the greatest one so far; a report has none
abbrev pub id_with : ℕ → Bool → Option ℕ
id_with greatest true = None
id_with greatest false = Some (greatest + 1)

-- and the greatest one then
abbrev pub greatest_with : ℕ → Bool → ℕ
greatest_with greatest true = greatest
greatest_with greatest false = greatest + 1

-- ---- what the code is told of a step

-- pieces are added after the greatest id so far
abbrev pub added_all : ℕ → List Added → Going → Going
added_all greatest added g = with_waiting g (waiting_with greatest (map added_seen added) g.waiting)

-- blocks begin
abbrev pub begun_all : List BlockBegun → Going → Going
begun_all begun g = all_go (map begun_seen begun) g
