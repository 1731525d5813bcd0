-- What an outside in memory keeps.

use Rattle.std.specs.Prelude.{List, [], ◌∷◌, ◌++◌, map}
use Rattle.journal_file.specs.Values.{RecordValue, a_begun, a_done, a_mark, a_clear, a_reserved}
use Rattle.journal_file.specs.Ties.{kept_of}
use Rattle.gate_edges.specs.Ahead.{Given, LinkAhead}
use Rattle.gate_edges.specs.declared.mem_acts.MemAct.{MemAct}
use Rattle.gate_edges.specs.declared.mem_acts.MemAct.TheVariants as acts
use Rattle.gate_edges.specs.declared.mem_records.MemRecord.{MemRecord}
use Rattle.gate_edges.specs.declared.mem_records.MemRecord.TheVariants as records
use Rattle.gate_edges.specs.Made.{Made, sent, lost, shown, written, committed, installed}

-- a record that is kept in memory
abbrev pub value_of : MemRecord → RecordValue
value_of (records.Begun p) = a_begun p
value_of (records.Done id how) = a_done id how
value_of (records.Marked mark) = a_mark mark
value_of (records.Clear face session) = a_clear face session
value_of (records.Reserved face number) = a_reserved face number

-- what an act is of those that are made outside
abbrev pub made_in : MemAct → List Made
made_in (acts.Sent face datagram) = sent face datagram ∷ []
made_in (acts.Lost face datagram) = lost face datagram ∷ []
made_in (acts.Wrote text) = written text
made_in (acts.Shown text) = shown text ∷ []
made_in (acts.Committed records) = committed (map value_of records.items) ∷ []
made_in (acts.Installed kept) = installed (kept_of kept) ∷ []

-- a face of which a poll gives this after what comes already
abbrev pub with_given : Given → LinkAhead → LinkAhead
with_given given link = record link { gives = link.gives ++ given ∷ [] }
