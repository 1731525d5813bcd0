-- How a run went, by what the outside told before it and tells after it.

use Rattle.std.specs.Prelude.{◌≡◌, List, [], ◌∷◌, Option, None, Some}
use Rattle.std.specs.List.{flat_map}
use Rattle.edge_traits.specs.Content.{Gains, GainsFront}
use Rattle.edge_traits.specs.Faults.{Calls, NoneFailed, LastFailed}
use Rattle.store_traits.specs.declared.fault.StoreFault.{StoreFault}
use Rattle.store_traits.specs.declared.fault.StoreFault.TheVariants as store_faults
use Rattle.gate_cases.specs.declared.face.Face.{Face}
use Rattle.gate_edges.specs.Made.{Made, sent, lost, shown, written, committed, installed}
use Rattle.peer_half.specs.Acts.{Act}
use Rattle.peer_half.specs.Acts as acts
use Rattle.gate_run.specs.declared.status.GateStatus.{GateStatus}
use Rattle.gate_run.specs.declared.status.GateStatus.TheVariants.{Done, WriteFault, Memory, Journal, SessionsUsed}
use Rattle.gate_run.specs.declared.stop.Stop.{Stop}
use Rattle.gate_run.specs.declared.stop.Stop.TheVariants.{Fault, NoMemory, NoJournal}

-- what an act makes outside; a line is written octet by octet
abbrev pub made_by : Act → List Made
made_by (acts.sent face datagram) = sent face datagram ∷ []
made_by (acts.lost face datagram) = lost face datagram ∷ []
made_by (acts.said line) = written line
made_by (acts.shown text) = shown text ∷ []
made_by (acts.committed records) = committed records ∷ []
made_by (acts.installed kept) = installed kept ∷ []

abbrev pub made_by_all : List Act → List Made
made_by_all acts = flat_map made_by acts

-- where it is told what was made, it is exactly this; or a front of it, where the run ended early
abbrev pub MadeBy : List Act → GateStatus → Option (List Made) → Option (List Made) → Type 0
MadeBy acts Done before now = Gains before now (made_by_all acts)
MadeBy acts WriteFault before now = GainsFront before now (made_by_all acts)
MadeBy acts Memory before now = GainsFront before now (made_by_all acts)
MadeBy acts Journal before now = GainsFront before now (made_by_all acts)
MadeBy acts (SessionsUsed face) before now = now ≡ before

-- a run ends by a failed write if and only if one failed, and no write follows it
abbrev pub WentWriting : GateStatus → Calls → Calls → Type 0
WentWriting Done before now = NoneFailed before now
WentWriting WriteFault before now = LastFailed before now
WentWriting Memory before now = NoneFailed before now
WentWriting Journal before now = NoneFailed before now
WentWriting (SessionsUsed face) before now = NoneFailed before now

-- it ends by a failed call on the journal if and only if one failed, and no such call follows it
abbrev pub WentStoring : GateStatus → Calls → Calls → Type 0
WentStoring Done before now = NoneFailed before now
WentStoring WriteFault before now = NoneFailed before now
WentStoring Memory before now = NoneFailed before now
WentStoring Journal before now = LastFailed before now
WentStoring (SessionsUsed face) before now = NoneFailed before now

-- it ends for want of session numbers if and only if earlier runs have used all of a face
abbrev pub WentWithout : Option Face → GateStatus → Type 0
WentWithout None status = (face : Face) → status ≡ SessionsUsed face → ⊥
WentWithout (Some face) status = status ≡ SessionsUsed face

-- how a run ends that stopped
abbrev pub status_of : Stop → GateStatus
status_of Fault = WriteFault
status_of NoMemory = Memory
status_of NoJournal = Journal

-- why it stops where a call on the journal isn't done
abbrev pub of_store : StoreFault → Stop
of_store store_faults.Failed = NoJournal
of_store store_faults.Memory = NoMemory
