-- Why a run stops where a call on the journal isn't done.

use Rattle.std.proofs.Common.{◌≡◌, Err}
use Rattle.edge_traits.specs.Faults.{Calls}
use Rattle.edge_traits.proofs.FaultsLemmas.{NoneFailed-same}
use Rattle.store_traits.specs.declared.fault.StoreFault.{StoreFault}
use Rattle.store_traits.specs.declared.fault.StoreFault.TheVariants as faults
use Rattle.gate_edges.specs.Made.{Stored}
use Rattle.gate_run.specs.Outcome.{of_store}
use Rattle.gate_run.specs.Stages.{StopsStoring, StopsWriting}
use Rattle.gate_run.specs.declared.stop.Stop.{Stop}

pub stopped-storing : (T X : Type 0) (fault : StoreFault) (stop : Stop) (before now : Calls)
    → stop ≡ of_store fault → Stored {T = T} (Err fault) before now → StopsStoring {X = X} (Err stop) before now
stopped-storing T X faults.Failed stop before now is stored = rw is stored
stopped-storing T X faults.Memory stop before now is same = rw (is, same) (NoneFailed-same before)

pub stopped-unwritten : (X : Type 0) (fault : StoreFault) (stop : Stop) (before now : Calls)
    → stop ≡ of_store fault → now ≡ before → StopsWriting {X = X} (Err stop) before now
stopped-unwritten X faults.Failed stop before now is same = rw (is, same) (NoneFailed-same before)
stopped-unwritten X faults.Memory stop before now is same = rw (is, same) (NoneFailed-same before)
