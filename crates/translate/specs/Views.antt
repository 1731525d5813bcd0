-- What code found among blocks, seen as the values that the definitions give.

use Rattle.std.specs.Prelude.{Bool, true, false, Option, Some, None, Result, Ok, Err}
use Rattle.std.specs.Borrow.{Bor}
use Rattle.endpoint.specs.declared.name.Endpoint.{Endpoint}
use Rattle.bundle7.specs.declared.fault.EidFault.{EidFault}
use Rattle.bundle7.specs.declared.fault.EidFault.TheVariants as faults
use Rattle.bundle6.specs.declared.block.Block6.{Block6}
use Rattle.translate.specs.Reading6.{no_payload6}

-- the payload, or a block without octets
abbrev pub payload_found : Option (Bor Block6) → Block6
payload_found None = no_payload6
payload_found (Some block) = block.now

-- the octets were refused as an endpoint
abbrev pub is_refused : Result Endpoint EidFault → Bool
is_refused (Ok endpoint) = false
is_refused (Err faults.Eid) = true
is_refused (Err faults.Memory) = false
