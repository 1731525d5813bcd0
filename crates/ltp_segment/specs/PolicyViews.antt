-- A policy of the code, seen as its four values.

use Rattle.std.specs.Prelude.{Result, Ok, Err}
use Rattle.ltp_segment.specs.declared.policy.Policy.{Policy}
use Rattle.ltp_segment.specs.declared.policy.PolicyFault.{PolicyFault}
use Rattle.ltp_segment.specs.Policy.{PolicyValue}

abbrev pub policy_value : Policy → PolicyValue
policy_value p = record { segment = p.segment; timeout = p.timeout; limit = p.limit; cap = p.cap }

abbrev pub made : Result Policy PolicyFault → Result PolicyValue PolicyFault
made (Ok p) = Ok (policy_value p)
made (Err fault) = Err fault
