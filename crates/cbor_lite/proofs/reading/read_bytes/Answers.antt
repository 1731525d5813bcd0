use Rattle.std.proofs.Common.{arith}
use Rattle.cbor_lite.proofs.StringLaws.{string-found, string-only, string-fault}
use Rattle.cbor_lite.proofs.reading.read_bytes.Goals as goal

pub returns-clause-found : goal.returns-clause-found
returns-clause-found c = string-found 2 c.args.bytes.now c.read_string.result (λ i. omega (arith, c.type_inv.bytes i)) c.read_string.ensures

pub returns-clause-only : goal.returns-clause-only
returns-clause-only c = string-only 2 c.args.bytes.now c.read_string.result c.read_string.ensures

pub returns-clause-fault : goal.returns-clause-fault
returns-clause-fault c = string-fault 2 c.args.bytes.now c.read_string.result (λ i. omega (arith, c.type_inv.bytes i)) c.read_string.ensures
