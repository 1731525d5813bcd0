use Rattle.std.proofs.Common.{arith}
use Rattle.cbor_lite.proofs.HeadLaws.{any-found, any-only, any-fault}
use Rattle.cbor_lite.proofs.head.read_head.Goals as goal

pub returns-clause-found : goal.returns-clause-found
returns-clause-found c = any-found c.args.bytes.now c.any_head.result (λ i. omega (arith, c.type_inv.bytes i)) c.any_head.ensures

pub returns-clause-only : goal.returns-clause-only
returns-clause-only c = any-only c.args.bytes.now c.any_head.result c.any_head.ensures

pub returns-clause-fault : goal.returns-clause-fault
returns-clause-fault c = any-fault c.args.bytes.now c.any_head.result (λ i. omega (arith, c.type_inv.bytes i)) c.any_head.ensures
