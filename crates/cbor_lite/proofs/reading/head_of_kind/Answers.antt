use Rattle.std.proofs.Common.{arith}
use Rattle.cbor_lite.proofs.HeadLaws.{head-found, head-only, head-fault}
use Rattle.cbor_lite.proofs.reading.head_of_kind.Goals as goal

pub returns-clause-found : goal.returns-clause-found
returns-clause-found c = head-found c.args.kind c.args.bytes.now c.read_head_of.result (λ i. omega (arith, c.type_inv.bytes i)) c.read_head_of.ensures

pub returns-clause-only : goal.returns-clause-only
returns-clause-only c = head-only c.args.kind c.args.bytes.now c.read_head_of.result c.read_head_of.ensures

pub returns-clause-fault : goal.returns-clause-fault
returns-clause-fault c = head-fault c.args.kind c.args.bytes.now c.read_head_of.result (λ i. omega (arith, c.type_inv.bytes i)) c.read_head_of.ensures
