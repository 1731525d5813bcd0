use Rattle.std.proofs.Common.{arith}
use Rattle.bundle7.specs.Eid.{eid}
use Rattle.bundle7.proofs.CallLemmas.{eid_front-found, eid_front-only, eid_front-refused, eid_front-memory}
use Rattle.bundle7.proofs.eid.read_eid.Goals as goal

pub returns-clause-found : goal.returns-clause-found
returns-clause-found c = eid_front-found eid c.args.bytes.now c.front_eid.result (λ i. omega (arith, c.type_inv.bytes i)) c.front_eid.ensures

pub returns-clause-only : goal.returns-clause-only
returns-clause-only c = eid_front-only eid c.args.bytes.now c.front_eid.result c.front_eid.ensures

pub returns-clause-refused : goal.returns-clause-refused
returns-clause-refused c = eid_front-refused eid c.args.bytes.now c.front_eid.result c.front_eid.ensures

pub returns-clause-memory : goal.returns-clause-memory
returns-clause-memory c = eid_front-memory eid c.args.bytes.now c.front_eid.result (λ i. omega (arith, c.type_inv.bytes i)) c.front_eid.ensures
