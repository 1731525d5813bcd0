use Rattle.std.proofs.Common.{arith}
use Rattle.bundle7.specs.declared.fault.Cause7.TheVariants.{Eid}
use Rattle.bundle7.specs.Eid.{eid}
use Rattle.bundle7.proofs.CallLemmas.{eid_whole-found, eid_whole-only, eid_whole-refused, eid_whole-memory}
use Rattle.bundle7.proofs.eid.previous_of.Goals as goal

pub returns-clause-found : goal.returns-clause-found
returns-clause-found c = eid_whole-found eid Eid c.args.body.now c.whole_eid.result (λ i. omega (arith, c.type_inv.body i)) c.whole_eid.ensures

pub returns-clause-only : goal.returns-clause-only
returns-clause-only c = eid_whole-only eid Eid c.args.body.now c.whole_eid.result c.whole_eid.ensures

pub returns-clause-refused : goal.returns-clause-refused
returns-clause-refused c = eid_whole-refused eid Eid c.args.body.now c.whole_eid.result c.whole_eid.ensures

pub returns-clause-memory : goal.returns-clause-memory
returns-clause-memory c = eid_whole-memory eid Eid c.args.body.now c.whole_eid.result (λ i. omega (arith, c.type_inv.body i)) c.whole_eid.ensures
