-- Each clause follows from the exact one, by the laws of formats.
use Rattle.std.proofs.Common.{arith}
use Rattle.waybill.specs.Cause.{refusal}
use Rattle.waybill.specs.Table.{waybill, bill_of}
use Rattle.wire_fields.proofs.FrontLemmas.{front-found, front-only, front-refused, front-refuses, front-stays}
use Rattle.waybill.proofs.reading.decode.Goals as goal

pub returns-clause-found : goal.returns-clause-found
returns-clause-found c = front-found (waybill 3) bill_of refusal c.read_waybill.result c.args.bytes.now (λ i. omega (arith, c.type_inv.bytes i)) c.read_waybill.ensures.exact

pub returns-clause-only : goal.returns-clause-only
returns-clause-only c = front-only (waybill 3) bill_of refusal c.read_waybill.result c.args.bytes.now c.read_waybill.ensures.exact

pub returns-clause-refused : goal.returns-clause-refused
returns-clause-refused c = front-refused (waybill 3) bill_of refusal c.read_waybill.result c.args.bytes.now (λ i. omega (arith, c.type_inv.bytes i)) c.read_waybill.ensures.exact

pub returns-clause-refuses : goal.returns-clause-refuses
returns-clause-refuses c = front-refuses (waybill 3) bill_of refusal c.read_waybill.result c.args.bytes.now (λ i. omega (arith, c.type_inv.bytes i)) c.read_waybill.ensures.exact

pub returns-clause-stays : goal.returns-clause-stays
returns-clause-stays c = front-stays (waybill 3) bill_of refusal c.read_waybill.result c.args.bytes.now (λ i. omega (arith, c.type_inv.bytes i)) c.read_waybill.ensures.exact
