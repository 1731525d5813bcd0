-- Each clause follows from the exact one, by the laws of whole texts.
use Rattle.std.proofs.Common.{arith}
use Rattle.waybill.specs.declared.fault.Cause.TheVariants as causes
use Rattle.waybill.specs.Cause.{refusal}
use Rattle.waybill.specs.Table.{waybill, bill_of}
use Rattle.wire_fields.proofs.FrontLemmas.{whole_text-found, whole_text-only, whole_text-refused, whole_text-refuses}
use Rattle.waybill.proofs.reading.decode_whole.Goals as goal

pub returns-clause-found : goal.returns-clause-found
returns-clause-found c = whole_text-found (waybill 3) causes.Trailing bill_of refusal c.read_all.result c.args.bytes.now (λ i. omega (arith, c.type_inv.bytes i)) c.read_all.ensures

pub returns-clause-only : goal.returns-clause-only
returns-clause-only c = whole_text-only (waybill 3) causes.Trailing bill_of refusal c.read_all.result c.args.bytes.now c.read_all.ensures

pub returns-clause-refused : goal.returns-clause-refused
returns-clause-refused c = whole_text-refused (waybill 3) causes.Trailing bill_of refusal c.read_all.result c.args.bytes.now (λ i. omega (arith, c.type_inv.bytes i)) c.read_all.ensures

pub returns-clause-refuses : goal.returns-clause-refuses
returns-clause-refuses c = whole_text-refuses (waybill 3) causes.Trailing bill_of refusal c.read_all.result c.args.bytes.now (λ i. omega (arith, c.type_inv.bytes i)) c.read_all.ensures
