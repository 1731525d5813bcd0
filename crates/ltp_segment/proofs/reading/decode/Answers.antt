use Rattle.std.proofs.Common.{arith}
use Rattle.wire_fields.proofs.FrontLemmas.{whole_text-found, whole_text-refused}
use Rattle.ltp_segment.specs.declared.fault.SegmentCause.TheVariants as causes
use Rattle.ltp_segment.specs.Views.{segment_value}
use Rattle.ltp_segment.specs.Table.{segment}
use Rattle.ltp_segment.specs.Ties.{refusal}
use Rattle.ltp_segment.proofs.SegmentLemmas.{seen-exact, seen-only, seen-refuses}
use Rattle.ltp_segment.proofs.reading.decode.Goals as goal

pub returns-clause-found : goal.returns-clause-found
returns-clause-found c = whole_text-found segment causes.Trailing segment_value refusal c.whole_segment.result c.args.datagram.now
    (λ i. omega (arith, c.type_inv.datagram i)) c.whole_segment.ensures

pub returns-clause-only : goal.returns-clause-only
returns-clause-only c = seen-only c.whole_segment.result c.args.datagram.now c.whole_segment.ensures

pub returns-clause-refused : goal.returns-clause-refused
returns-clause-refused c = whole_text-refused segment causes.Trailing segment_value refusal c.whole_segment.result c.args.datagram.now
    (λ i. omega (arith, c.type_inv.datagram i)) c.whole_segment.ensures

pub returns-clause-refuses : goal.returns-clause-refuses
returns-clause-refuses c = seen-refuses c.whole_segment.result c.args.datagram.now
    (λ i. omega (arith, c.type_inv.datagram i)) c.whole_segment.ensures

pub returns-clause-exact : goal.returns-clause-exact
returns-clause-exact c = seen-exact c.whole_segment.result c.args.datagram.now c.whole_segment.ensures
