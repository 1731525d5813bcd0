-- What was read can be heard.

use Rattle.std.proofs.Common.{ℕ, List, Result, Ok, Err, IfOk}
use Rattle.ltp_segment.specs.declared.segment.Segment.{Segment}
use Rattle.ltp_segment.specs.declared.fault.SegmentFault.{SegmentFault}
use Rattle.ltp_segment.specs.Reading.{SpellsSegment}
use Rattle.ltp_segment.specs.Views.{content_value, segment_value}
use Rattle.ltp_engine.specs.Sides.{IsFit}
use Rattle.ltp_engine.proofs.LegalLemmas.{segment-fit}

pub read-fit : (read : Result Segment SegmentFault) (datagram : List ℕ) → IfOk read (λ s. SpellsSegment (segment_value s) datagram)
    → IfOk read (λ segment. IsFit (content_value segment.content))
read-fit (Ok segment) datagram found = segment-fit (segment_value segment) datagram found
read-fit (Err fault) datagram found = tt
