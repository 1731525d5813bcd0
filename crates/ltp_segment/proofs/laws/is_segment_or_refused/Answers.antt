use Rattle.wire_fields.proofs.WholeLemmas.{exactly_one_whole}
use Rattle.ltp_segment.specs.declared.fault.SegmentCause.TheVariants as causes
use Rattle.ltp_segment.specs.Table.{segment}
use Rattle.ltp_segment.proofs.laws.is_segment_or_refused.Goals as goal

pub returns : goal.returns
returns c = exactly_one_whole segment causes.Trailing
