use Rattle.std.proofs.Common.{◌%◌, None, arith}
use Rattle.std.proofs.lemmas.List.{get_or_default}
use Rattle.ltp_segment.specs.Types.{segment_types, type_at}
use Rattle.ltp_segment.proofs.segment.SegmentType.said_by.Goals as goal

pub returns : goal.returns
unfolding type_at
returns c =
    rw c.from.ensures (get_or_default segment_types (c.args.control % 16) _ None (omega arith))
