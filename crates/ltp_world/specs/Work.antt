-- How much is left to deliver in a world of the code, which keeps datagrams.

use Rattle.std.specs.Prelude.{ℕ, ◌+◌, List, [], ◌∷◌, drop, Result, Ok, Err}
use Rattle.ltp_segment.specs.declared.fault.SegmentCause.{SegmentCause}
use Rattle.ltp_segment.specs.Reading.{segment_of}
use Rattle.ltp_segment.specs.Values.{SegmentValue}
use Rattle.ltp_drain.specs.Left.{burden, senders_left}
use Rattle.ltp_world.specs.declared.sent.Sent.{Sent}
use Rattle.ltp_world.specs.Values.{WorldValue}

-- what a datagram weighs, as the segment that it is read as
abbrev pub read_burden : Result SegmentValue (ℕ × SegmentCause) → ℕ
read_burden (Ok s) = burden s.content
read_burden (Err refusal) = 1

unfoldable pub datagrams_burden : List Sent → ℕ
datagrams_burden [] = 0
datagrams_burden (d ∷ ds) = read_burden (segment_of d.datagram) + datagrams_burden ds

abbrev pub left_of : WorldValue → ℕ → ℕ
left_of v k =
    senders_left v.engines.0.senders + senders_left v.engines.1.senders
    + datagrams_burden (drop k v.sent)
