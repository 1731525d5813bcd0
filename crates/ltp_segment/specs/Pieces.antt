-- The content of a piece (RFC 5326, section 3.2.1): its fields with their conditions and causes.

use Rattle.std.specs.Prelude.{ℕ, ◌+◌, ◌^◌, ◌==◌, not, nat_lt, Bool, true, false}
use Rattle.wire_fields.specs.Format.{Format, give, such_that, ◌>>=◌}
use Rattle.wire_fields.specs.Words.{needs, any_octets, any_number}
use Rattle.ltp_segment.specs.declared.fault.SegmentCause.{SegmentCause}
use Rattle.ltp_segment.specs.declared.fault.SegmentCause.TheVariants.{Number, Range, Serial}
use Rattle.ltp_segment.specs.declared.segment.PieceKind.{PieceKind}
use Rattle.ltp_segment.specs.Kinds.{is_checkpoint}
use Rattle.ltp_segment.specs.Values.{ContentValue, a_piece}

-- a length with which the piece ends below 2 ^ 64
abbrev pub size_from : ℕ → Format SegmentCause ℕ
size_from offset = such_that (any_number Number) (λ n. needs (nat_lt (offset + n) (2 ^ 64)) Range)

-- a number that isn't 0
abbrev pub serial : Format SegmentCause ℕ
serial = such_that (any_number Number) (λ n. needs (not (n == 0)) Serial)

-- the serial numbers of a checkpoint and of the report that it answers, which may be 0
unfoldable pub serials : Bool → Format SegmentCause (ℕ × ℕ)
serials true = do
  checkpoint ← serial
  report ← any_number Number
  give (checkpoint, report)
serials false = give (0, 0)

unfoldable pub piece_of : PieceKind → Format SegmentCause ContentValue
piece_of kind = do
  service ← any_number Number
  offset ← any_number Number
  size ← size_from offset
  marks ← serials (is_checkpoint kind)
  body ← any_octets size Number
  give (a_piece (record {
    kind = kind;
    service = service;
    offset = offset;
    checkpoint = marks.0;
    report = marks.1;
    body = body;
  }))
