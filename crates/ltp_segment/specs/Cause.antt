-- Causes: their names, and how each refuses.

use Rattle.std.specs.Prelude.{ℕ, List, codes}
use Rattle.wire_fields.specs.Refusal.{Stop, truncated, because}
use Rattle.ltp_segment.specs.declared.fault.SegmentCause.{SegmentCause}
use Rattle.ltp_segment.specs.declared.fault.SegmentCause.TheVariants as causes

abbrev pub word_of : SegmentCause → List ℕ
word_of causes.Version = codes "Version"
word_of causes.Kind = codes "Kind"
word_of causes.Number = codes "Number"
word_of causes.Range = codes "Range"
word_of causes.Serial = codes "Serial"
word_of causes.Bounds = codes "Bounds"
word_of causes.Claim = codes "Claim"
word_of causes.Trailing = codes "Trailing"
word_of causes.Truncated = codes "Truncated"

-- why a cause refuses
abbrev pub why : SegmentCause → Stop SegmentCause
why causes.Version = because causes.Version
why causes.Kind = because causes.Kind
why causes.Number = because causes.Number
why causes.Range = because causes.Range
why causes.Serial = because causes.Serial
why causes.Bounds = because causes.Bounds
why causes.Claim = because causes.Claim
why causes.Trailing = because causes.Trailing
why causes.Truncated = truncated

-- the cause for which a text is refused
abbrev pub cause_of : Stop SegmentCause → SegmentCause
cause_of truncated = causes.Truncated
cause_of (because cause) = cause
