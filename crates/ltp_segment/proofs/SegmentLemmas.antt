-- What decode returns, from the one clause that it gives what reading gives.

use Rattle.std.proofs.Common.{◌≡◌, ℕ, List, Result, Ok, Err, refl, ◌∙◌}
use Rattle.wire_fields.specs.Refusal.{Stop}
use Rattle.wire_fields.specs.Reading.{IsOctets}
use Rattle.wire_fields.specs.Whole.{read_whole}
use Rattle.wire_fields.specs.Gives.{GivesWhole}
use Rattle.wire_fields.proofs.FrontLemmas.{whole_text-only, whole_text-refuses}
use Rattle.ltp_segment.specs.declared.fault.SegmentCause.{SegmentCause}
use Rattle.ltp_segment.specs.declared.fault.SegmentCause.TheVariants as causes
use Rattle.ltp_segment.specs.declared.fault.SegmentFault.{SegmentFault}
use Rattle.ltp_segment.specs.declared.segment.Segment.{Segment}
use Rattle.ltp_segment.specs.Values.{SegmentValue}
use Rattle.ltp_segment.specs.Views.{segment_value}
use Rattle.ltp_segment.specs.Table.{segment}
use Rattle.ltp_segment.specs.Cause.{why, cause_of}
use Rattle.ltp_segment.specs.Ties.{refusal}
use Rattle.ltp_segment.specs.Reading.{SpellsSegment, RefusesSegment, told, segment_of, seen}

pub cause_of-why : (cause : SegmentCause) → cause_of (why cause) ≡ cause
cause_of-why causes.Version = refl
cause_of-why causes.Kind = refl
cause_of-why causes.Number = refl
cause_of-why causes.Range = refl
cause_of-why causes.Serial = refl
cause_of-why causes.Bounds = refl
cause_of-why causes.Claim = refl
cause_of-why causes.Trailing = refl
cause_of-why causes.Truncated = refl

pub seen-told : (result : Result Segment SegmentFault) (given : Result SegmentValue (ℕ × Stop SegmentCause))
    → GivesWhole segment_value refusal result given → seen result ≡ told given
seen-told (Ok s) given gives = rw gives refl
seen-told (Err fault) given gives = rw gives (rw (cause_of-why fault.cause) refl)

pub seen-exact : (result : Result Segment SegmentFault) (datagram : List ℕ)
    → GivesWhole segment_value refusal result (read_whole segment causes.Trailing datagram) → seen result ≡ segment_of datagram
unfolding segment_of
seen-exact result datagram gives = seen-told result (read_whole segment causes.Trailing datagram) gives

pub seen-only : (result : Result Segment SegmentFault) (datagram : List ℕ)
    → GivesWhole segment_value refusal result (read_whole segment causes.Trailing datagram)
    → (s : SegmentValue) → SpellsSegment s datagram → seen result ≡ Ok s
seen-only result datagram gives s spells =
    seen-told result (Ok s) (whole_text-only segment causes.Trailing segment_value refusal result datagram gives s spells)

pub seen-refuses : (result : Result Segment SegmentFault) (datagram : List ℕ) → IsOctets datagram
    → GivesWhole segment_value refusal result (read_whole segment causes.Trailing datagram)
    → (at : ℕ) (cause : SegmentCause) → RefusesSegment at cause datagram → seen result ≡ Err (at, cause)
seen-refuses result datagram fits gives at cause refuses =
    seen-told result (Err (at, why cause)) (whole_text-refuses segment causes.Trailing segment_value refusal result datagram fits gives at (why cause) refuses)
    ∙ rw (cause_of-why cause) refl
