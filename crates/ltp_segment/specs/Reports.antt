-- The content of a report (RFC 5326, section 3.2.2): its fields with their conditions and causes.

use Rattle.std.specs.Prelude.{ℕ, ◌+◌, ◌-◌, ◌==◌, ◌&&◌, not, nat_lt, nat_le, Bool, List, [], ◌∷◌}
use Rattle.std.specs.Prelude.{◌++◌}
use Rattle.wire_fields.specs.Format.{Format, give, such_that, ◌>>=◌}
use Rattle.wire_fields.specs.Words.{needs, any_number, repeated}
use Rattle.ltp_segment.specs.declared.fault.SegmentCause.{SegmentCause}
use Rattle.ltp_segment.specs.declared.fault.SegmentCause.TheVariants.{Number, Bounds}
use Rattle.ltp_segment.specs.declared.fault.SegmentCause.TheVariants as causes
use Rattle.ltp_segment.specs.declared.segment.Claim.{Claim}
use Rattle.ltp_segment.specs.Values.{ContentValue, a_report}
use Rattle.ltp_segment.specs.Pieces.{serial}

-- the place after the last of these claims, or after so many octets where there is none
abbrev pub end_from : ℕ → List Claim → ℕ
end_from end [] = end
end_from end (claim ∷ claims) = end_from (claim.offset + claim.length) claims

-- a claim has an octet at least, begins at the end of those before it or later, and ends within
-- the bounds
abbrev pub is_claim : ℕ → ℕ → ℕ → ℕ → Bool
is_claim most end offset size = not (size == 0) && nat_le end offset && nat_le (offset + size) most

-- its length
abbrev pub claim_size : ℕ → ℕ → ℕ → Format SegmentCause ℕ
claim_size most end offset =
    such_that (any_number Number) (λ n. needs (is_claim most end offset n) causes.Claim)

-- a claim after others that end there
unfoldable pub claim_after : ℕ → ℕ → Format SegmentCause Claim
claim_after most end = do
  offset ← any_number Number
  size ← claim_size most end offset
  give (record { offset = offset; length = size })

-- one claim more
unfoldable pub next_claim : ℕ → List Claim → Format SegmentCause (List Claim)
next_claim most earlier = do
  claim ← claim_after most (end_from 0 earlier)
  give (earlier ++ claim ∷ [])

unfoldable pub claims_of : ℕ → ℕ → Format SegmentCause (List Claim)
claims_of count most = repeated count (next_claim most) []

-- a lower bound, below the upper one
abbrev pub lower_below : ℕ → Format SegmentCause ℕ
lower_below upper = such_that (any_number Number) (λ n. needs (nat_lt n upper) Bounds)

unfoldable pub report_fields : Format SegmentCause ContentValue
report_fields = do
  number ← serial
  checkpoint ← any_number Number
  upper ← any_number Number
  lower ← lower_below upper
  count ← any_number Number
  claims ← claims_of count (upper - lower)
  give (a_report (record {
    serial = number;
    checkpoint = checkpoint;
    upper = upper;
    lower = lower;
    claims = claims;
  }))
