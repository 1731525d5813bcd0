-- What a report claims (RFC 5326, sections 3.2.2 and 6.11).

use Rattle.std.specs.Prelude.{ℕ, ◌+◌, ◌-◌, Bool, ◌||◌, ◌==◌, ◌&&◌, false, nat_lt, List, [], ◌∷◌, length, map, take, Option, None, Some, if◌then◌else◌}
use Rattle.spans.specs.declared.range.Run.{Run}
use Rattle.spans.specs.Places.{is_in, runs_of}
use Rattle.ltp_segment.specs.declared.segment.Claim.{Claim}
use Rattle.ltp_segment.specs.Reports.{end_from}
use Rattle.ltp_segment.specs.Values.{ReportValue}
use Rattle.ltp_session.specs.Cells.{filled_places}

-- ---- at the receiver: the claims that it makes

-- a range of places as a claim, counted from place 0
abbrev pub claim_of : Run → Claim
claim_of run = record { offset = run.from; length = run.to - run.from }

-- the maximal ranges of filled places below an upper bound, in order
unfoldable pub claims_below : ℕ → List (Option ℕ) → List Claim
claims_below upper cells = map claim_of (runs_of (take upper (filled_places cells)))

-- The upper bound of a report that makes at most `most` claims: where there are more, it is the end
-- of the last one made. Own rule: one report answers one checkpoint, where section 6.11 would send
-- more.
abbrev pub upper_of : ℕ → ℕ → List Claim → ℕ
upper_of most upper claims =
    if nat_lt most (length claims) then end_from 0 (take most claims) else upper

-- a report on the octets from 0 (own rule) to the upper bound, with at most `most` claims
abbrev pub report_within : ℕ → ℕ → ℕ → ℕ → List Claim → ReportValue
report_within most serial checkpoint upper claims = record {
  serial = serial;
  checkpoint = checkpoint;
  upper = upper_of most upper claims;
  lower = 0;
  claims = take most claims;
}

-- a report on some cells; it makes 1,024 claims at most
unfoldable pub report_on : ℕ → ℕ → ℕ → List (Option ℕ) → ReportValue
report_on serial checkpoint upper cells =
    report_within 1024 serial checkpoint upper (claims_below upper cells)

-- the claims are one, of the whole red part; while its length is unknown they aren't
abbrev pub is_whole_claim : Option ℕ → List Claim → Bool
is_whole_claim None claims = false
is_whole_claim (Some end) [] = false
is_whole_claim (Some end) (claim ∷ []) = (claim.offset == 0) && (claim.length == end)
is_whole_claim (Some end) (claim ∷ next ∷ claims) = false

-- ---- at the sender: the octets that are claimed

-- the places from `from` to before `to` are claimed too; the list begins with place k
unfoldable pub with_range : ℕ → ℕ → ℕ → List Bool → List Bool
with_range k from to [] = []
with_range k from to (claimed ∷ places) =
    (claimed || is_in from to k) ∷ with_range (k + 1) from to places

-- The places, with those of some claims claimed too. The claims count from the lower bound, and
-- what lies past the list is ignored.
unfoldable pub with_claims : ℕ → List Claim → List Bool → List Bool
with_claims lower [] places = places
with_claims lower (claim ∷ claims) places =
    with_claims lower claims
    (with_range 0 (lower + claim.offset) (lower + claim.offset + claim.length) places)
