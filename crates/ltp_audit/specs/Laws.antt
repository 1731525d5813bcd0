-- What it says of a recording that its entries were accepted, in the words of what came before.

use Rattle.std.specs.Prelude.{◌≡◌, ℕ, ◌+◌, Bool, true, is_some, List, None, Some, ◌⊎◌}
use Rattle.std.specs.List.{list_any}
use Rattle.spans.specs.Places.{is_in}
use Rattle.ltp_segment.specs.declared.segment.Claim.{Claim}
use Rattle.ltp_segment.specs.Values.{ReportValue, SegmentValue, a_report}
use Rattle.ltp_segment.specs.Values.{a_report_ack}
use Rattle.ltp_session.specs.RedPart.{first_octet}
use Rattle.ltp_audit.specs.declared.entry.Entry.{Entry}
use Rattle.ltp_audit.specs.Recorded.{segment_in, said_in, red_pieces, is_report_of}
use Rattle.ltp_audit.specs.Recorded.{is_checkpoint_of}
use Rattle.ltp_audit.specs.Rules.{fault_of}

-- after a recording an entry is accepted, and it is this segment
pub record IsAccepted (own peer : ℕ) (history : List Entry) (entry : Entry) (s : SegmentValue)
    : Type 0 where
  pub faultless : fault_of own peer history entry ≡ None
  pub segment : segment_in own peer entry ≡ Some s

-- what is accepted is a segment that stands on its side
abbrev pub AcceptsSegments : Type 0
AcceptsSegments =
    (own peer : ℕ) (history : List Entry) (entry : Entry)
    → fault_of own peer history entry ≡ None → is_some (segment_in own peer entry) ≡ true

-- one of the claims names the place
abbrev pub is_claimed : ℕ → List Claim → ℕ → Bool
is_claimed lower claims place = list_any
    (λ claim. is_in (lower + claim.offset) (lower + claim.offset + claim.length) place) claims

-- each octet that an accepted report claims came before, in a red piece of its session
abbrev pub ClaimsWereSeen : Type 0
ClaimsWereSeen =
    (own peer : ℕ) (history : List Entry) (entry : Entry) (s : SegmentValue) (report : ReportValue)
    → IsAccepted own peer history entry s → s.content ≡ a_report report
    → (place : ℕ) → is_claimed report.lower report.claims place ≡ true
    → is_some (first_octet (red_pieces (said_in own peer history s.originator s.session)) place)
    ≡ true

-- a checkpoint that an accepted report answers came before in its session
abbrev pub AnsweredWereSeen : Type 0
AnsweredWereSeen =
    (own peer : ℕ) (history : List Entry) (entry : Entry) (s : SegmentValue) (report : ReportValue)
    → IsAccepted own peer history entry s → s.content ≡ a_report report
    → (report.checkpoint ≡ 0)
    ⊎ (list_any (is_checkpoint_of report.checkpoint)
    (said_in own peer history s.originator s.session) ≡ true)

-- a report that is acknowledged came before in its session
abbrev pub AcknowledgedWereSeen : Type 0
AcknowledgedWereSeen =
    (own peer : ℕ) (history : List Entry) (entry : Entry) (s : SegmentValue) (serial : ℕ)
    → IsAccepted own peer history entry s → s.content ≡ a_report_ack serial
    → list_any (is_report_of serial) (said_in own peer history s.originator s.session) ≡ true
