-- What a rank counts: the events that one session of a drain still takes, at most. A drain is the
-- end of a schedule, in which nothing is lost: each event of it delivers a segment that is on its
-- way, or, where none is, moves the clock to the next deadline.
--
-- Whatever is on its way is delivered, and what it brings about is counted with it. Beside that, a
-- timer fires once, unless what it waits for is on its way; and a sender whose checkpoint may find
-- octets missing sends them in one more round.

use Rattle.std.specs.Prelude.{◌≡◌, ℕ, ◌+◌, ◌<◌, ◌≤◌, Bool, true, false, not, ◌==◌, ◌&&◌, ◌||◌}
use Rattle.std.specs.Prelude.{nat_lt, nat_le, List, [], ◌∷◌, length, take, Option, None, Some}
use Rattle.std.specs.Prelude.{is_some, ◌⊎◌, if◌then◌else◌}
use Rattle.ltp_segment.specs.Kinds.{is_red, is_checkpoint}
use Rattle.ltp_segment.specs.Values.{PieceValue, ReportValue, ContentValue, a_piece, a_report}
use Rattle.ltp_segment.specs.Values.{a_report_ack}
use Rattle.ltp_session.specs.Cells.{cell}
use Rattle.ltp_session.specs.Receiver.{Pending, Receiving}
use Rattle.ltp_session.specs.Sender.{Sending, segments_of, sender_open}
use Rattle.ltp_session.specs.declared.timer.Timer.{Timer}
use Rattle.ltp_laws.specs.Claims.{IsWhole}
use Rattle.ltp_laws.specs.Serials.{pending_of}
use Rattle.ltp_laws.specs.View.{IsIn, View}

-- a checkpoint takes 3 deliveries: its own, the report's on it, and that report's
-- acknowledgement's; a report takes 2; anything else 1. A cancel is answered too, but in a drain
-- nobody cancels.
abbrev pub weight : ContentValue → ℕ
weight (a_piece q) = if is_checkpoint q.kind then 3 else 1
weight (a_report x) = 2
weight content = 1

unfoldable pub weights : List ContentValue → ℕ
weights [] = 0
weights (c ∷ cs) = weight c + weights cs

-- a red piece that covers octet i
abbrev pub has_cell : ℕ → ContentValue → Bool
has_cell i (a_piece q) = is_red q.kind && nat_le q.offset i && nat_lt i (q.offset + length q.body)
has_cell i content = false

-- a checkpoint with this serial
abbrev pub is_checkpoint_of : ℕ → ContentValue → Bool
is_checkpoint_of c (a_piece q) = is_checkpoint q.kind && (q.checkpoint == c)
is_checkpoint_of c content = false

-- The contents come in the order of the list. Octet i comes before the first checkpoint with serial
-- c, or with it; where no such checkpoint is there, octet i comes at all.
unfoldable pub ahead : ℕ → ℕ → List ContentValue → Bool
ahead c i [] = false
ahead c i (e ∷ es) = has_cell i e || (not (is_checkpoint_of c e) && ahead c i es)

-- the receiver has an octet at a place
abbrev pub HasFilled : ℕ → Option Receiving → Type 0
HasFilled i None = ⊥
HasFilled i (Some r) = is_some (cell r.cells i) ≡ true

-- No more rounds follow the checkpoint with serial c: each report on it that was ever sent claims
-- the whole red part, and every octet has come, or is `ahead` of it in what is on its way from the
-- sender (`new`).
pub record Settled (red : ℕ) (v : View) (c : ℕ) (new : List ContentValue) : Type 0 where
  pub whole : (x : ReportValue) → IsIn (a_report x) v.by_receiver → x.checkpoint ≡ c
      → IsWhole red x
  pub cells : (i : ℕ) → i < red → HasFilled i v.receiver ⊎ (ahead c i new ≡ true)

-- a report with this serial, or its acknowledgement, is on its way
abbrev pub IsReportedOn : ℕ → List ContentValue → List ContentValue → Type 0
IsReportedOn serial new_s new_r = ((x : ReportValue) × IsIn (a_report x) new_r
    × (x.serial ≡ serial)) ⊎ IsIn (a_report_ack serial) new_s

-- a checkpoint with this serial, or a report that names it, is on its way
abbrev pub IsAskedOn : ℕ → List ContentValue → List ContentValue → Type 0
IsAskedOn c new_s new_r =
    ((q : PieceValue) × IsIn (a_piece q) new_s × (is_checkpoint q.kind ≡ true)
    × (q.checkpoint ≡ c))
    ⊎ ((x : ReportValue) × IsIn (a_report x) new_r × (x.checkpoint ≡ c))

-- The rank is at most n: the weights of what is on its way, and three numbers. That a session takes
-- no more events than its rank is a law, which stands elsewhere.
-- `new_s` is what is on its way from the sender, `new_r` what is from the receiver, and z the
-- greatest number of octets in a segment. A report that is pending takes 3 (timer, report,
-- acknowledgement), unless it or its acknowledgement is on its way. A checkpoint that is waited for
-- takes 4 (timer, checkpoint, report, acknowledgement), unless it or a report on it is on its way.
-- A round of the sender takes 1 for each segment, and 2 more since the last is a checkpoint, unless
-- no more rounds follow.
pub record RankAtMost (z red : ℕ) (v : View) (new_s new_r : List ContentValue)
    (n : ℕ) : Type 0 where
  pub report : ℕ
  pub checkpoint : ℕ
  pub round : ℕ
  pub sum : weights new_s + weights new_r + report + checkpoint + round ≤ n
  pub reporting : (r : Receiving) (p : Pending) → v.receiver ≡ Some r
      → pending_of r.phase ≡ Some p
      → IsReportedOn (p.report).serial new_s new_r ⊎ (3 ≤ report)
  pub asking : (s : Sending) (c : PieceValue) (timer : Timer) → v.sender ≡ Some s
      → s.phase ≡ sender_open c timer
      → IsAskedOn c.checkpoint new_s new_r ⊎ (4 ≤ checkpoint)
  pub rounding : (s : Sending) (c : PieceValue) (timer : Timer) → v.sender ≡ Some s
      → s.phase ≡ sender_open c timer
      → Settled red v c.checkpoint new_s ⊎ (length (segments_of z 0 (take s.red s.block)) + 2 ≤
      round)
