-- A session's checkpoints, and what its sender knows by the reports (RFC 5326, sections 3.2.1, 6.11
-- to 6.13). Each report answers a checkpoint: there are no asynchronous ones. `said`, and a view's
-- `by_sender` and `by_receiver`, are all that an end ever sent in the session.

use Rattle.std.specs.Prelude.{◌≡◌, ℕ, ◌≤◌, true, false, List, slice_index_or, Some, ◌⊎◌}
use Rattle.ltp_segment.specs.Kinds.{ends_red_part, is_checkpoint}
use Rattle.ltp_segment.specs.Values.{ContentValue, PieceValue, ReportValue, a_piece, a_report}
use Rattle.ltp_session.specs.declared.timer.Timer.{Timer}
use Rattle.ltp_session.specs.Sender.{Sending, is_all_claimed, sender_open}
use Rattle.ltp_laws.specs.Claims.{ClaimsPlace}
use Rattle.ltp_laws.specs.Kept.{IfKept}
use Rattle.ltp_laws.specs.View.{IsIn, View}

-- a report among what was said claims place k
pub record IsClaimedBy (said : List ContentValue) (k : ℕ) : Type 0 where
  pub report : ReportValue
  pub among : IsIn (a_report report) said
  pub claims : ClaimsPlace report k

-- the checkpoint was sent, and none with a larger serial was
pub record IsCurrent (said : List ContentValue) (c : PieceValue) : Type 0 where
  pub among : IsIn (a_piece c) said
  pub asks : is_checkpoint c.kind ≡ true
  pub largest :
      (q : PieceValue) → IsIn (a_piece q) said → is_checkpoint q.kind ≡ true
      → q.checkpoint ≤ c.checkpoint

-- Each octet that a sender counts as claimed was claimed by a report that the receiver sent. While
-- the sender is open, at least one red octet isn't claimed yet, and the checkpoint that it waits on
-- is the latest one.
pub record HasAsked (by_sender by_receiver : List ContentValue) (s : Sending) : Type 0 where
  pub claimed : (k : ℕ) → slice_index_or s.claimed k false ≡ true → IsClaimedBy by_receiver k
  pub unclaimed :
      (c : PieceValue) (timer : Timer) → s.phase ≡ sender_open c timer
      → is_all_claimed s.claimed ≡ false
  pub current :
      (c : PieceValue) (timer : Timer) → s.phase ≡ sender_open c timer → IsCurrent by_sender c

-- a checkpoint with this serial was sent
pub record IsAsked (said : List ContentValue) (serial : ℕ) : Type 0 where
  pub piece : PieceValue
  pub among : IsIn (a_piece piece) said
  pub asks : is_checkpoint piece.kind ≡ true
  pub named : piece.checkpoint ≡ serial

-- a report was said
pub record SomeReport (said : List ContentValue) : Type 0 where
  pub report : ReportValue
  pub among : IsIn (a_report report) said

-- In every state of a session: `sender`, what its sender knows, where it is kept. `names`: each
-- report names a checkpoint that was sent. `later`: the first checkpoint ends the red part, so one
-- that doesn't was sent after a report. `known`: once a report was sent, a kept receiver knows the
-- length of the red part.
pub record CheckpointFacts (block : List ℕ) (red : ℕ) (v : View) : Type 0 where
  pub sender : IfKept (HasAsked v.by_sender v.by_receiver) v.sender
  pub names :
      (x : ReportValue) → IsIn (a_report x) v.by_receiver → IsAsked v.by_sender x.checkpoint
  pub later :
      (q : PieceValue) → IsIn (a_piece q) v.by_sender → is_checkpoint q.kind ≡ true
      → ends_red_part q.kind ≡ false → SomeReport v.by_receiver
  pub known : SomeReport v.by_receiver → IfKept (λ r. r.length ≡ Some red) v.receiver

-- Until the receiver has sent a report, each checkpoint that was sent has the serial `first`, and
-- so has the one on which an open sender waits.
pub record FirstFacts (block : List ℕ) (red : ℕ) (v : View) : Type 0 where
  pub first : ℕ
  pub sent :
      (q : PieceValue) → IsIn (a_piece q) v.by_sender → is_checkpoint q.kind ≡ true
      → (q.checkpoint ≡ first) ⊎ SomeReport v.by_receiver
  pub current :
      IfKept (λ s. (c : PieceValue) (timer : Timer) → s.phase ≡ sender_open c timer
      → (c.checkpoint ≡ first) ⊎ SomeReport v.by_receiver) v.sender
