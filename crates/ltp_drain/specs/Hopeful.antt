-- When a link that stops losing completes its sessions, and in how many events.

use Rattle.std.specs.List.{count_by, list_any}
use Rattle.std.specs.Prelude.{◌≡◌, ℕ, zero, suc, ◌+◌, ◌-◌, ◌<◌, ◌≤◌, ◌^◌, Bool, true, false, not}
use Rattle.std.specs.Prelude.{◌&&◌, ◌==◌, nat_lt, List, [], ◌∷◌, length, Option, None, Some}
use Rattle.std.specs.Prelude.{is_some, if◌then◌else◌}
use Rattle.ltp_segment.specs.Policy.{PolicyValue}
use Rattle.ltp_segment.specs.Values.{ContentValue, a_piece, a_receiver_cancel}
use Rattle.ltp_segment.specs.Values.{a_receiver_cancel_ack, a_report, a_report_ack}
use Rattle.ltp_segment.specs.Values.{a_sender_cancel, a_sender_cancel_ack}
use Rattle.ltp_session.specs.Engine.{Engine, Party, closed_runs, is_closed}
use Rattle.ltp_session.specs.Receiver.{Receiving, ReceivingPhase, receiver_cancelling}
use Rattle.ltp_session.specs.Receiver.{receiver_open}
use Rattle.ltp_session.specs.Sender.{Sending, SendingPhase, green_segments, red_segments}
use Rattle.ltp_session.specs.Sender.{sender_cancelling, sender_open}
use Rattle.ltp_session.specs.Table.{find}
use Rattle.ltp_session.specs.World.{End, Event, World, at_end, first_end, other, run, second_end}
use Rattle.ltp_session.specs.World.{starts_world}
use Rattle.ltp_laws.specs.Deadlines.{Waits}
use Rattle.ltp_laws.specs.Kept.{IfKept}
use Rattle.ltp_laws.specs.View.{View, view}

-- ---- two engines alike, and a world of theirs

-- 64 sessions at least are sent at once and 64 received, and 65,536 runs of closed numbers at least
-- are remembered
pub record IsAmple (p : Party) : Type 0 where
  pub sessions : 64 ≤ p.sessions
  pub history : 65536 ≤ p.history

-- both take blocks of the same greatest length, of 4,194,304 octets at most; both cut segments of
-- two octets at least, and wait for an answer at all; and both have ample bounds
pub record AreAlike (parties : Party × Party) : Type 0 where
  pub same_most : parties.0.most ≡ parties.1.most
  pub most : parties.0.most ≤ 2 ^ 22
  pub first_cuts : 2 ≤ parties.0.policy.segment
  pub second_cuts : 2 ≤ parties.1.policy.segment
  pub first_waits : Waits parties.0.policy
  pub second_waits : Waits parties.1.policy
  pub first_ample : IsAmple parties.0
  pub second_ample : IsAmple parties.1

-- a run leads to a world
pub record IsReached (parties : Party × Party) (w : World) : Type 0 where
  pub events : List Event
  pub leads : run parties (starts_world parties) events ≡ w

-- ---- sessions

-- a sender is kept; where nobody cancels it is open
abbrev pub IsKeptSender : Option Sending → Type 0
IsKeptSender None = ⊥
IsKeptSender (Some s) = Unit {0}

-- a receiver is kept, and has handed its red part up
abbrev pub IsHanded : Option Receiving → Type 0
IsHanded None = ⊥
IsHanded (Some r) = r.handed_up ≡ true

-- ---- hopeful

-- the sender isn't cancelling; its current checkpoint was sent fewer times than the limit, and its
-- serial is far from the last: of the next serial, which is one more, this asks a little less
abbrev pub IsHopefulSending : ℕ → SendingPhase → Type 0
IsHopefulSending limit (sender_open checkpoint timer) =
    (timer.times < limit) × (checkpoint.checkpoint < 2 ^ 32 - 2 ^ 22)
IsHopefulSending limit (sender_cancelling reason timer) = ⊥

-- the receiver isn't cancelling, and a pending report was sent fewer times than the limit
abbrev pub IsHopefulReceiving : ℕ → ReceivingPhase → Type 0
IsHopefulReceiving limit (receiver_open None) = Unit {0}
IsHopefulReceiving limit (receiver_open (Some pending)) = (pending.timer).times < limit
IsHopefulReceiving limit (receiver_cancelling reason timer) = ⊥

-- a sender whose receiver hasn't closed the number, so that it is open or unknown there
pub record IsHopefulSender (limit : ℕ) (closed : Bool) (s : Sending) : Type 0 where
  pub phase : IsHopefulSending limit s.phase
  pub unclosed : closed ≡ false

-- a receiver whose next serial is far from the last
pub record IsHopefulReceiver (limit : ℕ) (r : Receiving) : Type 0 where
  pub phase : IsHopefulReceiving limit r.phase
  pub serial : r.serial < 2 ^ 32 - 2 ^ 22

-- a session, with the limits of its sender and of its receiver
pub record IsHopeful (limit_s limit_r : ℕ) (v : View) : Type 0 where
  pub sender : IfKept (IsHopefulSender limit_s v.closed) v.sender
  pub receiver : IfKept (IsHopefulReceiver limit_r) v.receiver

abbrev pub limit_at : Party × Party → End → ℕ
limit_at parties o = (at_end parties o).policy.limit

-- every session is hopeful, and the next numbers are far from the last
pub record Hopeful (parties : Party × Party) (w : World) : Type 0 where
  pub sessions :
      (o : End) (n : ℕ) → IsHopeful (limit_at parties o) (limit_at parties (other o))
      (view parties w o n)
  pub numbers : (o : End) → (at_end w.engines o).next < 2 ^ 32 - 2 ^ 22

-- ---- room

-- an engine neither keeps a receiving session of this number nor has closed it
abbrev pub is_unknown : Engine → ℕ → Bool
is_unknown e n = not (is_some (find n e.receivers)) && not (is_closed n e.closed)

-- the sessions that come to an engine: its peer f sends them, and they are unknown here
abbrev pub coming : Engine → Engine → ℕ
coming e f = count_by (λ entry. is_unknown e entry.0) f.senders

-- an engine has room for what comes from its peer
pub record HasRoom (e f : Engine) : Type 0 where
  pub senders : length e.senders ≤ 64
  pub receivers : length e.receivers + coming e f ≤ 64
  pub numbers : closed_runs e.closed + length e.receivers + coming e f ≤ 65536

pub record Room (w : World) : Type 0 where
  pub first : HasRoom w.engines.0 w.engines.1
  pub second : HasRoom w.engines.1 w.engines.0

-- ---- cost

-- the segments of a sender's block, red and green
abbrev pub segment_count : PolicyValue → Sending → ℕ
segment_count policy s =
    length (red_segments policy s.block s.red) + length (green_segments policy s.block s.red)

-- a session that is kept at either end costs its segments, where the sender is kept, and 16
abbrev pub kept_cost : PolicyValue → Option Sending → Option Receiving → ℕ
kept_cost policy (Some s) receiver = segment_count policy s + 16
kept_cost policy None (Some r) = 16
kept_cost policy None None = 0

-- the places at which some pieces begin
abbrev pub offsets_of : List ContentValue → List ℕ
offsets_of [] = []
offsets_of (a_piece q ∷ contents) = q.offset ∷ offsets_of contents
offsets_of (a_report x ∷ contents) = offsets_of contents
offsets_of (a_report_ack serial ∷ contents) = offsets_of contents
offsets_of (a_sender_cancel reason ∷ contents) = offsets_of contents
offsets_of (a_sender_cancel_ack ∷ contents) = offsets_of contents
offsets_of (a_receiver_cancel reason ∷ contents) = offsets_of contents
offsets_of (a_receiver_cancel_ack ∷ contents) = offsets_of contents

abbrev pub is_seen : ℕ → List ℕ → Bool
is_seen x seen = list_any (λ y. y == x) seen

-- how many numbers there are that differ from each other and from some that were seen
unfoldable pub different : List ℕ → List ℕ → ℕ
different seen [] = 0
different seen (x ∷ xs) =
    if is_seen x seen then different seen xs else 1 + different (x ∷ seen) xs

-- a session that began costs the different offsets of its pieces, and 16
abbrev pub begun_cost : View → ℕ
begun_cost v = if v.used then different [] (offsets_of v.by_sender) + 16 else 0

abbrev pub view_cost : Party × Party → End → View → ℕ
view_cost parties o v = kept_cost (at_end parties o).policy v.sender v.receiver

-- what session n of an end costs from w to v: whatever was begun before w costs what is kept of it
-- there
abbrev pub session_cost : Party × Party → World → World → End → ℕ → ℕ
session_cost parties w v o n =
    if nat_lt n (at_end w.engines o).next then view_cost parties o (view parties w o n)
    else begun_cost (view parties v o n)

-- the sum of the values at all numbers below one
unfoldable pub sum_below : ℕ → (ℕ → ℕ) → ℕ
sum_below zero f = 0
sum_below (suc n) f = f n + sum_below n f

-- what all sessions of a link cost from w to v: those that are kept at either end in w, and those
-- that were begun since
unfoldable pub cost : Party × Party → World → World → ℕ
cost parties w v =
    sum_below (at_end v.engines first_end).next (session_cost parties w v first_end)
    + sum_below (at_end v.engines second_end).next (session_cost parties w v second_end)
