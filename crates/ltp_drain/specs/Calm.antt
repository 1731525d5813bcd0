-- What a drain keeps of one session: it is calm, so that nobody gives it up, and it has a rank.
--
-- In names, new_s is what the sender said since the drain began and isn't delivered yet, and new_r
-- what the receiver said; limit_s and limit_r are the most sendings of either.

use Rattle.std.specs.Prelude.{◌≡◌, ℕ, ◌+◌, ◌-◌, ◌^◌, ◌<◌, ◌≤◌, Bool, true, false, List, [], ◌∷◌}
use Rattle.std.specs.Prelude.{◌++◌, length, Option, None, Some, ◌⊎◌}
use Rattle.ltp_segment.specs.Kinds.{is_red}
use Rattle.ltp_segment.specs.Values.{PieceValue, ContentValue, a_piece, a_report, a_report_ack}
use Rattle.ltp_segment.specs.Values.{a_sender_cancel, a_sender_cancel_ack, a_receiver_cancel}
use Rattle.ltp_segment.specs.Values.{a_receiver_cancel_ack}
use Rattle.ltp_session.specs.Claims.{is_whole_claim}
use Rattle.ltp_session.specs.Receiver.{Pending, Receiving, is_cancelling, piece_stop}
use Rattle.ltp_session.specs.Sender.{Sending, sender_open}
use Rattle.ltp_session.specs.Timer.{first_serial}
use Rattle.ltp_session.specs.declared.timer.Timer.{Timer}
use Rattle.ltp_laws.specs.HandUps.{AllFilled}
use Rattle.ltp_laws.specs.Kept.{IfKept}
use Rattle.ltp_laws.specs.Runs.{AskedFacts}
use Rattle.ltp_laws.specs.Serials.{pending_of}
use Rattle.ltp_laws.specs.View.{IsIn, View}
use Rattle.ltp_drain.specs.Hopeful.{IsHanded, IsKeptSender}
use Rattle.ltp_drain.specs.Rank.{IsAskedOn, IsReportedOn, RankAtMost, Settled}

-- ---- the facts of a session that a drain rests on

-- pieces have an octet, and stop within the greatest block
abbrev pub AreFit : ℕ → List ContentValue → Type 0
AreFit most said = (q : PieceValue) → IsIn (a_piece q) said → (1 ≤ length q.body)
    × (piece_stop q ≤ most)

-- a receiver that has the whole red part has handed it up
abbrev pub HandedUpWhole : ℕ → Receiving → Type 0
HandedUpWhole red r = r.length ≡ Some red → AllFilled red r.cells → r.handed_up ≡ true

-- the acknowledgement that would end a receiver's session was sent only where the sender isn't
-- open
abbrev pub ClosesLate : View → Type 0
ClosesLate v = (r : Receiving) (p : Pending) → v.receiver ≡ Some r → pending_of r.phase ≡ Some p
    → is_whole_claim r.length (p.report).claims ≡ true
    → IsIn (a_report_ack (p.report).serial) v.by_sender
    → (s : Sending) (c : PieceValue) (timer : Timer) → v.sender ≡ Some s
    → s.phase ≡ sender_open c timer → ⊥

-- facts of a block and a red length, at a receiver with a greatest block
pub record Given (block : List ℕ) (red most : ℕ) (v : View) : Type 0 where
  pub facts : AskedFacts block red v
  pub fit : AreFit most v.by_sender
  pub size : IfKept (λ s. length s.claimed ≡ red) v.sender
  pub handed : IfKept (HandedUpWhole red) v.receiver
  pub closes : ClosesLate v

-- ---- calm

-- a content that cancels, or answers a cancel
abbrev pub is_cancel : ContentValue → Bool
is_cancel (a_piece q) = false
is_cancel (a_report x) = false
is_cancel (a_report_ack serial) = false
is_cancel (a_sender_cancel reason) = true
is_cancel a_sender_cancel_ack = true
is_cancel (a_receiver_cancel reason) = true
is_cancel a_receiver_cancel_ack = true

abbrev pub NoCancels : List ContentValue → Type 0
NoCancels said = (c : ContentValue) → IsIn c said → is_cancel c ≡ false

-- a session whose sender is open, and of which the receiver knows nothing
abbrev pub IsComing : View → Type 0
IsComing v = IsKeptSender v.sender × (v.receiver ≡ None) × (v.closed ≡ false)

-- the checkpoint and the timer that a sender waits with
pub record WaitsOn (s : Sending) : Type 0 where
  pub checkpoint : PieceValue
  pub timer : Timer
  pub is : s.phase ≡ sender_open checkpoint timer

-- nobody cancels; each timer that fires has a sending left; the receiver of a session that is sent
-- hasn't closed it; and what is new was said
pub record Calm (limit_s limit_r : ℕ) (v : View) (new_s new_r : List ContentValue) : Type 0 where
  pub sending : (s : Sending) → v.sender ≡ Some s → WaitsOn s
  pub receiving : (r : Receiving) → v.receiver ≡ Some r → is_cancelling r.phase ≡ false
  pub none_s : NoCancels new_s
  pub none_r : NoCancels new_r
  -- its checkpoint, or a report on it, is on its way; or it may be sent once more
  pub asking : (s : Sending) (c : PieceValue) (timer : Timer) → v.sender ≡ Some s
      → s.phase ≡ sender_open c timer
      → IsAskedOn c.checkpoint new_s new_r ⊎ (timer.times < limit_s)
  -- its report, or the acknowledgement, is on its way; or it may be sent once more
  pub reporting : (r : Receiving) (p : Pending) → v.receiver ≡ Some r
      → pending_of r.phase ≡ Some p
      → IsReportedOn (p.report).serial new_s new_r ⊎ ((p.timer).times < limit_r)
  pub unclosed : (s : Sending) → v.sender ≡ Some s → v.closed ≡ false
  -- a red piece on its way is of a session whose sender is open, or whose receiver is done
  pub awaited : (q : PieceValue) → IsIn (a_piece q) new_s → is_red q.kind ≡ true
      → IsKeptSender v.sender ⊎ ((v.closed ≡ true) ⊎ IsHanded v.receiver)
  pub heard_s : (c : ContentValue) → IsIn c new_s → IsIn c v.by_sender
  pub heard_r : (c : ContentValue) → IsIn c new_r → IsIn c v.by_receiver

-- as many serials are left as the rank can spend
pub record HasSerials (session : ℕ) (v : View) (n : ℕ) : Type 0 where
  pub sender : (s : Sending) (c : PieceValue) (timer : Timer) → v.sender ≡ Some s
      → s.phase ≡ sender_open c timer → c.checkpoint + n < 2 ^ 32
  pub receiver : (r : Receiving) → v.receiver ≡ Some r → r.serial + n < 2 ^ 32
  pub fresh : first_serial session + n < 2 ^ 32

-- what never changes of a session: its number, the length of its red part and of its segments, the
-- most sendings of either end, and the greatest block of the receiver
pub record Setting : Type 0 where
  pub session : ℕ
  pub red : ℕ
  pub z : ℕ
  pub limit_s : ℕ
  pub limit_r : ℕ
  pub most : ℕ

-- a session in a drain, which takes at most n events more
pub record Drains (at : Setting) (v : View) (new_s new_r : List ContentValue)
    (n : ℕ) : Type 0 where
  pub calm : Calm at.limit_s at.limit_r v new_s new_r
  pub rank : RankAtMost at.z at.red v new_s new_r n
  pub serials : HasSerials at.session v n
  pub fit : AreFit at.most v.by_sender
  pub low : IsKeptSender v.sender → at.red ≤ at.most

-- it takes fewer
pub record Falls (at : Setting) (v : View) (new_s new_r : List ContentValue)
    (n : ℕ) : Type 0 where
  pub left : ℕ
  pub less : left < n
  pub drains : Drains at v new_s new_r left

-- ---- a delivery that begins no round

-- a report that is pending was so before, and is on its way where it was
pub record WasPending (v : View) (new_s new_r new_s' new_r' : List ContentValue)
    (p : Pending) : Type 0 where
  pub r : Receiving
  pub kept : v.receiver ≡ Some r
  pub waited : pending_of r.phase ≡ Some p
  pub still : IsReportedOn (p.report).serial new_s new_r
      → IsReportedOn (p.report).serial new_s' new_r'

-- a checkpoint that a sender waits on was so before, and is on its way where it was
pub record WasAwaited (red : ℕ) (v v' : View) (new_s new_r new_s' new_r' : List ContentValue)
    (s' : Sending) (c : PieceValue) (timer : Timer) : Type 0 where
  pub s : Sending
  pub kept : v.sender ≡ Some s
  pub waited : s.phase ≡ sender_open c timer
  pub same_red : s'.red ≡ s.red
  pub same_block : s'.block ≡ s.block
  pub still : IsAskedOn c.checkpoint new_s new_r → IsAskedOn c.checkpoint new_s' new_r'
  pub settled : Settled red v c.checkpoint new_s → Settled red v' c.checkpoint new_s'

-- whatever is waited for was so before, or its answer is on its way
pub record Onward (red : ℕ) (v v' : View) (new_s new_r new_s' new_r' : List ContentValue) : Type 0
  where
    pub reporting : (r' : Receiving) (p : Pending) → v'.receiver ≡ Some r'
        → pending_of r'.phase ≡ Some p
        → IsReportedOn (p.report).serial new_s' new_r' ⊎ WasPending v new_s new_r new_s' new_r' p
    pub asking : (s' : Sending) (c : PieceValue) (timer : Timer) → v'.sender ≡ Some s'
        → s'.phase ≡ sender_open c timer
        → WasAwaited red v v' new_s new_r new_s' new_r' s' c timer

-- ---- a tick where nothing is on its way

-- a sender sends its checkpoint again, or nothing
pub data SenderTicked (o o' : Option Sending) (out : List ContentValue) : Type 0 where
  sender_rests : o' ≡ o → out ≡ [] → SenderTicked o o' out
  asks : (s s' : Sending) (c : PieceValue) (timer timer' : Timer) → o ≡ Some s
      → s.phase ≡ sender_open c timer → o' ≡ Some s' → s'.phase ≡ sender_open c timer'
      → s'.red ≡ s.red → s'.block ≡ s.block → out ≡ a_piece c ∷ [] → SenderTicked o o' out

-- a receiver sends its report again, or nothing
pub data ReceiverTicked (o o' : Option Receiving) (out : List ContentValue) : Type 0 where
  sleeps : o' ≡ o → out ≡ [] → ReceiverTicked o o' out
  tells : (r r' : Receiving) (p p' : Pending) → o ≡ Some r → pending_of r.phase ≡ Some p
      → o' ≡ Some r' → pending_of r'.phase ≡ Some p' → p'.report ≡ p.report
      → r'.cells ≡ r.cells → r'.handed_up ≡ r.handed_up → r'.serial ≡ r.serial
      → is_cancelling r'.phase ≡ false → out ≡ a_report p.report ∷ []
      → ReceiverTicked o o' out

-- both ends of a session tick
pub record Ticked (v v' : View) (out_s out_r : List ContentValue) : Type 0 where
  pub by_sender : v'.by_sender ≡ v.by_sender ++ out_s
  pub by_receiver : v'.by_receiver ≡ v.by_receiver ++ out_r
  pub closed : v'.closed ≡ v.closed
  pub sender : SenderTicked v.sender v'.sender out_s
  pub receiver : ReceiverTicked v.receiver v'.receiver out_r

-- it takes one event less for each timer that fires
pub record TickFalls (at : Setting) (v' : View) (out_s out_r : List ContentValue)
    (n : ℕ) : Type 0 where
  pub left : ℕ
  pub less : left + length out_s + length out_r ≤ n
  pub drains : Drains at v' out_s out_r left

-- ---- where it starts and ends

-- nothing is on its way, and no timer runs
pub record Rests (v : View) (new_s new_r : List ContentValue) : Type 0 where
  pub none_s : new_s ≡ []
  pub none_r : new_r ≡ []
  pub no_report : (r : Receiving) (p : Pending) → v.receiver ≡ Some r
      → pending_of r.phase ≡ Some p → ⊥
  pub no_checkpoint : (s : Sending) (c : PieceValue) (timer : Timer) → v.sender ≡ Some s
      → s.phase ≡ sender_open c timer → ⊥

-- a hopeful session, as the proofs use it
pub record IsPromising (limit_s limit_r : ℕ) (v : View) : Type 0 where
  pub sending : (s : Sending) → v.sender ≡ Some s → WaitsOn s
  pub receiving : (r : Receiving) → v.receiver ≡ Some r → is_cancelling r.phase ≡ false
  pub asking : (s : Sending) (c : PieceValue) (timer : Timer) → v.sender ≡ Some s
      → s.phase ≡ sender_open c timer → timer.times < limit_s
  pub reporting : (r : Receiving) (p : Pending) → v.receiver ≡ Some r
      → pending_of r.phase ≡ Some p → (p.timer).times < limit_r
  pub unclosed : (s : Sending) → v.sender ≡ Some s → v.closed ≡ false
  pub sender_serials : (s : Sending) (c : PieceValue) (timer : Timer) → v.sender ≡ Some s
      → s.phase ≡ sender_open c timer → c.checkpoint < 2 ^ 32 - 2 ^ 22
  pub receiver_serials : (r : Receiving) → v.receiver ≡ Some r → r.serial < 2 ^ 32 - 2 ^ 22

-- what became of a session: where its sender was open it is so still, or it was noted as sent, and
-- its red part handed up, before or since; and a red part that has been handed up was so before or
-- since
pub record Advances (v v' : View) (Sent Up : Type 0) : Type 0 where
  pub sender : IsKeptSender v.sender → IsKeptSender v'.sender ⊎ (Sent × (IsHanded v.receiver ⊎ Up))
  pub receiver : IsHanded v'.receiver → IsHanded v.receiver ⊎ Up
