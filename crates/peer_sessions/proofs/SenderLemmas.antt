-- What a sending session's step is for its block.

use Rattle.std.proofs.Common.{◌≡◌, ℕ, ◌+◌, Bool, true, false, not, nat_lt, ◌==◌, if◌then◌else◌, List, [], ◌∷◌, length, Option, None, Some, refl, sym, ap, subst}
use Rattle.ltp_segment.specs.Policy.{PolicyValue}
use Rattle.ltp_segment.specs.Values.{PieceValue, ReportValue, ContentValue, a_piece, a_report, a_report_ack, a_sender_cancel, a_sender_cancel_ack, a_receiver_cancel, a_receiver_cancel_ack}
use Rattle.ltp_session.specs.declared.timer.Timer.{Timer}
use Rattle.ltp_session.specs.Timer.{first_timer, next_timer, is_due, may_repeat, is_past_serials}
use Rattle.ltp_session.specs.Step.{Change, stays, keeps, ends, after, StepValue, sending, noting, note_sent, note_bad_bounds, sent_too_often, by_system}
use Rattle.ltp_session.specs.Sender.{Sending, SendingPhase, sender_open, sender_cancelling, gives_up, sends_again, goes_on, with_report, takes_report, report_step, sender_due, sender_tick, ends_cancelling, is_all_claimed, unclaimed, red_segments, last_segment, checkpoint_at, sender_answers, sending_timer}
use Rattle.ltp_sender.specs.Sender.{is_kept_open, is_cancelling}
use Rattle.peer_sessions.specs.declared.blocks.Block.{Block}
use Rattle.peer_sessions.specs.Blocks.{cancel_of, block_of, cancel_after, ticked_block}

-- the block of what is kept of a session
abbrev pub block_kept : ℕ → Option Sending → Option Block
block_kept n None = None
block_kept n (Some s) = Some (block_of (n, s))

-- ---- a segment comes

-- a session that stays has its cancel, as one has that is given up by now
pub stays-kept : (s : Sending) (first : Timer) → cancel_after (cancel_of s.phase) (is_kept_open (Some s)) first ≡ cancel_of s.phase
stays-kept s first = by s.phase where
  by : (phase : SendingPhase) → cancel_after (cancel_of phase) (not (is_cancelling phase)) first ≡ cancel_of phase
  by (sender_open checkpoint timer) = refl
  by (sender_cancelling reason timer) = refl

-- what a change keeps of a session: its block, and its cancel
pub record Keeps (first : Timer) (s t : Sending) : Type 0 where
  pub block : length t.block ≡ length s.block
  pub cancel : cancel_after (cancel_of s.phase) (is_kept_open (Some t)) first ≡ cancel_of t.phase

abbrev pub KeepsBy : Timer → Sending → Change Sending → Type 0
KeepsBy first s stays = Unit {0}
KeepsBy first s (keeps t) = Keeps first s t
KeepsBy first s ends = Unit {0}

goes-on : (policy : PolicyValue) (s : Sending) (checkpoint : PieceValue) (timer : Timer) (report : ReportValue) (now : ℕ) (acks : List ContentValue) → s.phase ≡ sender_open checkpoint timer
    → KeepsBy (first_timer policy now) s (goes_on policy (with_report s report) checkpoint report now acks).next
goes-on policy s checkpoint timer report now acks phase = by (is_all_claimed (with_report s report).claimed) (report.checkpoint == checkpoint.checkpoint) (is_past_serials (checkpoint.checkpoint + 1))
    (last_segment (unclaimed (with_report s report).claimed (red_segments policy s.block s.red))) where
      t : Sending
      t = with_report s report

      same : Keeps (first_timer policy now) s t
      same = record { block = refl; cancel = rw phase refl }

      again : (segment : Option (ℕ × List ℕ)) → KeepsBy (first_timer policy now) s (sends_again policy t now (unclaimed t.claimed (red_segments policy s.block s.red)) (checkpoint_at (length s.block) s.red (checkpoint.checkpoint + 1) report.serial) segment acks).next
      again None = same
      again (Some segment) = record { block = refl; cancel = rw phase refl }

      by : (all named past : Bool) (segment : Option (ℕ × List ℕ)) → KeepsBy (first_timer policy now) s
          (if all then noting ends acks note_sent
          else if named
          then (if past then gives_up policy t by_system now acks
          else sends_again policy t now (unclaimed t.claimed (red_segments policy s.block s.red)) (checkpoint_at (length s.block) s.red (checkpoint.checkpoint + 1) report.serial) segment acks)
          else sending (keeps t) acks).next
      by true named past segment = tt
      by false true true segment = record { block = refl; cancel = rw phase refl }
      by false true false segment = again segment
      by false false past segment = same

report-keeps : (policy : PolicyValue) (s : Sending) (report : ReportValue) (now : ℕ) → KeepsBy (first_timer policy now) s (report_step policy s report now).next
unfolding report_step
report-keeps policy s report now = by (nat_lt s.red report.upper) where
  acks : List ContentValue
  acks = a_report_ack report.serial ∷ []

  takes : (phase : SendingPhase) → s.phase ≡ phase → KeepsBy (first_timer policy now) s (takes_report policy s phase report now acks).next
  takes (sender_open checkpoint timer) is = goes-on policy s checkpoint timer report now acks is
  takes (sender_cancelling reason timer) is = tt

  by : (past : Bool) → KeepsBy (first_timer policy now) s (if past then noting stays [] note_bad_bounds else takes_report policy s s.phase report now acks).next
  by true = tt
  by false = takes s.phase refl

got : {X : Type 0} (x : X) {y : X} → Some x ≡ Some y → x ≡ y
got x is = cc

pub answer-keeps : (policy : PolicyValue) (s : Sending) (content : ContentValue) (now : ℕ) (step : StepValue Sending) → sender_answers policy (Some s) content now ≡ Some step
    → KeepsBy (first_timer policy now) s step.next
unfolding sender_answers
answer-keeps policy s (a_piece piece) now step is = absurd (cc (is))
answer-keeps policy s (a_report report) now step is = subst (λ (t : StepValue Sending). KeepsBy (first_timer policy now) s t.next) (got _ is) (report-keeps policy s report now)
answer-keeps policy s (a_report_ack serial) now step is = absurd (cc (is))
answer-keeps policy s (a_sender_cancel reason) now step is = absurd (cc (is))
answer-keeps policy s a_sender_cancel_ack now step is = subst (λ (t : StepValue Sending). KeepsBy (first_timer policy now) s t.next) (got _ is) (by s.phase) where
  by : (phase : SendingPhase) → KeepsBy (first_timer policy now) s (ends_cancelling phase).next
  by (sender_open checkpoint timer) = tt
  by (sender_cancelling reason timer) = tt
answer-keeps policy s (a_receiver_cancel reason) now step is = subst (λ (t : StepValue Sending). KeepsBy (first_timer policy now) s t.next) (got _ is) tt
answer-keeps policy s a_receiver_cancel_ack now step is = absurd (cc (is))

-- of a session that isn't kept nothing changes
pub none-stays : (policy : PolicyValue) (content : ContentValue) (now : ℕ) (step : StepValue Sending) → sender_answers policy None content now ≡ Some step → step.next ≡ stays
unfolding sender_answers
none-stays policy (a_piece piece) now step is = absurd (cc (is))
none-stays policy (a_report report) now step is = ap (λ (t : StepValue Sending). t.next) (sym (got _ is))
none-stays policy (a_report_ack serial) now step is = absurd (cc (is))
none-stays policy (a_sender_cancel reason) now step is = absurd (cc (is))
none-stays policy a_sender_cancel_ack now step is = ap (λ (t : StepValue Sending). t.next) (sym (got _ is))
none-stays policy (a_receiver_cancel reason) now step is = ap (λ (t : StepValue Sending). t.next) (sym (got _ is))
none-stays policy a_receiver_cancel_ack now step is = absurd (cc (is))

-- ---- a tick

pub tick-block : (policy : PolicyValue) (n : ℕ) (s : Sending) (now : ℕ)
    → ticked_block policy now (is_kept_open (after (sender_tick policy s now).next (Some s))) (block_of (n, s)) ≡ block_kept n (after (sender_tick policy s now).next (Some s))
unfolding sender_tick
tick-block policy n s now = by s.phase refl where
  opened : (checkpoint : PieceValue) (timer : Timer) → s.phase ≡ sender_open checkpoint timer → (due again : Bool)
      → ticked_block policy now (is_kept_open (after (if due then (if again then sending (keeps (record s { phase = sender_open checkpoint (next_timer policy timer now) })) (a_piece checkpoint ∷ []) else gives_up policy s sent_too_often now []) else sending stays []).next (Some s))) (block_of (n, s))
      ≡ block_kept n (after (if due then (if again then sending (keeps (record s { phase = sender_open checkpoint (next_timer policy timer now) })) (a_piece checkpoint ∷ []) else gives_up policy s sent_too_often now []) else sending stays []).next (Some s))
  opened checkpoint timer is true true = rw is refl
  opened checkpoint timer is true false = rw is refl
  opened checkpoint timer is false again = rw is refl

  cancelling : (reason : ℕ) (timer : Timer) → s.phase ≡ sender_cancelling reason timer → (due again : Bool) → is_due timer now ≡ due → may_repeat policy timer ≡ again
      → ticked_block policy now (is_kept_open (after (if due then (if again then sending (keeps (record s { phase = sender_cancelling reason (next_timer policy timer now) })) (a_sender_cancel reason ∷ []) else sending ends []) else sending stays []).next (Some s))) (block_of (n, s))
      ≡ block_kept n (after (if due then (if again then sending (keeps (record s { phase = sender_cancelling reason (next_timer policy timer now) })) (a_sender_cancel reason ∷ []) else sending ends []) else sending stays []).next (Some s))
  cancelling reason timer is true true due again = rw (is, due, again) refl
  cancelling reason timer is true false due again = rw (is, due, again) refl
  cancelling reason timer is false again due again_is = rw (is, due) refl

  by : (phase : SendingPhase) → s.phase ≡ phase
      → ticked_block policy now (is_kept_open (after (if is_due (sending_timer phase) now then sender_due policy s phase now else sending stays []).next (Some s))) (block_of (n, s))
      ≡ block_kept n (after (if is_due (sending_timer phase) now then sender_due policy s phase now else sending stays []).next (Some s))
  by (sender_open checkpoint timer) is = opened checkpoint timer is (is_due timer now) (may_repeat policy timer)
  by (sender_cancelling reason timer) is = cancelling reason timer is (is_due timer now) (may_repeat policy timer) refl refl
