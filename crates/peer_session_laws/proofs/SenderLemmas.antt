-- One session that is being sent: it is open only where it was, and where it is open no longer, a note says so.

use Rattle.std.proofs.Common.{◌≡◌, ℕ, ◌+◌, Bool, true, false, nat_lt, ◌==◌, List, [], ◌∷◌, length, Option, None, Some, refl, sym, ap, subst, if◌then◌else◌}
use Rattle.ltp_segment.specs.Policy.{PolicyValue}
use Rattle.ltp_segment.specs.Values.{ContentValue, PieceValue, ReportValue, a_piece, a_report, a_report_ack, a_sender_cancel, a_sender_cancel_ack, a_receiver_cancel, a_receiver_cancel_ack}
use Rattle.ltp_session.specs.declared.timer.Timer.{Timer}
use Rattle.ltp_session.specs.Timer.{first_timer, is_due, is_past_serials, may_repeat, next_timer}
use Rattle.ltp_session.specs.Step.{Change, NoteValue, stays, keeps, ends, after, StepValue, noting, sending, note_bad_bounds, note_cancelled, note_closed, note_failed, note_history_full, note_refused, note_sent}
use Rattle.ltp_session.specs.Sender.{Sending, SendingPhase, sender_open, sender_cancelling, checkpoint_at, ends_cancelling, gives_up, is_all_claimed, next_round, report_step, sender_answers, sender_due, sender_tick, sending_timer, sends_again, takes_report, with_report}
use Rattle.ltp_sender.specs.Sender.{is_kept_open}
use Rattle.peer_sessions.specs.Blocks.{cancel_after, cancel_of}
use Rattle.peer_sessions.proofs.SenderLemmas.{KeepsBy, answer-keeps, none-stays}

-- ---- it is open only where it was

abbrev pub Shuts : Option Sending → Change Sending → Type 0
Shuts kept change = is_kept_open (after change kept) ≡ true → is_kept_open kept ≡ true

-- one that is cancelling keeps its cancel
shuts-by : (first : Timer) (s : Sending) (change : Change Sending) → KeepsBy first s change → Shuts (Some s) change
shuts-by first s stays keep = λ so. so
shuts-by first s ends keep = λ so. absurd (cc so)
shuts-by first s (keeps t) keep = by s.phase t.phase keep.cancel where
  by : (p q : SendingPhase) → cancel_after (cancel_of p) (is_kept_open (Some (record t { phase = q }))) first ≡ cancel_of q
      → is_kept_open (Some (record t { phase = q })) ≡ true → is_kept_open (Some (record s { phase = p })) ≡ true
  by (sender_open checkpoint timer) q same so = refl
  by (sender_cancelling reason timer) (sender_open checkpoint other) same so = absurd (cc same)
  by (sender_cancelling reason timer) (sender_cancelling why other) same so = absurd (cc so)

pub shuts-answer : (policy : PolicyValue) (kept : Option Sending) (content : ContentValue) (now : ℕ) (step : StepValue Sending)
    → sender_answers policy kept content now ≡ Some step → Shuts kept step.next
shuts-answer policy None content now step is = subst (Shuts None) (sym (none-stays policy content now step is)) (λ so. so)
shuts-answer policy (Some s) content now step is =
    shuts-by (first_timer policy now) s step.next (answer-keeps policy s content now step is)

pub shuts-due : (policy : PolicyValue) (s : Sending) (now : ℕ) → Shuts (Some s) (sender_tick policy s now).next
unfolding sender_tick
shuts-due policy s now = by_phase s.phase refl where
  by_repeat : (reason : ℕ) (timer : Timer) (again : Bool)
      → Shuts (Some s) (if again then sending (keeps (record s { phase = sender_cancelling reason (next_timer policy timer now) })) (a_sender_cancel reason ∷ []) else sending ends []).next
  by_repeat reason timer true = λ so. absurd (cc so)
  by_repeat reason timer false = λ so. absurd (cc so)

  by_due : (reason : ℕ) (timer : Timer) (due : Bool) → Shuts (Some s) (if due then sender_due policy s (sender_cancelling reason timer) now else sending stays []).next
  by_due reason timer true = by_repeat reason timer (may_repeat policy timer)
  by_due reason timer false = λ so. so

  by_phase : (phase : SendingPhase) → s.phase ≡ phase → Shuts (Some s) (if is_due (sending_timer s.phase) now then sender_due policy s s.phase now else sending stays []).next
  by_phase (sender_open checkpoint timer) is = λ so. rw is refl
  by_phase (sender_cancelling reason timer) is =
      subst (λ (p : SendingPhase). Shuts (Some s) (if is_due (sending_timer p) now then sender_due policy s p now else sending stays []).next) (sym is)
      (by_due reason timer (is_due timer now))

-- ---- where it is open no longer, a note says so

-- it was sent, failed, or was cancelled
abbrev pub IsEndNote : Option NoteValue → Type 0
IsEndNote None = ⊥
IsEndNote (Some note_sent) = Unit {0}
IsEndNote (Some (note_failed reason)) = Unit {0}
IsEndNote (Some (note_refused service)) = ⊥
IsEndNote (Some (note_cancelled reason)) = Unit {0}
IsEndNote (Some note_bad_bounds) = ⊥
IsEndNote (Some note_closed) = ⊥
IsEndNote (Some note_history_full) = ⊥

abbrev pub Ends : Option Sending → StepValue Sending → Type 0
Ends kept step = is_kept_open kept ≡ true → is_kept_open (after step.next kept) ≡ false → IsEndNote step.note

pub not-both : (b : Bool) {X : Type 0} → b ≡ true → b ≡ false → X
not-both b was shut = absurd (cc (was, shut))

ends-report : (policy : PolicyValue) (s : Sending) (report : ReportValue) (now : ℕ) → Ends (Some s) (report_step policy s report now)
unfolding report_step
ends-report policy s report now = by_bounds (nat_lt s.red report.upper) where
  acks : List ContentValue
  acks = a_report_ack report.serial ∷ []

  by_last : (checkpoint : PieceValue) (segments : List (ℕ × List ℕ)) (last : Option (ℕ × List ℕ))
      → Ends (Some s) (sends_again policy (with_report s report) now segments (checkpoint_at (length s.block) s.red (checkpoint.checkpoint + 1) report.serial) last acks)
  by_last checkpoint segments None = λ was shut. not-both (is_kept_open (Some s)) was shut
  by_last checkpoint segments (Some segment) = λ was shut. absurd (cc shut)

  by_serial : (checkpoint : PieceValue) (past : Bool) (otherwise : StepValue Sending) → Ends (Some s) otherwise
      → Ends (Some s) (if past then gives_up policy (with_report s report) 4 now acks else otherwise)
  by_serial checkpoint true otherwise so = λ was shut. tt
  by_serial checkpoint false otherwise so = so

  by_tests : (checkpoint : PieceValue) (all same : Bool)
      → Ends (Some s) (if all then noting ends acks note_sent else if same then next_round policy (with_report s report) checkpoint.checkpoint report.serial now acks else sending (keeps (with_report s report)) acks)
  by_tests checkpoint true same = λ was shut. tt
  by_tests checkpoint false true = by_serial checkpoint (is_past_serials (checkpoint.checkpoint + 1)) _ (by_last checkpoint _ _)
  by_tests checkpoint false false = λ was shut. not-both (is_kept_open (Some s)) was shut

  by_phase : (phase : SendingPhase) → Ends (Some s) (takes_report policy s phase report now acks)
  by_phase (sender_open checkpoint timer) = by_tests checkpoint (is_all_claimed (with_report s report).claimed) (report.checkpoint == checkpoint.checkpoint)
  by_phase (sender_cancelling reason timer) = λ was shut. not-both (is_kept_open (Some s)) was shut

  by_bounds : (past : Bool) → Ends (Some s) (if past then noting stays [] note_bad_bounds else takes_report policy s s.phase report now acks)
  by_bounds true = λ was shut. not-both (is_kept_open (Some s)) was shut
  by_bounds false = by_phase s.phase

pub ends-due : (policy : PolicyValue) (s : Sending) (now : ℕ) → Ends (Some s) (sender_tick policy s now)
unfolding sender_tick
ends-due policy s now = by_due (is_due (sending_timer s.phase) now) where
  by_phase : (phase : SendingPhase) → s.phase ≡ phase → (again : Bool) → may_repeat policy (sending_timer phase) ≡ again → Ends (Some s) (sender_due policy s phase now)
  by_phase (sender_open checkpoint timer) is true may = rw may (λ was shut. absurd (cc shut))
  by_phase (sender_open checkpoint timer) is false may = rw may (λ was shut. tt)
  by_phase (sender_cancelling reason timer) is again may = λ was shut. absurd (cc (ap (λ (p : SendingPhase). is_kept_open (Some (record s { phase = p }))) is, was))

  by_due : (due : Bool) → Ends (Some s) (if due then sender_due policy s s.phase now else sending stays [])
  by_due true = by_phase s.phase refl (may_repeat policy (sending_timer s.phase)) refl
  by_due false = λ was shut. not-both (is_kept_open (Some s)) was shut

ends-acknowledged : (s : Sending) → Ends (Some s) (ends_cancelling s.phase)
ends-acknowledged s = by_phase s.phase refl where
  by_phase : (phase : SendingPhase) → s.phase ≡ phase → Ends (Some s) (ends_cancelling phase)
  by_phase (sender_open checkpoint timer) is = λ was shut. not-both (is_kept_open (Some s)) was shut
  by_phase (sender_cancelling reason timer) is = λ was shut. absurd (cc (ap (λ (p : SendingPhase). is_kept_open (Some (record s { phase = p }))) is, was))

same-step : (a b : StepValue Sending) → Some a ≡ Some b → a ≡ b
same-step a b is = cc

pub ends-answer : (policy : PolicyValue) (kept : Option Sending) (content : ContentValue) (now : ℕ) (step : StepValue Sending)
    → sender_answers policy kept content now ≡ Some step → Ends kept step
unfolding sender_answers
ends-answer policy None content now step is = λ was shut. absurd (cc was)
ends-answer policy (Some s) (a_piece piece) now step is = absurd (cc is)
ends-answer policy (Some s) (a_report report) now step is = subst (Ends (Some s)) (same-step _ step is) (ends-report policy s report now)
ends-answer policy (Some s) (a_report_ack serial) now step is = absurd (cc is)
ends-answer policy (Some s) (a_sender_cancel reason) now step is = absurd (cc is)
ends-answer policy (Some s) a_sender_cancel_ack now step is = subst (Ends (Some s)) (same-step _ step is) (ends-acknowledged s)
ends-answer policy (Some s) (a_receiver_cancel reason) now step is = subst (Ends (Some s)) (same-step _ step is) (λ was shut. tt)
ends-answer policy (Some s) a_receiver_cancel_ack now step is = absurd (cc is)
