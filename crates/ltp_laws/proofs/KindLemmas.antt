-- Each end says what is its own to say.

use Rattle.std.proofs.Common.{◌+◌, ◌≡◌, ℕ, ◌==◌, List, [], ◌∷◌, length, Option, None}
use Rattle.std.proofs.Common.{Some, sym, subst, nat_lt, nat_le}
use Rattle.std.specs.List.{AllByRecursion}
use Rattle.ltp_segment.specs.Policy.{PolicyValue}
use Rattle.ltp_segment.specs.Values.{PieceValue, ReportValue, ContentValue, a_piece, a_report}
use Rattle.ltp_segment.specs.Values.{a_report_ack, a_sender_cancel, a_sender_cancel_ack}
use Rattle.ltp_segment.specs.Values.{a_receiver_cancel, a_receiver_cancel_ack}
use Rattle.ltp_session.specs.Claims.{with_claims}
use Rattle.ltp_session.specs.Receiver.{Receiving, Admission, fresh}
use Rattle.ltp_session.specs.Sender.{Sending, SendingPhase, sender_open, sender_cancelling}
use Rattle.ltp_session.specs.Sender.{checkpoint_at, begin, sends_again, takes_report, report_step}
use Rattle.ltp_session.specs.Sender.{sender_due, sender_tick, sending_timer, ends_cancelling}
use Rattle.ltp_session.specs.Sender.{sender_answers, is_all_claimed}
use Rattle.ltp_session.specs.Step.{StepValue}
use Rattle.ltp_session.specs.Timer.{is_past_serials}
use Rattle.ltp_laws.specs.Kinds.{IsSenders, IsReceivers, KindFacts}
use Rattle.ltp_laws.specs.Runs.{no_facts, KeepsUnder}
use Rattle.ltp_laws.proofs.AckLemmas.{red-all, green-all}
use Rattle.ltp_laws.proofs.ListLemmas.{both_arms, all-append, answered}
use Rattle.ltp_laws.proofs.WalkLemmas.{OnPiece, OnSegment, OnTick, walk-segment, walk-tick}

abbrev IsSenderOf : StepValue Sending → Type 0
IsSenderOf t = AllByRecursion IsSenders t.out

report-sends : (policy : PolicyValue) (s : Sending) (x : ReportValue) (now : ℕ)
    → IsSenderOf (report_step policy s x now)
unfolding report_step
report-sends policy s x now = both_arms IsSenderOf (nat_lt s.red x.upper) _ _ tt (by_phase s.phase)
  where
    by_last : (c : PieceValue) (parts : List (ℕ × List ℕ)) (o : Option (ℕ × List ℕ))
        → IsSenderOf
        (sends_again policy (record s { claimed = (with_claims x.lower x.claims s.claimed) }) now
        parts (checkpoint_at (length s.block) s.red (c.checkpoint + 1) x.serial) o
        (a_report_ack x.serial ∷ []))
    by_last c parts None = (tt, tt)
    by_last c parts (Some part) = (tt, red-all IsSenders (λ q. tt) _ parts)

    by_phase : (phase : SendingPhase)
        → IsSenderOf (takes_report policy s phase x now (a_report_ack x.serial ∷ []))
    by_phase (sender_cancelling reason timer) = (tt, tt)
    by_phase (sender_open c timer) =
        both_arms IsSenderOf (is_all_claimed (with_claims x.lower x.claims s.claimed)) _ _ (tt, tt)
        (both_arms IsSenderOf (x.checkpoint == c.checkpoint) _ _
        (both_arms IsSenderOf (is_past_serials (c.checkpoint + 1)) _ _ (tt, (tt, tt))
        (by_last c _ _)) (tt, tt))

tick-sends : (policy : PolicyValue) (now : ℕ) (s : Sending) → IsSenderOf (sender_tick policy s now)
unfolding sender_tick
tick-sends policy now s = both_arms IsSenderOf (nat_le (sending_timer s.phase).deadline now) _ _
    (by_phase s.phase) tt
  where
    by_phase : (phase : SendingPhase) → IsSenderOf (sender_due policy s phase now)
    by_phase (sender_open c timer) = both_arms IsSenderOf (nat_lt timer.times policy.limit) _ _
        (tt, tt) (tt, tt)
    by_phase (sender_cancelling reason timer) =
        both_arms IsSenderOf (nat_lt timer.times policy.limit) _ _ (tt, tt) tt

hears-sends : (policy : PolicyValue) (kept : Option Sending) (content : ContentValue) (now : ℕ)
    (t : StepValue Sending) → sender_answers policy kept content now ≡ Some t → IsSenderOf t
unfolding sender_answers
hears-sends policy None (a_report x) now t hears = answered IsSenderOf _ t hears (tt, tt)
hears-sends policy (Some s) (a_report x) now t hears =
    answered IsSenderOf _ t hears (report-sends policy s x now)
hears-sends policy None (a_receiver_cancel reason) now t hears =
    answered IsSenderOf _ t hears (tt, tt)
hears-sends policy (Some s) (a_receiver_cancel reason) now t hears =
    answered IsSenderOf _ t hears (tt, tt)
hears-sends policy None a_sender_cancel_ack now t hears = answered IsSenderOf _ t hears tt
hears-sends policy (Some s) a_sender_cancel_ack now t hears =
    answered IsSenderOf _ t hears (by_phase s.phase)
  where
    by_phase : (phase : SendingPhase) → IsSenderOf (ends_cancelling phase)
    by_phase (sender_open c timer) = tt
    by_phase (sender_cancelling reason timer) = tt
hears-sends policy kept (a_piece q) now t hears = absurd (cc)
hears-sends policy kept (a_report_ack n) now t hears = absurd (cc)
hears-sends policy kept (a_sender_cancel n) now t hears = absurd (cc)
hears-sends policy kept a_receiver_cancel_ack now t hears = absurd (cc)

begin-sends : (policy : PolicyValue) (n : ℕ) (block : List ℕ) (red now : ℕ)
    → IsSenderOf (begin policy n block red now)
unfolding begin
begin-sends policy n block red now = all-append IsSenders _ _ (red-all IsSenders (λ q. tt) _ _)
    (green-all IsSenders (λ q. tt) _)

abbrev Answers : StepValue Receiving → Type 0
Answers t = AllByRecursion IsReceivers t.out

piece-answers : (policy : PolicyValue) (r : Receiving) (q : PieceValue) (now : ℕ)
    → OnPiece policy r q now Answers
piece-answers policy r q now = record {
  outside = λ note. tt;
  miscoloured = (tt, tt);
  greener = λ _. tt;
  filled =
      λ _ _. tt;
  serials_out = λ _ _. (tt, tt);
  reported = λ _ _ _. (tt, tt);
}

segment-answers : (policy : PolicyValue) (place : Admission) (kept : Option Receiving)
    (content : ContentValue) (now : ℕ) → OnSegment policy place kept content now Answers
segment-answers policy place kept content now = record {
  rests = λ note. tt;
  refused_service = λ q _ _. (tt, tt);
  echoed =
      λ _. (tt, tt);
  green_alone = λ q _ _. tt;
  opened = λ q _ _ _. piece-answers policy (fresh place.session) q now;
  came =
      λ q r _ _ _. piece-answers policy r q now;
  unmoved = λ r _. tt;
  closed_whole = λ r p serial _ _ _ _ _. tt;
  dropped =
      λ r p serial _ _ _ _. tt;
  called_off = λ r reason _. (tt, tt);
  answered_off = λ r _ _. tt;
}

tick-answers : (policy : PolicyValue) (now : ℕ) (r : Receiving) → OnTick policy r now Answers
tick-answers policy now r = record {
  early = tt;
  resent = λ p _. (tt, tt);
  timed_out_handed = λ p _ _. tt;
  timed_out =
      λ p _ _. (tt, tt);
  recancelled = λ reason timer _. (tt, tt);
  let_go = λ reason timer _. tt;
}

pub kinds-keep : KeepsUnder no_facts KindFacts
kinds-keep = record {
  begins = λ policy n block red now v cuts within unused _. record {
    by_sender = all-append IsSenders v.by_sender _ (subst (AllByRecursion IsSenders)
        (sym unused.by_sender) tt) (begin-sends policy n block red now);
    by_receiver = subst (AllByRecursion IsReceivers) (sym unused.by_receiver) tt;
  };
  sender = λ block red policy v content now t among hears _ _ facts. record {
    by_sender = all-append IsSenders v.by_sender t.out facts.by_sender
        (hears-sends policy v.sender content now t hears);
    by_receiver = facts.by_receiver;
  };
  receiver = λ block red policy place v content now t closed among hears _ _ facts. record {
    by_sender = facts.by_sender;
    by_receiver =
        all-append IsReceivers v.by_receiver t.out facts.by_receiver
        (walk-segment policy place v.receiver content now t Answers hears
        (segment-answers policy place v.receiver content now));
  };
  sender_tick = λ block red policy now v s is _ _ facts. record {
    by_sender = all-append IsSenders v.by_sender _ facts.by_sender (tick-sends policy now s);
    by_receiver = facts.by_receiver;
  };
  receiver_tick = λ block red policy now v r is _ _ facts. record {
    by_sender = facts.by_sender;
    by_receiver =
        all-append IsReceivers v.by_receiver _ facts.by_receiver (walk-tick policy r now Answers
        (tick-answers policy now r));
  };
  evicted = λ block red v r is _ _ facts. record {
    by_sender = facts.by_sender;
    by_receiver = facts.by_receiver;
  };
}
