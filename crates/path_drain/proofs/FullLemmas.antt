-- No step of a drain finds the record of closed numbers full.

use Rattle.std.proofs.Common.{◌≡◌, ℕ, ◌+◌, Bool, true, false, not, ◌==◌, ◌||◌, List, [], ◌∷◌}
use Rattle.std.proofs.Common.{length, Option, None, Some, refl, nat_lt}
use Rattle.ltp_segment.specs.Kinds.{is_red, is_checkpoint}
use Rattle.ltp_segment.specs.Policy.{PolicyValue}
use Rattle.ltp_segment.specs.Values.{ContentValue, PieceValue, ReportValue, a_piece}
use Rattle.ltp_segment.specs.Values.{a_receiver_cancel, a_receiver_cancel_ack, a_report}
use Rattle.ltp_segment.specs.Values.{a_report_ack, a_sender_cancel, a_sender_cancel_ack}
use Rattle.ltp_session.specs.Claims.{is_whole_claim}
use Rattle.ltp_session.specs.Receiver.{Admission, Receiving, ReceivingPhase, acknowledged}
use Rattle.ltp_session.specs.Receiver.{acknowledged_in, fresh, is_cancelling, is_miscoloured}
use Rattle.ltp_session.specs.Receiver.{is_outside, on_piece, piece_for, piece_step, piece_stop}
use Rattle.ltp_session.specs.Receiver.{receiver_answers, receiver_cancelling, receiver_open}
use Rattle.ltp_session.specs.Sender.{Sending, SendingPhase, ends_cancelling, is_all_claimed}
use Rattle.ltp_session.specs.Sender.{report_step, sender_answers, sender_cancelling, sender_open}
use Rattle.ltp_session.specs.Sender.{sends_again, takes_report, with_report}
use Rattle.ltp_session.specs.Step.{StepValue, note_history_full}
use Rattle.ltp_session.specs.Timer.{is_past_serials}
use Rattle.ltp_laws.proofs.ListLemmas.{answered, both_arms, by_arms}

-- there was room for the session
abbrev pub NotFull : {S : Type 0} → StepValue S → Type 0
NotFull t = t.note ≡ Some note_history_full → ⊥

-- ---- a sender's step

-- a sender needs no room in the record of closed numbers
report-not_full : (policy : PolicyValue) (s : Sending) (x : ReportValue) (now : ℕ)
    → NotFull (report_step policy s x now)
unfolding report_step
report-not_full policy s x now =
    both_arms NotFull (nat_lt s.red x.upper) _ _ (λ h. absurd (cc)) (by_phase s.phase)
  where
    again_or : (s' : Sending) (c : ℕ × List ℕ → PieceValue) (segments : List (ℕ × List ℕ))
        (last : Option (ℕ × List ℕ)) (acks : List ContentValue)
        → NotFull (sends_again policy s' now segments c last acks)
    again_or s' c segments None acks = λ h. absurd (cc)
    again_or s' c segments (Some segment) acks = λ h. absurd (cc)

    by_phase : (phase : SendingPhase)
        → NotFull (takes_report policy s phase x now (a_report_ack x.serial ∷ []))
    by_phase (sender_open checkpoint timer) =
        both_arms NotFull (is_all_claimed (with_report s x).claimed) _ _ (λ h. absurd (cc))
        (both_arms NotFull (x.checkpoint == checkpoint.checkpoint) _ _
        (both_arms NotFull (is_past_serials (checkpoint.checkpoint + 1)) _ _ (λ h. absurd (cc))
        (again_or (with_report s x) _ _ _ _)) (λ h. absurd (cc)))
    by_phase (sender_cancelling reason timer) = λ h. absurd (cc)

pub sender-not_full : (policy : PolicyValue) (kept : Option Sending) (content : ContentValue) (now : ℕ)
    (t : StepValue Sending) → sender_answers policy kept content now ≡ Some t → NotFull t
unfolding sender_answers
sender-not_full policy None (a_report x) now t hears = answered NotFull _ t hears (λ h. absurd (cc))
sender-not_full policy (Some s) (a_report x) now t hears =
    answered NotFull _ t hears (report-not_full policy s x now)
sender-not_full policy None (a_receiver_cancel reason) now t hears =
    answered NotFull _ t hears (λ h. absurd (cc))
sender-not_full policy (Some s) (a_receiver_cancel reason) now t hears =
    answered NotFull _ t hears (λ h. absurd (cc))
sender-not_full policy None a_sender_cancel_ack now t hears =
    answered NotFull _ t hears (λ h. absurd (cc))
sender-not_full policy (Some s) a_sender_cancel_ack now t hears =
    answered NotFull _ t hears (by_phase s.phase)
  where
    by_phase : (phase : SendingPhase) → NotFull (ends_cancelling phase)
    by_phase (sender_open checkpoint timer) h = absurd (cc)
    by_phase (sender_cancelling reason timer) h = absurd (cc)
sender-not_full policy kept (a_piece q) now t hears = absurd (cc)
sender-not_full policy kept (a_report_ack serial) now t hears = absurd (cc)
sender-not_full policy kept (a_sender_cancel reason) now t hears = absurd (cc)
sender-not_full policy kept a_receiver_cancel_ack now t hears = absurd (cc)

-- ---- a receiver's step

piece-not_full : (policy : PolicyValue) (r : Receiving) (q : PieceValue) (now : ℕ)
    → NotFull (piece_step policy r q now)
unfolding piece_step
piece-not_full policy r q now =
    both_arms NotFull (is_outside r q) _ _ (λ h. absurd (cc))
    (both_arms NotFull (is_miscoloured r q) _ _ (λ h. absurd (cc))
    (both_arms NotFull (is_red q.kind) _ _
    (both_arms NotFull (is_checkpoint q.kind) _ _
    (both_arms NotFull (is_past_serials r.serial) _ _ (λ h. absurd (cc)) (λ h. absurd (cc)))
    (λ h. absurd (cc))) (λ h. absurd (cc))))

-- a red piece of a number of which nothing is kept, and that isn't closed, finds room
abbrev pub FindsRoom : Admission → Option Receiving → ContentValue → Type 0
FindsRoom place kept content = (q : PieceValue) → content ≡ a_piece q → is_red q.kind ≡ true
    → kept ≡ None → place.closed ≡ false → place.full ≡ false

comes-not_full : (policy : PolicyValue) (place : Admission) (kept : Option Receiving) (q : PieceValue)
    (now : ℕ) → FindsRoom place kept (a_piece q) → NotFull (on_piece policy place kept q now)
comes-not_full policy place kept q now finds =
    both_arms NotFull (not (q.service == 1)) _ _ (λ h. absurd (cc))
    (both_arms NotFull ((length q.body == 0) || nat_lt place.most (piece_stop q)) _ _
    (λ h. absurd (cc)) (by_kept kept refl))
  where
    not_false : (b : Bool) → not b ≡ false → b ≡ true
    not_false true h = refl
    not_false false h = absurd (cc)

    by_kept : (k : Option Receiving) → kept ≡ k → NotFull (piece_for policy place k q now)
    by_kept None is =
        by_arms NotFull (not (is_red q.kind)) _ _ (λ green h. absurd (cc))
        (λ red. by_arms NotFull place.closed _ _ (λ closed h. absurd (cc))
        (λ unclosed. by_arms NotFull place.full _ _
        (λ full h. absurd (let room : place.full ≡ false =
        finds q refl (not_false (is_red q.kind) red) is unclosed in cc))
        (λ room. piece-not_full policy (fresh place.session) q now)))
    by_kept (Some r) is =
        both_arms NotFull (is_cancelling r.phase) _ _ (λ h. absurd (cc))
        (piece-not_full policy r q now)

acknowledged-not_full : (r : Receiving) (serial : ℕ) → NotFull (acknowledged r serial)
unfolding acknowledged
acknowledged-not_full r serial = by_phase r.phase
  where
    by_phase : (phase : ReceivingPhase) → NotFull (acknowledged_in r phase serial)
    by_phase (receiver_open None) = λ h. absurd (cc)
    by_phase (receiver_open (Some p)) =
        both_arms NotFull (p.report.serial == serial) _ _
        (both_arms NotFull (is_whole_claim r.length p.report.claims) _ _ (λ h. absurd (cc))
        (λ h. absurd (cc))) (λ h. absurd (cc))
    by_phase (receiver_cancelling reason timer) = λ h. absurd (cc)

pub receiver-not_full : (policy : PolicyValue) (place : Admission) (kept : Option Receiving)
    (content : ContentValue) (now : ℕ) (t : StepValue Receiving) → FindsRoom place kept content
    → receiver_answers policy place kept content now ≡ Some t → NotFull t
unfolding receiver_answers
receiver-not_full policy place kept (a_piece q) now t finds hears =
    answered NotFull _ t hears (comes-not_full policy place kept q now finds)
receiver-not_full policy place None (a_report_ack serial) now t finds hears =
    answered NotFull _ t hears (λ h. absurd (cc))
receiver-not_full policy place (Some r) (a_report_ack serial) now t finds hears =
    answered NotFull _ t hears (acknowledged-not_full r serial)
receiver-not_full policy place None (a_sender_cancel reason) now t finds hears =
    answered NotFull _ t hears (λ h. absurd (cc))
receiver-not_full policy place (Some r) (a_sender_cancel reason) now t finds hears =
    answered NotFull _ t hears (λ h. absurd (cc))
receiver-not_full policy place None a_receiver_cancel_ack now t finds hears =
    answered NotFull _ t hears (λ h. absurd (cc))
receiver-not_full policy place (Some r) a_receiver_cancel_ack now t finds hears =
    answered NotFull _ t hears (both_arms NotFull (is_cancelling r.phase) _ _ (λ h. absurd (cc))
    (λ h. absurd (cc)))
receiver-not_full policy place kept (a_report x) now t finds hears = absurd (cc)
receiver-not_full policy place kept (a_receiver_cancel reason) now t finds hears = absurd (cc)
receiver-not_full policy place kept a_sender_cancel_ack now t finds hears = absurd (cc)
