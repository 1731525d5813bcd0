-- Each step of a sender has one of a few forms.

use Rattle.std.proofs.Common.{◌+◌, ◌≡◌, ℕ, Bool, false, ◌==◌, List, [], ◌∷◌, length}
use Rattle.std.proofs.Common.{take, Option, None, Some, inl, inr, refl, subst, nat_lt, nat_le}
use Rattle.std.proofs.lemmas.Bool.{eqb-true}
use Rattle.ltp_segment.specs.Policy.{PolicyValue}
use Rattle.ltp_segment.specs.Values.{PieceValue, ReportValue, ContentValue, a_piece, a_report}
use Rattle.ltp_segment.specs.Values.{a_report_ack, a_sender_cancel, a_sender_cancel_ack}
use Rattle.ltp_segment.specs.Values.{a_receiver_cancel, a_receiver_cancel_ack}
use Rattle.ltp_session.specs.Claims.{with_claims}
use Rattle.ltp_session.specs.Sender.{Sending, SendingPhase, sender_open, sender_cancelling}
use Rattle.ltp_session.specs.Sender.{segments_of, checkpoint_at, last_segment, unclaimed}
use Rattle.ltp_session.specs.Sender.{sends_again, next_round, takes_report, report_step}
use Rattle.ltp_session.specs.Sender.{sender_due, sender_tick, sending_timer, ends_cancelling}
use Rattle.ltp_session.specs.Sender.{sender_answers, is_all_claimed}
use Rattle.ltp_session.specs.Step.{StepValue, stays}
use Rattle.ltp_session.specs.Timer.{first_timer, next_timer, is_past_serials}
use Rattle.ltp_session.specs.declared.timer.Timer.{Timer}
use Rattle.ltp_laws.specs.SenderSteps.{NoPieces, Adds, Continues, SenderStep, rests, leaves}
use Rattle.ltp_laws.specs.SenderSteps.{continues, rounds}
use Rattle.ltp_laws.specs.View.{IsIn}
use Rattle.ltp_laws.proofs.ListLemmas.{both_arms, by_arms, answered}

none-none : NoPieces []
none-none q among = among

none-one : (c : ContentValue) → ((q : PieceValue) → c ≡ a_piece q → ⊥) → NoPieces (c ∷ [])
none-one c differs q (inl here) = differs q here
none-one c differs q (inr none) = none

none-two : (c d : ContentValue) → ((q : PieceValue) → c ≡ a_piece q → ⊥)
    → ((q : PieceValue) → d ≡ a_piece q → ⊥) → NoPieces (c ∷ (d ∷ []))
none-two c d differs also q (inl here) = differs q here
none-two c d differs also q (inr (inl here)) = also q here
none-two c d differs also q (inr (inr none)) = none

ack-none : (n : ℕ) → NoPieces (a_report_ack n ∷ [])
ack-none n = none-one (a_report_ack n) (λ q h. cc)

cancel-none : (n : ℕ) → NoPieces (a_sender_cancel n ∷ [])
cancel-none n = none-one (a_sender_cancel n) (λ q h. cc)

-- the same claims, and nothing that is waited for but what was
same : (content : ContentValue) (s s' : Sending) (out : List ContentValue) → NoPieces out
    → s'.claimed ≡ s.claimed
    → ((c : PieceValue) (timer : Timer) → s'.phase ≡ sender_open c timer → (before : Timer)
    × (s.phase ≡ sender_open c before)) → Continues content s s' out
same content s s' out none claimed waits = record {
  pieces = λ q among. absurd (none q among);
  waits = waits;
  unclaimed = λ c timer is. inr claimed;
  claimed = inl claimed;
}

gave_up-waits : (s : Sending) (reason : ℕ) (t : Timer) (c : PieceValue) (timer : Timer)
    → sender_cancelling reason t ≡ sender_open c timer
    → (before : Timer) × (s.phase ≡ sender_open c before)
gave_up-waits s reason t c timer is = absurd (cc)

round-form : (policy : PolicyValue) (s : Sending) (c : PieceValue) (timer : Timer)
    (x : ReportValue) (now : ℕ) → s.phase ≡ sender_open c timer
    → is_all_claimed (with_claims x.lower x.claims s.claimed) ≡ false → x.checkpoint ≡ c.checkpoint
    → SenderStep (a_report x) s
    (next_round policy (record s { claimed = (with_claims x.lower x.claims s.claimed) })
    c.checkpoint x.serial now (a_report_ack x.serial ∷ []))
round-form policy s c timer x now waited open_part names =
    both_arms (SenderStep (a_report x) s) (is_past_serials (c.checkpoint + 1)) _ _
    (continues _ refl (record {
      pieces = λ q among. absurd (none-two (a_report_ack x.serial) (a_sender_cancel 4) (λ q h. cc)
          (λ q h. cc) q among);
      waits = λ c' timer' is. absurd (cc);
      unclaimed = λ c' timer' is. absurd (cc);
      claimed = inr adds_given_up;
    }))
    (by_last (last_segment parts) refl)
  where
    claimed : List Bool
    claimed = with_claims x.lower x.claims s.claimed

    parts : List (ℕ × List ℕ)
    parts = unclaimed (with_claims x.lower x.claims s.claimed) (segments_of policy.segment 0
        (take s.red s.block))

    adds_given_up : Adds (a_report x) s (record {
      block = s.block;
      red = s.red;
      claimed = with_claims x.lower x.claims s.claimed;
      phase =
          sender_cancelling 4 (first_timer policy now);
    })
    adds_given_up = record { report = x; told = record { is = refl }; claimed = refl }

    by_last : (o : Option (ℕ × List ℕ)) → last_segment parts ≡ o
        → SenderStep (a_report x) s
        (sends_again policy (record s { claimed = (with_claims x.lower x.claims s.claimed) }) now
        parts (checkpoint_at (length s.block) s.red (c.checkpoint + 1) x.serial) o
        (a_report_ack x.serial ∷ []))
    by_last None is = continues _ refl (record {
      pieces = λ q among. absurd (ack-none x.serial q among);
      waits = λ c' timer' waits. (timer', waits);
      unclaimed = λ c' timer' waits. inl open_part;
      claimed = inr (record { report = x; told = record { is = refl }; claimed = refl });
    })
    by_last (Some part) is = rounds _ refl (record {
      adds = record { report = x; told = record { is = refl }; claimed = refl };
      c = c;
      timer = timer;
      waited = waited;
      names = names;
      unclaimed = open_part;
      z = policy.segment;
      parts = parts;
      parts_are = refl;
      part = part;
      last = is;
      timer' =
          first_timer policy now;
      waits = refl;
      sends = refl;
    })

report-form : (policy : PolicyValue) (s : Sending) (x : ReportValue) (now : ℕ)
    → SenderStep (a_report x) s (report_step policy s x now)
unfolding report_step
report-form policy s x now =
    both_arms Form (nat_lt s.red x.upper) _ _ (rests refl none-none) (by_phase s.phase refl)
  where
    Form : StepValue Sending → Type 0
    Form = SenderStep (a_report x) s

    by_phase : (phase : SendingPhase) → s.phase ≡ phase
        → Form (takes_report policy s phase x now (a_report_ack x.serial ∷ []))
    by_phase (sender_cancelling reason timer) is = rests refl (ack-none x.serial)
    by_phase (sender_open c timer) is =
        by_arms Form (is_all_claimed (with_claims x.lower x.claims s.claimed)) _ _
        (λ all. leaves refl (ack-none x.serial))
        (λ open_part. by_arms Form (x.checkpoint == c.checkpoint) _ _
        (λ names. round-form policy s c timer x now is open_part (eqb-true _ _ names))
        (λ other_name. continues _ refl (record {
          pieces = λ q among. absurd (ack-none x.serial q among);
          waits = λ c' timer' waits. (timer', waits);
          unclaimed = λ c' timer' waits. inl open_part;
          claimed = inr (record { report = x; told = record { is = refl }; claimed = refl });
        })))

pub sender_tick-form : (content : ContentValue) (policy : PolicyValue) (now : ℕ) (s : Sending)
    → SenderStep content s (sender_tick policy s now)
unfolding sender_tick
sender_tick-form content policy now s =
    both_arms Form (nat_le (sending_timer s.phase).deadline now) _ _ (by_phase s.phase refl)
    (rests refl none-none)
  where
    Form : StepValue Sending → Type 0
    Form = SenderStep content s

    resent : (c : PieceValue) (timer : Timer) → s.phase ≡ sender_open c timer → (q : PieceValue)
        → IsIn (a_piece q) (a_piece c ∷ []) → (t : Timer) × (s.phase ≡ sender_open q t)
    resent c timer is q (inl here) = let one : c ≡ q =
        cc in (timer, subst (λ p. s.phase ≡ sender_open p timer) one is)
    resent c timer is q (inr none) = absurd none

    still : (c : PieceValue) (timer timer' : Timer) → s.phase ≡ sender_open c timer
        → (c' : PieceValue) (t : Timer) → sender_open c timer' ≡ sender_open c' t
        → (before : Timer) × (s.phase ≡ sender_open c' before)
    still c timer timer' is c' t now_is = let one : c ≡ c' =
        cc in (timer, subst (λ p. s.phase ≡ sender_open p timer) one is)

    by_phase : (phase : SendingPhase) → s.phase ≡ phase → Form (sender_due policy s phase now)
    by_phase (sender_open c timer) is =
        both_arms Form (nat_lt timer.times policy.limit) _ _
        (continues _ refl (record {
          pieces = resent c timer is;
          waits = still c timer
              (next_timer policy timer now) is;
          unclaimed =
              λ c' t now_is. inr refl;
          claimed = inl refl;
        }))
        (continues _ refl (same content s _ _ (cancel-none 2) refl
        (gave_up-waits s 2 (first_timer policy now))))
    by_phase (sender_cancelling reason timer) is =
        both_arms Form (nat_lt timer.times policy.limit) _ _
        (continues _ refl (same content s _ _ (cancel-none reason) refl (gave_up-waits s reason
        (next_timer policy timer now))))
        (leaves refl none-none)

-- what is told to a sender, if one is kept
pub record Listens (content : ContentValue) (kept : Option Sending)
    (t : StepValue Sending) : Type 0 where
  pub form : (s : Sending) → kept ≡ Some s → SenderStep content s t
  pub none : kept ≡ None → (t.next ≡ stays) × NoPieces t.out

listens-none : (content : ContentValue) (t : StepValue Sending) → t.next ≡ stays → NoPieces t.out
    → Listens content None t
listens-none content t next none = record { form = λ s is. absurd (cc); none = λ is. (next, none) }

listens-some : (content : ContentValue) (s : Sending) (t : StepValue Sending)
    → SenderStep content s t → Listens content (Some s) t
listens-some content s t form = record {
  form = λ s' is. let one : s ≡ s' = cc in
      subst (λ x. SenderStep content x t) one form;
  none = λ is. absurd (cc);
}

over-form : (s : Sending) (phase : SendingPhase) → SenderStep a_sender_cancel_ack s
    (ends_cancelling phase)
over-form s (sender_open c timer) = rests refl none-none
over-form s (sender_cancelling reason timer) = leaves refl none-none

pub listens-form : (policy : PolicyValue) (kept : Option Sending) (content : ContentValue)
    (now : ℕ) (t : StepValue Sending)
    → sender_answers policy kept content now ≡ Some t → Listens content kept t
unfolding sender_answers
listens-form policy None (a_report x) now t hears =
    answered (Listens (a_report x) None) _ t hears (listens-none _ _ refl (ack-none x.serial))
listens-form policy (Some s) (a_report x) now t hears =
    answered (Listens (a_report x) (Some s)) _ t hears
    (listens-some _ s _ (report-form policy s x now))
listens-form policy None (a_receiver_cancel reason) now t hears =
    answered (Listens (a_receiver_cancel reason) None) _ t hears (listens-none _ _ refl
    (none-one a_receiver_cancel_ack (λ q h. cc)))
listens-form policy (Some s) (a_receiver_cancel reason) now t hears =
    answered (Listens (a_receiver_cancel reason) (Some s)) _ t hears
    (listens-some _ s _ (leaves refl (none-one a_receiver_cancel_ack (λ q h. cc))))
listens-form policy None a_sender_cancel_ack now t hears =
    answered (Listens a_sender_cancel_ack None) _ t hears (listens-none _ _ refl none-none)
listens-form policy (Some s) a_sender_cancel_ack now t hears =
    answered (Listens a_sender_cancel_ack (Some s)) _ t hears
    (listens-some _ s _ (over-form s s.phase))
listens-form policy kept (a_piece q) now t hears = absurd (cc)
listens-form policy kept (a_report_ack n) now t hears = absurd (cc)
listens-form policy kept (a_sender_cancel n) now t hears = absurd (cc)
listens-form policy kept a_receiver_cancel_ack now t hears = absurd (cc)
