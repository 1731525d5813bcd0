-- A datagram that isn't for the end that it comes to costs one too.

use Rattle.std.proofs.Common.{◌≡◌, ℕ, ◌<◌, ◌≤◌, Bool, true, false, List, ◌∷◌, None, ◌⊎◌, inl, inr}
use Rattle.std.proofs.Common.{refl, arith, if◌then◌else◌}
use Rattle.ltp_segment.specs.Kinds.{is_checkpoint}
use Rattle.ltp_segment.specs.Policy.{PolicyValue}
use Rattle.ltp_segment.specs.Values.{PieceValue, ReportValue, ContentValue, a_piece, a_report}
use Rattle.ltp_segment.specs.Values.{a_report_ack, a_sender_cancel, a_sender_cancel_ack}
use Rattle.ltp_segment.specs.Values.{a_receiver_cancel, a_receiver_cancel_ack}
use Rattle.ltp_session.specs.Receiver.{Admission, receiver_answers}
use Rattle.ltp_session.specs.Sender.{sender_answers}
use Rattle.ltp_laws.specs.View.{View}
use Rattle.ltp_drain.specs.Calm.{Drains, Falls, HasSerials, Onward, Setting}
use Rattle.ltp_drain.specs.Rank.{HasFilled, IsAskedOn, IsReportedOn, Settled, ahead, has_cell}
use Rattle.ltp_drain.specs.Rank.{is_checkpoint_of, weight, weights}
use Rattle.ltp_drain.proofs.OnwardLemmas.{onward-asking, onward-rank, onward-reporting}
use Rattle.ltp_drain.proofs.RankLemmas.{ahead-front}

weighs : (e : ContentValue) → 1 ≤ weight e
weighs (a_piece q) = by (is_checkpoint q.kind)
  where
    by : (b : Bool) → 1 ≤ (if b then 3 else 1)
    by true = omega arith
    by false = omega arith
weighs (a_report x) = omega arith
weighs (a_report_ack n) = omega arith
weighs (a_sender_cancel n) = omega arith
weighs a_sender_cancel_ack = omega arith
weighs (a_receiver_cancel n) = omega arith
weighs a_receiver_cancel_ack = omega arith

fewer : (session : ℕ) (v : View) (n left : ℕ) → left < n → HasSerials session v n
    → HasSerials session v left
fewer session v n left less serials = record {
  sender = λ s c timer is waits. omega (arith, serials.sender s c timer is waits, less);
  receiver = λ r is. omega (arith, serials.receiver r is, less);
  fresh = omega (arith, serials.fresh, less);
}

pub from_receiver-falls : (at : Setting) (v : View) (e : ContentValue)
    (new_s new_r : List ContentValue) (n : ℕ) → ((x : ReportValue) → e ≡ a_report x → ⊥)
    → Drains at v new_s (e ∷ new_r) n → Falls at v new_s new_r n
unfolding weights
from_receiver-falls at v e new_s new_r n no_report drains =
    let falls = onward-rank at.z at.red v v new_s (e ∷ new_r) new_s new_r n onward
    (omega (arith, weighs e)) drains.rank in
    record {
      left = falls.left;
      less = falls.less;
      drains = record {
        calm = record {
          sending = (drains.calm).sending;
          receiving = (drains.calm).receiving;
          none_s = (drains.calm).none_s;
          none_r = λ c among. (drains.calm).none_r c (inr among);
          asking = onward-asking (λ timer. timer.times < at.limit_s) at.red v v new_s
              (e ∷ new_r) new_s new_r onward (drains.calm).asking;
          reporting = onward-reporting (λ p. (p.timer).times < at.limit_r) at.red v v new_s
              (e ∷ new_r) new_s new_r onward (drains.calm).reporting;
          unclosed = (drains.calm).unclosed;
          awaited = (drains.calm).awaited;
          heard_s = (drains.calm).heard_s;
          heard_r = λ c among. (drains.calm).heard_r c (inr among);
        };
        rank = falls.rank;
        serials = fewer at.session v n falls.left falls.less drains.serials;
        fit = drains.fit;
        low = drains.low;
      };
    }
  where
    reported : (serial : ℕ) → IsReportedOn serial new_s (e ∷ new_r)
        → IsReportedOn serial new_s new_r
    reported serial (inr ack) = inr ack
    reported serial (inl (x, inl here, is)) = absurd (no_report x here)
    reported serial (inl (x, inr among, is)) = inl (x, among, is)

    asked : (c : ℕ) → IsAskedOn c new_s (e ∷ new_r) → IsAskedOn c new_s new_r
    asked c (inl piece) = inl piece
    asked c (inr (x, inl here, is)) = absurd (no_report x here)
    asked c (inr (x, inr among, is)) = inr (x, among, is)

    onward : Onward at.red v v new_s (e ∷ new_r) new_s new_r
    onward = record {
      reporting = λ r p is waits. inr (record {
        r = r;
        kept = is;
        waited = waits;
        still = reported
            (p.report).serial;
      });
      asking = λ s c timer is waits. record {
        s = s;
        kept = is;
        waited = waits;
        same_red = refl;
        same_block = refl;
        still = asked c.checkpoint;
        settled = λ settled. settled;
      };
    }

pub from_sender-falls : (at : Setting) (v : View) (e : ContentValue)
    (new_s new_r : List ContentValue) (n : ℕ) → ((q : PieceValue) → e ≡ a_piece q → ⊥)
    → ((m : ℕ) → e ≡ a_report_ack m → ⊥)
    → ((c : ℕ) → is_checkpoint_of c e ≡ false) → ((i : ℕ) → has_cell i e ≡ false)
    → Drains at v (e ∷ new_s) new_r n → Falls at v new_s new_r n
unfolding weights
from_sender-falls at v e new_s new_r n no_piece no_ack no_checkpoint no_cell drains =
    let falls = onward-rank at.z at.red v v (e ∷ new_s) new_r new_s new_r n onward
    (omega (arith, weighs e)) drains.rank in
    record {
      left = falls.left;
      less = falls.less;
      drains = record {
        calm = record {
          sending = (drains.calm).sending;
          receiving = (drains.calm).receiving;
          none_s = λ c among. (drains.calm).none_s c (inr among);
          none_r = (drains.calm).none_r;
          asking = onward-asking (λ timer. timer.times < at.limit_s) at.red v v
              (e ∷ new_s) new_r new_s new_r onward (drains.calm).asking;
          reporting = onward-reporting (λ p. (p.timer).times < at.limit_r) at.red v v
              (e ∷ new_s) new_r new_s new_r onward (drains.calm).reporting;
          unclosed = (drains.calm).unclosed;
          awaited = λ q among red_kind. (drains.calm).awaited q (inr among) red_kind;
          heard_s = λ c among. (drains.calm).heard_s c (inr among);
          heard_r = (drains.calm).heard_r;
        };
        rank = falls.rank;
        serials = fewer at.session v n falls.left falls.less drains.serials;
        fit = drains.fit;
        low = drains.low;
      };
    }
  where
    reported : (serial : ℕ) → IsReportedOn serial (e ∷ new_s) new_r
        → IsReportedOn serial new_s new_r
    reported serial (inl report) = inl report
    reported serial (inr (inl here)) = absurd (no_ack serial here)
    reported serial (inr (inr among)) = inr among

    asked : (c : ℕ) → IsAskedOn c (e ∷ new_s) new_r → IsAskedOn c new_s new_r
    asked c (inr report) = inr report
    asked c (inl (q, inl here, asks, named)) = absurd (no_piece q here)
    asked c (inl (q, inr among, asks, named)) = inl (q, among, asks, named)

    settled : (c : ℕ) → Settled at.red v c (e ∷ new_s) → Settled at.red v c new_s
    settled c before = record { whole = before.whole; cells = λ i low. go i (before.cells i low) }
      where
        front : (i : ℕ) → (has_cell i e ≡ true)
            ⊎ ((is_checkpoint_of c e ≡ false) × (ahead c i new_s ≡ true)) → HasFilled i v.receiver
            ⊎ (ahead c i new_s ≡ true)
        front i (inl has) = absurd (let none = no_cell i in cc)
        front i (inr further) = inr further.1

        go : (i : ℕ) → HasFilled i v.receiver ⊎ (ahead c i (e ∷ new_s) ≡ true)
            → HasFilled i v.receiver ⊎ (ahead c i new_s ≡ true)
        go i (inl has) = inl has
        go i (inr on) = front i (ahead-front c i e new_s on)

    onward : Onward at.red v v (e ∷ new_s) new_r new_s new_r
    onward = record {
      reporting = λ r p is waits. inr (record {
        r = r;
        kept = is;
        waited = waits;
        still = reported
            (p.report).serial;
      });
      asking = λ s c timer is waits. record {
        s = s;
        kept = is;
        waited = waits;
        same_red = refl;
        same_block = refl;
        still = asked c.checkpoint;
        settled = settled c.checkpoint;
      };
    }

pub unheard-by_sender : (at : Setting) (policy : PolicyValue) (v : View) (e : ContentValue)
    (now : ℕ) (new_s new_r : List ContentValue) (n : ℕ)
    → sender_answers policy v.sender e now ≡ None → Drains at v new_s (e ∷ new_r) n
    → Falls at v new_s new_r n
unfolding sender_answers
unheard-by_sender at policy v (a_report x) now new_s new_r n hears drains = absurd (cc)
unheard-by_sender at policy v (a_piece q) now new_s new_r n hears drains =
    from_receiver-falls at v (a_piece q) new_s new_r n (λ x h. cc) drains
unheard-by_sender at policy v (a_report_ack m) now new_s new_r n hears drains =
    from_receiver-falls at v (a_report_ack m) new_s new_r n (λ x h. cc) drains
unheard-by_sender at policy v (a_sender_cancel m) now new_s new_r n hears drains =
    from_receiver-falls at v (a_sender_cancel m) new_s new_r n (λ x h. cc) drains
unheard-by_sender at policy v a_sender_cancel_ack now new_s new_r n hears drains = absurd (cc)
unheard-by_sender at policy v (a_receiver_cancel m) now new_s new_r n hears drains = absurd (cc)
unheard-by_sender at policy v a_receiver_cancel_ack now new_s new_r n hears drains =
    from_receiver-falls at v a_receiver_cancel_ack new_s new_r n (λ x h. cc) drains

pub unheard-by_receiver : (at : Setting) (policy : PolicyValue) (place : Admission) (v : View)
    (e : ContentValue) (now : ℕ) (new_s new_r : List ContentValue) (n : ℕ)
    → receiver_answers policy place v.receiver e now ≡ None → Drains at v (e ∷ new_s) new_r n
    → Falls at v new_s new_r n
unfolding receiver_answers
unheard-by_receiver at policy place v (a_piece q) now new_s new_r n hears drains = absurd (cc)
unheard-by_receiver at policy place v (a_report_ack m) now new_s new_r n hears drains =
    absurd (cc)
unheard-by_receiver at policy place v (a_sender_cancel m) now new_s new_r n hears drains =
    absurd (cc)
unheard-by_receiver at policy place v a_receiver_cancel_ack now new_s new_r n hears drains =
    absurd (cc)
unheard-by_receiver at policy place v (a_report x) now new_s new_r n hears drains =
    from_sender-falls at v (a_report x) new_s new_r n (λ q h. cc) (λ m h. cc) (λ c. refl)
    (λ i. refl) drains
unheard-by_receiver at policy place v a_sender_cancel_ack now new_s new_r n hears drains =
    from_sender-falls at v a_sender_cancel_ack new_s new_r n (λ q h. cc) (λ m h. cc) (λ c. refl)
    (λ i. refl) drains
unheard-by_receiver at policy place v (a_receiver_cancel m) now new_s new_r n hears drains =
    from_sender-falls at v (a_receiver_cancel m) new_s new_r n (λ q h. cc) (λ m h. cc) (λ c. refl)
    (λ i. refl) drains
