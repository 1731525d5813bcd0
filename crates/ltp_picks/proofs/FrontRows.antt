-- A segment comes to an end of a session: whether it is new or old, the session drains within so
-- many events with it.

use Rattle.std.proofs.Common.{◌≡◌, ℕ, ◌+◌, ◌*◌, ◌≤◌, List, ◌∷◌, refl, ◌∙◌}
use Rattle.std.proofs.Common.{ap, arith, subst, Some}
use Rattle.ltp_segment.specs.Values.{ContentValue, PieceValue, a_piece, a_report, a_report_ack}
use Rattle.ltp_segment.specs.Values.{a_sender_cancel, a_sender_cancel_ack, a_receiver_cancel}
use Rattle.ltp_segment.specs.Values.{a_receiver_cancel_ack}
use Rattle.ltp_session.specs.Sender.{Sending, sender_open}
use Rattle.ltp_session.specs.declared.timer.Timer.{Timer}
use Rattle.ltp_laws.specs.Kinds.{IsReceivers, IsSenders}
use Rattle.ltp_laws.specs.View.{IsIn, View}
use Rattle.ltp_drain.specs.Calm.{Drains, HasSerials, Setting}
use Rattle.ltp_drain.specs.Rank.{Settled}
use Rattle.ltp_picks.proofs.CopyRows.{IsFronted, fewer-serials, new-fronted, old-fronted}
use Rattle.ltp_picks.proofs.CopySessions.{old-ack, old-report}
use Rattle.ltp_picks.proofs.EchoLemmas.{echo, echoes, echoes-first, plain, plain-cancel, plain-other}

-- a cancel, or its answer, takes no rank
pub record DrainsBeside (at : Setting) (v : View) (e : ContentValue)
    (new_s new_r : List ContentValue) (m : ℕ) : Type 0 where
  pub left : ℕ
  pub less : left + echo e ≤ m
  pub drains : Drains at v new_s new_r left

-- this is coming to the session's sender
abbrev pub FrontsSender : Setting → View → ContentValue → List ContentValue → List ContentValue → ℕ
    → Type 0
FrontsSender at v (a_report x) new_s new_r m = Drains at v new_s (a_report x ∷ new_r) m
FrontsSender at v e new_s new_r m = DrainsBeside at v e new_s new_r m

-- this is coming to its receiver
abbrev pub FrontsReceiver : Setting → View → ContentValue → List ContentValue → List ContentValue
    → ℕ → Type 0
FrontsReceiver at v (a_piece q) new_s new_r m = IsFronted at v q new_s new_r m
FrontsReceiver at v (a_report_ack serial) new_s new_r m =
    Drains at v (a_report_ack serial ∷ new_s) new_r m
FrontsReceiver at v e new_s new_r m = DrainsBeside at v e new_s new_r m

-- ---- new, or old

-- what is coming was the oldest new content of its end; or it is an old one, of which k come still
pub data Arrives (Again : Type 0) (e : ContentValue) (new new' : List ContentValue) (k k' : ℕ)
    : Type 0 where
  comes_first : new ≡ e ∷ new' → k ≡ k' → Arrives Again e new new' k k'
  comes_again : Again → new ≡ new' → k ≡ k' + 1 → Arrives Again e new new' k k'

pub record HasFront (Fronts : ℕ → Type 0) (total total' : ℕ) : Type 0 where
  pub m : ℕ
  pub sum : m + total' ≡ total
  pub fronts : Fronts m

same-drains : (at : Setting) (v : View) (new_s new_r new_s' new_r' : List ContentValue) (m m' : ℕ)
    → new_s ≡ new_s' → new_r ≡ new_r' → m ≡ m' → Drains at v new_s new_r m
    → Drains at v new_s' new_r' m'
same-drains at v new_s new_r new_s' new_r' m m' is_s is_r is drains =
    subst (λ (xs : List ContentValue). Drains at v xs new_r' m') is_s
    (subst (λ (xs : List ContentValue). Drains at v new_s xs m') is_r
    (subst (Drains at v new_s new_r) is drains))

beside : (at : Setting) (v : View) (e : ContentValue) (new_s new_r : List ContentValue)
    (left m : ℕ) → left + echo e ≤ m → Drains at v new_s new_r left
    → DrainsBeside at v e new_s new_r m
beside at v e new_s new_r left m less drains =
    record { left = left; less = less; drains = drains }

-- ---- to the sender

new-fronts-sender : (at : Setting) (v : View) (e : ContentValue) (new_s new_r : List ContentValue)
    (left : ℕ) → IsReceivers e → Drains at v (plain new_s) (plain (e ∷ new_r)) left
    → FrontsSender at v e (plain new_s) (plain new_r) (left + echo e)
new-fronts-sender at v (a_report x) new_s new_r left is drains =
    same-drains at v _ _ _ _ left (left + 0) refl (plain-other (a_report x) new_r refl)
    (omega arith) drains
new-fronts-sender at v (a_receiver_cancel reason) new_s new_r left is drains =
    beside at v (a_receiver_cancel reason) _ _ left _ (omega arith)
    (same-drains at v _ _ _ _ left left refl (plain-cancel (a_receiver_cancel reason) new_r refl)
    refl drains)
new-fronts-sender at v a_sender_cancel_ack new_s new_r left is drains =
    beside at v a_sender_cancel_ack _ _ left _ (omega arith)
    (same-drains at v _ _ _ _ left left refl (plain-cancel a_sender_cancel_ack new_r refl) refl
    drains)
new-fronts-sender at v (a_piece q) new_s new_r left is drains = absurd is
new-fronts-sender at v (a_report_ack serial) new_s new_r left is drains = absurd is
new-fronts-sender at v (a_sender_cancel reason) new_s new_r left is drains = absurd is
new-fronts-sender at v a_receiver_cancel_ack new_s new_r left is drains = absurd is

old-fronts-sender : (at : Setting) (v : View) (e : ContentValue) (new_s new_r : List ContentValue)
    (left : ℕ) → IsReceivers e → IsIn e v.by_receiver → HasSerials at.session v (left + 3)
    → Drains at v new_s new_r left → FrontsSender at v e new_s new_r (left + 3)
old-fronts-sender at v (a_report x) new_s new_r left is sent serials drains =
    old-report at v x new_s new_r left drains sent serials
old-fronts-sender at v (a_receiver_cancel reason) new_s new_r left is sent serials drains =
    beside at v (a_receiver_cancel reason) new_s new_r left _ (omega arith) drains
old-fronts-sender at v a_sender_cancel_ack new_s new_r left is sent serials drains =
    beside at v a_sender_cancel_ack new_s new_r left _ (omega arith) drains
old-fronts-sender at v (a_piece q) new_s new_r left is sent serials drains = absurd is
old-fronts-sender at v (a_report_ack serial) new_s new_r left is sent serials drains = absurd is
old-fronts-sender at v (a_sender_cancel reason) new_s new_r left is sent serials drains = absurd is
old-fronts-sender at v a_receiver_cancel_ack new_s new_r left is sent serials drains = absurd is

pub fronts-sender : (Again : Type 0) (at : Setting) (v : View) (e : ContentValue)
    (new_s new_r new_r' : List ContentValue) (k k' left : ℕ) → Arrives Again e new_r new_r' k k'
    → IsReceivers e → IsIn e v.by_receiver → HasSerials at.session v (left + 3 * k)
    → Drains at v (plain new_s) (plain new_r) left
    → HasFront (FrontsSender at v e (plain new_s) (plain new_r'))
    (left + echoes new_r + 3 * k) (echoes new_r' + 3 * k')
fronts-sender Again at v e new_s new_r new_r' k k' left (comes_first is same) of sent serials drains =
    record {
      m = left + echo e;
      sum = omega (arith, same, ap echoes is ∙ echoes-first e new_r');
      fronts = new-fronts-sender at v e new_s new_r' left of
          (same-drains at v _ _ _ _ left left refl (ap plain is) refl drains);
    }
fronts-sender Again at v e new_s new_r new_r' k k' left (comes_again again is more) of sent serials drains =
    record {
      m = left + 3;
      sum = omega (arith, more, ap echoes is);
      fronts = old-fronts-sender at v e (plain new_s) (plain new_r') left of sent
          (fewer-serials at.session v (left + 3 * k) (left + 3) (omega (arith, more)) serials)
          (same-drains at v _ _ _ _ left left refl (ap plain is) refl drains);
    }

-- ---- to the receiver

new-fronts-receiver : (at : Setting) (v : View) (e : ContentValue)
    (new_s new_r : List ContentValue) (left : ℕ) → IsSenders e
    → Drains at v (plain (e ∷ new_s)) (plain new_r) left
    → FrontsReceiver at v e (plain new_s) (plain new_r) (left + echo e)
new-fronts-receiver at v (a_piece q) new_s new_r left is drains =
    new-fronted at v q (plain new_s) (plain new_r) (left + 0)
    (same-drains at v _ _ _ _ left (left + 0) (plain-other (a_piece q) new_s refl) refl
    (omega arith) drains)
new-fronts-receiver at v (a_report_ack serial) new_s new_r left is drains =
    same-drains at v _ _ _ _ left (left + 0) (plain-other (a_report_ack serial) new_s refl) refl
    (omega arith) drains
new-fronts-receiver at v (a_sender_cancel reason) new_s new_r left is drains =
    beside at v (a_sender_cancel reason) _ _ left _ (omega arith)
    (same-drains at v _ _ _ _ left left (plain-cancel (a_sender_cancel reason) new_s refl) refl
    refl drains)
new-fronts-receiver at v a_receiver_cancel_ack new_s new_r left is drains =
    beside at v a_receiver_cancel_ack _ _ left _ (omega arith)
    (same-drains at v _ _ _ _ left left (plain-cancel a_receiver_cancel_ack new_s refl) refl refl
    drains)
new-fronts-receiver at v (a_report x) new_s new_r left is drains = absurd is
new-fronts-receiver at v (a_receiver_cancel reason) new_s new_r left is drains = absurd is
new-fronts-receiver at v a_sender_cancel_ack new_s new_r left is drains = absurd is

-- an old piece before what is new leaves a sender's checkpoint settled
abbrev pub StaysSettled : Setting → View → ContentValue → List ContentValue → Type 0
StaysSettled at v (a_piece q) new_s =
    (s : Sending) (c : PieceValue) (timer : Timer) → v.sender ≡ Some s
    → s.phase ≡ sender_open c timer → Settled at.red v c.checkpoint new_s
    → Settled at.red v c.checkpoint (a_piece q ∷ new_s)
StaysSettled at v e new_s = Unit {0}

old-fronts-receiver : (at : Setting) (v : View) (e : ContentValue)
    (new_s new_r : List ContentValue) (left : ℕ) → IsSenders e → IsIn e v.by_sender
    → HasSerials at.session v (left + 3) → StaysSettled at v e new_s
    → Drains at v new_s new_r left → FrontsReceiver at v e new_s new_r (left + 3)
old-fronts-receiver at v (a_piece q) new_s new_r left is sent serials settled drains =
    old-fronted at v q new_s new_r left drains sent serials settled
old-fronts-receiver at v (a_report_ack serial) new_s new_r left is sent serials settled drains =
    old-ack at v serial new_s new_r left drains sent serials
old-fronts-receiver at v (a_sender_cancel reason) new_s new_r left is sent serials settled drains =
    beside at v (a_sender_cancel reason) new_s new_r left _ (omega arith) drains
old-fronts-receiver at v a_receiver_cancel_ack new_s new_r left is sent serials settled drains =
    beside at v a_receiver_cancel_ack new_s new_r left _ (omega arith) drains
old-fronts-receiver at v (a_report x) new_s new_r left is sent serials settled drains = absurd is
old-fronts-receiver at v (a_receiver_cancel reason) new_s new_r left is sent serials settled drains =
    absurd is
old-fronts-receiver at v a_sender_cancel_ack new_s new_r left is sent serials settled drains =
    absurd is

pub fronts-receiver : (Again : Type 0) (at : Setting) (v : View) (e : ContentValue)
    (new_s new_s' new_r : List ContentValue) (k k' left : ℕ) → Arrives Again e new_s new_s' k k'
    → IsSenders e → IsIn e v.by_sender → HasSerials at.session v (left + 3 * k)
    → (Again → new_s ≡ new_s' → StaysSettled at v e (plain new_s'))
    → Drains at v (plain new_s) (plain new_r) left
    → HasFront (FrontsReceiver at v e (plain new_s') (plain new_r))
    (left + echoes new_s + 3 * k) (echoes new_s' + 3 * k')
fronts-receiver Again at v e new_s new_s' new_r k k' left (comes_first is same) of sent serials settled
    drains = record {
      m = left + echo e;
      sum = omega (arith, same, ap echoes is ∙ echoes-first e new_s');
      fronts = new-fronts-receiver at v e new_s' new_r left of
          (same-drains at v _ _ _ _ left left (ap plain is) refl refl drains);
    }
fronts-receiver Again at v e new_s new_s' new_r k k' left (comes_again again is more) of sent serials settled
    drains = record {
      m = left + 3;
      sum = omega (arith, more, ap echoes is);
      fronts = old-fronts-receiver at v e (plain new_s') (plain new_r) left of sent
          (fewer-serials at.session v (left + 3 * k) (left + 3) (omega (arith, more)) serials)
          (settled again is)
          (same-drains at v _ _ _ _ left left (ap plain is) refl refl drains);
    }
