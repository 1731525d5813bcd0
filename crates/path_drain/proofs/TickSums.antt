-- What a clock leaves of the room of a link, and of what is on its way, where nothing is new.

use Rattle.std.proofs.Common.{◌≡◌, ℕ, ◌≤◌, Bool, true, false, not, List, [], length, Option, None}
use Rattle.std.proofs.Common.{Some, refl, sym, ◌∙◌, ap, arith, subst}
use Rattle.ltp_segment.specs.Policy.{PolicyValue}
use Rattle.ltp_segment.specs.Values.{a_sender_cancel_ack}
use Rattle.ltp_session.specs.Engine.{Engine, Party, is_closed, receiver_changes, receiver_ticks}
use Rattle.ltp_session.specs.Engine.{sender_changes, tick_engine}
use Rattle.ltp_session.specs.Receiver.{Receiving}
use Rattle.ltp_session.specs.Sender.{Sending, SendingPhase, sender_cancelling, sender_due}
use Rattle.ltp_session.specs.Sender.{sender_open, sender_tick, sending_timer}
use Rattle.ltp_session.specs.Step.{Change, StepValue, after, ends, keeps, stays}
use Rattle.ltp_session.specs.Table.{AreAscending, find}
use Rattle.ltp_session.specs.Timer.{is_due, may_repeat}
use Rattle.ltp_session.specs.World.{ArePeers, End, at_end, first_end, other, second_end}
use Rattle.ltp_laws.specs.Facts.{SessionFacts}
use Rattle.ltp_laws.specs.Runs.{receiver_after}
use Rattle.ltp_laws.specs.View.{IsIn, View, closed_after, view_by}
use Rattle.ltp_laws.proofs.FrameLemmas.{AreTwo, tick-peer}
use Rattle.ltp_laws.proofs.ListLemmas.{both_arms}
use Rattle.ltp_laws.proofs.RunLemmas.{Linked, linked-at, two_ends}
use Rattle.ltp_laws.proofs.StepLemmas.{tick-form}
use Rattle.ltp_laws.proofs.TableLemmas.{after_tick, find-ticked}
use Rattle.ltp_drain.specs.Draining.{Draining}
use Rattle.ltp_drain.specs.Standing.{DrainHolds, TickedTo}
use Rattle.ltp_drain.proofs.DrainRun.{tick-holds, ticked-new, ticked-world}
use Rattle.ltp_drain.proofs.StartLemmas.{session-gives}
use Rattle.ltp_drain.proofs.RoomSteps.{NoMore, need-ticked, need-ticked_peer}
use Rattle.path_drain.specs.OnTheWay.{is_handed_up, is_on_its_way, sum_on_way}
use Rattle.path_drain.specs.RoomKept.{SendsRed}
use Rattle.path_drain.proofs.Arrivals.{unclosed-in}
use Rattle.path_drain.proofs.HandedLemmas.{handed-stays}
use Rattle.path_drain.proofs.ArrivalSums.{found-in, not-true}
use Rattle.path_drain.proofs.CountSteps.{then-need}
use Rattle.path_drain.proofs.WayLemmas.{SameBlock, way-most, way-ticked}

-- ---- room

pub ticks-need : (me you : End) (p q : Party) (e f : Engine) (now : ℕ) → AreTwo me you
    → Linked p q → AreAscending 0 e.receivers
    → NoMore e f (tick_engine p e now) (tick_engine q f now)
ticks-need me you p q e f now both linked ascending =
    then-need e f (tick_engine p e now) f (tick_engine p e now) (tick_engine q f now)
    (need-ticked me you p q e f now both linked ascending)
    (need-ticked_peer q f (tick_engine p e now) now)

-- ---- a sender's block

tick-same_block : (policy : PolicyValue) (now : ℕ) (s : Sending)
    → SameBlock s (sender_tick policy s now).next
unfolding sender_tick
tick-same_block policy now s =
    both_arms (λ (t : StepValue Sending). SameBlock s t.next) (is_due (sending_timer s.phase) now)
    _ _ (by_phase s.phase) tt
  where
    by_phase : (phase : SendingPhase) → SameBlock s (sender_due policy s phase now).next
    by_phase (sender_open c timer) =
        both_arms (λ (t : StepValue Sending). SameBlock s t.next) (may_repeat policy timer) _ _
        (refl, refl) (refl, refl)
    by_phase (sender_cancelling reason timer) =
        both_arms (λ (t : StepValue Sending). SameBlock s t.next) (may_repeat policy timer) _ _
        (refl, refl) tt

-- ---- a receiver that has handed its red part up

still-up : (me you : End) (p q : Party) (e : Engine) (n now : ℕ) → AreTwo me you → Linked p q
    → AreAscending 0 e.receivers
    → is_closed n (tick_engine p e now).closed ≡ false
    → is_handed_up (find n e.receivers) ≡ true
    → is_handed_up (find n (tick_engine p e now).receivers) ≡ true
still-up me you p q e n now both linked ascending unclosed was =
    ap is_handed_up (find-ticked (receiver_changes p now) n 0 e.receivers ascending)
    ∙ by_kept (find n e.receivers) refl was
  where
    v : View
    v = view_by you me q e e [] n

    closed : is_closed n (tick_engine p e now).closed
        ≡ (receiver_after (receiver_ticks p now) (find n e.receivers)
        (view_by you me q e e [] n)).closed
    closed = ap (λ (v : View). v.closed)
        (tick-peer me you p q e e [] n now both linked.knows linked.apart ascending)

    by_change : (r : Receiving) → find n e.receivers ≡ Some r → r.handed_up ≡ true
        → (c : Change Receiving) → receiver_changes p now r ≡ c
        → is_handed_up (after c (Some r)) ≡ true
    by_change r is up stays c_is = up
    by_change r is up (keeps r') c_is = handed-stays a_sender_cancel_ack r r' _
        (tick-form a_sender_cancel_ack p.policy now r) up c_is
    by_change r is up ends c_is = absurd (
        let shut : is_closed n (tick_engine p e now).closed ≡ true =
        closed ∙ ap (λ o. (receiver_after (receiver_ticks p now) o
        (view_by you me q e e [] n)).closed) is
        ∙ ap (λ c. closed_after c (is_closed n e.closed)) c_is in
        cc)

    by_kept : (o : Option Receiving) → find n e.receivers ≡ o → is_handed_up o ≡ true
        → is_handed_up (after_tick (receiver_changes p now) o) ≡ true
    by_kept None is up = absurd (cc)
    by_kept (Some r) is up = by_change r is up (receiver_changes p now r) refl

-- what is on its way is no more, once both engines ticked
ticks-way : (count : List ℕ → ℕ) (me you : End) (p q : Party) (e f : Engine) (now : ℕ)
    → AreTwo me you → Linked p q → AreAscending 0 e.receivers
    → ((n : ℕ) (s : Sending) → find n (tick_engine q f now).senders ≡ Some s
    → is_closed n (tick_engine p e now).closed ≡ false)
    → sum_on_way count (tick_engine p e now).receivers (tick_engine q f now).senders
    ≤ sum_on_way count e.receivers f.senders
ticks-way count me you p q e f now both linked ascending unclosed = omega (
  arith,
  way-most count e.receivers (tick_engine p e now).receivers (tick_engine q f now).senders still,
  way-ticked count e.receivers (sender_changes q now) f.senders (tick-same_block q.policy now),
)
  where
    still : (entry : ℕ × Sending) → IsIn entry (tick_engine q f now).senders
        → is_on_its_way (tick_engine p e now).receivers entry.0 ≡ true
        → is_on_its_way e.receivers entry.0 ≡ true
    still entry among is = by_up (is_handed_up (find entry.0 e.receivers)) refl
      where
        by_up : (b : Bool) → is_handed_up (find entry.0 e.receivers) ≡ b
            → is_on_its_way e.receivers entry.0 ≡ true
        by_up false was = ap not was
        by_up true was = absurd (
            let found = found-in entry (tick_engine q f now).senders among in
            let up : is_handed_up (find entry.0 (tick_engine p e now).receivers) ≡ true =
            still-up me you p q e entry.0 now both linked ascending
            (unclosed entry.0 found.0 found.1) was in
            let down : is_handed_up (find entry.0 (tick_engine p e now).receivers) ≡ false =
            not-true _ is in
            cc)

-- ---- a link

pub ticked-way : (count : List ℕ → ℕ) (parties : Party × Party) (d : Draining)
    (rank : End → ℕ → ℕ) (now : ℕ) (me : End) → ArePeers parties
    → DrainHolds SessionFacts parties d rank → d.new ≡ []
    → sum_on_way count
    (tick_engine (at_end parties me) (at_end (d.world).engines me) now).receivers
    (tick_engine (at_end parties (other me)) (at_end (d.world).engines (other me)) now).senders
    ≤ sum_on_way count (at_end (d.world).engines me).receivers
    (at_end (d.world).engines (other me)).senders
unfolding ticked-world
ticked-way count parties d rank now me peers holds none =
    ticks-way count me (other me) (at_end parties me) (at_end parties (other me))
    (at_end (d.world).engines me) (at_end (d.world).engines (other me)) now (two_ends me)
    (linked-at parties me peers) (holds.receivers me) (unclosed me)
  where
    t : TickedTo SessionFacts parties (record {
      world = ticked-world parties d.world now;
      new = ticked-new parties d.world now;
    }) rank
    t = tick-holds SessionFacts session-gives parties d rank now peers holds none

    unclosed : (me : End) (n : ℕ) (s : Sending)
        → find n (tick_engine (at_end parties (other me)) (at_end (d.world).engines (other me))
        now).senders ≡ Some s
        → is_closed n (tick_engine (at_end parties me) (at_end (d.world).engines me) now).closed
        ≡ false
    unclosed first_end n s kept = unclosed-in parties _ _ first_end t.holds n s kept
    unclosed second_end n s kept = unclosed-in parties _ _ second_end t.holds n s kept

-- ---- blocks are all red still

pub ticked-red : (p : Party) (e : Engine) (now : ℕ) → AreAscending 0 e.senders → SendsRed e
    → SendsRed (tick_engine p e now)
ticked-red p e now ascending reds = record { red = red }
  where
    by_change : (s s' : Sending) → s.red ≡ length s.block → (c : Change Sending) → SameBlock s c
        → after c (Some s) ≡ Some s' → s'.red ≡ length s'.block
    by_change s s' red stays same is =
        let one : s ≡ s' = cc in subst (λ (x : Sending). x.red ≡ length x.block) one red
    by_change s s' red (keeps x) same is =
        let one : x ≡ s' = cc in
        subst (λ (x : Sending). x.red ≡ length x.block) one
        (same.1 ∙ red ∙ sym (ap length same.0))
    by_change s s' red ends same is = absurd (cc)

    by_kept : (n : ℕ) (s' : Sending) (o : Option Sending) → find n e.senders ≡ o
        → after_tick (sender_changes p now) o ≡ Some s' → s'.red ≡ length s'.block
    by_kept n s' None none is = absurd (cc)
    by_kept n s' (Some s) some is = by_change s s' (reds.red n s some) (sender_changes p now s)
        (tick-same_block p.policy now s) is

    red : (n : ℕ) (s' : Sending) → find n (tick_engine p e now).senders ≡ Some s'
        → s'.red ≡ length s'.block
    red n s' kept = by_kept n s' (find n e.senders) refl
        (sym (find-ticked (sender_changes p now) n 0 e.senders ascending) ∙ kept)
