-- A clock to a moment below every deadline leaves a drain as it is.

use Rattle.std.proofs.Common.{◌≡◌, ℕ, ◌<◌, ◌≤◌, false, List, [], ◌++◌, Option, None, Some, inl}
use Rattle.std.proofs.Common.{inr, refl, sym, ◌∙◌, ap, arith, subst, append_assoc, nat_le}
use Rattle.std.proofs.lemmas.Bool.Decides.{nat_tests}
use Rattle.std.proofs.lemmas.List.{append-nil}
use Rattle.ltp_segment.specs.Policy.{PolicyValue}
use Rattle.ltp_session.specs.Engine.{Engine, Party}
use Rattle.ltp_session.specs.Engine.{receiver_ticks, sender_ticks, tick_engine, tick_out}
use Rattle.ltp_session.specs.Receiver.{receiver_due, Pending, Receiving, ReceivingPhase}
use Rattle.ltp_session.specs.Receiver.{is_cancelling, receiver_cancelling, receiver_open}
use Rattle.ltp_session.specs.Receiver.{receiver_tick}
use Rattle.ltp_session.specs.Sender.{Sending, sender_tick, sending_timer}
use Rattle.ltp_session.specs.Step.{StepValue, sending, stays}
use Rattle.ltp_session.specs.Table.{AreAscending, find}
use Rattle.ltp_session.specs.World.{ArePeers, End, Sent, World, at_end, first_end, other}
use Rattle.ltp_session.specs.World.{second_end, sent_by, ticks}
use Rattle.ltp_laws.specs.Runs.{receiver_after, sender_after}
use Rattle.ltp_laws.specs.Serials.{pending_of}
use Rattle.ltp_laws.specs.View.{View, receiver_moves, said, sender_moves, view, view_by}
use Rattle.ltp_laws.proofs.FrameLemmas.{AreTwo, same_view, tick-own, tick-peer}
use Rattle.ltp_laws.proofs.RunLemmas.{Linked, linked-apart, linked-at, two_ends}
use Rattle.ltp_drain.specs.Draining.{Draining, since}
use Rattle.ltp_drain.specs.Standing.{AreKnown, BelowDeadlines, DrainHolds, Stands, setting}
use Rattle.ltp_drain.proofs.DrainFrame.{was_begun, never_begun, Begun, is-begun, stands-so}
use Rattle.ltp_drain.proofs.DrainLists.{new-none}
use Rattle.ltp_drain.proofs.DrainRun.{known-append, known-out, same_draining, since-ticks}
use Rattle.ltp_drain.proofs.DrainRun.{ticked-new, ticked-receivers, ticked-senders, ticked-world}
use Rattle.ltp_drain.proofs.DrainRun.{ticks-are}
use Rattle.ltp_drain.proofs.PieceForms.{only_false}

-- ---- nothing fires

sends-nothing : (policy : PolicyValue) (s : Sending) (now : ℕ)
    → now < (sending_timer s.phase).deadline → sender_tick policy s now ≡ sending stays []
unfolding sender_tick
sends-nothing policy s now before =
    only_false (λ t. t ≡ sending stays []) (nat_le (sending_timer s.phase).deadline now) _ _
    (not-le (sending_timer s.phase).deadline now before) refl
  where
    not-le : (a b : ℕ) → b < a → nat_le a b ≡ false
    not-le a b low = grind (arith, nat_tests)

tells-nothing : (policy : PolicyValue) (r : Receiving) (now : ℕ) → is_cancelling r.phase ≡ false
    → ((p : Pending) → pending_of r.phase ≡ Some p → now < (p.timer).deadline)
    → receiver_tick policy r now ≡ sending stays []
unfolding receiver_tick
tells-nothing policy r now listening before = by_phase r.phase listening before
  where
    not-le : (a b : ℕ) → b < a → nat_le a b ≡ false
    not-le a b low = grind (arith, nat_tests)

    by_phase : (phase : ReceivingPhase) → is_cancelling phase ≡ false
        → ((p : Pending) → pending_of phase ≡ Some p → now < (p.timer).deadline)
        → receiver_due policy r phase now ≡ sending stays []
    by_phase (receiver_cancelling reason timer) listens_on before = absurd (cc)
    by_phase (receiver_open None) listens_on before = refl
    by_phase (receiver_open (Some p)) listens_on before = only_false (λ t. t ≡ sending stays [])
        (nat_le (p.timer).deadline now) _ _ (not-le (p.timer).deadline now (before p refl)) refl

sender-asleep : (tick : Sending → StepValue Sending) (o : Option Sending) (v : View)
    → ((s : Sending) → o ≡ Some s → tick s ≡ sending stays []) → sender_after tick o v ≡ v
sender-asleep tick None v asleep = refl
sender-asleep tick (Some s) v asleep = ap (sender_moves v) (asleep s refl)
    ∙ same_view (sender_moves v (sending stays [])) v refl refl refl refl (append-nil v.by_sender)
    refl

receiver-asleep : (tick : Receiving → StepValue Receiving) (o : Option Receiving) (v : View)
    → ((r : Receiving) → o ≡ Some r → tick r ≡ sending stays []) → receiver_after tick o v ≡ v
receiver-asleep tick None v asleep = refl
receiver-asleep tick (Some r) v asleep = ap (receiver_moves v) (asleep r refl)
    ∙ same_view (receiver_moves v (sending stays [])) v refl refl refl refl refl
    (append-nil v.by_receiver)

own-asleep : (me you : End) (p q : Party) (e f : Engine) (sent : List Sent) (n now : ℕ)
    → AreTwo me you → Linked p q → Linked q p → AreAscending 0 e.senders
    → AreAscending 0 f.receivers
    → ((s : Sending) → find n e.senders ≡ Some s → sender_tick p.policy s now ≡ sending stays [])
    → ((r : Receiving) → find n f.receivers ≡ Some r
    → receiver_tick q.policy r now ≡ sending stays [])
    → view_by me you p (tick_engine p e now) (tick_engine q f now)
    ((sent ++ sent_by me (tick_out p e now)) ++ sent_by you (tick_out q f now)) n ≡ view_by me
    you p e f sent n
own-asleep me you p q e f sent n now both linked back senders receivers quiet_s quiet_r =
    tick-peer you me q p f (tick_engine p e now) (sent ++ sent_by me (tick_out p e now)) n now
    (record { me_you = both.you_me; you_me = both.me_you }) back.knows back.apart receivers
    ∙ ap (receiver_after (receiver_ticks q now) (find n f.receivers))
    (tick-own me you p e f sent n now both (linked-apart p q linked) senders
    ∙ sender-asleep (sender_ticks p now) (find n e.senders) (view_by me you p e f sent n)
    quiet_s)
    ∙ receiver-asleep (receiver_ticks q now) (find n f.receivers) (view_by me you p e f sent n)
    quiet_r

peer-asleep : (me you : End) (p q : Party) (e f : Engine) (sent : List Sent) (n now : ℕ)
    → AreTwo me you → Linked p q → Linked q p → AreAscending 0 f.senders
    → AreAscending 0 e.receivers
    → ((s : Sending) → find n f.senders ≡ Some s → sender_tick q.policy s now ≡ sending stays [])
    → ((r : Receiving) → find n e.receivers ≡ Some r
    → receiver_tick p.policy r now ≡ sending stays [])
    → view_by you me q (tick_engine q f now) (tick_engine p e now)
    ((sent ++ sent_by me (tick_out p e now)) ++ sent_by you (tick_out q f now)) n ≡ view_by
    you me q f e sent n
peer-asleep me you p q e f sent n now both linked back senders receivers quiet_s quiet_r =
    tick-own you me q f (tick_engine p e now) (sent ++ sent_by me (tick_out p e now)) n now
    (record { me_you = both.you_me; you_me = both.me_you }) (linked-apart q p back) senders
    ∙ ap (sender_after (sender_ticks q now) (find n f.senders))
    (tick-peer me you p q e f sent n now both linked.knows linked.apart receivers
    ∙ receiver-asleep (receiver_ticks p now) (find n e.receivers)
    (view_by you me q f e sent n) quiet_r)
    ∙ sender-asleep (sender_ticks q now) (find n f.senders) (view_by you me q f e sent n) quiet_s

-- ---- the world

quiet-world : (F : List ℕ → ℕ → View → Type 0) (parties : Party × Party) (d : Draining)
    (rank : End → ℕ → ℕ) (now : ℕ) → ArePeers parties
    → DrainHolds F parties d rank → BelowDeadlines parties d.world now
    → DrainHolds F parties (record {
      world = ticked-world parties d.world now;
      new = d.new ++ ticked-new parties d.world now;
    }) rank
unfolding ticked-world ticked-new
quiet-world F parties d rank now peers holds before =
    record {
      session = session;
      senders = ticked-senders parties d.world now holds.senders;
      receivers = ticked-receivers parties d.world now holds.receivers;
      next = next;
      known = known;
    }
  where
    w' : World
    w' = record {
      engines = (
        tick_engine parties.0 (d.world).engines.0 now,
        tick_engine parties.1
            (d.world).engines.1 now,
      );
      sent = ((d.world).sent ++ sent_by first_end (tick_out parties.0 (d.world).engines.0 now))
          ++ sent_by second_end (tick_out parties.1 (d.world).engines.1 now);
      now = now;
    }

    added : List Sent
    added = sent_by first_end (tick_out parties.0 (d.world).engines.0 now) ++ sent_by second_end
        (tick_out parties.1 (d.world).engines.1 now)

    one_two : Linked parties.0 parties.1
    one_two = linked-at parties first_end peers

    two_one : Linked parties.1 parties.0
    two_one = linked-at parties second_end peers

    listening : (o : End) (n : ℕ) (r : Receiving) → (view parties d.world o n).receiver ≡ Some r
        → is_cancelling r.phase ≡ false
    listening o n r is = go (is-begun F (setting parties o n) (view parties d.world o n) _ _
        (rank o n) (holds.session o n))
      where
        go : Begun F (setting parties o n) (view parties d.world o n)
            (said o (at_end parties o).own n d.new)
            (said (other o) (at_end parties o).own n d.new) (rank o n)
            → is_cancelling r.phase ≡ false
        go (was_begun used st) = ((st.drains).calm).receiving r is
        go (never_begun unused idle) = absurd
            (let none : (view parties d.world o n).receiver ≡ None = (idle.unused).receiver in cc)

    same : (o : End) (n : ℕ) → view parties w' o n ≡ view parties d.world o n
    same first_end n = own-asleep first_end second_end parties.0 parties.1 (d.world).engines.0
        (d.world).engines.1 (d.world).sent n now (two_ends first_end) one_two two_one
        (holds.senders first_end) (holds.receivers second_end)
        (λ s is. sends-nothing (parties.0).policy s now (before.sender first_end n s is))
        (λ r is. tells-nothing (parties.1).policy r now (listening first_end n r is)
        (λ p. before.receiver first_end n r p is))
    same second_end n = peer-asleep first_end second_end parties.0 parties.1 (d.world).engines.0
        (d.world).engines.1 (d.world).sent n now (two_ends first_end) one_two two_one
        (holds.senders second_end) (holds.receivers first_end)
        (λ s is. sends-nothing (parties.1).policy s now (before.sender second_end n s is))
        (λ r is. tells-nothing (parties.0).policy r now (listening second_end n r is)
        (λ p. before.receiver second_end n r p is))

    nothing : (who o : End) (n : ℕ) → said who (at_end parties o).own n
        (((d.world).sent ++ sent_by first_end (tick_out parties.0 (d.world).engines.0 now)) ++
        sent_by second_end (tick_out parties.1 (d.world).engines.1 now)) ≡ said who
        (at_end parties o).own n (d.world).sent
        → said who (at_end parties o).own n (d.new ++ added) ≡ said who (at_end parties o).own n
        d.new
    nothing who o n is = new-none who (at_end parties o).own n (d.world).sent d.new added
        (ap (said who (at_end parties o).own n)
        (sym (append_assoc (d.world).sent
        (sent_by first_end (tick_out parties.0 (d.world).engines.0 now))
        (sent_by second_end (tick_out parties.1 (d.world).engines.1 now)))) ∙ is)

    session : (o : End) (n : ℕ) → Stands F (setting parties o n) (view parties w' o n)
        (said o (at_end parties o).own n (d.new ++ added))
        (said (other o) (at_end parties o).own n (d.new ++ added)) (rank o n)
    session first_end n = stands-so F (setting parties first_end n)
        (view parties d.world first_end n) _ _ _ _ _ (rank first_end n) (same first_end n)
        (nothing first_end first_end n (ap (λ (v : View). v.by_sender) (same first_end n)))
        (nothing second_end first_end n (ap (λ (v : View). v.by_receiver) (same first_end n)))
        (holds.session first_end n)
    session second_end n = stands-so F (setting parties second_end n)
        (view parties d.world second_end n) _ _ _ _ _ (rank second_end n) (same second_end n)
        (nothing second_end second_end n (ap (λ (v : View). v.by_sender) (same second_end n)))
        (nothing first_end second_end n (ap (λ (v : View). v.by_receiver) (same second_end n)))
        (holds.session second_end n)

    next : (o : End) → (at_end parties o).first ≤
        (at_end (
          tick_engine parties.0 (d.world).engines.0 now,
          tick_engine parties.1
              (d.world).engines.1 now,
        ) o).next
    next first_end = holds.next first_end
    next second_end = holds.next second_end

    known : AreKnown parties (d.new ++ added)
    known = known-append parties d.new added holds.known
        (known-append parties _ _ (known-out parties first_end parties.0 (d.world).engines.0 now
        (inl refl) (inr one_two.knows)) (known-out parties second_end parties.1
        (d.world).engines.1 now (inr refl) (inl two_one.knows)))

pub quiet-clock : (F : List ℕ → ℕ → View → Type 0) (parties : Party × Party) (d : Draining)
    (rank : End → ℕ → ℕ) (now : ℕ) → ArePeers parties
    → DrainHolds F parties d rank → BelowDeadlines parties d.world now
    → DrainHolds F parties (record {
      world = ticks parties now second_end
          (ticks parties now first_end d.world);
      new =
          d.new ++ since d.world (ticks parties now second_end
          (ticks parties now first_end d.world));
    }) rank
quiet-clock F parties d rank now peers holds before =
    subst (λ x. DrainHolds F parties x rank)
    (sym (same_draining (record {
      world = ticked-world parties d.world now;
      new = d.new ++ ticked-new parties d.world now;
    }) _ (ticks-are parties d.world now)
    (ap (λ ds. d.new ++ ds) (ap (since d.world) (ticks-are parties d.world now)
    ∙ since-ticks parties d.world now))))
    (quiet-world F parties d rank now peers holds before)
