-- Clean events leave the room that there was, and there is room for each session that comes.

use Rattle.std.proofs.Common.{◌≡◌, ℕ, ◌+◌, ◌<◌, ◌≤◌, true, false, ◌==◌, List, [], ◌∷◌, length}
use Rattle.std.proofs.Common.{Option, None, Some, inl, inr, refl, sym, ◌∙◌, arith, subst}
use Rattle.std.proofs.lemmas.Bool.{eqb-true}
use Rattle.ltp_segment.specs.Policy.{PolicyValue}
use Rattle.ltp_segment.specs.Values.{ContentValue, SegmentValue, a_piece, a_receiver_cancel}
use Rattle.ltp_segment.specs.Values.{a_receiver_cancel_ack, a_report, a_report_ack}
use Rattle.ltp_segment.specs.Values.{a_sender_cancel, a_sender_cancel_ack}
use Rattle.ltp_session.specs.Engine.{Engine, Party, Reply, arrives, closed_runs, is_used}
use Rattle.ltp_session.specs.Engine.{admission_of, receiver_replies, sender_replies, tick_engine}
use Rattle.ltp_session.specs.Engine.{with_receiver}
use Rattle.ltp_session.specs.Receiver.{Admission, Receiving, fresh, receiver_answers}
use Rattle.ltp_session.specs.Sender.{Sending, sender_answers}
use Rattle.ltp_session.specs.Step.{Change, StepValue, stays, keeps, ends}
use Rattle.ltp_session.specs.Table.{AreAscending, find}
use Rattle.ltp_session.specs.World.{ArePeers, End, Sent, World, arrival, at_end, first_end, other}
use Rattle.ltp_session.specs.World.{replies, second_end, with_end}
use Rattle.ltp_laws.specs.View.{View, said, session_of, view, view_by}
use Rattle.ltp_laws.proofs.FrameLemmas.{AreTwo, opening}
use Rattle.ltp_laws.proofs.ListLemmas.{answered, by_arms}
use Rattle.ltp_laws.proofs.RunLemmas.{Linked, linked-at, two_ends}
use Rattle.ltp_laws.proofs.WalkLemmas.{OnPiece, walk-segment}
use Rattle.ltp_drain.specs.Calm.{IsComing}
use Rattle.ltp_drain.specs.Draining.{Draining, Oldest, oldest}
use Rattle.ltp_drain.specs.Hopeful.{IsAmple, IsKeptSender, HasRoom, Room, coming, is_unknown}
use Rattle.ltp_drain.specs.Standing.{DrainHolds, IsRoomy, setting_by}
use Rattle.ltp_drain.proofs.DrainFrame.{AllStand, Begun, Shorter, is-begun, never_begun}
use Rattle.ltp_drain.proofs.DrainFrame.{opening-same, shorter, stands-so, was_begun}
use Rattle.ltp_drain.proofs.DrainRun.{all-stand, ticked-world}
use Rattle.ltp_drain.proofs.ReceiverDrains.{receiver-opens}
use Rattle.ltp_drain.proofs.RoomLemmas.{count-is, many-less}
use Rattle.ltp_drain.proofs.RoomSteps.{Comes_to, OfComing, OfKept, room-received}
use Rattle.ltp_drain.proofs.RoomSteps.{room-received_peer, room-sent, room-sent_peer}
use Rattle.ltp_drain.proofs.RoomSteps.{room-ticked, room-ticked_peer}

-- ---- what a step changes

-- a sender that isn't kept stays so
pub unkept-stays : (policy : PolicyValue) (content : ContentValue) (now : ℕ) (t : StepValue Sending)
    → sender_answers policy None content now ≡ Some t → t.next ≡ stays
unfolding sender_answers
unkept-stays policy (a_report x) now t hears = answered (λ t. t.next ≡ stays) _ t hears refl
unkept-stays policy (a_receiver_cancel reason) now t hears =
    answered (λ t. t.next ≡ stays) _ t hears refl
unkept-stays policy a_sender_cancel_ack now t hears =
    answered (λ t. t.next ≡ stays) _ t hears refl
unkept-stays policy (a_piece q) now t hears = absurd (cc)
unkept-stays policy (a_report_ack serial) now t hears = absurd (cc)
unkept-stays policy (a_sender_cancel reason) now t hears = absurd (cc)
unkept-stays policy a_receiver_cancel_ack now t hears = absurd (cc)

of-kept : {S : Type 0} (n : ℕ) (es : List (ℕ × S)) (s : S) (c : Change S) → find n es ≡ Some s
    → OfKept n es c
of-kept n es s stays kept = tt
of-kept n es s (keeps s') kept = (s, kept)
of-kept n es s ends kept = tt

sent-of : (policy : PolicyValue) (n : ℕ) (es : List (ℕ × Sending)) (content : ContentValue)
    (now : ℕ) (t : StepValue Sending)
    → sender_answers policy (find n es) content now ≡ Some t → OfKept n es t.next
sent-of policy n es content now t hears = by_kept (find n es) refl
  where
    by_kept : (o : Option Sending) → find n es ≡ o → OfKept n es t.next
    by_kept None none = subst (OfKept n es) (sym (unkept-stays policy content now t
        (subst (λ o. sender_answers policy o content now ≡ Some t) none hears))) tt
    by_kept (Some s) some = of-kept n es s t.next some

-- a receiver that isn't kept doesn't end
abbrev pub NeverEnds : StepValue Receiving → Type 0
NeverEnds t = t.next ≡ ends → ⊥

piece-never : (policy : PolicyValue) (r : Receiving) (q : _) (now : ℕ)
    → OnPiece policy r q now NeverEnds
piece-never policy r q now = record {
  outside = λ note is. cc;
  miscoloured = λ is. cc;
  greener = λ green_kind is. cc;
  filled = λ red_kind plain is. cc;
  serials_out = λ red_kind asks is. cc;
  reported = λ red_kind asks more is. cc;
}

unkept-never : (policy : PolicyValue) (place : Admission) (content : ContentValue) (now : ℕ)
    (t : StepValue Receiving)
    → receiver_answers policy place None content now ≡ Some t → NeverEnds t
unkept-never policy place content now t hears =
    walk-segment policy place None content now t NeverEnds hears (record {
      rests = λ note is. cc;
      refused_service = λ q is_q other is. cc;
      echoed = λ none is. cc;
      green_alone = λ q is_q none is. cc;
      opened = λ q is_q none open_number. piece-never policy (fresh place.session) q now;
      came = λ q r is_q some listening. absurd (cc);
      unmoved = λ r some is. cc;
      closed_whole = λ r p serial some phase is_ack named whole is. cc;
      dropped = λ r p serial some phase is_ack part is. cc;
      called_off = λ r reason some is. cc;
      answered_off = λ r some cancelling is. cc;
    })

-- a session that comes is counted
pub comes : (me you : End) (q : Party) (e f : Engine) (sent : List Sent) (n : ℕ)
    → IsComing (view_by you me q f e sent n) → Comes_to e f n
comes me you q e f sent n (is_open, none, unclosed) = by_sender (find n f.senders) refl
  where
    unknown : is_unknown e n ≡ true
    unknown = rw (none, unclosed) refl

    by_sender : (o : Option Sending) → find n f.senders ≡ o → Comes_to e f n
    by_sender None is = absurd (subst IsKeptSender is is_open)
    by_sender (Some s) is = record { unknown = unknown; sender = s; kept = is }

some-come : (e f : Engine) (n : ℕ) → Comes_to e f n → 1 ≤ coming e f
some-come e f n c = omega (
  arith,
  count-is (λ entry. is_unknown e entry.0) f.senders,
  many-less (λ m. false) (is_unknown e) n f.senders c.sender (λ m is. absurd (cc)) refl c.unknown
      c.kept,
)

pub received-of : (policy : PolicyValue) (place : Admission) (e f : Engine) (n : ℕ)
    (content : ContentValue) (now : ℕ) (t : StepValue Receiving)
    → receiver_answers policy place (find n e.receivers) content now ≡ Some t
    → ((r' : Receiving) → find n e.receivers ≡ None → t.next ≡ keeps r' → Comes_to e f n)
    → OfComing e f n t.next
received-of policy place e f n content now t hears opens = by_kept (find n e.receivers) refl
  where
    by_some : (r : Receiving) → find n e.receivers ≡ Some r → (c : Change Receiving)
        → OfComing e f n c
    by_some r some stays = tt
    by_some r some (keeps r') = inl (r, some)
    by_some r some ends = (r, some)

    by_none : find n e.receivers ≡ None → (c : Change Receiving) → t.next ≡ c → OfComing e f n c
    by_none none stays is = tt
    by_none none (keeps r') is = inr (opens r' none is)
    by_none none ends is = absurd (unkept-never policy place content now t
        (subst (λ o. receiver_answers policy place o content now ≡ Some t) none hears) is)

    by_kept : (o : Option Receiving) → find n e.receivers ≡ o → OfComing e f n t.next
    by_kept None none = by_none none t.next refl
    by_kept (Some r) some = by_some r some t.next

-- ---- an arrival

abbrev ReplyRoom : Engine → Engine → Option Reply → Type 0
ReplyRoom e f None = Unit {0}
ReplyRoom e f (Some r) = HasRoom r.engine f × HasRoom f r.engine

arrival-room : (F : List ℕ → ℕ → View → Type 0) (me you : End) (p q : Party) (e f : Engine)
    (sent new : List Sent) (rank_p rank_q : ℕ → ℕ) (o : Oldest) (now : ℕ)
    → AreTwo me you → Linked p q → AllStand F me you p q e f sent new rank_p rank_q
    → oldest you new ≡ Some o → IsAmple p
    → AreAscending 0 e.senders → AreAscending 0 e.receivers → HasRoom e f → HasRoom f e
    → ReplyRoom e f (arrives p e o.first.segment now)
unfolding arrives
arrival-room F me you p q e f sent new rank_p rank_q o now both linked all is ample senders
    receivers room room_peer =
    by_arms To (s.originator == p.own) _ _
    (λ own. by_arms To (is_used p e s.session) _ _
    (λ used. own_hears (sender_answers p.policy (find s.session e.senders) s.content now)
    refl) (λ unused. tt))
    (λ not_own. by_arms To (s.originator == p.peer) _ _
    (λ peer. peer_hears (eqb-true s.originator p.peer peer ∙ linked.knows)
    (receiver_answers p.policy (admission_of p e s.session) (find s.session e.receivers) s.content
    now) refl) (λ not_peer. tt))
  where
    s : SegmentValue
    s = o.first.segment

    To : Option Reply → Type 0
    To = ReplyRoom e f

    own_hears : (x : Option (StepValue Sending))
        → sender_answers p.policy (find s.session e.senders) s.content now ≡ x
        → To (sender_replies e s.session x)
    own_hears None hears = tt
    own_hears (Some t) hears =
        let of = sent-of p.policy s.session e.senders s.content now t hears in (
          room-sent e f s.session t.next senders of room,
          room-sent_peer e f s.session t.next
              senders of room_peer,
        )

    opens : s.originator ≡ q.own → (t : StepValue Receiving)
        → receiver_answers p.policy (admission_of p e s.session) (find s.session e.receivers)
        s.content now ≡ Some t
        → (r' : Receiving) → find s.session e.receivers ≡ None → t.next ≡ keeps r'
        → Comes_to e f s.session
    opens peer t hears r' none next = comes me you q e f sent s.session
        (go (is-begun F (setting_by q p s.session) (view_by you me q f e sent s.session)
        (s.content ∷ said you q.own s.session o.others) (said me q.own s.session o.others)
        (rank_q s.session)
        (stands-so F (setting_by q p s.session) (view_by you me q f e sent s.session)
        (view_by you me q f e sent s.session) (said you q.own s.session new)
        (said me q.own s.session new) _ _ (rank_q s.session) refl (sym (short.here peer refl))
        (sym short.mine) (all.peer s.session))))
      where
        short : Shorter me you new o q.own s.session
        short = shorter me you new o q.own s.session both is

        go : Begun F (setting_by q p (o.first.segment).session)
            (view_by you me q f e sent (o.first.segment).session)
            ((o.first.segment).content ∷ said you q.own (o.first.segment).session o.others)
            (said me q.own (o.first.segment).session o.others) (rank_q (o.first.segment).session)
            → IsComing (view_by you me q f e sent (o.first.segment).session)
        go (never_begun unused idle) = absurd
            (let empty : (o.first.segment).content ∷ said you q.own (o.first.segment).session
            o.others ≡ [] = idle.none_s in cc)
        go (was_begun used st) = receiver-opens (setting_by q p (o.first.segment).session st.red)
            st.block p.policy (admission_of p e (o.first.segment).session)
            (view_by you me q f e sent (o.first.segment).session) (o.first.segment).content now
            (said you q.own (o.first.segment).session o.others)
            (said me q.own (o.first.segment).session o.others) (rank_q (o.first.segment).session)
            t r' refl st.drains hears none next

    peer_hears : s.originator ≡ q.own → (x : Option (StepValue Receiving))
        → receiver_answers p.policy (admission_of p e s.session) (find s.session e.receivers)
        s.content now ≡ x → To (receiver_replies p e s.session x)
    peer_hears peer None hears = tt
    peer_hears peer (Some t) hears =
        let same : opening p e (find s.session e.receivers) t.next ≡ e =
        opening-same p e (find s.session e.receivers) t.next
        (λ none r' next. omega (
          arith,
          ample.sessions,
          room.receivers,
          some-come e f s.session
              (opens peer t hears r' none next),
        )) in
        subst (λ (g : Engine). HasRoom (with_receiver g s.session t.next) f
        × HasRoom f (with_receiver g s.session t.next)) (sym same) (
          room-received e f s.session t.next receivers
              (received-of p.policy (admission_of p e s.session) e f s.session s.content now t hears
              (opens peer t hears)) room,
          room-received_peer e f s.session t.next room_peer,
        )

-- ---- worlds

pub room-roomy : (parties : Party × Party) (w : World)
    → ((o : End) → IsAmple (at_end parties o)) → Room w → IsRoomy parties w
room-roomy parties w ample room = record { room = by_end }
  where
    by_counts : (p : Party) (e f : Engine) (n : ℕ) → IsAmple p → HasRoom e f → Comes_to e f n
        → (length e.receivers < p.sessions)
        × (closed_runs e.closed + length e.receivers < p.history)
    by_counts p e f n wide has c = let some = some-come e f n c in (
      omega (arith, wide.sessions, has.receivers, some),
      omega (arith, wide.history, has.numbers, some),
    )

    by_end : (o : End) (n : ℕ) → IsComing (view parties w o n)
        → (length (at_end w.engines (other o)).receivers < (at_end parties (other o)).sessions)
        × (closed_runs (at_end w.engines (other o)).closed + length
        (at_end w.engines (other o)).receivers < (at_end parties (other o)).history)
    by_end first_end n is = by_counts parties.1 w.engines.1 w.engines.0 n (ample second_end)
        room.second (comes second_end first_end parties.0 w.engines.1 w.engines.0 w.sent n is)
    by_end second_end n is = by_counts parties.0 w.engines.0 w.engines.1 n (ample first_end)
        room.first (comes first_end second_end parties.1 w.engines.0 w.engines.1 w.sent n is)

room-after : (w : World) (me : End) (r : Reply) (sent : List Sent)
    → HasRoom r.engine (at_end w.engines (other me))
    × HasRoom (at_end w.engines (other me)) r.engine
    → Room (record { engines = with_end w.engines me r.engine; sent = sent; now = w.now })
room-after w first_end r sent (mine, yours) = record { first = mine; second = yours }
room-after w second_end r sent (mine, yours) = record { first = yours; second = mine }

room-at : (w : World) (me : End) → Room w → HasRoom (at_end w.engines me)
    (at_end w.engines (other me)) × HasRoom (at_end w.engines (other me)) (at_end w.engines me)
room-at w first_end room = (room.first, room.second)
room-at w second_end room = (room.second, room.first)

pub delivery-room : (F : List ℕ → ℕ → View → Type 0) (parties : Party × Party) (d : Draining)
    (rank : End → ℕ → ℕ) (me : End) (o : Oldest) → ArePeers parties
    → ((o : End) → IsAmple (at_end parties o)) → DrainHolds F parties d rank → Room d.world
    → oldest (other me) d.new ≡ Some o → Room (arrival parties d.world me o.first.segment)
delivery-room F parties d rank me o peers ample holds room is =
    let has = room-at d.world me room in
    by_reply (arrives (at_end parties me) (at_end (d.world).engines me) o.first.segment
    (d.world).now)
    (arrival-room F me (other me) (at_end parties me) (at_end parties (other me))
    (at_end (d.world).engines me) (at_end (d.world).engines (other me)) (d.world).sent d.new
    (rank me) (rank (other me)) o (d.world).now
    (two_ends me) (linked-at parties me peers) (all-stand F parties d rank me holds) is
    (ample me) (holds.senders me) (holds.receivers me) has.0 has.1)
  where
    by_reply : (x : Option Reply) → ReplyRoom (at_end (d.world).engines me)
        (at_end (d.world).engines (other me)) x
        → Room (replies d.world me (session_of (o.first.segment).originator
        (o.first.segment).session) x)
    by_reply None left = room
    by_reply (Some r) left = room-after d.world me r _ left

pub tick-room : (F : List ℕ → ℕ → View → Type 0) (parties : Party × Party) (d : Draining)
    (rank : End → ℕ → ℕ) (now : ℕ) → ArePeers parties
    → DrainHolds F parties d rank → Room d.world → Room (ticked-world parties d.world now)
unfolding ticked-world
tick-room F parties d rank now peers holds room = record {
  first = room-ticked_peer parties.1 f e' now
      (room-ticked first_end second_end parties.0 parties.1 e f now (two_ends first_end)
      (linked-at parties first_end peers) (holds.receivers first_end) room.first);
  second = room-ticked second_end first_end parties.1 parties.0 f e' now (two_ends second_end)
      (linked-at parties second_end peers) (holds.receivers second_end)
      (room-ticked_peer parties.0 e f now room.second);
}
  where
    e : Engine
    e = (d.world).engines.0

    f : Engine
    f = (d.world).engines.1

    e' : Engine
    e' = tick_engine parties.0 (d.world).engines.0 now
