-- An event leaves each session alone that it isn't about.

use Rattle.std.proofs.Common.{◌≡◌, ◌≢◌, ℕ, ◌==◌, List, ◌++◌, length, nat_le, Option, None, Some}
use Rattle.std.proofs.Common.{inl, inr, refl, sym, ◌∙◌, subst}
use Rattle.std.specs.Prelude.{slice_get}
use Rattle.std.proofs.lemmas.Bool.{eqb-true}
use Rattle.ltp_segment.specs.Values.{SegmentValue}
use Rattle.ltp_session.specs.Engine.{Party, Engine, Reply, is_used, with_sender, with_receiver}
use Rattle.ltp_session.specs.Engine.{admission_of, sender_replies, receiver_replies, arrives, begun}
use Rattle.ltp_session.specs.Engine.{SubmitFault, submit_fault, submits_unless, submits}
use Rattle.ltp_session.specs.Receiver.{Receiving, receiver_answers}
use Rattle.ltp_session.specs.Sender.{Sending, begin, sender_answers}
use Rattle.ltp_session.specs.Step.{StepValue}
use Rattle.ltp_session.specs.Table.{find}
use Rattle.ltp_session.specs.Views.{headed_all}
use Rattle.ltp_session.specs.World.{End, first_end, second_end, other, at_end, Sent, World, Event}
use Rattle.ltp_session.specs.World.{submit, deliver, clock, sent_by, replies, unless_refused}
use Rattle.ltp_session.specs.World.{submit_reply, submitted, delivered, happens, ArePeers}
use Rattle.ltp_laws.specs.Frame.{IsOfSession, IsAbout, IsLeftAlone}
use Rattle.ltp_laws.specs.View.{session_of, View, view_by, view}
use Rattle.ltp_laws.proofs.FrameLemmas.{AreTwo, sender-others, receiver-others, peers-stay}
use Rattle.ltp_laws.proofs.FrameLemmas.{owns-stay, begun-others, opening, Left, alone}
use Rattle.ltp_laws.proofs.FrameLemmas.{closed_for_room, Roomy, roomy-received}
use Rattle.ltp_laws.proofs.ListLemmas.{both_arms, by_arms}
use Rattle.ltp_laws.proofs.RunLemmas.{two_ends, Linked, linked-at}

left-alone : (v v' : View) → Left v v' → IsLeftAlone v v'
left-alone v v' (alone is) = inl is
left-alone v v' (closed_for_room r kept is) = inr ((r, kept), is)

-- ---- one end's reply

-- the engine e of the party p, and the peer q with f, once e is e' and more was sent in a session
record LeavesOthers
    (me you : End) (p q : Party) (e f : Engine) (sent : List Sent) (e' : Engine)
    (sent' : List Sent) (originator session : ℕ)
    : Type 0 where
  own :
      (n : ℕ) → (originator ≡ p.own → session ≡ n → ⊥)
      → IsLeftAlone (view_by me you p e f sent n) (view_by me you p e' f sent' n)
  peer :
      (n : ℕ) → (originator ≡ q.own → session ≡ n → ⊥)
      → IsLeftAlone (view_by you me q f e sent n) (view_by you me q f e' sent' n)

abbrev ReplyLeaves :
    End → End → Party → Party → Engine → Engine → List Sent → ℕ → ℕ → Option Reply → Type 0
ReplyLeaves me you p q e f sent originator session None = Unit {0}
ReplyLeaves me you p q e f sent originator session (Some r) =
    LeavesOthers me you p q e f sent r.engine
    (sent ++ sent_by me (headed_all (session_of originator session) r.out)) originator session

submits-leaves : (me you : End) (p q : Party) (e f : Engine) (sent : List Sent) (block : List ℕ)
    (red now : ℕ) → AreTwo me you → p.own ≢ q.own
    → ReplyLeaves me you p q e f sent p.own e.next (unless_refused (submits p e block red now))
unfolding submits
submits-leaves me you p q e f sent block red now both apart = by_fault (submit_fault p e block)
  where
    t : StepValue Sending
    t = begin p.policy e.next block red now

    by_fault : (fault : Option SubmitFault)
        → ReplyLeaves me you p q e f sent p.own e.next
        (unless_refused (submits_unless fault p e block red now))
    by_fault (Some fault) = tt
    by_fault None = record {
      own = λ n away. inl (begun-others me you p e f sent n t both (away refl));
      peer = λ n away. inl
          (peers-stay me you q f e (begun e t).engine sent p.own e.next n t.out both apart refl
          refl);
    }

arrives-leaves : (me you : End) (p q : Party) (e f : Engine) (sent : List Sent) (s : SegmentValue)
    (now : ℕ) → AreTwo me you → Linked p q
    → ReplyLeaves me you p q e f sent s.originator s.session (arrives p e s now)
unfolding arrives
arrives-leaves me you p q e f sent s now both linked =
    by_arms Leaves (s.originator == p.own) _ _
    (λ own. both_arms Leaves (is_used p e s.session) _ _
    (own_leaves (eqb-true s.originator p.own own)
    (sender_answers p.policy (find s.session e.senders) s.content now)) tt)
    (λ not_own. by_arms Leaves (s.originator == p.peer) _ _
    (λ peer. peer_leaves (eqb-true s.originator p.peer peer ∙ linked.knows)
    (receiver_answers p.policy (admission_of p e s.session) (find s.session e.receivers) s.content
    now))
    (λ stranger. tt))
  where
    Leaves : Option Reply → Type 0
    Leaves = ReplyLeaves me you p q e f sent s.originator s.session

    own_leaves : s.originator ≡ p.own → (o : Option (StepValue Sending))
        → Leaves (sender_replies e s.session o)
    own_leaves own None = tt
    own_leaves own (Some t) =
        subst (λ o. LeavesOthers me you p q e f sent (with_sender e s.session t.next)
        (sent ++ sent_by me (headed_all (session_of o s.session) t.out)) o s.session)
        (sym own) (record {
          own = λ n away. inl (sender-others me you p e f sent s.session n t both (away refl));
          peer = λ n away. inl
              (peers-stay me you q f e (with_sender e s.session t.next) sent p.own s.session n
              t.out both linked.apart refl refl);
        })

    peer_leaves : s.originator ≡ q.own → (o : Option (StepValue Receiving))
        → Leaves (receiver_replies p e s.session o)
    peer_leaves peer None = tt
    peer_leaves peer (Some t) =
        subst (λ o. LeavesOthers me you p q e f sent
        (with_receiver (opening p e (find s.session e.receivers) t.next) s.session t.next)
        (sent ++ sent_by me (headed_all (session_of o s.session) t.out)) o s.session)
        (sym peer) (record { own = own; peer = others })
      where
        roomy : Roomy e
            (with_receiver (opening p e (find s.session e.receivers) t.next) s.session t.next)
        roomy = roomy-received p e s.session t.next

        own : (n : ℕ) → (q.own ≡ p.own → s.session ≡ n → ⊥)
            → IsLeftAlone (view_by me you p e f sent n)
            (view_by me you p
            (with_receiver (opening p e (find s.session e.receivers) t.next) s.session t.next) f
            (sent ++ sent_by me (headed_all (session_of q.own s.session) t.out)) n)
        own n away = inl
            (owns-stay me you p e
            (with_receiver (opening p e (find s.session e.receivers) t.next) s.session t.next) f sent
            q.own s.session n t.out both (λ h. linked.apart (sym h)) roomy.senders roomy.next)

        others : (n : ℕ) → (q.own ≡ q.own → s.session ≡ n → ⊥)
            → IsLeftAlone (view_by you me q f e sent n)
            (view_by you me q f
            (with_receiver (opening p e (find s.session e.receivers) t.next) s.session t.next)
            (sent ++ sent_by me (headed_all (session_of q.own s.session) t.out)) n)
        others n away =
            left-alone _ _ (receiver-others me you q p f e sent s.session n t both (away refl))

-- ---- the world

reply-leaves : (parties : Party × Party) (w : World) (end : End) (originator session : ℕ)
    (reply : Option Reply)
    → ReplyLeaves end (other end) (at_end parties end) (at_end parties (other end))
    (at_end w.engines end) (at_end w.engines (other end)) w.sent originator session reply
    → (o : End) (n : ℕ) → (originator ≡ (at_end parties o).own → session ≡ n → ⊥)
    → IsLeftAlone (view parties w o n)
    (view parties (replies w end (session_of originator session) reply) o n)
reply-leaves parties w end originator session None leaves o n away = inl refl
reply-leaves parties w first_end originator session (Some r) leaves first_end n away =
    leaves.own n away
reply-leaves parties w first_end originator session (Some r) leaves second_end n away =
    leaves.peer n away
reply-leaves parties w second_end originator session (Some r) leaves first_end n away =
    leaves.peer n away
reply-leaves parties w second_end originator session (Some r) leaves second_end n away =
    leaves.own n away

same-own : (parties : Party × Party) → ArePeers parties → (a b : End)
    → (at_end parties a).own ≡ (at_end parties b).own → a ≡ b
same-own parties peers first_end first_end same = refl
same-own parties peers second_end second_end same = refl
same-own parties peers first_end second_end same = absurd (peers.differ same)
same-own parties peers second_end first_end same = absurd (peers.differ (sym same))

pub sessions_are_apart : (parties : Party × Party) (w : World) (event : Event) → ArePeers parties
    → (o : End) (n : ℕ) → (IsAbout parties w event o n → ⊥)
    → IsLeftAlone (view parties w o n) (view parties (happens parties w event) o n)
unfolding submitted
sessions_are_apart parties w (submit end block red) peers o n away =
    both_arms (λ (x : World). IsLeftAlone (view parties w o n) (view parties x o n))
    (nat_le red (length block)) _ w
    (reply-leaves parties w end (at_end parties end).own (at_end w.engines end).next
    (submit_reply parties w end block red)
    (submits-leaves end (other end) (at_end parties end) (at_end parties (other end))
    (at_end w.engines end) (at_end w.engines (other end)) w.sent block red w.now (two_ends end)
    (linked-at parties end peers).apart)
    o n (λ own session. away (same-own parties peers end o own, session)))
    (inl refl)
sessions_are_apart parties w (deliver k) peers o n away = by_got (slice_get w.sent k) away
  where
    by_got : (got : Option Sent) → (IsOfSession parties o n got → ⊥)
        → IsLeftAlone (view parties w o n) (view parties (delivered parties w got) o n)
    by_got None away = inl refl
    by_got (Some d) away =
        reply-leaves parties w (other d.from) (d.segment).originator (d.segment).session _
        (arrives-leaves (other d.from) (other (other d.from)) (at_end parties (other d.from))
        (at_end parties (other (other d.from))) (at_end w.engines (other d.from))
        (at_end w.engines (other (other d.from))) w.sent d.segment w.now (two_ends (other d.from))
        (linked-at parties (other d.from) peers))
        o n (λ own session. away (own, session))
sessions_are_apart parties w (clock now) peers o n away = absurd (away tt)
