-- What the steps of one session keep, every run keeps of all sessions.

use Rattle.std.proofs.Common.{◌≡◌, ◌≢◌, ℕ, zero, suc, ◌≤◌, Bool, true, false, ◌==◌}
use Rattle.std.proofs.Common.{List, [], ◌∷◌, ◌++◌, length, Option, None, Some, inl, inr, refl, sym}
use Rattle.std.proofs.Common.{◌∙◌, arith, subst, nat_lt, nat_le, if◌then◌else◌}
use Rattle.std.specs.List.{slice_get}
use Rattle.std.proofs.lemmas.Bool.{eqb-true, eqb-false}
use Rattle.std.proofs.lemmas.Bool.Decides.{nat_tests}
use Rattle.ltp_segment.specs.Policy.{PolicyValue}
use Rattle.ltp_segment.specs.Values.{ContentValue, SegmentValue}
use Rattle.ltp_session.specs.Engine.{sender_changes, receiver_changes, SubmitFault, submit_fault}
use Rattle.ltp_session.specs.Engine.{submits_unless, Party, Engine, Reply, is_used, with_sender}
use Rattle.ltp_session.specs.Engine.{with_receiver, admission_of, sender_replies, receiver_replies}
use Rattle.ltp_session.specs.Engine.{arrives, begun, submits, sender_ticks, receiver_ticks}
use Rattle.ltp_session.specs.Engine.{tick_engine, tick_out, starts}
use Rattle.ltp_session.specs.Receiver.{Receiving, receiver_answers, receiver_tick}
use Rattle.ltp_session.specs.Sender.{Sending, begin, sender_answers, sender_tick}
use Rattle.ltp_session.specs.Step.{StepValue}
use Rattle.ltp_session.specs.Table.{find, AreAscending}
use Rattle.ltp_session.specs.Views.{headed_all}
use Rattle.ltp_session.specs.World.{unless_refused, submit_reply, End, first_end, second_end}
use Rattle.ltp_session.specs.World.{other, at_end, with_end, Sent, World, Event, submit, deliver}
use Rattle.ltp_session.specs.World.{clock, sent_by, replies, submitted, delivered, ticks, happens}
use Rattle.ltp_session.specs.World.{run, starts_world, ArePeers}
use Rattle.ltp_laws.specs.Log.{Submission, submission_of, submissions_at, submissions}
use Rattle.ltp_laws.specs.Runs.{sender_after, receiver_after, Has, Session, SessionBy, no_facts}
use Rattle.ltp_laws.specs.Runs.{both_facts, IsInvariant, KeepsUnder, HoldsIn}
use Rattle.ltp_laws.specs.View.{IsIn, session_of, is_of, said, View, view_by, view, sender_moves}
use Rattle.ltp_laws.specs.View.{receiver_moves, begins, evicted, Unused, untouched_view}
use Rattle.ltp_laws.proofs.FrameLemmas.{same_self, AreTwo, sender-here, sender-others}
use Rattle.ltp_laws.proofs.FrameLemmas.{receiver-here, receiver-others, Left, alone}
use Rattle.ltp_laws.proofs.FrameLemmas.{closed_for_room, peers-stay, owns-stay, Roomy}
use Rattle.ltp_laws.proofs.FrameLemmas.{roomy-received, tick-own, tick-peer, begun-here}
use Rattle.ltp_laws.proofs.FrameLemmas.{begun-others, next-unused, opening}
use Rattle.ltp_laws.proofs.ListLemmas.{by_arms}
use Rattle.ltp_laws.proofs.TableLemmas.{self_eqb, ascending-settled, ascending-ticked}

pub sent-among : (sent : List Sent) (k : ℕ) (d : Sent) → slice_get sent k ≡ Some d
    → IsIn d.segment.content (said d.from d.segment.originator d.segment.session sent)
unfolding said
sent-among [] k d is = absurd (cc)
sent-among (x ∷ xs) zero d is =
    let here : x ≡ d = cc in
    rw (here, same_self d.from, self_eqb, self_eqb) (inl refl)
sent-among (x ∷ xs) (suc k) d is = by_test (is_of d.from d.segment.originator d.segment.session x)
    (sent-among xs k d is)
  where
    by_test : (mine : Bool)
        → IsIn d.segment.content (said d.from d.segment.originator d.segment.session xs)
        → IsIn d.segment.content (if mine then x.segment.content ∷ said d.from d.segment.originator
        d.segment.session xs else said d.from d.segment.originator d.segment.session xs)
    by_test true among = inr among
    by_test false among = among

-- ---- one session

same-holds : (P : View → Type 0) (v v' : View) → v' ≡ v → P v → P v'
same-holds P v v' is holds = subst P (sym is) holds

left-holds : (A : PolicyValue → ℕ → Type 0) (B : End → ℕ → List ℕ → ℕ → Type 0)
    (P : End → ℕ → View → Type 0) → IsInvariant A B P → (o : End) (n : ℕ) (v v' : View) → Left v v'
    → P o n v → P o n v'
left-holds A B P inv o n v v' (alone is) holds = same-holds (P o n) v v' is holds
left-holds A B P inv o n v v' (closed_for_room r kept is) holds =
    subst (P o n) (sym is) (inv.evicted o n v r kept holds)

sender_ticks-holds : (A : PolicyValue → ℕ → Type 0) (B : End → ℕ → List ℕ → ℕ → Type 0)
    (P : End → ℕ → View → Type 0) → IsInvariant A B P → (o : End) (n : ℕ) (p : Party) (now : ℕ)
    → A p.policy now → (v : View) (kept : Option Sending) → v.sender ≡ kept → P o n v
    → P o n (sender_after (sender_ticks p now) kept v)
sender_ticks-holds A B P inv o n p now ok v None is holds = holds
sender_ticks-holds A B P inv o n p now ok v (Some s) is holds =
    inv.sender_tick o n p.policy now v s ok is holds

receiver_ticks-holds : (A : PolicyValue → ℕ → Type 0) (B : End → ℕ → List ℕ → ℕ → Type 0)
    (P : End → ℕ → View → Type 0) → IsInvariant A B P → (o : End) (n : ℕ) (p : Party) (now : ℕ)
    → A p.policy now → (v : View) (kept : Option Receiving) → v.receiver ≡ kept → P o n v
    → P o n (receiver_after (receiver_ticks p now) kept v)
receiver_ticks-holds A B P inv o n p now ok v None is holds = holds
receiver_ticks-holds A B P inv o n p now ok v (Some r) is holds =
    inv.receiver_tick o n p.policy now v r ok is holds

-- ---- what one end's event does to all sessions

-- the engine e of the party p, and the peer q with f, once e is e' and more was sent
pub record KeepsAll (P P' : End → ℕ → View → Type 0) (me you : End) (p q : Party) (e f : Engine)
    (sent : List Sent) (e' : Engine) (sent' : List Sent) : Type 0 where
  pub own : (n : ℕ) → P me n (view_by me you p e f sent n)
      → P' me n (view_by me you p e' f sent' n)
  pub peer : (n : ℕ) → P you n (view_by you me q f e sent n)
      → P' you n (view_by you me q f e' sent' n)
  pub senders : AreAscending 0 e.senders → AreAscending 0 e'.senders
  pub receivers : AreAscending 0 e.receivers → AreAscending 0 e'.receivers
  pub next : p.first ≤ e.next → p.first ≤ e'.next

pub holds-at : (P P' : End → ℕ → View → Type 0) (parties : Party × Party) (w : World) (end : End)
    (e' : Engine) (sent' : List Sent) (now : ℕ) → HoldsIn P parties w
    → KeepsAll P P' end (other end) (at_end parties end) (at_end parties (other end))
    (at_end w.engines end) (at_end w.engines (other end)) w.sent e' sent'
    → HoldsIn P' parties (record { engines = with_end w.engines end e'; sent = sent'; now = now })
holds-at P P' parties w first_end e' sent' now good keeps_good =
    record { session = session; senders = senders; receivers = receivers; next = next }
  where
    session : (o : End) (n : ℕ)
        → P' o n (view parties (record {
          engines = (e', w.engines.1);
          sent = sent';
          now = now;
        }) o n)
    session first_end n = keeps_good.own n (good.session first_end n)
    session second_end n = keeps_good.peer n (good.session second_end n)

    senders : (o : End) → AreAscending 0 (at_end (e', w.engines.1) o).senders
    senders first_end = keeps_good.senders (good.senders first_end)
    senders second_end = good.senders second_end

    receivers : (o : End) → AreAscending 0 (at_end (e', w.engines.1) o).receivers
    receivers first_end = keeps_good.receivers (good.receivers first_end)
    receivers second_end = good.receivers second_end

    next : (o : End) → (at_end parties o).first ≤ (at_end (e', w.engines.1) o).next
    next first_end = keeps_good.next (good.next first_end)
    next second_end = good.next second_end
holds-at P P' parties w second_end e' sent' now good keeps_good =
    record { session = session; senders = senders; receivers = receivers; next = next }
  where
    session : (o : End) (n : ℕ)
        → P' o n (view parties (record {
          engines = (w.engines.0, e');
          sent = sent';
          now = now;
        }) o n)
    session first_end n = keeps_good.peer n (good.session first_end n)
    session second_end n = keeps_good.own n (good.session second_end n)

    senders : (o : End) → AreAscending 0 (at_end (w.engines.0, e') o).senders
    senders first_end = good.senders first_end
    senders second_end = keeps_good.senders (good.senders second_end)

    receivers : (o : End) → AreAscending 0 (at_end (w.engines.0, e') o).receivers
    receivers first_end = good.receivers first_end
    receivers second_end = keeps_good.receivers (good.receivers second_end)

    next : (o : End) → (at_end parties o).first ≤ (at_end (w.engines.0, e') o).next
    next first_end = good.next first_end
    next second_end = keeps_good.next (good.next second_end)

-- ---- arrivals

sender-arrival : (A : PolicyValue → ℕ → Type 0) (B : End → ℕ → List ℕ → ℕ → Type 0)
    (P : End → ℕ → View → Type 0) → IsInvariant A B P → (me you : End) (p q : Party) (e f : Engine)
    (sent : List Sent) (n : ℕ) (content : ContentValue) (now : ℕ) (t : StepValue Sending)
    → AreTwo me you → A p.policy now → p.own ≢ q.own → IsIn content (said you p.own n sent)
    → sender_answers p.policy (find n e.senders) content now ≡ Some t
    → KeepsAll P P me you p q e f sent (with_sender e n t.next)
    (sent ++ sent_by me (headed_all (session_of p.own n) t.out))
sender-arrival A B P inv me you p q e f sent n content now t both ok apart among hears = record {
  own = λ m good. own m good (n == m) refl;
  peer = λ m good. same-holds (P you m) (view_by you me q f e sent m) _ (peers-stay me you q f e
      (with_sender e n t.next) sent p.own n m t.out both apart refl refl) good;
  senders = λ ascending. ascending-settled n 0 t.next e.senders (omega arith) ascending;
  receivers = λ ascending. ascending;
  next = λ low. low;
}
  where
    own : (m : ℕ) → P me m (view_by me you p e f sent m) → (same : Bool) → (n == m) ≡ same
        → P me m (view_by me you p (with_sender e n t.next) f
        (sent ++ sent_by me (headed_all (session_of p.own n) t.out)) m)
    own m good true is_same =
        let here : n ≡ m = eqb-true n m is_same in
        let mine : P me n (view_by me you p e f sent n) = rw here good in
        rw (← here) (subst (P me n) (sym (sender-here me you p e f sent n t both))
        (inv.sender me n p.policy (view_by me you p e f sent n) content now t ok among hears mine))
    own m good false is_same =
        same-holds (P me m) (view_by me you p e f sent m) _
        (sender-others me you p e f sent n m t both (eqb-false n m is_same)) good

receiver-arrival : (A : PolicyValue → ℕ → Type 0) (B : End → ℕ → List ℕ → ℕ → Type 0)
    (P : End → ℕ → View → Type 0) → IsInvariant A B P → (me you : End) (p q : Party) (e f : Engine)
    (sent : List Sent) (n : ℕ) (content : ContentValue) (now : ℕ) (t : StepValue Receiving)
    → AreTwo me you → A p.policy now → q.own ≢ p.own → IsIn content (said you q.own n sent)
    → receiver_answers p.policy (admission_of p e n) (find n e.receivers) content now ≡ Some t
    → KeepsAll P P me you p q e f sent (with_receiver (opening p e (find n e.receivers) t.next) n
    t.next) (sent ++ sent_by me (headed_all (session_of q.own n) t.out))
receiver-arrival A B P inv me you p q e f sent n content now t both ok apart among hears = record {
  own = λ m good. same-holds (P me m) (view_by me you p e f sent m) _
      (owns-stay me you p e (with_receiver (opening p e (find n e.receivers) t.next) n t.next) f sent
      q.own n m t.out both apart roomy.senders roomy.next) good;
  peer = λ m good. peer m good (n == m) refl;
  senders = λ ascending. rw roomy.senders ascending;
  receivers = roomy.receivers;
  next = λ low. rw roomy.next low;
}
  where
    roomy : Roomy e (with_receiver (opening p e (find n e.receivers) t.next) n t.next)
    roomy = roomy-received p e n t.next

    peer : (m : ℕ) → P you m (view_by you me q f e sent m) → (same : Bool) → (n == m) ≡ same
        → P you m (view_by you me q f (with_receiver (opening p e (find n e.receivers) t.next) n
        t.next) (sent ++ sent_by me (headed_all (session_of q.own n) t.out)) m)
    peer m good true is_same =
        let here : n ≡ m = eqb-true n m is_same in
        let mine : P you n (view_by you me q f e sent n) = rw here good in
        rw (← here) (subst (P you n) (sym (receiver-here me you q p f e sent n t both))
        (inv.receiver you n p.policy (admission_of p e n) (view_by you me q f e sent n) content now t
        ok refl among hears mine))
    peer m good false is_same =
        left-holds A B P inv you m (view_by you me q f e sent m) _
        (receiver-others me you q p f e sent n m t both (eqb-false n m is_same)) good

-- an end's reply, or none
abbrev ReplyKeeps : (End → ℕ → View → Type 0) → End → End → Party → Party → Engine → Engine
    → List Sent → ℕ → ℕ → Option Reply → Type 0
ReplyKeeps P me you p q e f sent originator session None = Unit {0}
ReplyKeeps P me you p q e f sent originator session (Some r) =
    KeepsAll P P me you p q e f sent r.engine
    (sent ++ sent_by me (headed_all (session_of originator session) r.out))

-- two parties of a link
pub record Linked (p q : Party) : Type 0 where
  pub apart : p.own ≢ q.own
  pub knows : p.peer ≡ q.own
  pub cuts : 1 ≤ p.policy.segment

pub linked-apart : (p q : Party) → Linked p q → p.peer ≢ p.own
linked-apart p q linked h = linked.apart (sym h ∙ linked.knows)

arrives-keeps : (A : PolicyValue → ℕ → Type 0) (B : End → ℕ → List ℕ → ℕ → Type 0)
    (P : End → ℕ → View → Type 0) → IsInvariant A B P → (me you : End) (p q : Party) (e f : Engine)
    (sent : List Sent) (s : SegmentValue) (now : ℕ) → AreTwo me you → A p.policy now → Linked p q
    → IsIn s.content (said you s.originator s.session sent)
    → ReplyKeeps P me you p q e f sent s.originator s.session (arrives p e s now)
unfolding arrives
arrives-keeps A B P inv me you p q e f sent s now both ok linked among =
    by_arms Keeps (s.originator == p.own) _ _
    (λ own. by_arms Keeps (is_used p e s.session) _ _
    (λ used. own_keeps (eqb-true s.originator p.own own) (sender_answers p.policy
    (find s.session e.senders) s.content now) refl) (λ unused. tt))
    (λ not_own. by_arms Keeps (s.originator == p.peer) _ _
    (λ peer. peer_keeps (eqb-true s.originator p.peer peer ∙ linked.knows)
    (receiver_answers p.policy (admission_of p e s.session) (find s.session e.receivers) s.content now)
    refl) (λ stranger. tt))
  where
    Keeps : Option Reply → Type 0
    Keeps = ReplyKeeps P me you p q e f sent s.originator s.session

    own_keeps : s.originator ≡ p.own → (o : Option (StepValue Sending))
        → sender_answers p.policy (find s.session e.senders) s.content now ≡ o
        → Keeps (sender_replies e s.session o)
    own_keeps own None hears = tt
    own_keeps own (Some t) hears =
        subst (λ o. KeepsAll P P me you p q e f sent (with_sender e s.session t.next)
        (sent ++ sent_by me (headed_all (session_of o s.session) t.out))) (sym own)
        (sender-arrival A B P inv me you p q e f sent s.session s.content now t both ok
        linked.apart (subst (λ o. IsIn s.content (said you o s.session sent)) own among) hears)

    peer_keeps : s.originator ≡ q.own → (o : Option (StepValue Receiving))
        → receiver_answers p.policy (admission_of p e s.session) (find s.session e.receivers)
        s.content now ≡ o
        → Keeps (receiver_replies p e s.session o)
    peer_keeps peer None hears = tt
    peer_keeps peer (Some t) hears =
        subst (λ o. KeepsAll P P me you p q e f sent
        (with_receiver (opening p e (find s.session e.receivers) t.next) s.session t.next)
        (sent ++ sent_by me (headed_all (session_of o s.session) t.out))) (sym peer)
        (receiver-arrival A B P inv me you p q e f sent s.session s.content now t both ok
        (λ h. linked.apart (sym h)) (subst (λ o. IsIn s.content (said you o s.session sent))
        peer among) hears)

-- ---- submits

begun-keeps : (A : PolicyValue → ℕ → Type 0) (B : End → ℕ → List ℕ → ℕ → Type 0)
    (P : End → ℕ → View → Type 0) → IsInvariant A B P → (me you : End) (p q : Party) (e f : Engine)
    (sent : List Sent) (block : List ℕ) (red now : ℕ) → AreTwo me you → A p.policy now → Linked p q
    → p.first ≤ e.next → red ≤ length block → B me e.next block red
    → KeepsAll P P me you p q e f sent (begun e (begin p.policy e.next block red now)).engine
    (sent ++ sent_by me (headed_all (session_of p.own e.next)
    (begin p.policy e.next block red now).out))
begun-keeps A B P inv me you p q e f sent block red now both ok linked low within told = record {
  own = λ m good. own m good (e.next == m) refl;
  peer = λ m good. same-holds (P you m) (view_by you me q f e sent m) _
      (peers-stay me you q f e e' sent p.own e.next m t.out both linked.apart refl refl) good;
  senders = λ ascending. ascending-settled e.next 0 t.next e.senders (omega arith) ascending;
  receivers = λ ascending. ascending;
  next = λ first. omega arith;
}
  where
    t : StepValue Sending
    t = begin p.policy e.next block red now

    e' : Engine
    e' = (begun e (begin p.policy e.next block red now)).engine

    own : (m : ℕ) → P me m (view_by me you p e f sent m) → (same : Bool) → (e.next == m) ≡ same
        → P me m (view_by me you p (begun e (begin p.policy e.next block red now)).engine f
        (sent ++ sent_by me (headed_all (session_of p.own e.next)
        (begin p.policy e.next block red now).out)) m)
    own m good true is_same =
        let here : e.next ≡ m = eqb-true e.next m is_same in
        let mine = subst (λ k. P me k (view_by me you p e f sent k)) (sym here) good in
        rw (← here) (subst (P me e.next) (sym (begun-here me you p e f sent t both low))
        (inv.begins me p.policy e.next block red now (view_by me you p e f sent e.next) ok told
        linked.cuts within (next-unused p e) mine))
    own m good false is_same =
        same-holds (P me m) (view_by me you p e f sent m) _
        (begun-others me you p e f sent m t both (eqb-false e.next m is_same)) good

submits-keeps : (A : PolicyValue → ℕ → Type 0) (B : End → ℕ → List ℕ → ℕ → Type 0)
    (P : End → ℕ → View → Type 0) → IsInvariant A B P → (me you : End) (p q : Party) (e f : Engine)
    (sent : List Sent) (block : List ℕ) (red now : ℕ) → AreTwo me you → A p.policy now → Linked p q
    → p.first ≤ e.next → red ≤ length block
    → ((plan : Submission) → IsIn plan (submission_of me e.next block red
    (unless_refused (submits p e block red now))) → B plan.from plan.session plan.block plan.red)
    → ReplyKeeps P me you p q e f sent p.own e.next (unless_refused (submits p e block red now))
unfolding submits
submits-keeps A B P inv me you p q e f sent block red now both ok linked low within told =
    by_fault (submit_fault p e block) told
  where
    by_fault : (fault : Option SubmitFault)
        → ((plan : Submission) → IsIn plan (submission_of me e.next block red
        (unless_refused (submits_unless fault p e block red now))) → B plan.from plan.session
        plan.block plan.red)
        → ReplyKeeps P me you p q e f sent p.own e.next
        (unless_refused (submits_unless fault p e block red now))
    by_fault (Some fault) told = tt
    by_fault None told =
        begun-keeps A B P inv me you p q e f sent block red now both ok linked low within
        (told (record { from = me; session = e.next; block = block; red = red }) (inl refl))

-- ---- ticks

ticks-keep : (A : PolicyValue → ℕ → Type 0) (B : End → ℕ → List ℕ → ℕ → Type 0)
    (P : End → ℕ → View → Type 0) → IsInvariant A B P → (me you : End) (p q : Party) (e f : Engine)
    (sent : List Sent) (now : ℕ) → AreTwo me you → A p.policy now → Linked p q
    → AreAscending 0 e.senders → AreAscending 0 e.receivers
    → KeepsAll P P me you p q e f sent (tick_engine p e now)
    (sent ++ sent_by me (tick_out p e now))
ticks-keep A B P inv me you p q e f sent now both ok linked senders receivers = record {
  own = λ n good. subst (P me n)
      (sym (tick-own me you p e f sent n now both (linked-apart p q linked) senders))
      (sender_ticks-holds A B P inv me n p now ok (view_by me you p e f sent n)
      (find n e.senders) refl good);
  peer = λ n good. subst (P you n)
      (sym (tick-peer me you p q e f sent n now both linked.knows linked.apart receivers))
      (receiver_ticks-holds A B P inv you n p now ok (view_by you me q f e sent n)
      (find n e.receivers) refl good);
  senders = λ ascending. ascending-ticked (sender_changes p now) 0 e.senders ascending;
  receivers = λ ascending. ascending-ticked (receiver_changes p now) 0 e.receivers ascending;
  next = λ low. low;
}

-- ---- the world

pub two_ends : (end : End) → AreTwo end (other end)
two_ends first_end = record { me_you = refl; you_me = refl }
two_ends second_end = record { me_you = refl; you_me = refl }

other_other : (end : End) → other (other end) ≡ end
other_other first_end = refl
other_other second_end = refl

heard_from : (sent : List Sent) (k : ℕ) (d : Sent) → slice_get sent k ≡ Some d
    → IsIn d.segment.content (said (other (other d.from)) d.segment.originator
    d.segment.session sent)
heard_from sent k d is =
    subst (λ e. IsIn d.segment.content (said e d.segment.originator d.segment.session sent))
    (sym (other_other d.from)) (sent-among sent k d is)

pub linked-at : (parties : Party × Party) (end : End) → ArePeers parties
    → Linked (at_end parties end) (at_end parties (other end))
linked-at parties first_end peers =
    record { apart = peers.differ; knows = peers.first_knows; cuts = peers.first_cuts }
linked-at parties second_end peers =
    record {
      apart = λ h. peers.differ (sym h);
      knows = peers.second_knows;
      cuts = peers.second_cuts;
    }

holds-replies : (P : End → ℕ → View → Type 0) (parties : Party × Party) (w : World) (end : End)
    (originator session : ℕ) (o : Option Reply) → HoldsIn P parties w
    → ReplyKeeps P end (other end) (at_end parties end) (at_end parties (other end))
    (at_end w.engines end) (at_end w.engines (other end)) w.sent originator session o
    → HoldsIn P parties (replies w end (session_of originator session) o)
holds-replies P parties w end originator session None good keeps_good = good
holds-replies P parties w end originator session (Some r) good keeps_good =
    holds-at P P parties w end r.engine _ w.now good keeps_good

holds-ticks : (A : PolicyValue → ℕ → Type 0) (B : End → ℕ → List ℕ → ℕ → Type 0)
    (P : End → ℕ → View → Type 0) → IsInvariant A B P → (parties : Party × Party) (now : ℕ)
    (end : End) (w : World) → A (at_end parties end).policy now → ArePeers parties
    → HoldsIn P parties w → HoldsIn P parties (ticks parties now end w)
unfolding ticks
holds-ticks A B P inv parties now end w ok peers good =
    holds-at P P parties w end _ _ now good
    (ticks-keep A B P inv end (other end) (at_end parties end) (at_end parties (other end))
    (at_end w.engines end) (at_end w.engines (other end)) w.sent now (two_ends end) ok
    (linked-at parties end peers) (good.senders end) (good.receivers end))

holds-delivered : (A : PolicyValue → ℕ → Type 0) (B : End → ℕ → List ℕ → ℕ → Type 0)
    (P : End → ℕ → View → Type 0) → IsInvariant A B P → (parties : Party × Party) (w : World)
    (o : Option Sent) (k : ℕ) → slice_get w.sent k ≡ o
    → ((end : End) → A (at_end parties end).policy w.now) → ArePeers parties → HoldsIn P parties w
    → HoldsIn P parties (delivered parties w o)
holds-delivered A B P inv parties w None k is ok peers good = good
holds-delivered A B P inv parties w (Some d) k is ok peers good =
    holds-replies P parties w (other d.from) d.segment.originator d.segment.session _ good
    (arrives-keeps A B P inv (other d.from) (other (other d.from)) (at_end parties (other d.from))
    (at_end parties (other (other d.from))) (at_end w.engines (other d.from))
    (at_end w.engines (other (other d.from))) w.sent d.segment w.now
    (two_ends (other d.from)) (ok (other d.from)) (linked-at parties (other d.from) peers)
    (heard_from w.sent k d is))

pub holds-happens : (A : PolicyValue → ℕ → Type 0) (B : End → ℕ → List ℕ → ℕ → Type 0)
    (P : End → ℕ → View → Type 0) → IsInvariant A B P → (parties : Party × Party) (w : World)
    (event : Event) → ((end : End) (now : ℕ) → w.now ≤ now → A (at_end parties end).policy now)
    → ArePeers parties
    → ((plan : Submission) → IsIn plan (submissions_at parties w event) → B plan.from plan.session
    plan.block plan.red) → HoldsIn P parties w → HoldsIn P parties (happens parties w event)
unfolding submitted
holds-happens A B P inv parties w (submit end block red) ok peers told good =
    by_length (nat_le red (length block)) refl told
  where
    by_length : (fits : Bool) → nat_le red (length block) ≡ fits
        → ((plan : Submission) → IsIn plan (if fits then submission_of end
        (at_end w.engines end).next block red (submit_reply parties w end block red) else [])
        → B plan.from plan.session plan.block plan.red)
        → HoldsIn P parties (if fits then replies w end (session_of (at_end parties end).own
        (at_end w.engines end).next) (submit_reply parties w end block red) else w)
    by_length false fits told = good
    by_length true fits told =
        holds-replies P parties w end _ _ _ good
        (submits-keeps A B P inv end (other end) (at_end parties end) (at_end parties (other end))
        (at_end w.engines end) (at_end w.engines (other end)) w.sent block red w.now (two_ends end)
        (ok end w.now (omega arith)) (linked-at parties end peers) (good.next end)
        (grind (arith, nat_tests)) told)
holds-happens A B P inv parties w (deliver k) ok peers told good =
    holds-delivered A B P inv parties w (slice_get w.sent k) k refl
    (λ end. ok end w.now (omega arith)) peers good
holds-happens A B P inv parties w (clock now) ok peers told good =
    by_arms (HoldsIn P parties) (nat_lt now w.now) w _ (λ past. good)
    (λ later. let low : w.now ≤ now = grind (arith, nat_tests) in
    holds-ticks A B P inv parties now second_end _ (ok second_end now low) peers
    (holds-ticks A B P inv parties now first_end w (ok first_end now low) peers good))

pub holds-start : (P : End → ℕ → View → Type 0) → ((o : End) (n : ℕ) → P o n untouched_view)
    → (parties : Party × Party) → HoldsIn P parties (starts_world parties)
unfolding find said
holds-start P first parties =
    record { session = session; senders = senders; receivers = receivers; next = next }
  where
    unused : (p : Party) (n : ℕ) → is_used p (starts p) n ≡ false
    unused p n = grind (arith, nat_tests)

    session : (o : End) (n : ℕ) → P o n (view parties (starts_world parties) o n)
    session first_end n = rw (unused parties.0 n) (first first_end n)
    session second_end n = rw (unused parties.1 n) (first second_end n)

    senders : (o : End) → AreAscending 0 (at_end (starts_world parties).engines o).senders
    senders first_end = tt
    senders second_end = tt

    receivers : (o : End) → AreAscending 0 (at_end (starts_world parties).engines o).receivers
    receivers first_end = tt
    receivers second_end = tt

    next : (o : End) → (at_end parties o).first ≤ (at_end (starts_world parties).engines o).next
    next first_end = omega arith
    next second_end = omega arith

pub in-left : {X : Type 0} (x : X) (xs ys : List X) → IsIn x xs → IsIn x (xs ++ ys)
in-left x [] ys is = absurd is
in-left x (y ∷ xs) ys (inl here) = inl here
in-left x (y ∷ xs) ys (inr there) = inr (in-left x xs ys there)

pub in-right : {X : Type 0} (x : X) (xs ys : List X) → IsIn x ys → IsIn x (xs ++ ys)
in-right x [] ys is = is
in-right x (y ∷ xs) ys is = inr (in-right x xs ys is)

-- the blocks that a run submits are all so
abbrev pub AllBegun : (End → ℕ → List ℕ → ℕ → Type 0) → Party × Party → World → List Event → Type 0
AllBegun B parties w events = (plan : Submission) → IsIn plan (submissions parties w events)
    → B plan.from plan.session plan.block plan.red

pub begun-first : (B : End → ℕ → List ℕ → ℕ → Type 0) (parties : Party × Party) (w : World)
    (event : Event) (events : List Event) → AllBegun B parties w (event ∷ events)
    → (plan : Submission) → IsIn plan (submissions_at parties w event)
    → B plan.from plan.session plan.block plan.red
unfolding submissions
begun-first B parties w event events told plan is =
    told plan (in-left plan (submissions_at parties w event)
    (submissions parties (happens parties w event) events) is)

pub begun-rest : (B : End → ℕ → List ℕ → ℕ → Type 0) (parties : Party × Party) (w : World)
    (event : Event) (events : List Event) → AllBegun B parties w (event ∷ events)
    → AllBegun B parties (happens parties w event) events
unfolding submissions
begun-rest B parties w event events told plan is =
    told plan (in-right plan (submissions_at parties w event)
    (submissions parties (happens parties w event) events) is)

pub holds-run : (A : PolicyValue → ℕ → Type 0) (B : End → ℕ → List ℕ → ℕ → Type 0)
    (P : End → ℕ → View → Type 0) → IsInvariant A B P → (parties : Party × Party) (w : World)
    (events : List Event) → ((end : End) (now : ℕ) → A (at_end parties end).policy now)
    → ArePeers parties
    → AllBegun B parties w events → HoldsIn P parties w → HoldsIn P parties (run parties w events)
holds-run A B P inv parties w [] ok peers told good = good
holds-run A B P inv parties w (event ∷ events) ok peers told good =
    holds-run A B P inv parties (happens parties w event) events ok peers
    (begun-rest B parties w event events told)
    (holds-happens A B P inv parties w event (λ end now low. ok end now) peers
    (begun-first B parties w event events told) good)

abbrev pub any_time : PolicyValue → ℕ → Type 0
any_time policy now = Unit {0}

abbrev pub no_submissions : End → ℕ → List ℕ → ℕ → Type 0
no_submissions end n block red = Unit {0}

pub every_run : (P : View → Type 0) → IsInvariant any_time no_submissions (λ o n. P)
    → P untouched_view → (parties : Party × Party) (events : List Event) → ArePeers parties
    → HoldsIn (λ o n. P) parties (run parties (starts_world parties) events)
every_run P inv first parties events peers =
    holds-run any_time no_submissions (λ o n. P) inv parties (starts_world parties) events
    (λ end now. tt) peers (λ plan is. tt) (holds-start (λ o n. P) (λ o n. first) parties)

-- ---- facts of sessions that were begun

has_facts : (F : List ℕ → ℕ → View → Type 0) (v : View) → v.used ≡ true → Session F v → Has F v
has_facts F v used session = subst (λ b. SessionBy F b v) used session

is_unused : (F : List ℕ → ℕ → View → Type 0) (v : View) → v.used ≡ false → Session F v → Unused v
is_unused F v used session = subst (λ b. SessionBy F b v) used session

session_by : (F : List ℕ → ℕ → View → Type 0) (v : View) → v.used ≡ true → Has F v → Session F v
session_by F v used has = subst (λ b. SessionBy F b v) (sym used) has

-- a session in which something holds that doesn't of an unused one has facts
used_session : (F : List ℕ → ℕ → View → Type 0) (v : View) → Session F v → (Unused v → ⊥)
    → (v' : View) → v'.used ≡ v.used
    → ((block : List ℕ) (red : ℕ) → F block red v → F block red v') → Session F v'
used_session F v session not_unused v' used' follows = by_used v.used refl
  where
    by_used : (used : Bool) → v.used ≡ used → Session F v'
    by_used true used =
        let has = has_facts F v used session in
        session_by F v' (used' ∙ used) (record {
          block = has.block;
          red = has.red;
          facts = follows has.block has.red has.facts;
        })
    by_used false used = absurd (not_unused (is_unused F v used session))

pub among_none : (content : ContentValue) (cs : List ContentValue) → IsIn content cs → cs ≡ [] → ⊥
among_none content [] among none = among
among_none content (c ∷ cs) among none = cc

pub session-invariant : (F : List ℕ → ℕ → View → Type 0) → KeepsUnder no_facts F
    → IsInvariant any_time no_submissions (λ o n. Session F)
session-invariant F keeps_facts = record {
  begins = λ o policy n block red now v ok told cuts within unused session.
      session_by F (begins v (begin policy n block red now)) refl
      (record {
        block = block;
        red = red;
        facts = keeps_facts.begins policy n block red now v cuts
            within (is_unused F v unused session) tt;
      });
  sender = λ o n policy v content now t ok among hears session.
      used_session F v session (λ none. among_none content v.by_receiver among none.by_receiver)
      (sender_moves v t) refl
      (λ block red facts. keeps_facts.sender block red policy v content now t among
      hears tt tt facts);
  receiver = λ o n policy place v content now t ok closed among hears session.
      used_session F v session (λ none. among_none content v.by_sender among none.by_sender)
      (receiver_moves v t) refl
      (λ block red facts. keeps_facts.receiver block red policy place v content now t closed among
      hears tt tt facts);
  sender_tick = λ o n policy now v s ok is session.
      used_session F v session (λ none. let empty : v.sender ≡ None = none.sender in
      cc) (sender_moves v (sender_tick policy s now)) refl
      (λ block red facts. keeps_facts.sender_tick block red policy now v s is tt tt facts);
  receiver_tick = λ o n policy now v r ok is session.
      used_session F v session (λ none. let empty : v.receiver ≡ None = none.receiver in
      cc) (receiver_moves v (receiver_tick policy r now)) refl
      (λ block red facts. keeps_facts.receiver_tick block red policy now v r is tt tt facts);
  evicted = λ o n v r is session.
      used_session F v session (λ none. let empty : v.receiver ≡ None = none.receiver in
      cc) (evicted v) refl
      (λ block red facts. keeps_facts.evicted block red v r is tt tt facts);
}

pub session-start : (F : List ℕ → ℕ → View → Type 0) → Session F untouched_view
session-start F = record {
  sender = refl;
  receiver = refl;
  closed = refl;
  by_sender = refl;
  by_receiver = refl;
}

-- facts above others
pub joined : (F G : List ℕ → ℕ → View → Type 0) → KeepsUnder no_facts F → KeepsUnder F G
    → KeepsUnder no_facts (both_facts F G)
joined F G f g = record {
  begins = λ policy n block red now v cuts within unused _.
      let now_f = f.begins policy n block red now v cuts within unused tt in
      (now_f, g.begins policy n block red now v cuts within unused now_f);
  sender = λ block red policy v content now t among hears _ _ holds.
      let now_f = f.sender block red policy v content now t among hears tt tt holds.0 in
      (now_f, g.sender block red policy v content now t among hears holds.0 now_f holds.1);
  receiver = λ block red policy place v content now t closed among hears _ _ holds.
      let now_f = f.receiver block red policy place v content now t closed among hears
      tt tt holds.0 in (
        now_f,
        g.receiver block red policy place v content now t closed among hears holds.0
            now_f holds.1,
      );
  sender_tick = λ block red policy now v s is _ _ holds.
      let now_f = f.sender_tick block red policy now v s is tt tt holds.0 in
      (now_f, g.sender_tick block red policy now v s is holds.0 now_f holds.1);
  receiver_tick = λ block red policy now v r is _ _ holds.
      let now_f = f.receiver_tick block red policy now v r is tt tt holds.0 in
      (now_f, g.receiver_tick block red policy now v r is holds.0 now_f holds.1);
  evicted = λ block red v r is _ _ holds.
      let now_f = f.evicted block red v r is tt tt holds.0 in
      (now_f, g.evicted block red v r is holds.0 now_f holds.1);
}
