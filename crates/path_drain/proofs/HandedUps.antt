-- Over every run of a link, a receiver that has handed its red part up did so in an event of the run.

use Rattle.std.proofs.Common.{◌≡◌, ℕ, Bool, true, false, ◌==◌, List, [], ◌∷◌, ◌++◌, length}
use Rattle.std.proofs.Common.{Option, None, Some, is_some, ◌⊎◌, inl, inr, refl, sym, ◌∙◌, ap, subst}
use Rattle.std.proofs.Common.{nat_le, nat_lt, if◌then◌else◌}
use Rattle.std.specs.List.{slice_get}
use Rattle.std.proofs.lemmas.Bool.{eqb-false, eqb-true}
use Rattle.ltp_segment.specs.Values.{SegmentValue, a_sender_cancel_ack}
use Rattle.ltp_session.specs.declared.name.SessionName.{SessionName}
use Rattle.ltp_session.specs.Engine.{Engine, Party, Reply, SubmitFault, arrives, is_used, admission_of}
use Rattle.ltp_session.specs.Engine.{receiver_replies, receiver_ticks, sender_replies}
use Rattle.ltp_session.specs.Engine.{submit_fault, submits, submits_unless, tick_engine, tick_out}
use Rattle.ltp_session.specs.Engine.{with_receiver}
use Rattle.ltp_session.specs.Receiver.{Receiving, receiver_answers, receiver_tick}
use Rattle.ltp_session.specs.Sender.{Sending, sender_answers}
use Rattle.ltp_session.specs.Step.{Change, StepValue, after}
use Rattle.ltp_session.specs.Table.{AreAscending, find}
use Rattle.ltp_session.specs.Views.{headed_all}
use Rattle.ltp_session.specs.World.{ArePeers, End, Event, Sent, World, at_end, clock, deliver}
use Rattle.ltp_session.specs.World.{delivered, first_end, happens, other, replies, run, second_end}
use Rattle.ltp_session.specs.World.{sent_by, starts_world, submit, submit_reply, submitted, ticks}
use Rattle.ltp_session.specs.World.{unless_refused, with_end}
use Rattle.ltp_laws.specs.HandUps.{up_by, up_of}
use Rattle.ltp_laws.specs.Log.{HandUp, hand_up_of, hand_ups, hand_ups_at, hand_ups_by}
use Rattle.ltp_laws.specs.Runs.{HoldsIn, receiver_after}
use Rattle.ltp_laws.specs.Steps.{ReceiverStep, again, fills, idle, over, reports_on, turns}
use Rattle.ltp_laws.specs.View.{IsIn, View, session_of, view, view_by}
use Rattle.ltp_laws.proofs.FrameLemmas.{AreTwo, Left, alone, closed_for_room, opening}
use Rattle.ltp_laws.proofs.FrameLemmas.{receiver-here, receiver-others, tick-peer}
use Rattle.ltp_laws.proofs.RunLemmas.{any_time, holds-happens, holds-start, in-left}
use Rattle.ltp_laws.proofs.RunLemmas.{in-right, linked-at, no_submissions, two_ends}
use Rattle.ltp_laws.proofs.StepLemmas.{tick-form}
use Rattle.ltp_laws.proofs.LogLemmas.{Anything, anything-invariant}
use Rattle.ltp_drain.specs.Hopeful.{IsHanded}
use Rattle.ltp_drain.proofs.HandedLemmas.{hands-up-now}

-- ---- one receiver

-- a tick hands nothing up
step-keeps : (r : Receiving) (t : StepValue Receiving) → ReceiverStep a_sender_cancel_ack r t
    → IsHanded (after t.next (Some r)) → r.handed_up ≡ true
step-keeps r t (idle next none) handed =
    subst (λ (c : Change Receiving). IsHanded (after c (Some r))) next handed
step-keeps r t (over next none) handed =
    absurd (subst (λ (c : Change Receiving). IsHanded (after c (Some r))) next handed)
step-keeps r t (turns r' next turned none) handed =
    sym turned.handed
    ∙ subst (λ (c : Change Receiving). IsHanded (after c (Some r))) next handed
step-keeps r t (again p timer pending next out) handed =
    subst (λ (c : Change Receiving). IsHanded (after c (Some r))) next handed
step-keeps r t (fills q r' is_piece red_kind next filling none) handed = absurd (cc)
step-keeps r t (reports_on q r' is_piece red_kind checkpoint next reporting out) handed =
    absurd (cc)

tick-keeps : (p : Party) (now : ℕ) (kept : Option Receiving) (v : View) → v.receiver ≡ kept
    → IsHanded (receiver_after (receiver_ticks p now) kept v).receiver → IsHanded kept
tick-keeps p now None v is handed = subst IsHanded is handed
tick-keeps p now (Some r) v is handed =
    step-keeps r (receiver_tick p.policy r now) (tick-form a_sender_cancel_ack p.policy now r)
    (subst (λ (k : Option Receiving). IsHanded (after (receiver_tick p.policy r now).next k)) is
    handed)

-- ---- an engine

-- a reply hands up a red part of this session
abbrev HandsUpIn : ℕ → ℕ → Option Reply → Type 0
HandsUpIn n session reply = (session ≡ n) × (is_some (up_of reply) ≡ true)

-- session n had handed up before a reply, or does so in it
abbrev RepliesRightly : Engine → ℕ → ℕ → Option Reply → Type 0
RepliesRightly e n session None = Unit {0}
RepliesRightly e n session (Some reply) = IsHanded (find n reply.engine.receivers)
    → IsHanded (find n e.receivers) ⊎ HandsUpIn n session (Some reply)

-- this session's step, or another's
moves-rightly : (me you : End) (p q : Party) (e f : Engine) (sent : List Sent) (n m : ℕ)
    (t : StepValue Receiving) → AreTwo me you
    → (IsHanded (after t.next (find n e.receivers))
    → IsHanded (find n e.receivers) ⊎ (is_some t.up ≡ true))
    → (same : Bool) → (n == m) ≡ same
    → IsHanded (find m
    (with_receiver (opening p e (find n e.receivers) t.next) n t.next).receivers)
    → IsHanded (find m e.receivers) ⊎ ((n ≡ m) × (is_some t.up ≡ true))
moves-rightly me you p q e f sent n m t both hands true is_same handed =
    let here : n ≡ m = eqb-true n m is_same in
    subst (λ (k : ℕ). IsHanded (find k e.receivers) ⊎ ((n ≡ k) × (is_some t.up ≡ true))) here
    (now (hands (subst IsHanded
    (ap (λ (v : View). v.receiver) (receiver-here me you q p f e sent n t both))
    (subst (λ (k : ℕ). IsHanded (find k
    (with_receiver (opening p e (find n e.receivers) t.next) n t.next).receivers)) (sym here)
    handed))))
  where
    now : IsHanded (find n e.receivers) ⊎ (is_some t.up ≡ true)
        → IsHanded (find n e.receivers) ⊎ ((n ≡ n) × (is_some t.up ≡ true))
    now (inl was) = inl was
    now (inr up) = inr (refl, up)
moves-rightly me you p q e f sent n m t both hands false is_same handed =
    inl (by (receiver-others me you q p f e sent n m t both (eqb-false n m is_same)))
  where
    v' : View
    v' = view_by you me q f (with_receiver (opening p e (find n e.receivers) t.next) n t.next)
        (sent ++ sent_by me (headed_all (session_of q.own n) t.out)) m

    by : Left (view_by you me q f e sent m) v' → IsHanded (find m e.receivers)
    by (alone is) = subst (λ (v : View). IsHanded v.receiver) is handed
    by (closed_for_room r kept is) =
        absurd (subst (λ (v : View). IsHanded v.receiver) is handed)

both-ways : {X : Type 0} (P : X → Type 0) (test : Bool) (x y : X) → P x → P y
    → P (if test then x else y)
both-ways P true x y first second = first
both-ways P false x y first second = second

arrives-rightly : (me you : End) (p q : Party) (e f : Engine) (sent : List Sent)
    (s : SegmentValue) (now n : ℕ) → AreTwo me you
    → RepliesRightly e n s.session (arrives p e s now)
unfolding arrives
arrives-rightly me you p q e f sent s now n both =
    both-ways Rightly (s.originator == p.own) _ _
    (both-ways Rightly (is_used p e s.session) _ _
    (by_own (sender_answers p.policy (find s.session e.senders) s.content now)) tt)
    (both-ways Rightly (s.originator == p.peer) _ _
    (by_peer (receiver_answers p.policy (admission_of p e s.session) (find s.session e.receivers)
    s.content now) refl) tt)
  where
    Rightly : Option Reply → Type 0
    Rightly = RepliesRightly e n s.session

    by_own : (o : Option (StepValue Sending)) → Rightly (sender_replies e s.session o)
    by_own None = tt
    by_own (Some t) = λ handed. inl handed

    by_peer : (o : Option (StepValue Receiving))
        → receiver_answers p.policy (admission_of p e s.session) (find s.session e.receivers)
        s.content now ≡ o
        → Rightly (receiver_replies p e s.session o)
    by_peer None hears = tt
    by_peer (Some t) hears = λ handed.
        moves-rightly me you p q e f sent s.session n t both
        (hands-up-now p.policy (admission_of p e s.session) (find s.session e.receivers) s.content now
        t hears) (s.session == n) refl handed

-- ---- a link

-- a red part of session n of the end o was handed up
pub record WasHandedUp (all : List HandUp) (o : End) (n : ℕ) : Type 0 where
  pub up : HandUp
  pub among : IsIn up all
  pub end : up.end ≡ other o
  pub session : up.session ≡ n

-- what this event may add of it
abbrev EventHands : Party × Party → World → World → List HandUp → End → ℕ → Type 0
EventHands parties w w' all o n = IsHanded (view parties w' o n).receiver
    → IsHanded (view parties w o n).receiver ⊎ WasHandedUp all o n

-- only the engine of one end becomes another
receivers-at : (parties : Party × Party) (w : World) (end : End) (e' : Engine) (sent' : List Sent)
    (now : ℕ) (all : List HandUp) (o : End) (n : ℕ)
    → (other o ≡ end → IsHanded (find n e'.receivers)
    → IsHanded (find n (at_end w.engines end).receivers) ⊎ WasHandedUp all o n)
    → EventHands parties w (record {
      engines = with_end w.engines end e';
      sent = sent';
      now = now;
    }) all o n
receivers-at parties w first_end e' sent' now all first_end n at handed = inl handed
receivers-at parties w first_end e' sent' now all second_end n at handed = at refl handed
receivers-at parties w second_end e' sent' now all first_end n at handed = at refl handed
receivers-at parties w second_end e' sent' now all second_end n at handed = inl handed

-- a reply about a session
reply-hands : (parties : Party × Party) (w : World) (end : End) (name : SessionName)
    (session : ℕ) (reply : Option Reply) (all : List HandUp) (o : End) (n : ℕ)
    → RepliesRightly (at_end w.engines end) n session reply
    → (other o ≡ end → HandsUpIn n session reply → WasHandedUp all o n)
    → EventHands parties w (replies w end name reply) all o n
reply-hands parties w end name session None all o n rightly up handed = inl handed
reply-hands parties w end name session (Some reply) all o n rightly up handed =
    receivers-at parties w end reply.engine (w.sent ++ sent_by end (headed_all name reply.out))
    w.now all o n
    (λ at was. by at (rightly was)) handed
  where
    by : other o ≡ end
        → IsHanded (find n (at_end w.engines end).receivers) ⊎ HandsUpIn n session (Some reply)
        → IsHanded (find n (at_end w.engines end).receivers) ⊎ WasHandedUp all o n
    by at (inl before) = inl before
    by at (inr now) = inr (up at now)

-- a segment comes
segment-hands : (parties : Party × Party) (w : World) (d : Sent) (o : End) (n : ℕ)
    → EventHands parties w (delivered parties w (Some d)) (hand_ups_by parties w (Some d)) o n
segment-hands parties w d o n =
    reply-hands parties w (other d.from) _ d.segment.session
    (arrives (at_end parties (other d.from)) (at_end w.engines (other d.from)) d.segment w.now)
    (hand_ups_by parties w (Some d)) o n
    (arrives-rightly (other d.from) (other (other d.from)) (at_end parties (other d.from))
    (at_end parties (other (other d.from))) (at_end w.engines (other d.from))
    (at_end w.engines (other (other d.from))) w.sent d.segment w.now n (two_ends (other d.from)))
    (λ at hands. by at hands.0 (up_by parties w d) hands.1)
  where
    by : other o ≡ other d.from → d.segment.session ≡ n → (up : Option (List ℕ))
        → is_some up ≡ true → WasHandedUp (hand_up_of d up) o n
    by at session None some = absurd (cc)
    by at session (Some body) some = record {
      up = record {
        end = other d.from;
        originator = d.segment.originator;
        session = d.segment.session;
        body = body;
      };
      among = inl refl;
      end = sym at;
      session = session;
    }

-- a block is submitted
submit-hands : (parties : Party × Party) (w : World) (end : End) (block : List ℕ) (red : ℕ)
    (o : End) (n : ℕ) → EventHands parties w (submitted parties w end block red) [] o n
unfolding submitted submits
submit-hands parties w end block red o n =
    both-ways (λ (w' : World). EventHands parties w w' [] o n) (nat_le red (length block)) _ _
    (reply-hands parties w end _ (at_end w.engines end).next
    (submit_reply parties w end block red) [] o n
    (by (submit_fault (at_end parties end) (at_end w.engines end) block))
    (λ at hands. absurd (never (submit_fault (at_end parties end) (at_end w.engines end) block)
    hands.1)))
    (λ handed. inl handed)
  where
    answer : Option SubmitFault → Option Reply
    answer fault = unless_refused (submits_unless fault (at_end parties end)
        (at_end w.engines end) block red w.now)

    by : (fault : Option SubmitFault)
        → RepliesRightly (at_end w.engines end) n (at_end w.engines end).next (answer fault)
    by None = λ handed. inl handed
    by (Some fault) = tt

    never : (fault : Option SubmitFault) → is_some (up_of (answer fault)) ≡ true → ⊥
    never None is = cc
    never (Some fault) is = cc

-- the sessions of an end tick
ticks-hand : (parties : Party × Party) (now : ℕ) (end : End) (w : World) (o : End) (n : ℕ)
    → ArePeers parties → AreAscending 0 (at_end w.engines end).receivers
    → EventHands parties w (ticks parties now end w) [] o n
unfolding ticks
ticks-hand parties now end w o n peers ascending =
    receivers-at parties w end
    (tick_engine (at_end parties end) (at_end w.engines end) now)
    (w.sent ++ sent_by end (tick_out (at_end parties end) (at_end w.engines end) now)) now [] o n
    (λ at handed. inl (tick-keeps (at_end parties end) now
    (find n (at_end w.engines end).receivers) (view_by (other end) end (at_end parties (other end))
    (at_end w.engines (other end)) (at_end w.engines end) w.sent n) refl
    (subst IsHanded (ap (λ (v : View). v.receiver)
    (tick-peer end (other end) (at_end parties end) (at_end parties (other end))
    (at_end w.engines end) (at_end w.engines (other end)) w.sent n now (two_ends end)
    (linked-at parties end peers).knows (linked-at parties end peers).apart ascending)) handed)))

-- ---- an event

-- one step, and then another
hands-then : (parties : Party × Party) (w x y : World) (all more : List HandUp) (o : End) (n : ℕ)
    → EventHands parties w x all o n → EventHands parties x y more o n
    → EventHands parties w y (all ++ more) o n
hands-then parties w x y all more o n first later handed = by_later (later handed)
  where
    by_first : IsHanded (view parties w o n).receiver ⊎ WasHandedUp all o n
        → IsHanded (view parties w o n).receiver ⊎ WasHandedUp (all ++ more) o n
    by_first (inl was) = inl was
    by_first (inr up) = inr (record {
      up = up.up;
      among = in-left up.up all more up.among;
      end = up.end;
      session = up.session;
    })

    by_later : IsHanded (view parties x o n).receiver ⊎ WasHandedUp more o n
        → IsHanded (view parties w o n).receiver ⊎ WasHandedUp (all ++ more) o n
    by_later (inl was) = by_first (first was)
    by_later (inr up) = inr (record {
      up = up.up;
      among = in-right up.up all more up.among;
      end = up.end;
      session = up.session;
    })

-- a tick of the first end leaves the second as it is
still-ascending : (parties : Party × Party) (w : World) (now : ℕ)
    → AreAscending 0 (at_end w.engines second_end).receivers
    → AreAscending 0 (at_end (ticks parties now first_end w).engines second_end).receivers
unfolding ticks
still-ascending parties w now ascending = ascending

event-hands : (parties : Party × Party) (w : World) (event : Event) (o : End) (n : ℕ)
    → ArePeers parties → HoldsIn Anything parties w
    → EventHands parties w (happens parties w event) (hand_ups_at parties w event) o n
event-hands parties w (submit end block red) o n peers good =
    submit-hands parties w end block red o n
event-hands parties w (deliver k) o n peers good = by (slice_get w.sent k)
  where
    by : (got : Option Sent)
        → EventHands parties w (delivered parties w got) (hand_ups_by parties w got) o n
    by None = λ handed. inl handed
    by (Some d) = segment-hands parties w d o n
event-hands parties w (clock now) o n peers good =
    both-ways (λ (w' : World). EventHands parties w w' [] o n) (nat_lt now w.now) _ _
    (λ handed. inl handed)
    (hands-then parties w (ticks parties now first_end w)
    (ticks parties now second_end (ticks parties now first_end w)) [] [] o n
    (ticks-hand parties now first_end w o n peers (good.receivers first_end))
    (ticks-hand parties now second_end (ticks parties now first_end w) o n peers
    (still-ascending parties w now (good.receivers second_end))))

-- ---- a run

run-hands : (parties : Party × Party) → ArePeers parties → (o : End) (n : ℕ) (events : List Event)
    (w : World) → HoldsIn Anything parties w
    → EventHands parties w (run parties w events) (hand_ups parties w events) o n
unfolding hand_ups
run-hands parties peers o n [] w good = λ handed. inl handed
run-hands parties peers o n (event ∷ events) w good =
    hands-then parties w (happens parties w event)
    (run parties (happens parties w event) events) (hand_ups_at parties w event)
    (hand_ups parties (happens parties w event) events) o n
    (event-hands parties w event o n peers good)
    (run-hands parties peers o n events (happens parties w event)
    (holds-happens any_time no_submissions Anything anything-invariant parties w event
    (λ end now low. tt) peers (λ plan is. tt) good))

-- from the start of a link
pub start-hands : (parties : Party × Party) (events : List Event) → ArePeers parties → (o : End)
    (n : ℕ) → IsHanded (view parties (run parties (starts_world parties) events) o n).receiver
    → WasHandedUp (hand_ups parties (starts_world parties) events) o n
unfolding find
start-hands parties events peers o n handed =
    by o (run-hands parties peers o n events (starts_world parties)
    (holds-start Anything (λ o n. tt) parties) handed)
  where
    by : (end : End)
        → IsHanded (view parties (starts_world parties) end n).receiver
        ⊎ WasHandedUp (hand_ups parties (starts_world parties) events) o n
        → WasHandedUp (hand_ups parties (starts_world parties) events) o n
    by end (inr up) = up
    by first_end (inl was) = absurd was
    by second_end (inl was) = absurd was
