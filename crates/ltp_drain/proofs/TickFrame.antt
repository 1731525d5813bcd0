-- A tick of both ends in a drain touches each session once.

use Rattle.std.proofs.Common.{◌≡◌, ℕ, ◌+◌, ◌<◌, ◌≤◌, List, [], ◌∷◌, ◌++◌, length, Option, None}
use Rattle.std.proofs.Common.{Some, inl, refl, sym, ◌∙◌, ap, arith, subst, append_assoc}
use Rattle.std.proofs.lemmas.List.{append-nil}
use Rattle.ltp_segment.specs.Values.{PieceValue, ContentValue, a_piece, a_report}
use Rattle.ltp_session.specs.Engine.{Engine, Party, receiver_ticks, sender_ticks, tick_engine}
use Rattle.ltp_session.specs.Engine.{tick_out}
use Rattle.ltp_session.specs.Receiver.{Pending, Receiving}
use Rattle.ltp_session.specs.Sender.{Sending, sender_open}
use Rattle.ltp_session.specs.Step.{StepValue}
use Rattle.ltp_session.specs.Table.{AreAscending, find}
use Rattle.ltp_session.specs.World.{End, Sent, sent_by}
use Rattle.ltp_session.specs.declared.timer.Timer.{Timer}
use Rattle.ltp_laws.specs.Runs.{KeepsUnder, no_facts, receiver_after, sender_after}
use Rattle.ltp_laws.specs.Serials.{pending_of}
use Rattle.ltp_laws.specs.View.{Unused, View, said, view_by}
use Rattle.ltp_laws.proofs.FrameLemmas.{AreTwo, out_of, tick-own, tick-peer}
use Rattle.ltp_laws.proofs.RunLemmas.{Linked, linked-apart}
use Rattle.ltp_drain.specs.Calm.{AreFit, Calm, Advances, Setting, Ticked}
use Rattle.ltp_drain.specs.Hopeful.{IsHanded, IsKeptSender}
use Rattle.ltp_drain.specs.Standing.{Stands, setting_by}
use Rattle.ltp_drain.proofs.DrainFrame.{was_begun, never_begun, Begun, Gives, is-begun}
use Rattle.ltp_drain.proofs.DrainFrame.{stands-so, stands-used}
use Rattle.ltp_drain.proofs.DrainLists.{added-said}
use Rattle.ltp_drain.proofs.TickRows.{receiver-first, receiving-fires, sender-first}
use Rattle.ltp_drain.proofs.TickRows.{sending-fires, tick-falls, ticked-advances}

-- a session after a tick: one less for each datagram that it sent
pub record TickLower (F : List ℕ → ℕ → View → Type 0) (set : ℕ → Setting) (v : View)
    (new_s new_r : List ContentValue) (m : ℕ) : Type 0 where
  pub left : ℕ
  pub less : left + length new_s + length new_r ≤ m
  pub stands : Stands F set v new_s new_r left

-- how the session's view is after both ends' ticks
record BothTick (F : List ℕ → ℕ → View → Type 0) (p q : Party) (v v' : View) : Type 0 where
  used : v'.used ≡ v.used
  out_s : List ContentValue
  out_r : List ContentValue
  ticked : Calm (p.policy).limit (q.policy).limit v [] [] → Ticked v v' out_s out_r
  facts : (block : List ℕ) (red : ℕ) → F block red v → F block red v'
  idle : Unused v → v' ≡ v

ticked-lower : (F : List ℕ → ℕ → View → Type 0) → Gives F
    → (p q : Party) (n : ℕ) (v v' : View) (new_s new_r : List ContentValue) (m : ℕ)
    → AreFit q.most v.by_sender → BothTick F p q v v'
    → ((out : List ContentValue) → v'.by_sender ≡ v.by_sender ++ out → new_s ≡ out)
    → ((out : List ContentValue) → v'.by_receiver ≡ v.by_receiver ++ out → new_r ≡ out)
    → Stands F (setting_by p q n) v [] [] m → TickLower F (setting_by p q n) v' new_s new_r m
ticked-lower F gives p q n v v' new_s new_r m fit ticks is_s is_r stands =
    go (is-begun F (setting_by p q n) v [] [] m stands)
  where
    go : Begun F (setting_by p q n) v [] [] m → TickLower F (setting_by p q n) v' new_s new_r m
    go (never_begun unused idle) =
        let same : v' ≡ v = ticks.idle idle.unused in
        let none_s : new_s ≡ [] = is_s [] (ap (λ (v : View). v.by_sender) same
        ∙ sym (append-nil v.by_sender)) in
        let none_r : new_r ≡ [] = is_r [] (ap (λ (v : View). v.by_receiver) same
        ∙ sym (append-nil v.by_receiver)) in
        record {
          left = m;
          less = omega (arith, ap length none_s, ap length none_r);
          stands = stands-so F (setting_by p q n) v v' [] [] new_s new_r m same none_s none_r
              stands;
        }
    go (was_begun used st) =
        let ticked : Ticked v v' ticks.out_s ticks.out_r = ticks.ticked (st.drains).calm in
        let falls = tick-falls (setting_by p q n st.red) st.block q.most v v' ticks.out_s
        ticks.out_r m (gives.gives st.block st.red q.most v fit st.facts) st.drains ticked in
        let same_s : new_s ≡ ticks.out_s = is_s ticks.out_s ticked.by_sender in
        let same_r : new_r ≡ ticks.out_r = is_r ticks.out_r ticked.by_receiver in
        record {
          left = falls.left;
          less = omega (arith, falls.less, ap length same_s, ap length same_r);
          stands = stands-so F (setting_by p q n) v' v' ticks.out_s ticks.out_r new_s new_r
              falls.left refl same_s same_r
              (stands-used F (setting_by p q n) v' ticks.out_s ticks.out_r falls.left (ticks.used
              ∙ used)
              (record {
                block = st.block;
                red = st.red;
                facts = ticks.facts st.block st.red
                    st.facts;
                drains = falls.drains;
              }));
        }

-- ---- facts after ticks

facts-sender : (F : List ℕ → ℕ → View → Type 0) → KeepsUnder no_facts F
    → (p : Party) (now : ℕ) (block : List ℕ) (red : ℕ) (v : View) (o : Option Sending)
    → v.sender ≡ o → F block red v → F block red (sender_after (sender_ticks p now) o v)
facts-sender F kept p now block red v None is facts = facts
facts-sender F kept p now block red v (Some s) is facts =
    kept.sender_tick block red p.policy now v s is tt tt facts

facts-receiver : (F : List ℕ → ℕ → View → Type 0) → KeepsUnder no_facts F
    → (p : Party) (now : ℕ) (block : List ℕ) (red : ℕ) (v : View) (o : Option Receiving)
    → v.receiver ≡ o → F block red v → F block red (receiver_after (receiver_ticks p now) o v)
facts-receiver F kept p now block red v None is facts = facts
facts-receiver F kept p now block red v (Some r) is facts =
    kept.receiver_tick block red p.policy now v r is tt tt facts

used-sender : (tick : Sending → StepValue Sending) (o : Option Sending) (v : View)
    → (sender_after tick o v).used ≡ v.used
used-sender tick None v = refl
used-sender tick (Some s) v = refl

used-receiver : (tick : Receiving → StepValue Receiving) (o : Option Receiving) (v : View)
    → (receiver_after tick o v).used ≡ v.used
used-receiver tick None v = refl
used-receiver tick (Some r) v = refl

receiver-kept : (tick : Sending → StepValue Sending) (o : Option Sending) (v : View)
    → (sender_after tick o v).receiver ≡ v.receiver
receiver-kept tick None v = refl
receiver-kept tick (Some s) v = refl

sender-kept : (tick : Receiving → StepValue Receiving) (o : Option Receiving) (v : View)
    → (receiver_after tick o v).sender ≡ v.sender
sender-kept tick None v = refl
sender-kept tick (Some r) v = refl

-- ---- p's end ticks first, then q's

ticks-own : (F : List ℕ → ℕ → View → Type 0) → Gives F
    → (me you : End) (p q : Party) (e f : Engine) (sent : List Sent) (n now : ℕ) → AreTwo me you
    → Linked p q → Linked q p
    → AreAscending 0 e.senders → AreAscending 0 f.receivers
    → BothTick F p q (view_by me you p e f sent n)
    (view_by me you p (tick_engine p e now) (tick_engine q f now)
    ((sent ++ sent_by me (tick_out p e now)) ++ sent_by you (tick_out q f now)) n)
ticks-own F gives me you p q e f sent n now both linked back senders receivers = record {
  used = ap (λ (v : View). v.used) is ∙ used-receiver (receiver_ticks q now) v.receiver _
      ∙ used-sender (sender_ticks p now) v.sender v;
  out_s = out_of (sender_ticks p now) (find n e.senders);
  out_r = out_of (receiver_ticks q now) (find n f.receivers);
  ticked = λ calm. subst (λ w. Ticked v w (out_of (sender_ticks p now) (find n e.senders))
      (out_of (receiver_ticks q now) (find n f.receivers))) (sym is)
      (sender-first p.policy q.policy now v calm);
  facts = λ block red facts. subst (F block red) (sym is)
      (facts-receiver F gives.keeps_on q now block red
      (sender_after (sender_ticks p now) v.sender v) v.receiver
      (receiver-kept (sender_ticks p now) v.sender v)
      (facts-sender F gives.keeps_on p now block red v v.sender refl facts));
  idle = λ unused. is ∙ nothing v.sender v.receiver unused.sender unused.receiver;
}
  where
    v : View
    v = view_by me you p e f sent n

    is : view_by me you p (tick_engine p e now) (tick_engine q f now)
        ((sent ++ sent_by me (tick_out p e now)) ++ sent_by you (tick_out q f now)) n
        ≡ receiver_after (receiver_ticks q now) (find n f.receivers)
        (sender_after (sender_ticks p now) (find n e.senders) (view_by me you p e f sent n))
    is = tick-peer you me q p f (tick_engine p e now) (sent ++ sent_by me (tick_out p e now)) n
        now (record { me_you = both.you_me; you_me = both.me_you }) back.knows back.apart
        receivers
        ∙ ap (receiver_after (receiver_ticks q now) (find n f.receivers))
        (tick-own me you p e f sent n now both (linked-apart p q linked) senders)

    nothing : (s : Option Sending) (r : Option Receiving) → s ≡ None → r ≡ None
        → receiver_after (receiver_ticks q now) r (sender_after (sender_ticks p now) s v) ≡ v
    nothing None None is_s is_r = refl
    nothing (Some s) r is_s is_r = absurd (cc)
    nothing None (Some r) is_s is_r = absurd (cc)

ticks-peer : (F : List ℕ → ℕ → View → Type 0) → Gives F
    → (me you : End) (p q : Party) (e f : Engine) (sent : List Sent) (n now : ℕ) → AreTwo me you
    → Linked p q → Linked q p
    → AreAscending 0 f.senders → AreAscending 0 e.receivers
    → BothTick F q p (view_by you me q f e sent n)
    (view_by you me q (tick_engine q f now) (tick_engine p e now)
    ((sent ++ sent_by me (tick_out p e now)) ++ sent_by you (tick_out q f now)) n)
ticks-peer F gives me you p q e f sent n now both linked back senders receivers = record {
  used = ap (λ (v : View). v.used) is ∙ used-sender (sender_ticks q now) v.sender _
      ∙ used-receiver (receiver_ticks p now) v.receiver v;
  out_s = out_of (sender_ticks q now) (find n f.senders);
  out_r = out_of (receiver_ticks p now) (find n e.receivers);
  ticked = λ calm. subst (λ w. Ticked v w (out_of (sender_ticks q now) (find n f.senders))
      (out_of (receiver_ticks p now) (find n e.receivers))) (sym is)
      (receiver-first q.policy p.policy now v calm);
  facts = λ block red facts. subst (F block red) (sym is)
      (facts-sender F gives.keeps_on q now block red
      (receiver_after (receiver_ticks p now) v.receiver v) v.sender
      (sender-kept (receiver_ticks p now) v.receiver v)
      (facts-receiver F gives.keeps_on p now block red v v.receiver refl facts));
  idle = λ unused. is ∙ nothing v.sender v.receiver unused.sender unused.receiver;
}
  where
    v : View
    v = view_by you me q f e sent n

    is : view_by you me q (tick_engine q f now) (tick_engine p e now)
        ((sent ++ sent_by me (tick_out p e now)) ++ sent_by you (tick_out q f now)) n
        ≡ sender_after (sender_ticks q now) (find n f.senders)
        (receiver_after (receiver_ticks p now) (find n e.receivers)
        (view_by you me q f e sent n))
    is = tick-own you me q f (tick_engine p e now) (sent ++ sent_by me (tick_out p e now)) n now
        (record { me_you = both.you_me; you_me = both.me_you }) (linked-apart q p back) senders
        ∙ ap (sender_after (sender_ticks q now) (find n f.senders))
        (tick-peer me you p q e f sent n now both linked.knows linked.apart receivers)

    nothing : (s : Option Sending) (r : Option Receiving) → s ≡ None → r ≡ None
        → sender_after (sender_ticks q now) s (receiver_after (receiver_ticks p now) r v) ≡ v
    nothing None None is_s is_r = refl
    nothing (Some s) r is_s is_r = absurd (cc)
    nothing None (Some r) is_s is_r = absurd (cc)

-- what is new is what both send
said-both : (who : End) (o n : ℕ) (sent a b : List Sent) (out : List ContentValue)
    → said who o n ((sent ++ a) ++ b) ≡ said who o n sent ++ out → said who o n (a ++ b) ≡ out
said-both who o n sent a b out is = added-said who o n sent (a ++ b) out
    (ap (said who o n) (sym (append_assoc sent a b)) ∙ is)

pub own-ticks : (F : List ℕ → ℕ → View → Type 0) → Gives F
    → (me you : End) (p q : Party) (e f : Engine) (sent : List Sent) (n now m : ℕ) → AreTwo me you
    → Linked p q → Linked q p
    → AreAscending 0 e.senders → AreAscending 0 f.receivers
    → AreFit q.most (view_by me you p e f sent n).by_sender
    → Stands F (setting_by p q n) (view_by me you p e f sent n) [] [] m
    → TickLower F (setting_by p q n) (view_by me you p (tick_engine p e now) (tick_engine q f now)
    ((sent ++ sent_by me (tick_out p e now)) ++ sent_by you (tick_out q f now)) n)
    (said me p.own n (sent_by me (tick_out p e now) ++ sent_by you (tick_out q f now)))
    (said you p.own n (sent_by me (tick_out p e now) ++ sent_by you (tick_out q f now))) m
own-ticks F gives me you p q e f sent n now m both linked back senders receivers fit stands =
    ticked-lower F gives p q n (view_by me you p e f sent n) _ _ _ m fit
    (ticks-own F gives me you p q e f sent n now both linked back senders receivers)
    (said-both me p.own n sent (sent_by me (tick_out p e now)) (sent_by you (tick_out q f now)))
    (said-both you p.own n sent (sent_by me (tick_out p e now)) (sent_by you (tick_out q f now)))
    stands

pub peer-ticks : (F : List ℕ → ℕ → View → Type 0) → Gives F
    → (me you : End) (p q : Party) (e f : Engine) (sent : List Sent) (n now m : ℕ) → AreTwo me you
    → Linked p q → Linked q p
    → AreAscending 0 f.senders → AreAscending 0 e.receivers
    → AreFit p.most (view_by you me q f e sent n).by_sender
    → Stands F (setting_by q p n) (view_by you me q f e sent n) [] [] m
    → TickLower F (setting_by q p n) (view_by you me q (tick_engine q f now) (tick_engine p e now)
    ((sent ++ sent_by me (tick_out p e now)) ++ sent_by you (tick_out q f now)) n)
    (said you q.own n (sent_by me (tick_out p e now) ++ sent_by you (tick_out q f now)))
    (said me q.own n (sent_by me (tick_out p e now) ++ sent_by you (tick_out q f now))) m
peer-ticks F gives me you p q e f sent n now m both linked back senders receivers fit stands =
    ticked-lower F gives q p n (view_by you me q f e sent n) _ _ _ m fit
    (ticks-peer F gives me you p q e f sent n now both linked back senders receivers)
    (said-both you q.own n sent (sent_by me (tick_out p e now)) (sent_by you (tick_out q f now)))
    (said-both me q.own n sent (sent_by me (tick_out p e now)) (sent_by you (tick_out q f now)))
    stands

-- ---- a timer that is due sends something

out-sender : (p : Party) (now : ℕ) (o : Option Sending) (s : Sending) (c : PieceValue)
    (timer : Timer) → o ≡ Some s → s.phase ≡ sender_open c timer → timer.times < (p.policy).limit
    → timer.deadline ≤ now
    → out_of (sender_ticks p now) o ≡ a_piece c ∷ []
out-sender p now o s c timer is waits left due = ap (out_of (sender_ticks p now)) is
    ∙ sending-fires p.policy s c timer now waits left due

out-receiver : (p : Party) (now : ℕ) (o : Option Receiving) (r : Receiving) (x : Pending)
    → o ≡ Some r → pending_of r.phase ≡ Some x → (x.timer).times < (p.policy).limit
    → (x.timer).deadline ≤ now
    → out_of (receiver_ticks p now) o ≡ a_report x.report ∷ []
out-receiver p now o r x is waits left due = ap (out_of (receiver_ticks p now)) is
    ∙ receiving-fires p.policy r x now waits left due

pub own-sender-says : (F : List ℕ → ℕ → View → Type 0) → Gives F
    → (me you : End) (p q : Party) (e f : Engine) (sent : List Sent) (n now : ℕ) → AreTwo me you
    → Linked p q → Linked q p
    → AreAscending 0 e.senders → AreAscending 0 f.receivers
    → Calm (p.policy).limit (q.policy).limit (view_by me you p e f sent n) [] []
    → (s : Sending) (c : PieceValue) (timer : Timer) → find n e.senders ≡ Some s
    → s.phase ≡ sender_open c timer → timer.times < (p.policy).limit → timer.deadline ≤ now
    → said me p.own n (sent_by me (tick_out p e now) ++ sent_by you (tick_out q f now))
    ≡ (a_piece c) ∷ []
unfolding ticks-own
own-sender-says F gives me you p q e f sent n now both linked back senders receivers calm s c
    timer is waits left due =
    let ticks = ticks-own F gives me you p q e f sent n now both linked back senders receivers in
    said-both me p.own n sent (sent_by me (tick_out p e now))
    (sent_by you (tick_out q f now)) ticks.out_s (ticks.ticked calm).by_sender
    ∙ out-sender p now (find n e.senders) s c timer is waits left due

pub own-receiver-says : (F : List ℕ → ℕ → View → Type 0) → Gives F
    → (me you : End) (p q : Party) (e f : Engine) (sent : List Sent) (n now : ℕ) → AreTwo me you
    → Linked p q → Linked q p
    → AreAscending 0 e.senders → AreAscending 0 f.receivers
    → Calm (p.policy).limit (q.policy).limit (view_by me you p e f sent n) [] []
    → (r : Receiving) (x : Pending) → find n f.receivers ≡ Some r → pending_of r.phase ≡ Some x
    → (x.timer).times < (q.policy).limit → (x.timer).deadline ≤ now
    → said you p.own n (sent_by me (tick_out p e now) ++ sent_by you (tick_out q f now))
    ≡ (a_report x.report) ∷ []
unfolding ticks-own
own-receiver-says F gives me you p q e f sent n now both linked back senders receivers calm r x
    is waits left due =
    let ticks = ticks-own F gives me you p q e f sent n now both linked back senders receivers in
    said-both you p.own n sent (sent_by me (tick_out p e now))
    (sent_by you (tick_out q f now)) ticks.out_r (ticks.ticked calm).by_receiver
    ∙ out-receiver q now (find n f.receivers) r x is waits left due

pub peer-sender-says : (F : List ℕ → ℕ → View → Type 0) → Gives F
    → (me you : End) (p q : Party) (e f : Engine) (sent : List Sent) (n now : ℕ) → AreTwo me you
    → Linked p q → Linked q p
    → AreAscending 0 f.senders → AreAscending 0 e.receivers
    → Calm (q.policy).limit (p.policy).limit (view_by you me q f e sent n) [] []
    → (s : Sending) (c : PieceValue) (timer : Timer) → find n f.senders ≡ Some s
    → s.phase ≡ sender_open c timer → timer.times < (q.policy).limit → timer.deadline ≤ now
    → said you q.own n (sent_by me (tick_out p e now) ++ sent_by you (tick_out q f now))
    ≡ (a_piece c) ∷ []
unfolding ticks-peer
peer-sender-says F gives me you p q e f sent n now both linked back senders receivers calm s c
    timer is waits left due =
    let ticks = ticks-peer F gives me you p q e f sent n now both linked back senders receivers in
    said-both you q.own n sent
    (sent_by me (tick_out p e now)) (sent_by you (tick_out q f now)) ticks.out_s
    (ticks.ticked calm).by_sender ∙ out-sender q now (find n f.senders) s c timer is waits
    left due

pub peer-receiver-says : (F : List ℕ → ℕ → View → Type 0) → Gives F
    → (me you : End) (p q : Party) (e f : Engine) (sent : List Sent) (n now : ℕ) → AreTwo me you
    → Linked p q → Linked q p
    → AreAscending 0 f.senders → AreAscending 0 e.receivers
    → Calm (q.policy).limit (p.policy).limit (view_by you me q f e sent n) [] []
    → (r : Receiving) (x : Pending) → find n e.receivers ≡ Some r → pending_of r.phase ≡ Some x
    → (x.timer).times < (p.policy).limit → (x.timer).deadline ≤ now
    → said me q.own n (sent_by me (tick_out p e now) ++ sent_by you (tick_out q f now))
    ≡ (a_report x.report) ∷ []
unfolding ticks-peer
peer-receiver-says F gives me you p q e f sent n now both linked back senders receivers calm r x
    is waits left due =
    let ticks = ticks-peer F gives me you p q e f sent n now both linked back senders receivers in
    said-both me q.own n sent (sent_by me (tick_out p e now))
    (sent_by you (tick_out q f now)) ticks.out_r (ticks.ticked calm).by_receiver
    ∙ out-receiver p now (find n e.receivers) r x is waits left due

-- ---- what becomes of open senders, and of red parts

both-advance : (F : List ℕ → ℕ → View → Type 0) (p q : Party) (n : ℕ) (v v' : View) (m : ℕ)
    → BothTick F p q v v' → Stands F (setting_by p q n) v [] [] m → Advances v v' ⊥ ⊥
both-advance F p q n v v' m ticks stands = go (is-begun F (setting_by p q n) v [] [] m stands)
  where
    go : Begun F (setting_by p q n) v [] [] m → Advances v v' ⊥ ⊥
    go (never_begun unused idle) = record {
      sender = λ is_open. inl (subst (λ (v : View). IsKeptSender v.sender)
          (sym (ticks.idle idle.unused)) is_open);
      receiver = λ handed. inl (subst (λ (v : View). IsHanded v.receiver) (ticks.idle idle.unused)
          handed);
    }
    go (was_begun used st) = ticked-advances v v' ticks.out_s ticks.out_r
        (ticks.ticked (st.drains).calm)

pub own-ticks-advance : (F : List ℕ → ℕ → View → Type 0) → Gives F
    → (me you : End) (p q : Party) (e f : Engine) (sent : List Sent) (n now m : ℕ) → AreTwo me you
    → Linked p q → Linked q p
    → AreAscending 0 e.senders → AreAscending 0 f.receivers
    → Stands F (setting_by p q n) (view_by me you p e f sent n) [] [] m
    → Advances (view_by me you p e f sent n) (view_by me you p (tick_engine p e now)
    (tick_engine q f now) ((sent ++ sent_by me (tick_out p e now)) ++ sent_by you
    (tick_out q f now)) n) ⊥ ⊥
own-ticks-advance F gives me you p q e f sent n now m both linked back senders receivers =
    both-advance F p q n (view_by me you p e f sent n) _ m
    (ticks-own F gives me you p q e f sent n now both linked back senders receivers)

pub peer-ticks-advance : (F : List ℕ → ℕ → View → Type 0) → Gives F
    → (me you : End) (p q : Party) (e f : Engine) (sent : List Sent) (n now m : ℕ) → AreTwo me you
    → Linked p q → Linked q p
    → AreAscending 0 f.senders → AreAscending 0 e.receivers
    → Stands F (setting_by q p n) (view_by you me q f e sent n) [] [] m
    → Advances (view_by you me q f e sent n) (view_by you me q (tick_engine q f now)
    (tick_engine p e now) ((sent ++ sent_by me (tick_out p e now)) ++ sent_by you
    (tick_out q f now)) n) ⊥ ⊥
peer-ticks-advance F gives me you p q e f sent n now m both linked back senders receivers =
    both-advance F q p n (view_by you me q f e sent n) _ m
    (ticks-peer F gives me you p q e f sent n now both linked back senders receivers)
