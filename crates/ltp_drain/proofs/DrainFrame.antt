-- A delivery in a drain touches one session, and costs it one.

use Rattle.std.proofs.Common.{◌≡◌, ◌≢◌, ℕ, ◌+◌, ◌<◌, ◌≤◌, Bool, true, false, ◌==◌, ◌&&◌, List, []}
use Rattle.std.proofs.Common.{◌∷◌, ◌++◌, length, Option, None, Some, is_some, ◌⊎◌, inl, inr, refl}
use Rattle.std.proofs.Common.{sym, ◌∙◌, ap, arith, subst, nat_le}
use Rattle.std.proofs.lemmas.Bool.{eqb-true, eqb-false, ne_eqb, eq-eqb}
use Rattle.std.proofs.lemmas.Bool.Decides.{nat_tests}
use Rattle.std.specs.Option.{option_map}
use Rattle.ltp_segment.specs.Values.{ContentValue, SegmentValue}
use Rattle.ltp_segment.specs.declared.session.Note.TheVariants as notes
use Rattle.ltp_session.specs.Engine.{closed_runs, evicted_by, list_of, notes_of, evicted_of}
use Rattle.ltp_session.specs.Engine.{without_evicted, Engine, Party, Reply, arrives, is_used}
use Rattle.ltp_session.specs.Engine.{admission_of, receiver_replies, sender_replies, with_receiver}
use Rattle.ltp_session.specs.Engine.{with_sender}
use Rattle.ltp_session.specs.Receiver.{Admission, Receiving, receiver_answers}
use Rattle.ltp_session.specs.Sender.{Sending, sender_answers}
use Rattle.ltp_session.specs.Step.{NoteValue, note_sent, Change, StepValue, ends, keeps, stays}
use Rattle.ltp_session.specs.Table.{find}
use Rattle.ltp_session.specs.Views.{note_of, headed_all}
use Rattle.ltp_session.specs.World.{End, Sent, sent_by}
use Rattle.ltp_laws.specs.Runs.{KeepsUnder, no_facts}
use Rattle.ltp_laws.specs.View.{IsIn, session_of, View, is_of, receiver_moves, said, same_end}
use Rattle.ltp_laws.specs.View.{sender_moves, view_by}
use Rattle.ltp_laws.proofs.FrameLemmas.{AreTwo, Left, alone, closed_for_room, opening, owns-stay}
use Rattle.ltp_laws.proofs.FrameLemmas.{find-with_receiver_other}
use Rattle.ltp_laws.proofs.FrameLemmas.{peers-stay, receiver-here, receiver-others}
use Rattle.ltp_laws.proofs.FrameLemmas.{roomy-received, sender-here, sender-others}
use Rattle.ltp_laws.proofs.ListLemmas.{by_arms}
use Rattle.ltp_laws.proofs.RunLemmas.{Linked}
use Rattle.ltp_drain.specs.Calm.{AreFit, Falls, Given, IsComing, Advances, Setting}
use Rattle.ltp_drain.specs.Draining.{Oldest, oldest}
use Rattle.ltp_drain.specs.Hopeful.{IsHanded, IsKeptSender}
use Rattle.ltp_drain.specs.Standing.{Idle, Standing, Stands, StandsBy, setting_by}
use Rattle.ltp_drain.proofs.DrainLists.{new-none, new-said, oldest-from, said-oldest}
use Rattle.ltp_drain.proofs.DrainLists.{said-oldest_other, said-skip, said-take}
use Rattle.ltp_drain.proofs.HandedLemmas.{hands-up-now}
use Rattle.ltp_drain.proofs.ReceiverDrains.{receiver-falls, receiver-opens}
use Rattle.ltp_drain.proofs.SenderDrains.{EndsWell, sender-falls, sender-advances}
use Rattle.ltp_drain.proofs.StrangerRows.{unheard-by_receiver, unheard-by_sender}

-- ---- a session that stands

pub stands-so : (F : List ℕ → ℕ → View → Type 0) (set : ℕ → Setting) (v v' : View)
    (new_s new_r new_s' new_r' : List ContentValue) (m : ℕ)
    → v' ≡ v → new_s' ≡ new_s → new_r' ≡ new_r → Stands F set v new_s new_r m
    → Stands F set v' new_s' new_r' m
stands-so F set v v' new_s new_r new_s' new_r' m same same_s same_r stands =
    subst (λ w. Stands F set w new_s' new_r' m) (sym same)
    (subst (λ s. Stands F set v s new_r' m) (sym same_s)
    (subst (λ r. Stands F set v new_s r m) (sym same_r) stands))

pub stands-used : (F : List ℕ → ℕ → View → Type 0) (set : ℕ → Setting) (v : View)
    (new_s new_r : List ContentValue) (m : ℕ) → v.used ≡ true → Standing F set v new_s new_r m
    → Stands F set v new_s new_r m
stands-used F set v new_s new_r m used standing = subst (λ b. StandsBy F set b v new_s new_r m)
    (sym used) standing

-- with something new it was begun
pub data Begun (F : List ℕ → ℕ → View → Type 0) (set : ℕ → Setting) (v : View)
    (new_s new_r : List ContentValue) (m : ℕ) : Type 0 where
  was_begun : v.used ≡ true → Standing F set v new_s new_r m → Begun F set v new_s new_r m
  never_begun : v.used ≡ false → Idle v new_s new_r → Begun F set v new_s new_r m

pub is-begun : (F : List ℕ → ℕ → View → Type 0) (set : ℕ → Setting) (v : View)
    (new_s new_r : List ContentValue) (m : ℕ) → Stands F set v new_s new_r m
    → Begun F set v new_s new_r m
is-begun F set v new_s new_r m stands = by_used v.used refl
  where
    by_used : (b : Bool) → v.used ≡ b → Begun F set v new_s new_r m
    by_used true is = was_begun is (subst (λ b. StandsBy F set b v new_s new_r m) is stands)
    by_used false is = never_begun is (subst (λ b. StandsBy F set b v new_s new_r m) is stands)

pub record Lower (F : List ℕ → ℕ → View → Type 0) (set : ℕ → Setting) (v : View)
    (new_s new_r : List ContentValue) (m : ℕ) : Type 0 where
  pub left : ℕ
  pub less : left < m
  pub used : v.used ≡ true
  pub stands : Stands F set v new_s new_r left

-- facts that runs keep, with all that is given
pub record Gives (F : List ℕ → ℕ → View → Type 0) : Type 0 where
  pub keeps_on : KeepsUnder no_facts F
  pub gives : (block : List ℕ) (red most : ℕ) (v : View) → AreFit most v.by_sender → F block red v
      → Given block red most v

falls-lower : (F : List ℕ → ℕ → View → Type 0) (set : ℕ → Setting) (block : List ℕ) (red : ℕ)
    (v : View) (new_s new_r : List ContentValue) (m : ℕ) → v.used ≡ true
    → F block red v → Falls (set red) v new_s new_r m → Lower F set v new_s new_r m
falls-lower F set block red v new_s new_r m used facts falls = record {
  left = falls.left;
  less = falls.less;
  used = used;
  stands = stands-used F set v new_s new_r falls.left used
      (record { block = block; red = red; facts = facts; drains = falls.drains });
}

lower-so : (F : List ℕ → ℕ → View → Type 0) (set : ℕ → Setting) (v v' : View)
    (new_s new_r new_s' new_r' : List ContentValue) (m : ℕ)
    → v' ≡ v → new_s' ≡ new_s → new_r' ≡ new_r → Lower F set v new_s new_r m
    → Lower F set v' new_s' new_r' m
lower-so F set v v' new_s new_r new_s' new_r' m same same_s same_r low = record {
  left = low.left;
  less = low.less;
  used = ap (λ (v : View). v.used) same ∙ low.used;
  stands = stands-so F set v v' new_s new_r new_s' new_r' low.left same same_s same_r low.stands;
}

-- ---- one session hears its oldest

sender-lower : (F : List ℕ → ℕ → View → Type 0) → Gives F
    → (p q : Party) (n : ℕ) (v : View) (e : ContentValue) (now : ℕ)
    (new_s new_r : List ContentValue) (m : ℕ) (t : StepValue Sending)
    → 1 ≤ (p.policy).segment → AreFit q.most v.by_sender
    → sender_answers p.policy v.sender e now ≡ Some t
    → Stands F (setting_by p q n) v new_s (e ∷ new_r) m
    → Lower F (setting_by p q n) (sender_moves v t) (new_s ++ t.out) new_r m
sender-lower F gives p q n v e now new_s new_r m t cuts fit hears stands =
    go (is-begun F (setting_by p q n) v new_s (e ∷ new_r) m stands)
  where
    go : Begun F (setting_by p q n) v new_s (e ∷ new_r) m
        → Lower F (setting_by p q n) (sender_moves v t) (new_s ++ t.out) new_r m
    go (never_begun unused idle) = absurd (let none : e ∷ new_r ≡ [] = idle.none_r in cc)
    go (was_begun used st) = falls-lower F (setting_by p q n) st.block st.red (sender_moves v t)
        (new_s ++ t.out) new_r m used
        ((gives.keeps_on).sender st.block st.red p.policy v e now t
        (((st.drains).calm).heard_r e (inl refl)) hears tt tt st.facts)
        (sender-falls (setting_by p q n st.red) st.block p.policy q.most v e now new_s new_r m t
        (gives.gives st.block st.red q.most v fit st.facts) refl cuts st.drains hears)

sender-unheard : (F : List ℕ → ℕ → View → Type 0) (p q : Party) (n : ℕ) (v : View)
    (e : ContentValue) (now : ℕ) (new_s new_r : List ContentValue) (m : ℕ)
    → sender_answers p.policy v.sender e now ≡ None
    → Stands F (setting_by p q n) v new_s (e ∷ new_r) m
    → Lower F (setting_by p q n) v new_s new_r m
sender-unheard F p q n v e now new_s new_r m hears stands =
    go (is-begun F (setting_by p q n) v new_s (e ∷ new_r) m stands)
  where
    go : Begun F (setting_by p q n) v new_s (e ∷ new_r) m
        → Lower F (setting_by p q n) v new_s new_r m
    go (never_begun unused idle) = absurd (let none : e ∷ new_r ≡ [] = idle.none_r in cc)
    go (was_begun used st) = falls-lower F (setting_by p q n) st.block st.red v new_s new_r m used
        st.facts (unheard-by_sender (setting_by p q n st.red) p.policy v e now new_s new_r m hears
        st.drains)

receiver-lower : (F : List ℕ → ℕ → View → Type 0) → Gives F
    → (p q : Party) (place : Admission) (v : View) (e : ContentValue) (now : ℕ)
    (new_s new_r : List ContentValue) (m : ℕ) (t : StepValue Receiving)
    → place.closed ≡ v.closed → (IsComing v → place.full ≡ false) → AreFit place.most v.by_sender
    → receiver_answers q.policy place v.receiver e now ≡ Some t
    → Stands F (setting_by p q place.session) v (e ∷ new_s) new_r m
    → Lower F (setting_by p q place.session) (receiver_moves v t) new_s (new_r ++ t.out) m
receiver-lower F gives p q place v e now new_s new_r m t closed roomy fit hears stands =
    go (is-begun F (setting_by p q place.session) v (e ∷ new_s) new_r m stands)
  where
    go : Begun F (setting_by p q place.session) v (e ∷ new_s) new_r m
        → Lower F (setting_by p q place.session) (receiver_moves v t) new_s (new_r ++ t.out) m
    go (never_begun unused idle) = absurd (let none : e ∷ new_s ≡ [] = idle.none_s in cc)
    go (was_begun used st) = falls-lower F (setting_by p q place.session) st.block st.red
        (receiver_moves v t) new_s (new_r ++ t.out) m used
        ((gives.keeps_on).receiver st.block st.red q.policy place v e now t closed
        (((st.drains).calm).heard_s e (inl refl)) hears tt tt st.facts)
        (receiver-falls (setting_by p q place.session st.red) st.block q.policy place v e now
        new_s new_r m t (gives.gives st.block st.red place.most v fit st.facts) refl closed
        roomy st.drains hears)

receiver-unheard : (F : List ℕ → ℕ → View → Type 0) (p q : Party) (place : Admission) (v : View)
    (e : ContentValue) (now : ℕ) (new_s new_r : List ContentValue) (m : ℕ)
    → receiver_answers q.policy place v.receiver e now ≡ None
    → Stands F (setting_by p q place.session) v (e ∷ new_s) new_r m
    → Lower F (setting_by p q place.session) v new_s new_r m
receiver-unheard F p q place v e now new_s new_r m hears stands =
    go (is-begun F (setting_by p q place.session) v (e ∷ new_s) new_r m stands)
  where
    go : Begun F (setting_by p q place.session) v (e ∷ new_s) new_r m
        → Lower F (setting_by p q place.session) v new_s new_r m
    go (never_begun unused idle) = absurd (let none : e ∷ new_s ≡ [] = idle.none_s in cc)
    go (was_begun used st) = falls-lower F (setting_by p q place.session) st.block st.red v new_s
        new_r m used st.facts (unheard-by_receiver (setting_by p q place.session st.red) q.policy
        place v e now new_s new_r m hears st.drains)

-- ---- what one delivery to an end does to all sessions: one is lower, the others are as before

-- engine e of p at `me` gets what `you` sent; it is e' after it, and more was sent and is new
pub data Touches (F : List ℕ → ℕ → View → Type 0) (me you : End) (p q : Party) (e f : Engine)
    (rank_p rank_q : ℕ → ℕ) (e' : Engine) (sent' new' : List Sent) (origin session : ℕ)
    : Type 0 where
  own_session : (n : ℕ) → origin ≡ p.own → session ≡ n
      → Lower F (setting_by p q n) (view_by me you p e' f sent' n)
      (said me p.own n new') (said you p.own n new') (rank_p n)
      → ((m : ℕ) → n ≢ m → Stands F (setting_by p q m) (view_by me you p e' f sent' m)
      (said me p.own m new') (said you p.own m new') (rank_p m))
      → ((m : ℕ) → Stands F (setting_by q p m) (view_by you me q f e' sent' m)
      (said you q.own m new') (said me q.own m new') (rank_q m))
      → Touches F me you p q e f rank_p rank_q e' sent' new' origin session
  peer_session : (n : ℕ) → origin ≡ q.own → session ≡ n
      → Lower F (setting_by q p n) (view_by you me q f e' sent' n)
      (said you q.own n new') (said me q.own n new') (rank_q n)
      → ((m : ℕ) → n ≢ m → Stands F (setting_by q p m) (view_by you me q f e' sent' m)
      (said you q.own m new') (said me q.own m new') (rank_q m))
      → ((m : ℕ) → Stands F (setting_by p q m) (view_by me you p e' f sent' m)
      (said me p.own m new') (said you p.own m new') (rank_p m))
      → Touches F me you p q e f rank_p rank_q e' sent' new' origin session

-- the sessions before
pub record AllStand (F : List ℕ → ℕ → View → Type 0) (me you : End) (p q : Party) (e f : Engine)
    (sent new : List Sent) (rank_p rank_q : ℕ → ℕ) : Type 0 where
  pub own : (n : ℕ) → Stands F (setting_by p q n) (view_by me you p e f sent n)
      (said me p.own n new) (said you p.own n new) (rank_p n)
  pub peer : (n : ℕ) → Stands F (setting_by q p n) (view_by you me q f e sent n)
      (said you q.own n new) (said me q.own n new) (rank_q n)

pub is-of : (who : End) (o n : ℕ) (d : Sent) → same_end d.from who ≡ true
    → (d.segment).originator ≡ o → (d.segment).session ≡ n → is_of who o n d ≡ true
is-of who o n d from origin number = rw (
  from,
  eq-eqb (d.segment).originator o origin,
  eq-eqb (d.segment).session n number,
) refl

not-of_number : (who : End) (o n : ℕ) (d : Sent) → (d.segment).session ≢ n
    → is_of who o n d ≡ false
not-of_number who o n d apart = rw (ne_eqb (d.segment).session n apart)
    (go (same_end d.from who) ((d.segment).originator == o))
  where
    go : (a b : Bool) → (a && b && false) ≡ false
    go true true = refl
    go true false = refl
    go false b = refl

not-of_party : (who : End) (o n : ℕ) (d : Sent) → (d.segment).originator ≢ o
    → is_of who o n d ≡ false
not-of_party who o n d apart = rw (ne_eqb (d.segment).originator o apart)
    (go (same_end d.from who))
  where
    go : (a : Bool) → (a && false && ((d.segment).session == n)) ≡ false
    go true = refl
    go false = refl

-- what is new of a session once the oldest of `you` is gone
pub record Shorter (me you : End) (new : List Sent) (o : Oldest) (origin n : ℕ) : Type 0 where
  pub mine : said me origin n new ≡ said me origin n o.others
  pub here : (o.first.segment).originator ≡ origin → (o.first.segment).session ≡ n
      → said you origin n new ≡ (o.first.segment).content ∷ said you origin n o.others
  pub away : ((o.first.segment).originator ≢ origin) ⊎ ((o.first.segment).session ≢ n)
      → said you origin n new ≡ said you origin n o.others

pub shorter : (me you : End) (new : List Sent) (o : Oldest) (origin n : ℕ) → AreTwo me you
    → oldest you new ≡ Some o → Shorter me you new o origin n
shorter me you new o origin n both is = record {
  mine = said-oldest_other you me origin n new o both.you_me is;
  here = λ party number. said-oldest you origin n new o is
      ∙ said-take you origin n o.first o.others
      (is-of you origin n o.first (oldest-from you new o is) party number);
  away = away;
}
  where
    away : ((o.first.segment).originator ≢ origin) ⊎ ((o.first.segment).session ≢ n)
        → said you origin n new ≡ said you origin n o.others
    away (inl party) = said-oldest you origin n new o is
        ∙ said-skip you origin n o.first o.others (not-of_party you origin n o.first party)
    away (inr number) = said-oldest you origin n new o is
        ∙ said-skip you origin n o.first o.others (not-of_number you origin n o.first number)

-- the sender's session hears
own-touches : (F : List ℕ → ℕ → View → Type 0) → Gives F
    → (me you : End) (p q : Party) (e f : Engine) (sent new : List Sent) (rank_p rank_q : ℕ
    → ℕ) (o : Oldest) (now : ℕ) (t : StepValue Sending)
    → AreTwo me you → Linked p q → AllStand F me you p q e f sent new rank_p rank_q
    → oldest you new ≡ Some o → (o.first.segment).originator ≡ p.own
    → AreFit q.most (view_by me you p e f sent (o.first.segment).session).by_sender
    → sender_answers p.policy (find (o.first.segment).session e.senders) (o.first.segment).content
    now ≡ Some t
    → Touches F me you p q e f rank_p rank_q (with_sender e (o.first.segment).session t.next)
    (sent ++ sent_by me (headed_all (session_of p.own (o.first.segment).session) t.out))
    (o.others ++ sent_by me (headed_all (session_of p.own (o.first.segment).session) t.out))
    (o.first.segment).originator (o.first.segment).session
own-touches F gives me you p q e f sent new rank_p rank_q o now t both linked all is origin fit
    hears =
    own_session n origin refl
    (lower-so F (setting_by p q n) (sender_moves v t) _ (said me p.own n o.others ++ t.out)
    (said you p.own n o.others) _ _ (rank_p n)
    here (new-said me p.own n sent o.others added t.out (ap (λ (v : View). v.by_sender) here))
    (new-none you p.own n sent o.others added (ap (λ (v : View). v.by_receiver) here))
    (sender-lower F gives p q n v (o.first.segment).content now (said me p.own n o.others)
    (said you p.own n o.others) (rank_p n) t linked.cuts fit hears
    (stands-so F (setting_by p q n) v v (said me p.own n new) (said you p.own n new) _ _
    (rank_p n) refl (sym (short n).mine) (sym ((short n).here origin refl)) (all.own n))))
    (λ m apart.
    let same = sender-others me you p e f sent n m t both apart in
    stands-so F (setting_by p q m) (view_by me you p e f sent m) _ (said me p.own m new)
    (said you p.own m new) _ _ (rank_p m) same
    (new-none me p.own m sent o.others added (ap (λ (v : View). v.by_sender) same)
    ∙ sym (short m).mine)
    (new-none you p.own m sent o.others added (ap (λ (v : View). v.by_receiver) same)
    ∙ sym ((short m).away (inr apart))) (all.own m))
    (λ m.
    let same = peers-stay me you q f e (with_sender e n t.next) sent p.own n m t.out both
    linked.apart refl refl in
    let shortened = shorter me you new o q.own m both is in
    stands-so F (setting_by q p m) (view_by you me q f e sent m) _ (said you q.own m new)
    (said me q.own m new) _ _ (rank_q m) same
    (new-none you q.own m sent o.others added (ap (λ (v : View). v.by_sender) same)
    ∙ sym (shortened.away (inl (λ h. linked.apart (sym origin ∙ h)))))
    (new-none me q.own m sent o.others added (ap (λ (v : View). v.by_receiver) same)
    ∙ sym shortened.mine) (all.peer m))
  where
    n : ℕ
    n = (o.first.segment).session

    v : View
    v = view_by me you p e f sent (o.first.segment).session

    added : List Sent
    added = sent_by me (headed_all (session_of p.own (o.first.segment).session) t.out)

    here : view_by me you p (with_sender e (o.first.segment).session t.next) f
        (sent ++ sent_by me (headed_all (session_of p.own (o.first.segment).session) t.out))
        (o.first.segment).session
        ≡ sender_moves (view_by me you p e f sent (o.first.segment).session) t
    here = sender-here me you p e f sent (o.first.segment).session t both

    short : (m : ℕ) → Shorter me you new o p.own m
    short m = shorter me you new o p.own m both is

-- the receiver's session hears
evicted-none : (p : Party) (e : Engine) → length e.receivers < p.sessions → evicted_of p e ≡ None
unfolding evicted_of
evicted-none p e room = let few : nat_le p.sessions (length e.receivers) ≡ false =
    grind (arith, nat_tests) in rw few refl

pub opening-same : (p : Party) (e : Engine) (kept : Option Receiving) (c : Change Receiving)
    → (kept ≡ None → (r : Receiving) → c ≡ keeps r → length e.receivers < p.sessions)
    → opening p e kept c ≡ e
opening-same p e None stays room = refl
opening-same p e None (keeps r) room =
    ap (without_evicted e) (evicted-none p e (room refl r refl))
opening-same p e None ends room = refl
opening-same p e (Some s) c room = refl

peer-touches : (F : List ℕ → ℕ → View → Type 0) → Gives F
    → (me you : End) (p q : Party) (e f : Engine) (sent new : List Sent) (rank_p rank_q : ℕ
    → ℕ) (o : Oldest) (now : ℕ) (t : StepValue Receiving)
    → AreTwo me you → Linked p q → AllStand F me you p q e f sent new rank_p rank_q
    → oldest you new ≡ Some o → (o.first.segment).originator ≡ q.own
    → (IsComing (view_by you me q f e sent (o.first.segment).session)
    → length e.receivers < p.sessions)
    → (IsComing (view_by you me q f e sent (o.first.segment).session)
    → (admission_of p e (o.first.segment).session).full ≡ false)
    → AreFit p.most (view_by you me q f e sent (o.first.segment).session).by_sender
    → receiver_answers p.policy (admission_of p e (o.first.segment).session)
    (find (o.first.segment).session e.receivers) (o.first.segment).content now ≡ Some t
    → Touches F me you p q e f rank_p rank_q (with_receiver
    (opening p e (find (o.first.segment).session e.receivers) t.next) (o.first.segment).session
    t.next)
    (sent ++ sent_by me (headed_all (session_of q.own (o.first.segment).session) t.out))
    (o.others ++ sent_by me (headed_all (session_of q.own (o.first.segment).session) t.out))
    (o.first.segment).originator (o.first.segment).session
peer-touches F gives me you p q e f sent new rank_p rank_q o now t both linked all is origin room
    roomy fit hears =
    peer_session n origin refl
    (lower-so F (setting_by q p n) (receiver_moves v t) _ (said you q.own n o.others)
    (said me q.own n o.others ++ t.out) _ _ (rank_q n)
    here (new-none you q.own n sent o.others added (ap (λ (v : View). v.by_sender) here))
    (new-said me q.own n sent o.others added t.out (ap (λ (v : View). v.by_receiver) here))
    (receiver-lower F gives q p (admission_of p e n) v (o.first.segment).content now
    (said you q.own n o.others) (said me q.own n o.others) (rank_q n) t refl roomy fit hears
    (stands-so F (setting_by q p n) v v (said you q.own n new) (said me q.own n new) _ _
    (rank_q n) refl (sym ((short n).here origin refl)) (sym (short n).mine) (all.peer n))))
    (λ m apart.
    let same = left-alone m apart (receiver-others me you q p f e sent n m t both apart) in
    stands-so F (setting_by q p m) (view_by you me q f e sent m) _ (said you q.own m new)
    (said me q.own m new) _ _ (rank_q m) same
    (new-none you q.own m sent o.others added (ap (λ (v : View). v.by_sender) same)
    ∙ sym ((short m).away (inr apart)))
    (new-none me q.own m sent o.others added (ap (λ (v : View). v.by_receiver) same)
    ∙ sym (short m).mine) (all.peer m))
    (λ m.
    let opened = roomy-received p e n t.next in
    let same = owns-stay me you p e (with_receiver (opening p e (find n e.receivers) t.next) n
    t.next) f sent q.own n m t.out both (λ h. linked.apart (sym h)) opened.senders opened.next
    in
    let shortened = shorter me you new o p.own m both is in
    stands-so F (setting_by p q m) (view_by me you p e f sent m) _ (said me p.own m new)
    (said you p.own m new) _ _ (rank_p m) same
    (new-none me p.own m sent o.others added (ap (λ (v : View). v.by_sender) same)
    ∙ sym shortened.mine)
    (new-none you p.own m sent o.others added (ap (λ (v : View). v.by_receiver) same)
    ∙ sym (shortened.away (inl (λ h. linked.apart (sym h ∙ origin))))) (all.own m))
  where
    n : ℕ
    n = (o.first.segment).session

    v : View
    v = view_by you me q f e sent (o.first.segment).session

    added : List Sent
    added = sent_by me (headed_all (session_of q.own (o.first.segment).session) t.out)

    here : view_by you me q f (with_receiver (opening p e
        (find (o.first.segment).session e.receivers) t.next) (o.first.segment).session t.next)
        (sent ++ sent_by me (headed_all (session_of q.own (o.first.segment).session) t.out))
        (o.first.segment).session
        ≡ receiver_moves (view_by you me q f e sent (o.first.segment).session) t
    here = receiver-here me you q p f e sent (o.first.segment).session t both

    short : (m : ℕ) → Shorter me you new o q.own m
    short m = shorter me you new o q.own m both is

    coming : (r' : Receiving) → find (o.first.segment).session e.receivers ≡ None
        → t.next ≡ keeps r' → IsComing (view_by you me q f e sent (o.first.segment).session)
    coming r' none next = go (is-begun F (setting_by q p n) (view_by you me q f e sent n)
        ((o.first.segment).content ∷ said you q.own n o.others) (said me q.own n o.others)
        (rank_q n)
        (stands-so F (setting_by q p n) v v (said you q.own n new) (said me q.own n new) _ _
        (rank_q n) refl (sym ((short n).here origin refl)) (sym (short n).mine) (all.peer n)))
      where
        go : Begun F (setting_by q p (o.first.segment).session)
            (view_by you me q f e sent (o.first.segment).session)
            ((o.first.segment).content ∷ said you q.own (o.first.segment).session o.others)
            (said me q.own (o.first.segment).session o.others) (rank_q (o.first.segment).session)
            → IsComing (view_by you me q f e sent (o.first.segment).session)
        go (never_begun unused idle) = absurd
            (let empty : (o.first.segment).content ∷ said you q.own (o.first.segment).session
            o.others ≡ [] = idle.none_s in cc)
        go (was_begun used st) = receiver-opens (setting_by q p n st.red) st.block p.policy
            (admission_of p e n) (view_by you me q f e sent n) (o.first.segment).content now
            (said you q.own n o.others) (said me q.own n o.others) (rank_q n) t r' refl st.drains
            hears none next

    left-alone : (m : ℕ) → n ≢ m → Left (view_by you me q f e sent m)
        (view_by you me q f (with_receiver (opening p e (find n e.receivers) t.next) n t.next)
        (sent ++ added) m)
        → view_by you me q f (with_receiver (opening p e (find n e.receivers) t.next) n t.next)
        (sent ++ added) m ≡ view_by you me q f e sent m
    left-alone m apart (alone same) = same
    left-alone m apart (closed_for_room r kept same) = absurd (
        let gone : find m (with_receiver (opening p e (find n e.receivers) t.next) n
        t.next).receivers ≡ None = ap (λ (v : View). v.receiver) same in
        let there : find m (with_receiver (opening p e (find n e.receivers) t.next) n
        t.next).receivers ≡ find m e.receivers =
        find-with_receiver_other (opening p e (find n e.receivers) t.next) m n t.next
        (λ h. apart (sym h)) ∙ ap (λ (g : Engine). find m g.receivers)
        (opening-same p e (find n e.receivers) t.next
        (λ none r' next. room (coming r' none next))) in
        cc)

-- ---- the delivery

-- nothing comes of it but that it isn't new any more
own-nothing : (F : List ℕ → ℕ → View → Type 0) (me you : End) (p q : Party) (e f : Engine)
    (sent new : List Sent) (rank_p rank_q : ℕ → ℕ) (o : Oldest) (now : ℕ)
    → AreTwo me you → Linked p q → AllStand F me you p q e f sent new rank_p rank_q
    → oldest you new ≡ Some o → (o.first.segment).originator ≡ p.own
    → sender_answers p.policy (find (o.first.segment).session e.senders) (o.first.segment).content
    now ≡ None
    → Touches F me you p q e f rank_p rank_q e sent o.others (o.first.segment).originator
    (o.first.segment).session
own-nothing F me you p q e f sent new rank_p rank_q o now both linked all is origin hears =
    own_session n origin refl
    (sender-unheard F p q n (view_by me you p e f sent n) (o.first.segment).content now
    (said me p.own n o.others) (said you p.own n o.others) (rank_p n) hears
    (stands-so F (setting_by p q n) v v (said me p.own n new) (said you p.own n new) _ _
    (rank_p n) refl (sym (short n).mine) (sym ((short n).here origin refl)) (all.own n)))
    (λ m apart. stands-so F (setting_by p q m) (view_by me you p e f sent m) _
    (said me p.own m new) (said you p.own m new) _ _ (rank_p m) refl (sym (short m).mine)
    (sym ((short m).away (inr apart))) (all.own m))
    (λ m.
    let shortened = shorter me you new o q.own m both is in
    stands-so F (setting_by q p m) (view_by you me q f e sent m) _ (said you q.own m new)
    (said me q.own m new) _ _ (rank_q m) refl
    (sym (shortened.away (inl (λ h. linked.apart (sym origin ∙ h))))) (sym shortened.mine)
    (all.peer m))
  where
    n : ℕ
    n = (o.first.segment).session

    v : View
    v = view_by me you p e f sent (o.first.segment).session

    short : (m : ℕ) → Shorter me you new o p.own m
    short m = shorter me you new o p.own m both is

peer-nothing : (F : List ℕ → ℕ → View → Type 0) (me you : End) (p q : Party) (e f : Engine)
    (sent new : List Sent) (rank_p rank_q : ℕ → ℕ) (o : Oldest) (now : ℕ)
    → AreTwo me you → Linked p q → AllStand F me you p q e f sent new rank_p rank_q
    → oldest you new ≡ Some o → (o.first.segment).originator ≡ q.own
    → receiver_answers p.policy (admission_of p e (o.first.segment).session)
    (find (o.first.segment).session e.receivers) (o.first.segment).content now ≡ None
    → Touches F me you p q e f rank_p rank_q e sent o.others (o.first.segment).originator
    (o.first.segment).session
peer-nothing F me you p q e f sent new rank_p rank_q o now both linked all is origin hears =
    peer_session n origin refl
    (receiver-unheard F q p (admission_of p e n) (view_by you me q f e sent n)
    (o.first.segment).content now (said you q.own n o.others) (said me q.own n o.others)
    (rank_q n) hears
    (stands-so F (setting_by q p n) v v (said you q.own n new) (said me q.own n new) _ _
    (rank_q n) refl (sym ((short n).here origin refl)) (sym (short n).mine) (all.peer n)))
    (λ m apart. stands-so F (setting_by q p m) (view_by you me q f e sent m) _
    (said you q.own m new) (said me q.own m new) _ _ (rank_q m) refl
    (sym ((short m).away (inr apart))) (sym (short m).mine) (all.peer m))
    (λ m.
    let shortened = shorter me you new o p.own m both is in
    stands-so F (setting_by p q m) (view_by me you p e f sent m) _ (said me p.own m new)
    (said you p.own m new) _ _ (rank_p m) refl
    (sym shortened.mine) (sym (shortened.away (inl (λ h. linked.apart (sym h ∙ origin)))))
    (all.own m))
  where
    n : ℕ
    n = (o.first.segment).session

    v : View
    v = view_by you me q f e sent (o.first.segment).session

    short : (m : ℕ) → Shorter me you new o q.own m
    short m = shorter me you new o q.own m both is

-- what an end's reply leaves
abbrev pub ReplyTouches : (List ℕ → ℕ → View → Type 0) → End → End → Party → Party → Engine
    → Engine → List Sent → (ℕ → ℕ) → (ℕ → ℕ) → Oldest → Option Reply → Type 0
ReplyTouches F me you p q e f sent rank_p rank_q o None =
    Touches F me you p q e f rank_p rank_q e sent o.others (o.first.segment).originator
    (o.first.segment).session
ReplyTouches F me you p q e f sent rank_p rank_q o (Some r) =
    Touches F me you p q e f rank_p rank_q r.engine
    (sent ++ sent_by me (headed_all (session_of (o.first.segment).originator
    (o.first.segment).session) r.out))
    (o.others ++ sent_by me (headed_all (session_of (o.first.segment).originator
    (o.first.segment).session) r.out))
    (o.first.segment).originator (o.first.segment).session

pub arrival-touches : (F : List ℕ → ℕ → View → Type 0) → Gives F
    → (me you : End) (p q : Party) (e f : Engine) (sent new : List Sent) (rank_p rank_q : ℕ
    → ℕ) (o : Oldest) (now : ℕ)
    → AreTwo me you → Linked p q → AllStand F me you p q e f sent new rank_p rank_q
    → oldest you new ≡ Some o
    → ((o.first.segment).originator ≡ p.own) ⊎ ((o.first.segment).originator ≡ q.own)
    → ((n : ℕ) → IsComing (view_by you me q f e sent n) → (length e.receivers < p.sessions)
    × (closed_runs e.closed + length e.receivers < p.history))
    → ((n : ℕ) → AreFit q.most (view_by me you p e f sent n).by_sender)
    → ((n : ℕ) → AreFit p.most (view_by you me q f e sent n).by_sender)
    → ReplyTouches F me you p q e f sent rank_p rank_q o (arrives p e o.first.segment now)
unfolding arrives
arrival-touches F gives me you p q e f sent new rank_p rank_q o now both linked all is known room
    fit_own fit_peer =
    by_arms To (s.originator == p.own) _ _
    (λ own. by_arms To (is_used p e s.session) _ _
    (λ used. own_hears (eqb-true s.originator p.own own)
    (sender_answers p.policy (find s.session e.senders) s.content now) refl)
    (λ unused. absurd (not_new (eqb-true s.originator p.own own) unused)))
    (λ not_own. by_arms To (s.originator == p.peer) _ _
    (λ peer. peer_hears (eqb-true s.originator p.peer peer ∙ linked.knows)
    (receiver_answers p.policy (admission_of p e s.session) (find s.session e.receivers) s.content
    now) refl)
    (λ not_peer. absurd (by_known known (eqb-false s.originator p.own not_own)
    (eqb-false s.originator p.peer not_peer))))
  where
    s : SegmentValue
    s = o.first.segment

    To : Option Reply → Type 0
    To = ReplyTouches F me you p q e f sent rank_p rank_q o

    by_known : (s.originator ≡ p.own) ⊎ (s.originator ≡ q.own) → s.originator ≢ p.own
        → s.originator ≢ p.peer → ⊥
    by_known (inl own) not_own not_peer = not_own own
    by_known (inr peer) not_own not_peer = not_peer (peer ∙ sym linked.knows)

    not_new : s.originator ≡ p.own → is_used p e s.session ≡ false → ⊥
    not_new own unused = go (is-begun F (setting_by p q s.session)
        (view_by me you p e f sent s.session) _ _ (rank_p s.session) (all.own s.session))
      where
        go : Begun F (setting_by p q s.session) (view_by me you p e f sent s.session)
            (said me p.own s.session new) (said you p.own s.session new) (rank_p s.session) → ⊥
        go (was_begun used standing) = let is_used_now : is_used p e s.session ≡ true = used in cc
        go (never_begun never idle) = let some =
            (shorter me you new o p.own s.session both is).here own refl in let none =
            idle.none_r in cc

    own_hears : s.originator ≡ p.own → (x : Option (StepValue Sending))
        → sender_answers p.policy (find s.session e.senders) s.content now ≡ x
        → To (sender_replies e s.session x)
    own_hears own None hears = own-nothing F me you p q e f sent new rank_p rank_q o now both
        linked all is own hears
    own_hears own (Some t) hears =
        subst (λ (w : ℕ). Touches F me you p q e f rank_p rank_q (with_sender e s.session t.next)
        (sent ++ sent_by me (headed_all (session_of w s.session) t.out))
        (o.others ++ sent_by me (headed_all (session_of w s.session) t.out)) s.originator
        s.session)
        (sym own) (own-touches F gives me you p q e f sent new rank_p rank_q o now t both linked
        all is own
        (fit_own s.session) hears)

    roomy : IsComing (view_by you me q f e sent s.session) → (admission_of p e s.session).full ≡ false
    roomy coming = has_place (closed_runs e.closed + length e.receivers) (room s.session coming).1
      where
        has_place : (k : ℕ) → k < p.history → nat_le p.history k ≡ false
        has_place k low = grind (arith, nat_tests)

    peer_hears : s.originator ≡ q.own → (x : Option (StepValue Receiving))
        → receiver_answers p.policy (admission_of p e s.session) (find s.session e.receivers)
        s.content now ≡ x → To (receiver_replies p e s.session x)
    peer_hears peer None hears = peer-nothing F me you p q e f sent new rank_p rank_q o now both
        linked all is peer hears
    peer_hears peer (Some t) hears =
        subst (λ (w : ℕ). Touches F me you p q e f rank_p rank_q
        (with_receiver (opening p e (find s.session e.receivers) t.next) s.session t.next)
        (sent ++ sent_by me (headed_all (session_of w s.session) t.out))
        (o.others ++ sent_by me (headed_all (session_of w s.session) t.out)) s.originator
        s.session)
        (sym peer) (peer-touches F gives me you p q e f sent new rank_p rank_q o now t both linked
        all is
        peer (λ coming. (room s.session coming).0) roomy (fit_peer s.session) hears)

-- ---- what becomes of open senders, and of red parts

sender-advances-so : (F : List ℕ → ℕ → View → Type 0) → Gives F
    → (p q : Party) (n : ℕ) (v : View) (e : ContentValue) (now : ℕ)
    (new_s new_r : List ContentValue) (m : ℕ) (t : StepValue Sending)
    → 1 ≤ (p.policy).segment → AreFit q.most v.by_sender
    → sender_answers p.policy v.sender e now ≡ Some t
    → Stands F (setting_by p q n) v new_s (e ∷ new_r) m → IsKeptSender v.sender → EndsWell v t
sender-advances-so F gives p q n v e now new_s new_r m t cuts fit hears stands is_open =
    go (is-begun F (setting_by p q n) v new_s (e ∷ new_r) m stands)
  where
    go : Begun F (setting_by p q n) v new_s (e ∷ new_r) m → EndsWell v t
    go (never_begun unused idle) = absurd (let none : e ∷ new_r ≡ [] = idle.none_r in cc)
    go (was_begun used st) = sender-advances (setting_by p q n st.red) st.block p.policy q.most v
        e now new_s new_r m t (gives.gives st.block st.red q.most v fit st.facts) refl cuts
        st.drains hears is_open

-- the notes of a reply about a session, and whether it hands its red part up
pub record AdvancesOn (me you : End) (p q : Party) (e f : Engine) (sent : List Sent)
    (origin n : ℕ) (r : Reply) : Type 0 where
  pub own : (m : ℕ) → Advances (view_by me you p e f sent m)
      (view_by me you p r.engine f (sent ++ sent_by me (headed_all (session_of origin n) r.out))
      m)
      (IsIn (notes.Sent m) r.notes) ⊥
  pub peer : (m : ℕ) → Advances (view_by you me q f e sent m)
      (view_by you me q f r.engine (sent ++ sent_by me (headed_all (session_of origin n) r.out))
      m)
      ⊥ ((origin ≡ q.own) × (n ≡ m) × (is_some r.up ≡ true))

abbrev pub ReplyAdvances : End → End → Party → Party → Engine → Engine → List Sent → ℕ → ℕ
    → Option Reply → Type 0
ReplyAdvances me you p q e f sent origin n None = Unit {0}
ReplyAdvances me you p q e f sent origin n (Some r) = AdvancesOn me you p q e f sent origin n r

same-advances : (S U : Type 0) (v v' : View) → v' ≡ v → Advances v v' S U
same-advances S U v v' same = record {
  sender = λ is_open. inl (subst (λ (v : View). IsKeptSender v.sender) (sym same) is_open);
  receiver = λ handed. inl (subst (λ (v : View). IsHanded v.receiver) same handed);
}

own-advances : (F : List ℕ → ℕ → View → Type 0) → Gives F
    → (me you : End) (p q : Party) (e f : Engine) (sent new : List Sent) (rank_p rank_q : ℕ
    → ℕ) (o : Oldest) (now : ℕ) (t : StepValue Sending) (r : Reply)
    → AreTwo me you → Linked p q → AllStand F me you p q e f sent new rank_p rank_q
    → oldest you new ≡ Some o → (o.first.segment).originator ≡ p.own
    → AreFit q.most (view_by me you p e f sent (o.first.segment).session).by_sender
    → sender_answers p.policy (find (o.first.segment).session e.senders) (o.first.segment).content
    now ≡ Some t
    → sender_replies e (o.first.segment).session (Some t) ≡ Some r
    → AdvancesOn me you p q e f sent p.own (o.first.segment).session r
own-advances F gives me you p q e f sent new rank_p rank_q o now t r both linked all is origin fit
    hears is_r =
    subst (AdvancesOn me you p q e f sent p.own (o.first.segment).session) replied (record {
      own = λ m. by_test m (n == m) refl;
      peer = λ m. same-advances ⊥ _ _ _ (peers-stay me you q f e (with_sender e n t.next) sent
          p.own n m t.out both linked.apart refl refl);
    })
  where
    n : ℕ
    n = (o.first.segment).session

    reply : Reply
    reply = record {
      engine = with_sender e (o.first.segment).session t.next;
      out = t.out;
      up = None;
      green = None;
      notes = notes_of (o.first.segment).session t;
    }

    replied : record {
      engine = with_sender e (o.first.segment).session t.next;
      out = t.out;
      up = None;
      green = None;
      notes = notes_of (o.first.segment).session t;
    } ≡ r
    replied = cc (is_r)

    short : Shorter me you new o p.own n
    short = shorter me you new o p.own n both is

    To : ℕ → Type 0
    To m = Advances (view_by me you p e f sent m)
        (view_by me you p (with_sender e n t.next) f
        (sent ++ sent_by me (headed_all (session_of p.own n) t.out)) m)
        (IsIn (notes.Sent m) (notes_of n t)) ⊥

    noted : t.note ≡ Some note_sent → IsIn (notes.Sent n) (notes_of n t)
    noted note = subst (λ (x : Option NoteValue). IsIn (notes.Sent n)
        (list_of (option_map (note_of n) x))) (sym note) (inl refl)

    here : To n
    here = record {
      sender = λ is_open. by_end (sender-advances-so F gives p q n (view_by me you p e f sent n)
          (o.first.segment).content now (said me p.own n o.others) (said you p.own n o.others)
          (rank_p n) t linked.cuts fit hears
          (stands-so F (setting_by p q n) (view_by me you p e f sent n)
          (view_by me you p e f sent n) (said me p.own n new) (said you p.own n new) _ _
          (rank_p n) refl (sym short.mine) (sym (short.here origin refl)) (all.own n))
          is_open);
      receiver = λ handed. inl (subst (λ (v : View). IsHanded v.receiver)
          (sender-here me you p e f sent n t both) handed);
    }
      where
        by_end : EndsWell (view_by me you p e f sent n) t
            → IsKeptSender (view_by me you p (with_sender e n t.next) f
            (sent ++ sent_by me (headed_all (session_of p.own n) t.out)) n).sender
            ⊎ (IsIn (notes.Sent n) (notes_of n t)
            × (IsHanded (view_by me you p e f sent n).receiver ⊎ ⊥))
        by_end (inl is_open) = inl (subst (λ (v : View). IsKeptSender v.sender)
            (sym (sender-here me you p e f sent n t both)) is_open)
        by_end (inr done) = inr (noted done.1, inl done.0)

    by_test : (m : ℕ) (same : Bool) → (n == m) ≡ same → To m
    by_test m true same = subst To (eqb-true n m same) here
    by_test m false apart = same-advances _ ⊥ _ _
        (sender-others me you p e f sent n m t both (eqb-false n m apart))

peer-advances : (me you : End) (p q : Party) (e f : Engine) (sent : List Sent) (n : ℕ)
    (content : ContentValue) (now : ℕ) (t : StepValue Receiving) (r : Reply)
    → AreTwo me you → Linked p q
    → receiver_answers p.policy (admission_of p e n) (find n e.receivers) content now ≡ Some t
    → receiver_replies p e n (Some t) ≡ Some r
    → AdvancesOn me you p q e f sent q.own n r
peer-advances me you p q e f sent n content now t r both linked hears is_r = record {
  own = λ m.
      let opened = roomy-received p e n t.next in
      same-advances _ ⊥ _ _ (subst (λ (r : Reply). view_by me you p r.engine f
      (sent ++ sent_by me (headed_all (session_of q.own n) r.out)) m ≡ view_by me you p e f
      sent m) replied
      (owns-stay me you p e (with_receiver (opening p e (find n e.receivers) t.next) n t.next) f
      sent q.own n m t.out both (λ h. linked.apart (sym h)) opened.senders opened.next));
  peer = λ m. subst (λ (r : Reply). Advances (view_by you me q f e sent m)
      (view_by you me q f r.engine (sent ++ sent_by me (headed_all (session_of q.own n) r.out)) m)
      ⊥ ((q.own ≡ q.own) × (n ≡ m) × (is_some r.up ≡ true))) replied (by_test m (n == m) refl);
}
  where
    replied : record {
      engine = with_receiver (opening p e (find n e.receivers) t.next) n t.next;
      out = t.out;
      up = t.up;
      green = t.green;
      notes = list_of (option_map notes.Evicted (evicted_by p e (find n e.receivers) t.next)) ++
          notes_of n t;
    } ≡ r
    replied = cc (is_r)

    To : ℕ → Type 0
    To m = Advances (view_by you me q f e sent m)
        (view_by you me q f (with_receiver (opening p e (find n e.receivers) t.next) n t.next)
        (sent ++ sent_by me (headed_all (session_of q.own n) t.out)) m)
        ⊥ ((q.own ≡ q.own) × (n ≡ m) × (is_some t.up ≡ true))

    here : To n
    here = record {
      sender = λ is_open. inl (subst (λ (v : View). IsKeptSender v.sender)
          (sym (receiver-here me you q p f e sent n t both)) is_open);
      receiver = λ handed. by_up (hands-up-now p.policy (admission_of p e n) (find n e.receivers)
          content now t hears
          (subst (λ (v : View). IsHanded v.receiver) (receiver-here me you q p f e sent n t both)
          handed));
    }
      where
        by_up : IsHanded (find n e.receivers) ⊎ (is_some t.up ≡ true)
            → IsHanded (find n e.receivers) ⊎ ((q.own ≡ q.own) × (n ≡ n) × (is_some t.up ≡ true))
        by_up (inl before) = inl before
        by_up (inr now_up) = inr (refl, refl, now_up)

    left-advances : (U : Type 0) (v v' : View) → Left v v' → Advances v v' ⊥ U
    left-advances U v v' (alone same) = same-advances ⊥ U v v' same
    left-advances U v v' (closed_for_room r kept same) = record {
      sender = λ is_open. inl (subst (λ (v : View). IsKeptSender v.sender) (sym same) is_open);
      receiver = λ handed. absurd (subst (λ (v : View). IsHanded v.receiver) same handed);
    }

    by_test : (m : ℕ) (same : Bool) → (n == m) ≡ same → To m
    by_test m true same = subst To (eqb-true n m same) here
    by_test m false apart = left-advances _ _ _
        (receiver-others me you q p f e sent n m t both (eqb-false n m apart))

pub arrival-advances : (F : List ℕ → ℕ → View → Type 0) → Gives F
    → (me you : End) (p q : Party) (e f : Engine) (sent new : List Sent) (rank_p rank_q : ℕ
    → ℕ) (o : Oldest) (now : ℕ)
    → AreTwo me you → Linked p q → AllStand F me you p q e f sent new rank_p rank_q
    → oldest you new ≡ Some o
    → ((n : ℕ) → AreFit q.most (view_by me you p e f sent n).by_sender)
    → ReplyAdvances me you p q e f sent (o.first.segment).originator (o.first.segment).session
    (arrives p e o.first.segment now)
unfolding arrives
arrival-advances F gives me you p q e f sent new rank_p rank_q o now both linked all is fit_own =
    by_arms To (s.originator == p.own) _ _
    (λ own. by_arms To (is_used p e s.session) _ _
    (λ used. own_hears (eqb-true s.originator p.own own)
    (sender_answers p.policy (find s.session e.senders) s.content now) refl) (λ unused. tt))
    (λ not_own. by_arms To (s.originator == p.peer) _ _
    (λ peer. peer_hears (eqb-true s.originator p.peer peer ∙ linked.knows)
    (receiver_answers p.policy (admission_of p e s.session) (find s.session e.receivers) s.content
    now) refl) (λ not_peer. tt))
  where
    s : SegmentValue
    s = o.first.segment

    To : Option Reply → Type 0
    To = ReplyAdvances me you p q e f sent (o.first.segment).originator (o.first.segment).session

    by_own : s.originator ≡ p.own → (t : StepValue Sending)
        → sender_answers p.policy (find s.session e.senders) s.content now ≡ Some t
        → (x : Option Reply) → sender_replies e s.session (Some t) ≡ x → To x
    by_own own t hears None is_r = tt
    by_own own t hears (Some r) is_r = subst (λ (w : ℕ). AdvancesOn me you p q e f sent w
        s.session r) (sym own)
        (own-advances F gives me you p q e f sent new rank_p rank_q o now t r both linked all is
        own (fit_own s.session) hears is_r)

    own_hears : s.originator ≡ p.own → (x : Option (StepValue Sending))
        → sender_answers p.policy (find s.session e.senders) s.content now ≡ x
        → To (sender_replies e s.session x)
    own_hears own None hears = tt
    own_hears own (Some t) hears = by_own own t hears (sender_replies e s.session (Some t)) refl

    by_peer : s.originator ≡ q.own → (t : StepValue Receiving)
        → receiver_answers p.policy (admission_of p e s.session) (find s.session e.receivers)
        s.content now ≡ Some t
        → (x : Option Reply) → receiver_replies p e s.session (Some t) ≡ x → To x
    by_peer peer t hears None is_r = tt
    by_peer peer t hears (Some r) is_r = subst
        (λ (w : ℕ). AdvancesOn me you p q e f sent w s.session r) (sym peer)
        (peer-advances me you p q e f sent s.session s.content now t r both linked hears is_r)

    peer_hears : s.originator ≡ q.own → (x : Option (StepValue Receiving))
        → receiver_answers p.policy (admission_of p e s.session) (find s.session e.receivers)
        s.content now ≡ x → To (receiver_replies p e s.session x)
    peer_hears peer None hears = tt
    peer_hears peer (Some t) hears = by_peer peer t hears (receiver_replies p e s.session (Some t))
        refl
