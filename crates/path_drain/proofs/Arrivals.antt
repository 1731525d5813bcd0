-- What the oldest new segment of an end does to the engine that it comes to, in a drain.

use Rattle.std.proofs.Common.{◌≡◌, ℕ, ◌+◌, ◌<◌, Bool, true, false, ◌==◌, List, [], ◌∷◌, length}
use Rattle.std.proofs.Common.{take, Option, None, Some, ◌⊎◌, inl, inr, refl, sym, ◌∙◌, ap, arith}
use Rattle.std.proofs.Common.{subst, nat_le, if◌then◌else◌}
use Rattle.std.proofs.lemmas.Bool.{eqb-true}
use Rattle.std.proofs.lemmas.Bool.Decides.{nat_tests}
use Rattle.ltp_segment.specs.Kinds.{is_red}
use Rattle.ltp_segment.specs.Policy.{PolicyValue}
use Rattle.ltp_segment.specs.Values.{ContentValue, PieceValue, SegmentValue, a_piece}
use Rattle.ltp_session.specs.Engine.{Engine, Party, Reply, arrives, closed_runs, evicted_by}
use Rattle.ltp_session.specs.Engine.{evicted_of, is_closed, is_used, notes_of, admission_of}
use Rattle.ltp_session.specs.Engine.{receiver_replies, sender_replies, with_receiver}
use Rattle.ltp_session.specs.Receiver.{Admission, Receiving, receiver_answers}
use Rattle.ltp_session.specs.Sender.{Sending, sender_answers}
use Rattle.ltp_session.specs.Step.{Change, StepValue, after, ends, keeps, stays}
use Rattle.ltp_session.specs.Table.{find}
use Rattle.ltp_session.specs.World.{ArePeers, End, Sent, at_end, first_end, other, second_end}
use Rattle.ltp_laws.specs.Blocks.{BlockFacts, IsSenderOf}
use Rattle.ltp_laws.specs.Facts.{SessionFacts}
use Rattle.ltp_laws.specs.Kept.{IfKeeps, IfKept, KeepsOrEnds}
use Rattle.ltp_laws.specs.Steps.{HandsUp}
use Rattle.ltp_laws.specs.View.{View, said, view_by}
use Rattle.ltp_laws.proofs.FrameLemmas.{AreTwo}
use Rattle.ltp_laws.proofs.RedPartLemmas.{hears-ups}
use Rattle.ltp_laws.proofs.RunLemmas.{Linked}
use Rattle.ltp_laws.proofs.SenderLemmas.{sender-keeps}
use Rattle.ltp_laws.proofs.StepLemmas.{hears-form, met}
use Rattle.ltp_drain.specs.Calm.{Calm, Setting}
use Rattle.ltp_drain.specs.Draining.{Draining, Oldest, oldest}
use Rattle.ltp_drain.specs.Hopeful.{IsHanded, IsKeptSender}
use Rattle.ltp_drain.specs.Standing.{DrainHolds, IsRoomy, Stands, setting, setting_by}
use Rattle.ltp_drain.proofs.DrainFrame.{AllStand, Begun, Shorter, is-begun, never_begun, shorter}
use Rattle.ltp_drain.proofs.DrainFrame.{stands-so, was_begun}
use Rattle.ltp_drain.proofs.ReceiverDrains.{receiver-opens}
use Rattle.ltp_drain.proofs.RoomSteps.{Comes_to, OfComing, OfKept}
use Rattle.ltp_drain.proofs.RoomRuns.{unkept-stays, received-of, comes}
use Rattle.path_drain.specs.OnTheWay.{is_handed_up}
use Rattle.path_drain.proofs.WayLemmas.{OfBlock}
use Rattle.path_drain.proofs.FullLemmas.{FindsRoom, NotFull, receiver-not_full, sender-not_full}
use Rattle.path_drain.proofs.HandedLemmas.{handed-after, handed-front}

-- ---- what comes of a segment

-- a step of a receiver hands its block up: that of a sender that is kept, and for the first time
pub record IsAwaited (e f : Engine) (n : ℕ) (t : StepValue Receiving) (body : List ℕ) : Type 0
  where
    pub sender : Sending
    pub kept : find n f.senders ≡ Some sender
    pub front : body ≡ take sender.red sender.block
    pub before : is_handed_up (find n e.receivers) ≡ false
    pub now : is_handed_up (after t.next (find n e.receivers)) ≡ true

-- a session that has been handed up stays so, as long as its sender is kept
abbrev pub StaysUp : Engine → Engine → ℕ → Change Receiving → Type 0
StaysUp e f n c = (s : Sending) → find n f.senders ≡ Some s
    → is_handed_up (find n e.receivers) ≡ true
    → is_handed_up (after c (find n e.receivers)) ≡ true

-- a reply about a receiver, for which no other session makes room
abbrev pub received : Engine → ℕ → StepValue Receiving → Reply
received e n t = record {
  engine = with_receiver e n t.next;
  out = t.out;
  up = t.up;
  green = t.green;
  notes = notes_of n t;
}

-- what engine e replies to a segment of session n, where f is its peer
pub data Arrived (e f : Engine) (n : ℕ) (x : Option Reply) : Type 0 where
  unheard : x ≡ None → Arrived e f n x
  by_sender : (t : StepValue Sending) → x ≡ sender_replies e n (Some t)
      → OfBlock n e.senders t.next → NotFull t → Arrived e f n x
  by_receiver : (t : StepValue Receiving) → x ≡ Some (received e n t)
      → OfComing e f n t.next → StaysUp e f n t.next
      → ((body : List ℕ) → t.up ≡ Some body → IsAwaited e f n t body)
      → NotFull t → Arrived e f n x

-- ---- a sender's step

pub kept-of : (n : ℕ) (es : List (ℕ × Sending)) (c : Change Sending) → OfBlock n es c → OfKept n es c
kept-of n es stays of = tt
kept-of n es (keeps s') (s, kept, same, reds) = (s, kept)
kept-of n es ends of = tt

none-of : (policy : PolicyValue) (n : ℕ) (es : List (ℕ × Sending)) (content : ContentValue)
    (now : ℕ) (t : StepValue Sending) → find n es ≡ None
    → sender_answers policy (find n es) content now ≡ Some t → OfBlock n es t.next
none-of policy n es content now t none hears = subst (OfBlock n es) (sym (unkept-stays policy content
    now t (subst (λ o. sender_answers policy o content now ≡ Some t) none hears))) tt

block-of : (block : List ℕ) (red : ℕ) (policy : PolicyValue) (n : ℕ) (es : List (ℕ × Sending))
    (content : ContentValue) (now : ℕ) (t : StepValue Sending)
    → IfKept (IsSenderOf block red) (find n es)
    → sender_answers policy (find n es) content now ≡ Some t → OfBlock n es t.next
block-of block red policy n es content now t is hears =
    by_kept (find n es) refl is
    (sender-keeps block red policy (find n es) content now t is hears).next
  where
    by_some : (s : Sending) → find n es ≡ Some s → IsSenderOf block red s → (c : Change Sending)
        → IfKeeps (IsSenderOf block red) c → OfBlock n es c
    by_some s some is stays still = tt
    by_some s some is (keeps s') still =
        (s, some, still.same_block ∙ sym is.same_block, still.same_red ∙ sym is.same_red)
    by_some s some is ends still = tt

    by_kept : (o : Option Sending) → find n es ≡ o → IfKept (IsSenderOf block red) o
        → IfKeeps (IsSenderOf block red) t.next → OfBlock n es t.next
    by_kept None none is still = none-of policy n es content now t none hears
    by_kept (Some s) some is still = by_some s some is t.next still

-- ---- a link in a drain

-- each session of it stands, there is room, and no receiver is kept whose number is closed
pub record LinkDrains (parties : Party × Party) (d : Draining) (rank : End → ℕ → ℕ) : Type 0 where
  pub peers : ArePeers parties
  pub holds : DrainHolds SessionFacts parties d rank
  pub room : IsRoomy parties d.world
  pub unclosed :
      (o : End) (n : ℕ) (r : Receiving) → find n (at_end (d.world).engines o).receivers ≡ Some r
      → is_closed n (at_end (d.world).engines o).closed ≡ false

-- a sender that is kept isn't closed at its receiver
stands-unclosed : (set : ℕ → Setting) (v : View) (new_s new_r : List ContentValue) (m : ℕ)
    → Stands SessionFacts set v new_s new_r m → (s : Sending) → v.sender ≡ Some s
    → v.closed ≡ false
stands-unclosed set v new_s new_r m stands s kept =
    by_begun (is-begun SessionFacts set v new_s new_r m stands)
  where
    by_begun : Begun SessionFacts set v new_s new_r m → v.closed ≡ false
    by_begun (never_begun unused nothing) = (nothing.unused).closed
    by_begun (was_begun used st) = ((st.drains).calm).unclosed s kept

pub unclosed-in : (parties : Party × Party) (d : Draining) (rank : End → ℕ → ℕ) (me : End)
    → DrainHolds SessionFacts parties d rank → (n : ℕ) (s : Sending)
    → find n (at_end (d.world).engines (other me)).senders ≡ Some s
    → is_closed n (at_end (d.world).engines me).closed ≡ false
unclosed-in parties d rank first_end holds n s kept =
    stands-unclosed (setting parties second_end n) _ _ _ _ (holds.session second_end n) s kept
unclosed-in parties d rank second_end holds n s kept =
    stands-unclosed (setting parties first_end n) _ _ _ _ (holds.session first_end n) s kept

-- ---- an arrival

evicted-none : (p : Party) (e : Engine) → length e.receivers < p.sessions → evicted_of p e ≡ None
unfolding evicted_of
evicted-none p e room = let few : nat_le p.sessions (length e.receivers) ≡ false =
    grind (arith, nat_tests) in rw few refl

nobody-evicted : (p : Party) (e : Engine) (kept : Option Receiving) (c : Change Receiving)
    → (kept ≡ None → (r : Receiving) → c ≡ keeps r → length e.receivers < p.sessions)
    → evicted_by p e kept c ≡ None
nobody-evicted p e None stays room = refl
nobody-evicted p e None (keeps r) room = evicted-none p e (room refl r refl)
nobody-evicted p e None ends room = refl
nobody-evicted p e (Some s) c room = refl

receives : (p : Party) (e : Engine) (n : ℕ) (t : StepValue Receiving)
    → evicted_by p e (find n e.receivers) t.next ≡ None
    → receiver_replies p e n (Some t) ≡ Some (received e n t)
receives p e n t nobody = rw nobody refl

-- the parties, engines and sessions of a link in a drain, as an end sees them to which the oldest
-- new segment of the other comes
pub record Meets (me you : End) (p q : Party) (e f : Engine) (sent new : List Sent)
    (rank_p rank_q : ℕ → ℕ) (o : Oldest) : Type 0 where
  pub both : AreTwo me you
  pub linked : Linked p q
  pub all : AllStand SessionFacts me you p q e f sent new rank_p rank_q
  pub is : oldest you new ≡ Some o
  pub room : (n : ℕ) → Comes_to e f n → (length e.receivers < p.sessions)
      × (closed_runs e.closed + length e.receivers < p.history)
  pub unclosed : (n : ℕ) (r : Receiving) → find n e.receivers ≡ Some r → is_closed n e.closed ≡ false

-- a session of the other end, to which this content comes
Heard : End → End → Party → Party → Engine → Engine → List Sent → (ℕ → ℕ) → Oldest → Type 0
Heard me you p q e f sent rank_q o =
    Begun SessionFacts (setting_by q p (o.first.segment).session)
    (view_by you me q f e sent (o.first.segment).session)
    ((o.first.segment).content ∷ said you q.own (o.first.segment).session o.others)
    (said me q.own (o.first.segment).session o.others) (rank_q (o.first.segment).session)

heard : (me you : End) (p q : Party) (e f : Engine) (sent new : List Sent) (rank_p rank_q : ℕ → ℕ)
    (o : Oldest) → Meets me you p q e f sent new rank_p rank_q o
    → (o.first.segment).originator ≡ q.own → Heard me you p q e f sent rank_q o
unfolding Heard
heard me you p q e f sent new rank_p rank_q o meets peer =
    is-begun SessionFacts (setting_by q p n) (view_by you me q f e sent n)
    ((o.first.segment).content ∷ said you q.own n o.others) (said me q.own n o.others) (rank_q n)
    (stands-so SessionFacts (setting_by q p n) (view_by you me q f e sent n)
    (view_by you me q f e sent n) (said you q.own n new)
    (said me q.own n new) _ _ (rank_q n) refl (sym (short.here peer refl))
    (sym short.mine) ((meets.all).peer n))
  where
    n : ℕ
    n = (o.first.segment).session

    short : Shorter me you new o q.own (o.first.segment).session
    short = shorter me you new o q.own (o.first.segment).session meets.both meets.is

-- a red piece that comes to a receiver of which nothing is kept was counted
awaited-comes : (me you : End) (p q : Party) (e f : Engine) (sent : List Sent) (n : ℕ)
    (limit_s limit_r : ℕ) (content : ContentValue) (new_s new_r : List ContentValue)
    → Calm limit_s limit_r (view_by you me q f e sent n) (content ∷ new_s) new_r
    → (x : PieceValue) → content ≡ a_piece x → is_red x.kind ≡ true → find n e.receivers ≡ None
    → is_closed n e.closed ≡ false → Comes_to e f n
awaited-comes me you p q e f sent n limit_s limit_r content new_s new_r calm x is_piece red none
    unclosed = by_awaited (calm.awaited x (inl is_piece) red)
  where
    by_awaited : IsKeptSender (find n f.senders) ⊎ ((is_closed n e.closed ≡ true)
        ⊎ IsHanded (find n e.receivers)) → Comes_to e f n
    by_awaited (inl is_open) = comes me you q e f sent n (is_open, none, unclosed)
    by_awaited (inr (inl closed)) = absurd (cc)
    by_awaited (inr (inr handed)) = absurd (subst IsHanded none handed)

-- a block that is handed up is that of the sender, which is kept
handed-up : (me you : End) (p q : Party) (e f : Engine) (sent : List Sent) (n block_red : ℕ)
    (block : List ℕ) (limit_s limit_r : ℕ) (policy : PolicyValue) (place : Admission)
    (content : ContentValue) (now : ℕ) (new_s new_r : List ContentValue) (t : StepValue Receiving)
    (body : List ℕ)
    → Calm limit_s limit_r (view_by you me q f e sent n) (content ∷ new_s) new_r
    → BlockFacts block block_red (view_by you me q f e sent n)
    → ((r : Receiving) → find n e.receivers ≡ Some r → is_closed n e.closed ≡ false)
    → place.closed ≡ is_closed n e.closed
    → receiver_answers policy place (find n e.receivers) content now ≡ Some t
    → (t.next ≡ ends → find n f.senders ≡ None)
    → t.up ≡ Some body → IsAwaited e f n t body
handed-up me you p q e f sent n red block limit_s limit_r policy place content now new_s new_r t body
    calm facts open_kept same hears gone up =
    by_sender (find n f.senders) refl facts.sender
  where
    h : HandsUp content (met place.session (find n e.receivers)) t body
    h = hears-ups policy place (find n e.receivers) content now t hears body up

    moves : t.next ≡ stays → ⊥
    moves is = subst (KeepsOrEnds (λ r'. r'.handed_up ≡ true)) is h.kept

    open_number : is_closed n e.closed ≡ true → ⊥
    open_number closed = by_kept (find n e.receivers) refl
        ((hears-form policy place (find n e.receivers) content now t hears).opens)
      where
        by_kept : (o : Option Receiving) → find n e.receivers ≡ o
            → (o ≡ None → (t.next ≡ stays) ⊎ (place.closed ≡ false)) → ⊥
        by_kept None none opens = by_opens (opens refl)
          where
            by_opens : (t.next ≡ stays) ⊎ (place.closed ≡ false) → ⊥
            by_opens (inl rests) = moves rests
            by_opens (inr unclosed) = cc
        by_kept (Some r) some opens = let unclosed = open_kept r some in cc

    before : is_handed_up (find n e.receivers) ≡ false
    before = by_kept (find n e.receivers) h.before
      where
        by_kept : (o : Option Receiving) → (met place.session o).handed_up ≡ false
            → is_handed_up o ≡ false
        by_kept None is = refl
        by_kept (Some r) is = is

    not_handed : IsHanded (find n e.receivers) → ⊥
    not_handed handed = by_kept (find n e.receivers) handed before
      where
        by_kept : (o : Option Receiving) → IsHanded o → is_handed_up o ≡ false → ⊥
        by_kept None handed is = handed
        by_kept (Some r) handed is = cc

    still_open : find n f.senders ≡ None → ⊥
    still_open none = by_awaited (calm.awaited h.piece (inl h.is_piece) h.red_kind)
      where
        by_awaited : IsKeptSender (find n f.senders) ⊎ ((is_closed n e.closed ≡ true)
            ⊎ IsHanded (find n e.receivers)) → ⊥
        by_awaited (inl is_open) = subst IsKeptSender none is_open
        by_awaited (inr (inl closed)) = open_number closed
        by_awaited (inr (inr handed)) = not_handed handed

    up_now : (c : Change Receiving) → t.next ≡ c → KeepsOrEnds (λ r'. r'.handed_up ≡ true) c
        → is_handed_up (after c (find n e.receivers)) ≡ true
    up_now stays is kept = absurd kept
    up_now (keeps r') is kept = kept
    up_now ends is kept = absurd (still_open (gone is))

    by_sender : (o : Option Sending) → find n f.senders ≡ o → IfKept (IsSenderOf block red) o
        → IsAwaited e f n t body
    by_sender None none of = absurd (still_open none)
    by_sender (Some s) some of = record {
      sender = s;
      kept = some;
      front = handed-front block red (view_by you me q f e sent n) content place.session t body
          facts (calm.heard_s content (inl refl)) h
          ∙ sym (ap (λ k. take k s.block) of.same_red ∙ ap (take red) of.same_block);
      before = before;
      now = up_now t.next refl h.kept;
    }

-- ---- what an engine replies

-- what a segment of its own session does
own-form : (me you : End) (p q : Party) (e f : Engine) (sent new : List Sent)
    (rank_p rank_q : ℕ → ℕ) (o : Oldest) (now : ℕ) (t : StepValue Sending)
    → Meets me you p q e f sent new rank_p rank_q o
    → sender_answers p.policy (find (o.first.segment).session e.senders) (o.first.segment).content
    now ≡ Some t
    → Arrived e f (o.first.segment).session (sender_replies e (o.first.segment).session (Some t))
own-form me you p q e f sent new rank_p rank_q o now t meets hears =
    by_sender t refl (by_begun (is-begun SessionFacts (setting_by p q n)
    (view_by me you p e f sent n) _ _ (rank_p n) ((meets.all).own n)))
    (sender-not_full p.policy (find n e.senders) (o.first.segment).content now t hears)
  where
    n : ℕ
    n = (o.first.segment).session

    by_begun : Begun SessionFacts (setting_by p q (o.first.segment).session)
        (view_by me you p e f sent (o.first.segment).session)
        (said me p.own (o.first.segment).session new) (said you p.own (o.first.segment).session new)
        (rank_p (o.first.segment).session)
        → OfBlock (o.first.segment).session e.senders t.next
    by_begun (never_begun unused nothing) = none-of p.policy (o.first.segment).session e.senders
        (o.first.segment).content now t (nothing.unused).sender hears
    by_begun (was_begun used st) = block-of st.block st.red p.policy (o.first.segment).session
        e.senders (o.first.segment).content now t ((st.facts).basic).sender hears

-- what a segment of its peer's session does
peer-form : (me you : End) (p q : Party) (e f : Engine) (sent new : List Sent)
    (rank_p rank_q : ℕ → ℕ) (o : Oldest) (now : ℕ) (t : StepValue Receiving)
    → Meets me you p q e f sent new rank_p rank_q o
    → (o.first.segment).originator ≡ q.own
    → receiver_answers p.policy (admission_of p e (o.first.segment).session)
    (find (o.first.segment).session e.receivers) (o.first.segment).content now ≡ Some t
    → (t.next ≡ ends → find (o.first.segment).session f.senders ≡ None)
    → Arrived e f (o.first.segment).session
    (receiver_replies p e (o.first.segment).session (Some t))
unfolding Heard
peer-form me you p q e f sent new rank_p rank_q o now t meets peer hears gone =
    by_heard (heard me you p q e f sent new rank_p rank_q o meets peer)
  where
    n : ℕ
    n = (o.first.segment).session

    by_heard : Begun SessionFacts (setting_by q p (o.first.segment).session)
        (view_by you me q f e sent (o.first.segment).session)
        ((o.first.segment).content ∷ said you q.own (o.first.segment).session o.others)
        (said me q.own (o.first.segment).session o.others) (rank_q (o.first.segment).session)
        → Arrived e f (o.first.segment).session
        (receiver_replies p e (o.first.segment).session (Some t))
    by_heard (never_begun unused nothing) = absurd
        (let empty : (o.first.segment).content ∷ said you q.own (o.first.segment).session o.others
        ≡ [] = nothing.none_s in cc)
    by_heard (was_begun used st) =
        by_receiver t (receives p e (o.first.segment).session t nobody) of_coming stays_up ups
        not_full
      where
        opens : (r' : Receiving) → find (o.first.segment).session e.receivers ≡ None
            → t.next ≡ keeps r' → Comes_to e f (o.first.segment).session
        opens r' none next = comes me you q e f sent (o.first.segment).session
            (receiver-opens (setting_by q p (o.first.segment).session st.red) st.block p.policy
            (admission_of p e (o.first.segment).session)
            (view_by you me q f e sent (o.first.segment).session) (o.first.segment).content now
            (said you q.own (o.first.segment).session o.others)
            (said me q.own (o.first.segment).session o.others) (rank_q (o.first.segment).session)
            t r' refl st.drains hears none next)

        nobody : evicted_by p e (find (o.first.segment).session e.receivers) t.next ≡ None
        nobody = nobody-evicted p e (find (o.first.segment).session e.receivers) t.next
            (λ none r' next. (meets.room (o.first.segment).session (opens r' none next)).0)

        of_coming : OfComing e f (o.first.segment).session t.next
        of_coming = received-of p.policy (admission_of p e (o.first.segment).session) e f
            (o.first.segment).session (o.first.segment).content now t hears opens

        stays_up : StaysUp e f (o.first.segment).session t.next
        stays_up s kept was = handed-after (o.first.segment).content (o.first.segment).session
            (find (o.first.segment).session e.receivers) t
            ((hears-form p.policy (admission_of p e (o.first.segment).session)
            (find (o.first.segment).session e.receivers) (o.first.segment).content now t hears).form)
            (λ is up. absurd (let none = gone is in cc)) was

        ups : (body : List ℕ) → t.up ≡ Some body
            → IsAwaited e f (o.first.segment).session t body
        ups body up = handed-up me you p q e f sent (o.first.segment).session st.red st.block _ _
            p.policy (admission_of p e (o.first.segment).session) (o.first.segment).content now
            (said you q.own (o.first.segment).session o.others)
            (said me q.own (o.first.segment).session o.others) t body
            (st.drains).calm (st.facts).basic
            (meets.unclosed (o.first.segment).session) refl hears gone up

        not_full : NotFull t
        not_full = receiver-not_full p.policy (admission_of p e (o.first.segment).session)
            (find (o.first.segment).session e.receivers) (o.first.segment).content now t finds hears
          where
            finds : FindsRoom (admission_of p e (o.first.segment).session)
                (find (o.first.segment).session e.receivers) (o.first.segment).content
            finds x is_piece red none unclosed =
                let few = (meets.room (o.first.segment).session
                (awaited-comes me you p q e f sent (o.first.segment).session _ _
                (o.first.segment).content (said you q.own (o.first.segment).session o.others)
                (said me q.own (o.first.segment).session o.others) (st.drains).calm x is_piece red
                none unclosed)).1 in
                grind (arith, nat_tests)

pub arrives-form : (me you : End) (p q : Party) (e f : Engine) (sent new : List Sent)
    (rank_p rank_q : ℕ → ℕ) (o : Oldest) (now : ℕ)
    → Meets me you p q e f sent new rank_p rank_q o
    → ((t : StepValue Receiving) → arrives p e o.first.segment now
    ≡ receiver_replies p e (o.first.segment).session (Some t)
    → t.next ≡ ends → find (o.first.segment).session f.senders ≡ None)
    → Arrived e f (o.first.segment).session (arrives p e o.first.segment now)
unfolding arrives
arrives-form me you p q e f sent new rank_p rank_q o now meets gone =
    by_tests (s.originator == p.own) refl (is_used p e s.session) (s.originator == p.peer) refl gone
  where
    s : SegmentValue
    s = o.first.segment

    To : Option Reply → Type 0
    To = Arrived e f (o.first.segment).session

    own_hears : (x : Option (StepValue Sending))
        → sender_answers p.policy (find (o.first.segment).session e.senders)
        (o.first.segment).content now ≡ x
        → To (sender_replies e (o.first.segment).session x)
    own_hears None hears = unheard refl
    own_hears (Some t) hears =
        own-form me you p q e f sent new rank_p rank_q o now t meets hears

    peer_hears : (o.first.segment).originator ≡ q.own → (x : Option (StepValue Receiving))
        → receiver_answers p.policy (admission_of p e (o.first.segment).session)
        (find (o.first.segment).session e.receivers) (o.first.segment).content now ≡ x
        → ((t : StepValue Receiving)
        → receiver_replies p e (o.first.segment).session x
        ≡ receiver_replies p e (o.first.segment).session (Some t)
        → t.next ≡ ends → find (o.first.segment).session f.senders ≡ None)
        → To (receiver_replies p e (o.first.segment).session x)
    peer_hears peer None hears gone = unheard refl
    peer_hears peer (Some t) hears gone =
        peer-form me you p q e f sent new rank_p rank_q o now t meets peer hears (gone t refl)

    by_tests : (own : Bool) → ((o.first.segment).originator == p.own) ≡ own → (used peer : Bool)
        → ((o.first.segment).originator == p.peer) ≡ peer
        → ((t : StepValue Receiving)
        → (if own then (if used then sender_replies e (o.first.segment).session
        (sender_answers p.policy (find (o.first.segment).session e.senders)
        (o.first.segment).content now) else None)
        else if peer then receiver_replies p e (o.first.segment).session
        (receiver_answers p.policy (admission_of p e (o.first.segment).session)
        (find (o.first.segment).session e.receivers) (o.first.segment).content now) else None)
        ≡ receiver_replies p e (o.first.segment).session (Some t)
        → t.next ≡ ends → find (o.first.segment).session f.senders ≡ None)
        → To (if own then (if used then sender_replies e (o.first.segment).session
        (sender_answers p.policy (find (o.first.segment).session e.senders)
        (o.first.segment).content now) else None)
        else if peer then receiver_replies p e (o.first.segment).session
        (receiver_answers p.policy (admission_of p e (o.first.segment).session)
        (find (o.first.segment).session e.receivers) (o.first.segment).content now) else None)
    by_tests true is true peer is_peer gone = own_hears _ refl
    by_tests true is false peer is_peer gone = unheard refl
    by_tests false is used true is_peer gone = peer_hears
        (eqb-true (o.first.segment).originator p.peer is_peer ∙ (meets.linked).knows) _ refl gone
    by_tests false is used false is_peer gone = unheard refl
