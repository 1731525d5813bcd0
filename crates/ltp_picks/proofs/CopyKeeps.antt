-- A segment comes once more to one session of a link, or comes first: what the session keeps.

use Rattle.std.proofs.Common.{◌≡◌, ℕ, ◌+◌, ◌*◌, ◌<◌, true, List, []}
use Rattle.std.proofs.Common.{◌++◌, Option, None, Some, is_some, ◌⊎◌, inl, inr, refl, sym, ◌∙◌, ap}
use Rattle.std.proofs.Common.{arith, subst}
use Rattle.ltp_segment.specs.Policy.{PolicyValue}
use Rattle.ltp_segment.specs.Values.{ContentValue, SegmentValue, a_piece, a_report}
use Rattle.ltp_segment.specs.Values.{a_report_ack, a_sender_cancel, a_sender_cancel_ack}
use Rattle.ltp_segment.specs.Values.{a_receiver_cancel, a_receiver_cancel_ack}
use Rattle.ltp_segment.specs.declared.session.Note.TheVariants as notes
use Rattle.ltp_session.specs.Engine.{Party, admission_of}
use Rattle.ltp_session.specs.Receiver.{Admission, Receiving, receiver_answers}
use Rattle.ltp_session.specs.Sender.{Sending, sender_answers}
use Rattle.ltp_session.specs.Step.{StepValue, note_history_full, note_sent}
use Rattle.ltp_session.specs.World.{ArePeers, End, Sent, World, at_end, other}
use Rattle.ltp_laws.specs.Facts.{SessionFacts}
use Rattle.ltp_laws.specs.Kinds.{IsReceivers, IsSenders}
use Rattle.ltp_laws.specs.View.{IsIn, View, receiver_moves, said, sender_moves, view}
use Rattle.ltp_laws.proofs.RunLemmas.{Linked, linked-at}
use Rattle.ltp_laws.proofs.SenderStepLemmas.{listens-form}
use Rattle.ltp_laws.proofs.SerialLemmas.{all-among}
use Rattle.ltp_drain.specs.Calm.{Advances, HasSerials}
use Rattle.ltp_drain.specs.Draining.{since}
use Rattle.ltp_drain.specs.Effects.{EndEffects, IsHandedUp, IsNoted}
use Rattle.ltp_drain.specs.Hopeful.{IsHanded, IsKeptSender}
use Rattle.ltp_drain.specs.Standing.{Standing, setting, setting_by}
use Rattle.ltp_drain.proofs.DrainFrame.{Begun, is-begun, never_begun, stands-so, stands-used}
use Rattle.ltp_drain.proofs.DrainFrame.{was_begun}
use Rattle.ltp_drain.proofs.DrainLists.{new-none, new-said}
use Rattle.ltp_drain.proofs.HandedLemmas.{hands-up-now}
use Rattle.ltp_drain.proofs.SenderDrains.{EndsWell}
use Rattle.ltp_picks.specs.Asking.{AreNumbered, AsksLast}
use Rattle.ltp_picks.proofs.ArrivalFrame.{HasPlaces, OwnMoves, PeerMoves}
use Rattle.ltp_picks.proofs.ArrivalFrame.{own_apart, own_deaf, own_hears, own_unused}
use Rattle.ltp_picks.proofs.ArrivalFrame.{peer_apart, peer_deaf, peer_hears}
use Rattle.ltp_picks.proofs.AskingLemmas.{listens-asks, same-asks, settled-before}
use Rattle.ltp_picks.proofs.CopyHears.{Heard, receiver-heard, sender-ends, sender-heard}
use Rattle.ltp_picks.proofs.CopyLinks.{Keeping}
use Rattle.ltp_picks.proofs.CopyRows.{fewer-serials}
use Rattle.ltp_picks.proofs.EchoLemmas.{echoes, echoes-append, plain, plain-append}
use Rattle.ltp_picks.proofs.FrontRows.{Arrives, FrontsReceiver, FrontsSender, HasFront}
use Rattle.ltp_picks.proofs.FrontRows.{StaysSettled, fronts-receiver, fronts-sender}
use Rattle.ltp_picks.proofs.PlainAsks.{plain-asks, receiver-asks}
use Rattle.ltp_picks.proofs.SerialLemmas.{receiver-serials, sender-serials}

-- ---- one session

-- after a segment of it came, where its rank was P with what old copies take
pub record SessionAfter (parties : Party × Party) (k P : ℕ) (Old : ContentValue → Type 0)
    (es : List EndEffects) (new : List Sent) (o : End) (n : ℕ) (v v' : View) : Type 0 where
  pub rank : ℕ
  pub less : rank + 3 * k < P
  pub used : v'.used ≡ true
  pub keeps : Keeping parties k Old new rank o n v'
  pub advances : Advances v v' (IsNoted es o (notes.Sent n)) (IsHandedUp es (other o) n)

-- a receiver's content has an answer of a sender
sender-deaf : (policy : PolicyValue) (kept : Option Sending) (c : ContentValue) (now : ℕ)
    → IsReceivers c → sender_answers policy kept c now ≡ None → ⊥
unfolding sender_answers
sender-deaf policy kept (a_piece q) now is deaf = is
sender-deaf policy kept (a_report x) now is deaf = cc
sender-deaf policy kept (a_report_ack serial) now is deaf = is
sender-deaf policy kept (a_sender_cancel reason) now is deaf = is
sender-deaf policy kept a_sender_cancel_ack now is deaf = cc
sender-deaf policy kept (a_receiver_cancel reason) now is deaf = cc
sender-deaf policy kept a_receiver_cancel_ack now is deaf = is

receiver-deaf : (policy : PolicyValue) (place : Admission) (kept : Option Receiving) (c : ContentValue)
    (now : ℕ) → IsSenders c → receiver_answers policy place kept c now ≡ None → ⊥
unfolding receiver_answers
receiver-deaf policy place kept (a_piece q) now is deaf = cc
receiver-deaf policy place kept (a_report x) now is deaf = is
receiver-deaf policy place kept (a_report_ack serial) now is deaf = cc
receiver-deaf policy place kept (a_sender_cancel reason) now is deaf = cc
receiver-deaf policy place kept a_sender_cancel_ack now is deaf = is
receiver-deaf policy place kept (a_receiver_cancel reason) now is deaf = is
receiver-deaf policy place kept a_receiver_cancel_ack now is deaf = cc

no-one : {X : Type 0} (c : ContentValue) (cs : List ContentValue) → cs ≡ [] → IsIn c cs → X
no-one c cs is among = absurd (subst (IsIn c) is among)

-- ---- the sender hears

pub own-after : (parties : Party × Party) (w w' : World) (me : End) (s : SegmentValue)
    (k k' n m : ℕ) (Old Old' : ContentValue → Type 0) (Again : Type 0) (es : List EndEffects)
    (new new' : List Sent) → ArePeers parties → w'.sent ≡ w.sent ++ since w w'
    → Keeping parties k Old new m me n (view parties w me n)
    → Arrives Again s.content (said (other me) (at_end parties me).own n new)
    (said (other me) (at_end parties me).own n new') k k'
    → said me (at_end parties me).own n new ≡ said me (at_end parties me).own n new'
    → IsIn s.content (view parties w me n).by_receiver
    → ((c : ContentValue) → Old c → IsIn c (view parties w me n).by_sender)
    → ((c : ContentValue) → Old' c → Old c)
    → s.originator ≡ (at_end parties me).own → s.session ≡ n
    → OwnMoves me (at_end parties me) s w.now es (view parties w me n) n (view parties w' me n)
    → SessionAfter parties k' (m + 3 * k) Old' es (new' ++ since w w') me n (view parties w me n)
    (view parties w' me n)
own-after parties w w' me s k k' n m Old Old' Again es new new' peers adds keeps coming still sent
    said_old older own number moves =
    by_begun (is-begun SessionFacts (setting parties me n) v _ _ keeps.left keeps.stands) moves
  where
    p : Party
    p = at_end parties me

    q : Party
    q = at_end parties (other me)

    v : View
    v = view parties w me n

    linked : Linked (at_end parties me) (at_end parties (other me))
    linked = linked-at parties me peers

    -- what is new of it
    new_s : List ContentValue
    new_s = said me (at_end parties me).own n new

    new_r : List ContentValue
    new_r = said (other me) (at_end parties me).own n new

    left_r : List ContentValue
    left_r = said (other me) (at_end parties me).own n new'

    all_s : List ContentValue
    all_s = said me (at_end parties me).own n (new' ++ since w w')

    all_r : List ContentValue
    all_r = said (other me) (at_end parties me).own n (new' ++ since w w')

    To : Type 0
    To = SessionAfter parties k' (m + 3 * k) Old' es (new' ++ since w w') me n
        (view parties w me n) (view parties w' me n)

    hears : (st : Standing SessionFacts (setting parties me n) (view parties w me n)
        (plain (said me (at_end parties me).own n new))
        (plain (said (other me) (at_end parties me).own n new)) keeps.left) (t : StepValue Sending)
        → (view parties w me n).used ≡ true
        → sender_answers (at_end parties me).policy (view parties w me n).sender s.content w.now
        ≡ Some t
        → view parties w' me n ≡ sender_moves (view parties w me n) t
        → (t.note ≡ Some note_sent → IsNoted es me (notes.Sent n)) → To
    hears st t used answers same noted = record {
      rank = rank;
      less = less;
      used = ap (λ (v : View). v.used) same ∙ used;
      keeps = record {
        left = heard.left;
        stands = stands-so SessionFacts (setting parties me n) (sender_moves v t)
            (view parties w' me n) (plain new_s ++ plain t.out) (plain left_r) (plain all_s)
            (plain all_r) heard.left same
            (ap plain lists_s ∙ plain-append new_s t.out) (ap plain lists_r)
            (stands-used SessionFacts (setting parties me n) (sender_moves v t)
            (plain new_s ++ plain t.out) (plain left_r) heard.left used heard.standing);
        count = refl;
        slack = subst (λ (v : View). HasSerials n v (rank + 3 * k')) (sym same)
            (sender-serials p.policy n v s.content w.now t (rank + 3 * k') answers
            (fewer-serials n v (m + 3 * k) (rank + 3 * k' + 1) (omega (arith, less)) keeps.slack));
        asks = same-asks Old Old' (sender_moves v t) (view parties w' me n)
            (plain new_s ++ plain t.out) (plain all_s) (ap (λ (v : View). v.sender) same)
            (ap plain lists_s ∙ plain-append new_s t.out) older
            (plain-asks Old (sender_moves v t) (plain new_s) t.out
            (listens-asks Old s.content v v.sender (plain new_s) t refl st.facts.asks.sender
            said_old st.drains.calm.heard_s
            (listens-form p.policy v.sender s.content w.now t answers) keeps.asks));
      };
      advances = record {
        sender = λ is_open. by_end (sender-ends p q n st.red st.block v s.content w.now
            (plain new_s) (plain left_r) front.m t linked.cuts st.facts st.drains.fit front.fronts
            sent answers is_open);
        receiver = λ handed. inl (subst (λ (v : View). IsHanded v.receiver) same handed);
      };
    }
      where
        lists_s : said me (at_end parties me).own n (new' ++ since w w')
            ≡ said me (at_end parties me).own n new ++ t.out
        lists_s = new-said me (at_end parties me).own n w.sent new' (since w w') t.out
            (ap (said me (at_end parties me).own n) (sym adds)
            ∙ ap (λ (v : View). v.by_sender) same)
            ∙ ap (λ (cs : List ContentValue). cs ++ t.out) (sym still)

        lists_r : said (other me) (at_end parties me).own n (new' ++ since w w')
            ≡ said (other me) (at_end parties me).own n new'
        lists_r = new-none (other me) (at_end parties me).own n w.sent new' (since w w')
            (ap (said (other me) (at_end parties me).own n) (sym adds)
            ∙ ap (λ (v : View). v.by_receiver) same)

        front : HasFront (FrontsSender (setting_by (at_end parties me) (at_end parties (other me)) n
            st.red) (view parties w me n) s.content
            (plain (said me (at_end parties me).own n new))
            (plain (said (other me) (at_end parties me).own n new')))
            (keeps.left + echoes (said (other me) (at_end parties me).own n new) + 3 * k)
            (echoes (said (other me) (at_end parties me).own n new') + 3 * k')
        front = fronts-sender Again (setting_by p q n st.red) v s.content new_s new_r left_r k k'
            keeps.left coming
            (all-among IsReceivers s.content v.by_receiver st.facts.kinds.by_receiver sent) sent
            (fewer-serials n v (m + 3 * k) (keeps.left + 3 * k) (omega (arith, keeps.count))
            keeps.slack) st.drains

        heard : Heard (at_end parties me) (at_end parties (other me)) n
            (sender_moves (view parties w me n) t)
            (plain (said me (at_end parties me).own n new) ++ plain t.out)
            (plain (said (other me) (at_end parties me).own n new')) t.out front.m
        heard = sender-heard p q n st.red st.block v s.content w.now (plain new_s) (plain left_r)
            front.m t linked.cuts st.facts st.drains.fit front.fronts sent answers

        rank : ℕ
        rank = heard.left + echoes (said me (at_end parties me).own n (new' ++ since w w'))
            + echoes (said (other me) (at_end parties me).own n (new' ++ since w w'))

        less : heard.left + echoes (said me (at_end parties me).own n (new' ++ since w w'))
            + echoes (said (other me) (at_end parties me).own n (new' ++ since w w')) + 3 * k'
            < m + 3 * k
        less = omega (
          arith,
          heard.less,
          front.sum,
          keeps.count,
          ap echoes lists_s ∙ echoes-append new_s t.out,
          ap echoes lists_r,
        )

        by_end : EndsWell (view parties w me n) t → IsKeptSender (view parties w' me n).sender
            ⊎ (IsNoted es me (notes.Sent n)
            × (IsHanded (view parties w me n).receiver ⊎ IsHandedUp es (other me) n))
        by_end (inl is_open) = inl (subst (λ (v : View). IsKeptSender v.sender) (sym same) is_open)
        by_end (inr done) = inr (noted done.1, inl done.0)

    by_begun : Begun SessionFacts (setting parties me n) (view parties w me n)
        (plain (said me (at_end parties me).own n new))
        (plain (said (other me) (at_end parties me).own n new)) keeps.left
        → OwnMoves me (at_end parties me) s w.now es (view parties w me n) n (view parties w' me n)
        → To
    by_begun (never_begun unused idle) moved =
        no-one s.content v.by_receiver idle.unused.by_receiver sent
    by_begun (was_begun used st) (own_apart apart same) = absurd (apart own number)
    by_begun (was_begun used st) (own_unused is_own is_n unused same) = absurd (cc)
    by_begun (was_begun used st) (own_deaf is_own is_n deaf same) =
        absurd (sender-deaf p.policy v.sender s.content w.now
        (all-among IsReceivers s.content v.by_receiver st.facts.kinds.by_receiver sent) deaf)
    by_begun (was_begun used st) (own_hears is_own is_n t answers same noted) =
        hears st t used answers same noted

-- ---- the receiver hears

-- an old piece leaves what is settled
again-settled : (Old : ContentValue → Type 0) (p q : Party) (n red : ℕ) (block : List ℕ) (v : View)
    (e : ContentValue) (new new' : List ContentValue) → SessionFacts block red v
    → AreNumbered [] 0 v → IsIn e v.by_sender → AsksLast Old v (plain new)
    → Old e → new ≡ new' → StaysSettled (setting_by p q n red) v e (plain new')
again-settled Old p q n red block v (a_piece x) new new' facts numbered sent asks old is =
    λ s c timer kept waits. settled-before Old red v s c timer x (plain new') numbered
    facts.asks.sender kept waits (subst (λ (xs : List ContentValue). AsksLast Old v (plain xs)) is
    asks) old sent
again-settled Old p q n red block v (a_report x) new new' facts numbered sent asks old is = tt
again-settled Old p q n red block v (a_report_ack serial) new new' facts numbered sent asks old is =
    tt
again-settled Old p q n red block v (a_sender_cancel reason) new new' facts numbered sent asks old
    is = tt
again-settled Old p q n red block v a_sender_cancel_ack new new' facts numbered sent asks old is = tt
again-settled Old p q n red block v (a_receiver_cancel reason) new new' facts numbered sent asks old
    is = tt
again-settled Old p q n red block v a_receiver_cancel_ack new new' facts numbered sent asks old is =
    tt

pub peer-after : (parties : Party × Party) (w w' : World) (me : End) (s : SegmentValue)
    (k k' n m : ℕ) (Old Old' : ContentValue → Type 0) (es : List EndEffects)
    (new new' : List Sent) (o : End) → other o ≡ me
    → w'.sent ≡ w.sent ++ since w w' → HasPlaces es me
    → Keeping parties k Old new m o n (view parties w o n)
    → Arrives (Old s.content) s.content (said o (at_end parties o).own n new)
    (said o (at_end parties o).own n new') k k'
    → said (other o) (at_end parties o).own n new ≡ said (other o) (at_end parties o).own n new'
    → AreNumbered [] 0 (view parties w o n)
    → (at_end parties me).most ≡ (at_end parties (other o)).most
    → (at_end parties me).policy ≡ (at_end parties (other o)).policy
    → IsIn s.content (view parties w o n).by_sender
    → ((c : ContentValue) → Old' c → Old c ⊎ (c ≡ s.content))
    → s.originator ≡ (at_end parties o).own → s.session ≡ n
    → PeerMoves me (at_end parties me) (at_end parties o) (at_end w.engines me) s w.now es
    (view parties w o n) n (view parties w' o n)
    → SessionAfter parties k' (m + 3 * k) Old' es (new' ++ since w w') o n (view parties w o n)
    (view parties w' o n)
peer-after parties w w' me s k k' n m Old Old' es new new' o is_me adds places keeps coming still
    numbered most policy sent older own number moves =
    by_begun (is-begun SessionFacts (setting parties o n) v _ _ keeps.left keeps.stands) moves
  where
    p : Party
    p = at_end parties o

    q : Party
    q = at_end parties (other o)

    v : View
    v = view parties w o n

    place : Admission
    place = admission_of (at_end parties me) (at_end w.engines me) n

    -- what is new of it
    new_s : List ContentValue
    new_s = said o (at_end parties o).own n new

    left_s : List ContentValue
    left_s = said o (at_end parties o).own n new'

    new_r : List ContentValue
    new_r = said (other o) (at_end parties o).own n new

    all_s : List ContentValue
    all_s = said o (at_end parties o).own n (new' ++ since w w')

    all_r : List ContentValue
    all_r = said (other o) (at_end parties o).own n (new' ++ since w w')

    To : Type 0
    To = SessionAfter parties k' (m + 3 * k) Old' es (new' ++ since w w') o n
        (view parties w o n) (view parties w' o n)

    hears : (st : Standing SessionFacts (setting parties o n) (view parties w o n)
        (plain (said o (at_end parties o).own n new))
        (plain (said (other o) (at_end parties o).own n new)) keeps.left) (t : StepValue Receiving)
        → (view parties w o n).used ≡ true
        → receiver_answers (at_end parties me).policy
        (admission_of (at_end parties me) (at_end w.engines me) n) (view parties w o n).receiver
        s.content w.now ≡ Some t
        → view parties w' o n ≡ receiver_moves (view parties w o n) t
        → (admission_of (at_end parties me) (at_end w.engines me) n).closed
        ≡ (view parties w o n).closed
        → (t.note ≡ Some note_history_full → ⊥)
        → (is_some t.up ≡ true → IsHandedUp es me n) → To
    hears st t used answers same closed unnoted handed = record {
      rank = rank;
      less = less;
      used = ap (λ (v : View). v.used) same ∙ used;
      keeps = record {
        left = heard.left;
        stands = stands-so SessionFacts (setting parties o n) (receiver_moves v t)
            (view parties w' o n) (plain left_s) (plain new_r ++ plain t.out) (plain all_s)
            (plain all_r) heard.left same (ap plain lists_s)
            (ap plain lists_r ∙ plain-append new_r t.out)
            (stands-used SessionFacts (setting parties o n) (receiver_moves v t)
            (plain left_s) (plain new_r ++ plain t.out) heard.left used heard.standing);
        count = refl;
        slack = subst (λ (v : View). HasSerials n v (rank + 3 * k')) (sym same)
            (receiver-serials (at_end parties me).policy place v s.content w.now t (rank + 3 * k')
            answers
            (fewer-serials n v (m + 3 * k) (rank + 3 * k' + 1) (omega (arith, less)) keeps.slack));
        asks = subst (λ (xs : List ContentValue). AsksLast Old' (view parties w' o n) (plain xs))
            (sym lists_s)
            (receiver-asks Old Old' v (view parties w' o n) s.content new_s left_s k k' coming
            (ap (λ (v : View). v.sender) same) older keeps.asks);
      };
      advances = record {
        sender = λ is_open. inl (subst (λ (v : View). IsKeptSender v.sender) (sym same) is_open);
        receiver = λ was. by_up (hands-up-now (at_end parties me).policy place v.receiver s.content
            w.now t answers (subst (λ (v : View). IsHanded v.receiver) same was));
      };
    }
      where
        lists_s : said o (at_end parties o).own n (new' ++ since w w')
            ≡ said o (at_end parties o).own n new'
        lists_s = new-none o (at_end parties o).own n w.sent new' (since w w')
            (ap (said o (at_end parties o).own n) (sym adds)
            ∙ ap (λ (v : View). v.by_sender) same)

        lists_r : said (other o) (at_end parties o).own n (new' ++ since w w')
            ≡ said (other o) (at_end parties o).own n new ++ t.out
        lists_r = new-said (other o) (at_end parties o).own n w.sent new' (since w w') t.out
            (ap (said (other o) (at_end parties o).own n) (sym adds)
            ∙ ap (λ (v : View). v.by_receiver) same)
            ∙ ap (λ (cs : List ContentValue). cs ++ t.out) (sym still)

        front : HasFront (FrontsReceiver (setting_by (at_end parties o) (at_end parties (other o)) n
            st.red) (view parties w o n) s.content
            (plain (said o (at_end parties o).own n new'))
            (plain (said (other o) (at_end parties o).own n new)))
            (keeps.left + echoes (said o (at_end parties o).own n new) + 3 * k)
            (echoes (said o (at_end parties o).own n new') + 3 * k')
        front = fronts-receiver (Old s.content) (setting_by p q n st.red) v s.content new_s left_s
            new_r k k' keeps.left coming
            (all-among IsSenders s.content v.by_sender st.facts.kinds.by_sender sent) sent
            (fewer-serials n v (m + 3 * k) (keeps.left + 3 * k) (omega (arith, keeps.count))
            keeps.slack)
            (again-settled Old p q n st.red st.block v s.content new_s left_s st.facts numbered sent
            keeps.asks) st.drains

        heard : Heard (at_end parties o) (at_end parties (other o)) n
            (receiver_moves (view parties w o n) t)
            (plain (said o (at_end parties o).own n new'))
            (plain (said (other o) (at_end parties o).own n new) ++ plain t.out) t.out front.m
        heard = receiver-heard p q n st.red st.block place v s.content w.now (plain left_s)
            (plain new_r) front.m t refl closed most unnoted st.facts st.drains.fit front.fronts sent
            (subst (λ (policy : PolicyValue). receiver_answers policy place v.receiver s.content w.now
            ≡ Some t) policy answers)

        rank : ℕ
        rank = heard.left + echoes (said o (at_end parties o).own n (new' ++ since w w'))
            + echoes (said (other o) (at_end parties o).own n (new' ++ since w w'))

        less : heard.left + echoes (said o (at_end parties o).own n (new' ++ since w w'))
            + echoes (said (other o) (at_end parties o).own n (new' ++ since w w')) + 3 * k'
            < m + 3 * k
        less = omega (
          arith,
          heard.less,
          front.sum,
          keeps.count,
          ap echoes lists_s,
          ap echoes lists_r ∙ echoes-append new_r t.out,
        )

        by_up : IsHanded (view parties w o n).receiver ⊎ (is_some t.up ≡ true)
            → IsHanded (view parties w o n).receiver ⊎ IsHandedUp es (other o) n
        by_up (inl before) = inl before
        by_up (inr up) = inr (subst (λ (e : End). IsHandedUp es e n) (sym is_me) (handed up))

    by_begun : Begun SessionFacts (setting parties o n) (view parties w o n)
        (plain (said o (at_end parties o).own n new))
        (plain (said (other o) (at_end parties o).own n new)) keeps.left
        → PeerMoves me (at_end parties me) (at_end parties o) (at_end w.engines me) s w.now es
        (view parties w o n) n (view parties w' o n) → To
    by_begun (never_begun unused idle) moved =
        no-one s.content v.by_sender idle.unused.by_sender sent
    by_begun (was_begun used st) (peer_apart apart same) = absurd (apart own number)
    by_begun (was_begun used st) (peer_deaf is_own is_n deaf same) =
        absurd (receiver-deaf (at_end parties me).policy place v.receiver s.content w.now
        (all-among IsSenders s.content v.by_sender st.facts.kinds.by_sender sent) deaf)
    by_begun (was_begun used st) (peer_hears is_own is_n t answers same closed full handed) =
        hears st t used answers same closed (λ note. places.known n (full note)) handed
