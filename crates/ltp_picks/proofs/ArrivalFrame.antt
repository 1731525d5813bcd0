-- A segment that comes to an end: one session takes a step, and no other changes, where none is
-- closed to make room.

use Rattle.std.proofs.Common.{◌≡◌, ◌≢◌, ℕ, ◌≤◌, Bool, true, false, ◌==◌, List, [], ◌∷◌, ◌++◌}
use Rattle.std.proofs.Common.{Option, None, Some, Ok, is_some, ◌⊎◌, inl, inr, refl, sym, ◌∙◌}
use Rattle.std.proofs.Common.{ap, arith, subst}
use Rattle.std.proofs.lemmas.Bool.{eqb-true, eqb-false}
use Rattle.std.specs.Option.{option_map}
use Rattle.ltp_segment.specs.Values.{SegmentValue}
use Rattle.ltp_segment.specs.declared.session.Note.{Note}
use Rattle.ltp_segment.specs.declared.session.Note.TheVariants as notes
use Rattle.ltp_session.specs.Engine.{Engine, Party, Reply, UpValue, arrives, datagram_step}
use Rattle.ltp_session.specs.Engine.{evicted_by, is_used, list_of, notes_of, admission_of}
use Rattle.ltp_session.specs.Engine.{receiver_replies, replied, replied_or_stranger}
use Rattle.ltp_session.specs.Engine.{sender_replies, with_receiver, with_sender, without_evicted}
use Rattle.ltp_session.specs.Receiver.{Receiving, receiver_answers}
use Rattle.ltp_session.specs.Sender.{Sending, sender_answers}
use Rattle.ltp_session.specs.Step.{NoteValue, StepValue, note_history_full, note_sent}
use Rattle.ltp_session.specs.Table.{AreAscending, find}
use Rattle.ltp_session.specs.Views.{headed_all, note_of}
use Rattle.ltp_session.specs.World.{ArePeers, End, Sent, World, arrival, at_end, other, replies}
use Rattle.ltp_session.specs.World.{first_end, second_end, sent_by}
use Rattle.ltp_session.specs.declared.name.SessionName.{SessionName}
use Rattle.ltp_laws.specs.Runs.{HoldsIn}
use Rattle.ltp_laws.specs.View.{IsIn, View, receiver_moves, sender_moves, session_of, view}
use Rattle.ltp_laws.specs.View.{view_by}
use Rattle.ltp_laws.proofs.FrameLemmas.{AreTwo, Left, alone, closed_for_room, opening}
use Rattle.ltp_laws.proofs.FrameLemmas.{find-with_receiver_other}
use Rattle.ltp_laws.proofs.FrameLemmas.{Roomy, owns-stay, peers-stay, receiver-here, receiver-others}
use Rattle.ltp_laws.proofs.FrameLemmas.{roomy-received, sender-here, sender-others}
use Rattle.ltp_laws.proofs.ListLemmas.{by_arms}
use Rattle.ltp_laws.proofs.RunLemmas.{KeepsAll, Linked, holds-at, in-left, in-right, linked-at}
use Rattle.ltp_laws.proofs.RunLemmas.{two_ends}
use Rattle.ltp_laws.proofs.TableLemmas.{ascending-settled}
use Rattle.ltp_drain.specs.Effects.{EndEffects, IsHandedUp, IsNoted}

-- what an end does in answer to a segment
abbrev pub heard_effects : End → Party → Engine → SegmentValue → ℕ → List EndEffects
heard_effects me p e s now =
    record { end = me; effects = (datagram_step p e (Ok s) now).effects } ∷ []

-- nobody is closed to make room, nor is room wanting
pub record HasPlaces (es : List EndEffects) (end : End) : Type 0 where
  pub kept : (m : ℕ) → IsNoted es end (notes.Evicted m) → ⊥
  pub known : (m : ℕ) → IsNoted es end (notes.HistoryFull m) → ⊥

-- ---- what becomes of session n, which was so before

-- of an end's own session, and of its peer's
pub data OwnMoves (me : End) (p : Party) (s : SegmentValue) (now : ℕ) (es : List EndEffects)
    (v : View) (n : ℕ) (v' : View) : Type 0 where
  own_apart : (s.originator ≡ p.own → s.session ≡ n → ⊥) → v' ≡ v
      → OwnMoves me p s now es v n v'
  own_unused : s.originator ≡ p.own → s.session ≡ n → v.used ≡ false → v' ≡ v
      → OwnMoves me p s now es v n v'
  own_deaf : s.originator ≡ p.own → s.session ≡ n
      → sender_answers p.policy v.sender s.content now ≡ None → v' ≡ v
      → OwnMoves me p s now es v n v'
  own_hears : s.originator ≡ p.own → s.session ≡ n → (t : StepValue Sending)
      → sender_answers p.policy v.sender s.content now ≡ Some t → v' ≡ sender_moves v t
      → (t.note ≡ Some note_sent → IsNoted es me (notes.Sent n))
      → OwnMoves me p s now es v n v'

pub data PeerMoves (me : End) (p q : Party) (e : Engine) (s : SegmentValue) (now : ℕ)
    (es : List EndEffects) (v : View) (n : ℕ) (v' : View) : Type 0 where
  peer_apart : (s.originator ≡ q.own → s.session ≡ n → ⊥) → v' ≡ v
      → PeerMoves me p q e s now es v n v'
  peer_deaf : s.originator ≡ q.own → s.session ≡ n
      → receiver_answers p.policy (admission_of p e n) v.receiver s.content now ≡ None → v' ≡ v
      → PeerMoves me p q e s now es v n v'
  peer_hears : s.originator ≡ q.own → s.session ≡ n → (t : StepValue Receiving)
      → receiver_answers p.policy (admission_of p e n) v.receiver s.content now ≡ Some t
      → v' ≡ receiver_moves v t → (admission_of p e n).closed ≡ v.closed
      → (t.note ≡ Some note_history_full → IsNoted es me (notes.HistoryFull n))
      → (is_some t.up ≡ true → IsHandedUp es me n)
      → PeerMoves me p q e s now es v n v'

-- ---- effects

noted-by : (me : End) (name : SessionName) (r : Reply) (note : Note) → IsIn note r.notes
    → IsNoted (record { end = me; effects = (replied name r).effects } ∷ []) me note
noted-by me name r note among = record {
  of = record { end = me; effects = (replied name r).effects };
  among = inl refl;
  by = refl;
  noted = among;
}

handed-by : (me : End) (name : SessionName) (r : Reply) → is_some r.up ≡ true
    → IsHandedUp (record { end = me; effects = (replied name r).effects } ∷ []) me name.number
handed-by me name r is = by_up r.up refl
  where
    by_up : (up : Option (List ℕ)) → r.up ≡ up
        → IsHandedUp (record { end = me; effects = (replied name r).effects } ∷ []) me name.number
    by_up None none = absurd (let no : is_some r.up ≡ false =
        ap (λ (o : Option (List ℕ)). is_some o) none in cc)
    by_up (Some body) is_body = record {
      of = record { end = me; effects = (replied name r).effects };
      among = inl refl;
      by = refl;
      up = record { session = name.number; body = body };
      handed = subst (λ (o : Option (List ℕ)). IsIn {X = UpValue}
          (record { session = name.number; body = body })
          (list_of (option_map (λ body. record { session = name.number; body = body }) o)))
          (sym is_body) (inl refl);
      session = refl;
    }

note-there : {S : Type 0} (n : ℕ) (t : StepValue S) (note : NoteValue) → t.note ≡ Some note
    → IsIn (note_of n note) (notes_of n t)
note-there n t note is = subst (λ (x : Option NoteValue).
    IsIn (note_of n note) (list_of (option_map (note_of n) x))) (sym is) (inl refl)

-- ---- one end

-- what every session was before is V, and after a reply each is as it moves
abbrev Moved : End → End → Party → Party → Engine → Engine → SegmentValue → ℕ → List EndEffects
    → (End → ℕ → View) → List Sent → Engine → List Sent → Type 1
Moved me you p q e f s now es V sent e' sent' =
    (P' : End → ℕ → View → Type 0)
    → ((n : ℕ) (v' : View) → OwnMoves me p s now es (V me n) n v' → P' me n v')
    → ((n : ℕ) (v' : View) → PeerMoves me p q e s now es (V you n) n v' → P' you n v')
    → KeepsAll (λ o n v. v ≡ V o n) P' me you p q e f sent e' sent'

own-moved : (me you : End) (p q : Party) (e f : Engine) (s : SegmentValue) (now : ℕ)
    (es : List EndEffects) (V : End → ℕ → View) (sent : List Sent) (t : StepValue Sending)
    → AreTwo me you → Linked p q → s.originator ≡ p.own
    → ((n : ℕ) → view_by me you p e f sent n ≡ V me n)
    → sender_answers p.policy (find s.session e.senders) s.content now ≡ Some t
    → (t.note ≡ Some note_sent → IsNoted es me (notes.Sent s.session))
    → Moved me you p q e f s now es V sent (with_sender e s.session t.next)
    (sent ++ sent_by me (headed_all (session_of s.originator s.session) t.out))
own-moved me you p q e f s now es V sent t both linked own was hears noted P' on_own on_peer = record {
  own = λ m is. by_number m (s.session == m) refl is;
  peer = λ m is. on_peer m _ (peer_apart (λ h k. linked.apart (sym own ∙ h))
      (peers-stay me you q f e (with_sender e s.session t.next) sent s.originator s.session m t.out
      both (λ h. linked.apart (sym own ∙ h)) refl refl ∙ is));
  senders = λ ascending. ascending-settled s.session 0 t.next e.senders (omega arith) ascending;
  receivers = λ ascending. ascending;
  next = λ low. low;
}
  where
    sent' : ℕ → List Sent
    sent' o = sent ++ sent_by me (headed_all (session_of o s.session) t.out)

    here : view_by me you p (with_sender e s.session t.next) f (sent' s.originator) s.session
        ≡ sender_moves (V me s.session) t
    here = subst (λ (o : ℕ). view_by me you p (with_sender e s.session t.next) f (sent' o)
        s.session ≡ sender_moves (V me s.session) t) (sym own)
        (sender-here me you p e f sent s.session t both
        ∙ ap (λ (v : View). sender_moves v t) (was s.session))

    by_number : (m : ℕ) (same : Bool) → (s.session == m) ≡ same
        → view_by me you p e f sent m ≡ V me m
        → P' me m (view_by me you p (with_sender e s.session t.next) f (sent' s.originator) m)
    by_number m true same is =
        subst (λ (m : ℕ). P' me m (view_by me you p (with_sender e s.session t.next) f
        (sent' s.originator) m)) (eqb-true s.session m same)
        (on_own s.session _ (own_hears own refl t
        (subst (λ (v : View). sender_answers p.policy v.sender s.content now ≡ Some t)
        (was s.session) hears) here noted))
    by_number m false same is =
        on_own m _ (own_apart (λ h k. eqb-false s.session m same k)
        (subst (λ (o : ℕ). view_by me you p (with_sender e s.session t.next) f (sent' o) m
        ≡ V me m) (sym own)
        (sender-others me you p e f sent s.session m t both (eqb-false s.session m same) ∙ is)))

peer-moved : (me you : End) (p q : Party) (e f : Engine) (s : SegmentValue) (now : ℕ)
    (es : List EndEffects) (V : End → ℕ → View) (sent : List Sent) (t : StepValue Receiving)
    → AreTwo me you → Linked p q → s.originator ≡ q.own
    → ((n : ℕ) → view_by you me q f e sent n ≡ V you n)
    → receiver_answers p.policy (admission_of p e s.session) (find s.session e.receivers) s.content
    now ≡ Some t
    → evicted_by p e (find s.session e.receivers) t.next ≡ None
    → (t.note ≡ Some note_history_full → IsNoted es me (notes.HistoryFull s.session))
    → (is_some t.up ≡ true → IsHandedUp es me s.session)
    → Moved me you p q e f s now es V sent
    (with_receiver (opening p e (find s.session e.receivers) t.next) s.session t.next)
    (sent ++ sent_by me (headed_all (session_of s.originator s.session) t.out))
peer-moved me you p q e f s now es V sent t both linked peer was hears spared full handed P' on_own
    on_peer = record {
      own = λ m is. on_own m _ (own_apart (λ h k. linked.apart (sym h ∙ peer))
          (owns-stay me you p e e' f sent s.originator s.session m t.out both
          (λ h. linked.apart (sym h ∙ peer)) roomy.senders roomy.next ∙ is));
      peer = λ m is. by_number m (s.session == m) refl is;
      senders = λ ascending. subst (AreAscending 0) (sym roomy.senders) ascending;
      receivers = roomy.receivers;
      next = λ low. subst (λ (k : ℕ). p.first ≤ k) (sym roomy.next) low;
    }
  where
    e' : Engine
    e' = with_receiver (opening p e (find s.session e.receivers) t.next) s.session t.next

    roomy : Roomy e (with_receiver (opening p e (find s.session e.receivers) t.next) s.session
        t.next)
    roomy = roomy-received p e s.session t.next

    sent' : ℕ → List Sent
    sent' o = sent ++ sent_by me (headed_all (session_of o s.session) t.out)

    here : view_by you me q f e' (sent' s.originator) s.session
        ≡ receiver_moves (V you s.session) t
    here = subst (λ (o : ℕ). view_by you me q f e' (sent' o) s.session
        ≡ receiver_moves (V you s.session) t) (sym peer)
        (receiver-here me you q p f e sent s.session t both
        ∙ ap (λ (v : View). receiver_moves v t) (was s.session))

    -- nobody was closed
    not-closed : (m : ℕ) → s.session ≢ m
        → Left (view_by you me q f e sent m) (view_by you me q f e' (sent' q.own) m)
        → view_by you me q f e' (sent' q.own) m ≡ view_by you me q f e sent m
    not-closed m apart (alone same) = same
    not-closed m apart (closed_for_room r kept same) = absurd (
        let gone : find m e'.receivers ≡ None = ap (λ (v : View). v.receiver) same in
        let there : find m e'.receivers ≡ find m e.receivers =
        find-with_receiver_other (opening p e (find s.session e.receivers) t.next) m s.session t.next
        (λ h. apart (sym h))
        ∙ ap (λ (x : Option ℕ). find m (without_evicted e x).receivers) spared in
        cc)

    by_number : (m : ℕ) (same : Bool) → (s.session == m) ≡ same
        → view_by you me q f e sent m ≡ V you m
        → P' you m (view_by you me q f e' (sent' s.originator) m)
    by_number m true same is =
        subst (λ (m : ℕ). P' you m (view_by you me q f e' (sent' s.originator) m))
        (eqb-true s.session m same)
        (on_peer s.session _ (peer_hears peer refl t
        (subst (λ (v : View). receiver_answers p.policy (admission_of p e s.session) v.receiver
        s.content now ≡ Some t) (was s.session) hears) here
        (ap (λ (v : View). v.closed) (was s.session)) full handed))
    by_number m false same is =
        on_peer m _ (peer_apart (λ h k. eqb-false s.session m same k)
        (subst (λ (o : ℕ). view_by you me q f e' (sent' o) m ≡ V you m) (sym peer)
        (not-closed m (eqb-false s.session m same)
        (receiver-others me you q p f e sent s.session m t both (eqb-false s.session m same)) ∙ is)))

-- ---- a link

abbrev reply_effects : End → Engine → SegmentValue → Option Reply → List EndEffects
reply_effects me e s x = record {
  end = me;
  effects = (replied_or_stranger e (session_of s.originator s.session) x).effects;
} ∷ []

-- each session of a link, as what comes to an end moves it
abbrev pub EachMoves : Party × Party → World → End → SegmentValue → List EndEffects
    → (End → ℕ → View → Type 0) → Type 0
EachMoves parties w me s es P' =
    ((n : ℕ) (v' : View) → OwnMoves me (at_end parties me) s w.now es (view parties w me n) n v'
    → P' me n v')
    × ((n : ℕ) (v' : View) → PeerMoves me (at_end parties me) (at_end parties (other me))
    (at_end w.engines me) s w.now es (view parties w (other me) n) n v' → P' (other me) n v')

view-peer : (parties : Party × Party) (w : World) (me : End) (n : ℕ)
    → view_by (other me) me (at_end parties (other me)) (at_end w.engines (other me))
    (at_end w.engines me) w.sent n ≡ view parties w (other me) n
view-peer parties w first_end n = refl
view-peer parties w second_end n = refl

at-both : (Q : End → Type 0) (me : End) → Q me → Q (other me) → (o : End) → Q o
at-both Q first_end mine yours first_end = mine
at-both Q first_end mine yours second_end = yours
at-both Q second_end mine yours first_end = yours
at-both Q second_end mine yours second_end = mine

-- what every engine keeps
pub record AreFormed (parties : Party × Party) (w : World) : Type 0 where
  pub senders : (o : End) → AreAscending 0 (at_end w.engines o).senders
  pub receivers : (o : End) → AreAscending 0 (at_end w.engines o).receivers
  pub next : (o : End) → (at_end parties o).first ≤ (at_end w.engines o).next

by_same : {X : Type 0} (m n : ℕ) → (m ≡ n → X) → ((m ≡ n → ⊥) → X) → X
by_same {X} m n one apart = by_test (m == n) refl
  where
    by_test : (same : Bool) → (m == n) ≡ same → X
    by_test true same = one (eqb-true m n same)
    by_test false same = apart (eqb-false m n same)

pub arrival-moves : (parties : Party × Party) (w : World) (me : End) (s : SegmentValue)
    (P' : End → ℕ → View → Type 0) → ArePeers parties → AreFormed parties w
    → (s.originator ≡ (at_end parties me).own) ⊎ (s.originator ≡ (at_end parties (other me)).own)
    → HasPlaces (heard_effects me (at_end parties me) (at_end w.engines me) s w.now) me
    → EachMoves parties w me s
    (heard_effects me (at_end parties me) (at_end w.engines me) s w.now) P'
    → HoldsIn P' parties (arrival parties w me s)
unfolding arrives datagram_step
arrival-moves parties w me s P' peers formed known places each =
    by_arms To (s.originator == p.own) _ _
    (λ own. by_arms To (is_used p e s.session) _ _
    (λ used. own_hears_it (eqb-true s.originator p.own own)
    (sender_answers p.policy (find s.session e.senders) s.content w.now) refl)
    (λ unused. unused_it (eqb-true s.originator p.own own) unused))
    (λ not_own. by_arms To (s.originator == p.peer) _ _
    (λ peer. peer_hears_it (eqb-true s.originator p.peer peer ∙ linked.knows)
    (receiver_answers p.policy (admission_of p e s.session) (find s.session e.receivers) s.content
    w.now) refl)
    (λ not_peer. absurd (by_known known (eqb-false s.originator p.own not_own)
    (eqb-false s.originator p.peer not_peer))))
    places each
  where
    p : Party
    p = at_end parties me

    q : Party
    q = at_end parties (other me)

    e : Engine
    e = at_end w.engines me

    f : Engine
    f = at_end w.engines (other me)

    V : End → ℕ → View
    V o n = view parties w o n

    linked : Linked (at_end parties me) (at_end parties (other me))
    linked = linked-at parties me peers

    To : Option Reply → Type 0
    To x = HasPlaces (reply_effects me (at_end w.engines me) s x) me
        → EachMoves parties w me s (reply_effects me (at_end w.engines me) s x) P'
        → HoldsIn P' parties (replies w me (session_of s.originator s.session) x)

    by_known : (s.originator ≡ p.own) ⊎ (s.originator ≡ q.own) → s.originator ≢ p.own
        → s.originator ≢ p.peer → ⊥
    by_known (inl own) not_own not_peer = not_own own
    by_known (inr peer) not_own not_peer = not_peer (peer ∙ sym linked.knows)

    good : HoldsIn (λ o n v. v ≡ view parties w o n) parties w
    good = record {
      session = λ o n. refl;
      senders = formed.senders;
      receivers = formed.receivers;
      next = formed.next;
    }

    -- nothing comes of it
    nothing : ((n : ℕ) → P' me n (view parties w me n))
        → ((n : ℕ) → P' (other me) n (view parties w (other me) n)) → HoldsIn P' parties w
    nothing mine yours = record {
      session = λ o n. at-both (λ o. P' o n (view parties w o n)) me (mine n) (yours n) o;
      senders = formed.senders;
      receivers = formed.receivers;
      next = formed.next;
    }

    own_nothing : s.originator ≡ p.own → (es : List EndEffects)
        → EachMoves parties w me s es P'
        → ((n : ℕ) → s.session ≡ n → OwnMoves me p s w.now es (view parties w me n) n
        (view parties w me n))
        → HoldsIn P' parties w
    own_nothing own es each here = nothing
        (λ n. by_same s.session n (λ is. each.0 n _ (here n is))
        (λ not_is. each.0 n _ (own_apart (λ h k. not_is k) refl)))
        (λ n. each.1 n _ (peer_apart (λ h k. linked.apart (sym own ∙ h)) refl))

    sender_reply : StepValue Sending → Reply
    sender_reply t = record {
      engine = with_sender (at_end w.engines me) s.session t.next;
      out = t.out;
      up = None;
      green = None;
      notes = notes_of s.session t;
    }

    evicted_notes : StepValue Receiving → List Note
    evicted_notes t = list_of (option_map notes.Evicted (evicted_by (at_end parties me)
        (at_end w.engines me) (find s.session (at_end w.engines me).receivers) t.next))

    receiver_reply : StepValue Receiving → Reply
    receiver_reply t = record {
      engine = with_receiver (opening (at_end parties me) (at_end w.engines me)
          (find s.session (at_end w.engines me).receivers) t.next) s.session t.next;
      out = t.out;
      up = t.up;
      green = t.green;
      notes = list_of (option_map notes.Evicted (evicted_by (at_end parties me)
          (at_end w.engines me) (find s.session (at_end w.engines me).receivers) t.next))
          ++ notes_of s.session t;
    }

    unused_it : s.originator ≡ p.own → is_used p e s.session ≡ false → To None
    unused_it own unused places each = own_nothing own _ each
        (λ n is. own_unused own is (subst (λ (n : ℕ). is_used p e n ≡ false) is unused) refl)

    own_hears_it : s.originator ≡ p.own → (x : Option (StepValue Sending))
        → sender_answers p.policy (find s.session e.senders) s.content w.now ≡ x
        → To (sender_replies e s.session x)
    own_hears_it own None hears places each = own_nothing own _ each
        (λ n is. own_deaf own is (subst (λ (n : ℕ). sender_answers p.policy (find n e.senders)
        s.content w.now ≡ None) is hears) refl)
    own_hears_it own (Some t) hears places each =
        holds-at (λ o n v. v ≡ view parties w o n) P' parties w me _ _ w.now good
        (own-moved me (other me) p q e f s w.now _ V w.sent t (two_ends me) linked own
        (λ n. refl) hears (λ is. noted-by me (session_of s.originator s.session) (sender_reply t)
        (notes.Sent s.session) (note-there s.session t note_sent is)) P' each.0 each.1)

    peer_hears_it : s.originator ≡ q.own → (x : Option (StepValue Receiving))
        → receiver_answers p.policy (admission_of p e s.session) (find s.session e.receivers)
        s.content w.now ≡ x → To (receiver_replies p e s.session x)
    peer_hears_it peer None hears places each = nothing
        (λ n. each.0 n _ (own_apart (λ h k. linked.apart (sym h ∙ peer)) refl))
        (λ n. by_same s.session n (λ is. each.1 n _ (peer_deaf peer is
        (subst (λ (v : View). receiver_answers p.policy (admission_of p e n) v.receiver s.content w.now
        ≡ None) (view-peer parties w me n)
        (subst (λ (n : ℕ). receiver_answers p.policy (admission_of p e n) (find n e.receivers)
        s.content w.now ≡ None) is hears)) refl))
        (λ not_is. each.1 n _ (peer_apart (λ h k. not_is k) refl)))
    peer_hears_it peer (Some t) hears places each =
        holds-at (λ o n v. v ≡ view parties w o n) P' parties w me _ _ w.now good
        (peer-moved me (other me) p q e f s w.now _ V w.sent t (two_ends me) linked peer
        (view-peer parties w me) hears (spared (evicted_by p e (find s.session e.receivers) t.next)
        refl)
        (λ is. noted-by me (session_of s.originator s.session) (receiver_reply t)
        (notes.HistoryFull s.session)
        (in-right (notes.HistoryFull s.session) (evicted_notes t) (notes_of s.session t)
        (note-there s.session t note_history_full is)))
        (λ is. handed-by me (session_of s.originator s.session) (receiver_reply t) is) P' each.0 each.1)
      where
        spared : (x : Option ℕ) → evicted_by p e (find s.session e.receivers) t.next ≡ x
            → evicted_by p e (find s.session e.receivers) t.next ≡ None
        spared None is = is
        spared (Some m) is = absurd (places.kept m
            (noted-by me (session_of s.originator s.session) (receiver_reply t) (notes.Evicted m)
            (in-left (notes.Evicted m) (evicted_notes t) (notes_of s.session t)
            (subst (λ (x : Option ℕ). IsIn (notes.Evicted m)
            (list_of (option_map notes.Evicted x))) (sym is) (inl refl)))))
