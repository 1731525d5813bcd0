-- Each red part that a run hands up is the front of the submitted block, and none is handed up
-- twice.

use Rattle.std.proofs.Common.{◌+◌, ◌≡◌, ℕ, zero, suc, ◌<◌, ◌≤◌, Bool, true, false, ◌==◌, ◌||◌}
use Rattle.std.proofs.Common.{List, [], ◌∷◌, ◌++◌, length, take, get_or, Option, None, Some, ◌⊎◌}
use Rattle.std.proofs.Common.{inl, inr, refl, sym, ◌∙◌, ap, arith, subst, nat_le}
use Rattle.std.proofs.Common.{if◌then◌else◌}
use Rattle.std.specs.List.{AllByRecursion, slice_get}
use Rattle.std.proofs.lemmas.Bool.{eqb-true}
use Rattle.std.proofs.lemmas.Bool.Decides.{nat_tests}
use Rattle.std.proofs.lemmas.List.{get_or-take, length-take}
use Rattle.ltp_segment.specs.Values.{ContentValue, a_piece, a_sender_cancel_ack, SegmentValue}
use Rattle.ltp_session.specs.Cells.{cell, all_octets, whole_part}
use Rattle.ltp_session.specs.Engine.{Party, Engine, Reply, is_used, is_closed, admission_of}
use Rattle.ltp_session.specs.Engine.{with_receiver, sender_replies, receiver_replies, arrives}
use Rattle.ltp_session.specs.Engine.{begun, submits, list_of, notes_of, evicted_by, SubmitFault}
use Rattle.ltp_session.specs.Engine.{submit_fault, submits_unless}
use Rattle.ltp_session.specs.Receiver.{Receiving, receiver_answers, receiver_tick}
use Rattle.ltp_session.specs.Sender.{Sending, begin, sender_answers, sender_tick}
use Rattle.ltp_session.specs.Step.{StepValue, Change, after, stays, keeps, ends}
use Rattle.ltp_session.specs.Table.{find}
use Rattle.ltp_session.specs.World.{End, first_end, second_end, other, at_end, World, Sent, Event}
use Rattle.ltp_session.specs.World.{submit, deliver, clock, replies, submitted, arrival, delivered}
use Rattle.ltp_session.specs.World.{happens, run, starts_world, ArePeers, unless_refused}
use Rattle.ltp_session.specs.World.{submit_reply}
use Rattle.ltp_laws.specs.Blocks.{IsAt, IfKnown, IsContentOf, IsPieceOf, IsReceiverOf, BlockFacts}
use Rattle.ltp_laws.specs.Engines.{IsWellFormed}
use Rattle.ltp_laws.specs.Facts.{SessionFacts}
use Rattle.ltp_laws.specs.HandUps.{up_of, up_by}
use Rattle.ltp_laws.specs.Kept.{IsClosedOr, IfKeeps, KeepsOrEnds}
use Rattle.ltp_laws.specs.Log.{Submission, submission_of, submissions_at, submissions, HandUp}
use Rattle.ltp_laws.specs.Log.{hand_up_of, hand_ups_by, hand_ups_at, hand_ups, IsSame, AtMostOnce}
use Rattle.ltp_laws.specs.Log.{IsFront, IsSameNumber, EachOnce, HandsUpFronts, HasFactsBy}
use Rattle.ltp_laws.specs.Log.{HasFacts}
use Rattle.ltp_laws.specs.Runs.{no_facts, KeepsUnder, IsInvariant, HoldsIn}
use Rattle.ltp_laws.specs.Steps.{HandsUp, ReceiverStep, idle, over, turns, again, fills}
use Rattle.ltp_laws.specs.Steps.{reports_on}
use Rattle.ltp_laws.specs.View.{IsIn, View, view, said, closed_after, sender_moves}
use Rattle.ltp_laws.specs.View.{receiver_moves, evicted, Unused, untouched_view, session_of}
use Rattle.cells.proofs.CellLemmas.{all_octets-length, all_octets-cell}
use Rattle.ltp_laws.proofs.FactLemmas.{facts-keep, session-keep}
use Rattle.ltp_laws.proofs.FrameLemmas.{opening, find-with_receiver, closed-with_receiver}
use Rattle.ltp_laws.proofs.FrameLemmas.{next-unused}
use Rattle.ltp_laws.proofs.HandUpLemmas.{met-kept, gone-on, or_open}
use Rattle.ltp_laws.proofs.LawLemmas.{knows}
use Rattle.ltp_laws.proofs.ListLemmas.{both_arms, by_arms, all-append}
use Rattle.ltp_laws.proofs.ReceiverLemmas.{with_red-is, fresh-is}
use Rattle.ltp_laws.proofs.RedPartLemmas.{hears-ups}
use Rattle.ltp_laws.proofs.RunLemmas.{sent-among, holds-happens, holds-run, holds-start, any_time}
use Rattle.ltp_laws.proofs.RunLemmas.{no_submissions, AllBegun, begun-first, begun-rest}
use Rattle.ltp_laws.proofs.RunLemmas.{among_none}
use Rattle.ltp_laws.proofs.SerialLemmas.{all-among}
use Rattle.ltp_laws.proofs.StepLemmas.{met, hears-form, tick-form}
use Rattle.std.specs.Option.{option_map}
use Rattle.ltp_segment.specs.declared.session.Note.TheVariants as notes

-- ---- a session whose red part was handed up, or that is closed

abbrev IsHanded : Receiving → Type 0
IsHanded r = r.handed_up ≡ true

abbrev IsPast : Option Receiving → Bool → Type 0
IsPast kept closed = IsClosedOr IsHanded kept closed

pub still_true : (a b : Bool) → a ≡ true → (a || b) ≡ true
still_true true b is = refl
still_true false b is = absurd (cc)

step-handed : (content : ContentValue) (r : Receiving) (t : StepValue Receiving)
    → ReceiverStep content r t → IsHanded r → IfKeeps IsHanded t.next
step-handed content r t (idle next none) handed = subst (IfKeeps IsHanded) (sym next) tt
step-handed content r t (over next none) handed = subst (IfKeeps IsHanded) (sym next) tt
step-handed content r t (turns r' next turned none) handed =
    subst (IfKeeps IsHanded) (sym next) (turned.handed ∙ handed)
step-handed content r t (again p timer pending next out) handed =
    subst (IfKeeps IsHanded) (sym next) handed
step-handed content r t (fills q r' is_piece red_kind next filling none) handed =
    subst (IfKeeps IsHanded) (sym next) (filling.handed ∙ still_true r.handed_up _ handed)
step-handed content r t (reports_on q r' is_piece red_kind checkpoint next reporting out) handed =
    subst (IfKeeps IsHanded) (sym next) (reporting.handed ∙ still_true r.handed_up _ handed)

-- session n of an end is past
abbrev PastAt : End → ℕ → End → ℕ → View → Type 0
PastAt o n o' n' v = o' ≡ o → n' ≡ n → IsPast v.receiver v.closed

past-invariant : (o : End) (n : ℕ) → IsInvariant any_time no_submissions (PastAt o n)
past-invariant o n = record {
  begins = λ o' policy n' block red now v ok told cuts within unused past. past;
  sender = λ o' n' policy v content now t ok among hears past. past;
  receiver = λ o' n' policy place v content now t ok closed among hears past here there.
      let h = hears-form policy place v.receiver content now t hears in
      gone-on IsHanded v.closed t v.receiver (λ none. or_open place.closed v.closed closed
      (h.opens none))
      (λ r is. subst (λ kept. IsHanded (met place.session kept) → IfKeeps IsHanded t.next) is
      (step-handed content (met place.session v.receiver) t h.form)) (past here there) t.next refl;
  sender_tick = λ o' n' policy now v s ok is past. past;
  receiver_tick = λ o' n' policy now v r ok is past here there.
      gone-on IsHanded v.closed (receiver_tick policy r now) v.receiver (λ none. absurd (cc))
      (λ r2 is2. let same : r ≡ r2 = cc (sym is ∙ is2) in
      subst (λ k. IsHanded k → IfKeeps IsHanded (receiver_tick policy r now).next) same
      (step-handed a_sender_cancel_ack r (receiver_tick policy r now)
      (tick-form a_sender_cancel_ack policy now r)))
      (past here there) (receiver_tick policy r now).next refl;
  evicted = λ o' n' v r is past here there. refl;
}

-- ---- an arrival that hands up

record UpReply (q : Party) (e : Engine) (s : SegmentValue) (body : List ℕ)
    (o : Option Reply) : Type 0 where
  originator : s.originator ≡ q.own
  reply : Reply
  is : o ≡ Some reply
  t : StepValue Receiving
  hands : HandsUp s.content (met s.session (find s.session e.receivers)) t body
  before : IsPast (find s.session e.receivers) (is_closed s.session e.closed) → ⊥
  past : IsPast (find s.session reply.engine.receivers) (is_closed s.session reply.engine.closed)

abbrev UpsRightly : Party → Engine → SegmentValue → Option Reply → Type 0
UpsRightly q e s o = (body : List ℕ) → up_of o ≡ Some body → UpReply q e s body o

arrival-past : (p q : Party) (e : Engine) (s : SegmentValue) (now : ℕ) → p.peer ≡ q.own
    → UpsRightly q e s (arrives p e s now)
unfolding arrives
arrival-past p q e s now peer =
    both_arms (UpsRightly q e s) (s.originator == p.own) _ _
    (both_arms (UpsRightly q e s) (is_used p e s.session) _ _
    (by_own (sender_answers p.policy (find s.session e.senders) s.content now))
    (λ body is. absurd (cc)))
    (by_arms (UpsRightly q e s) (s.originator == p.peer) _ _
    (λ is_peer. by_peer (eqb-true s.originator p.peer is_peer ∙ peer) (receiver_answers p.policy
    (admission_of p e s.session) (find s.session e.receivers) s.content now) refl)
    (λ stranger body is. absurd (cc)))
  where
    by_own : (o : Option (StepValue Sending)) → UpsRightly q e s (sender_replies e s.session o)
    by_own None body is = absurd (cc)
    by_own (Some t) body is = absurd (cc)

    by_peer : s.originator ≡ q.own → (o : Option (StepValue Receiving))
        → receiver_answers p.policy (admission_of p e s.session) (find s.session e.receivers)
        s.content now ≡ o
        → UpsRightly q e s (receiver_replies p e s.session o)
    by_peer own None hears body is = absurd (cc)
    by_peer own (Some t) hears body is = record {
      originator = own;
      reply = record {
        engine = with_receiver (opening p e (find s.session e.receivers) t.next)
            s.session t.next;
        out = t.out;
        up = t.up;
        green = t.green;
        notes =
            list_of (option_map notes.Evicted (evicted_by p e (find s.session e.receivers) t.next))
            ++ notes_of s.session t;
      };
      is = refl;
      t = t;
      hands = hands;
      before = before (find s.session e.receivers) hands.before
          (hears-form p.policy (admission_of p e s.session) (find s.session e.receivers) s.content now
          t hears).opens;
      past = past;
    }
      where
        hands : HandsUp s.content (met s.session (find s.session e.receivers)) t body
        hands = hears-ups p.policy (admission_of p e s.session) (find s.session e.receivers) s.content
            now t hears body is

        before : (kept : Option Receiving) → (met s.session kept).handed_up ≡ false
            → (kept ≡ None → (t.next ≡ stays) ⊎ (is_closed s.session e.closed ≡ false))
            → IsPast kept (is_closed s.session e.closed) → ⊥
        before (Some r) not_handed opens is_past = cc
        before None not_handed opens is_past = shut (opens refl)
          where
            shut : (t.next ≡ stays) ⊎ (is_closed s.session e.closed ≡ false) → ⊥
            shut (inl same) = subst (KeepsOrEnds IsHanded) same hands.kept
            shut (inr open_number) = cc

        moved : (g : Engine) (c : Change Receiving) → KeepsOrEnds IsHanded c
            → IsPast (after c (find s.session g.receivers))
            (closed_after c (is_closed s.session g.closed))
        moved g stays is_moved = absurd is_moved
        moved g (keeps r) is_moved = is_moved
        moved g ends is_moved = refl

        past : IsPast
            (find s.session (with_receiver (opening p e (find s.session e.receivers) t.next)
            s.session t.next).receivers)
            (is_closed s.session (with_receiver (opening p e (find s.session e.receivers) t.next)
            s.session t.next).closed)
        past = rw (
          find-with_receiver (opening p e (find s.session e.receivers) t.next) s.session
              t.next,
          closed-with_receiver (opening p e (find s.session e.receivers) t.next) s.session
              t.next,
        ) (moved (opening p e (find s.session e.receivers) t.next) t.next hands.kept)

up-reply : (parties : Party × Party) (w : World) (d : Sent) (body : List ℕ) → ArePeers parties
    → up_by parties w d ≡ Some body
    → UpReply (at_end parties d.from) (at_end w.engines (other d.from)) d.segment body
    (arrives (at_end parties (other d.from)) (at_end w.engines (other d.from)) d.segment w.now)
up-reply parties w d body peers is =
    arrival-past (at_end parties (other d.from)) (at_end parties d.from)
    (at_end w.engines (other d.from)) d.segment w.now (knows parties d.from peers) body is

-- the session is past in the next world
past-after : (parties : Party × Party) (w : World) (from : End) (s : SegmentValue) (body : List ℕ)
    (o : Option Reply) → UpReply (at_end parties from) (at_end w.engines (other from)) s body o
    → IsPast (view parties (replies w (other from) (session_of s.originator s.session) o) from
    s.session).receiver (view parties (replies w (other from) (session_of s.originator s.session)
    o) from s.session).closed
past-after parties w first_end s body o up =
    subst (λ o. IsPast (view parties (replies w second_end (session_of s.originator s.session) o)
    first_end s.session).receiver
    (view parties (replies w second_end (session_of s.originator s.session) o) first_end
    s.session).closed) (sym up.is) up.past
past-after parties w second_end s body o up =
    subst (λ o. IsPast (view parties (replies w first_end (session_of s.originator s.session) o)
    second_end s.session).receiver
    (view parties (replies w first_end (session_of s.originator s.session) o) second_end
    s.session).closed) (sym up.is) up.past

-- ---- at most once

other-same : (a b : End) → other a ≡ other b → a ≡ b
other-same first_end first_end is = refl
other-same second_end second_end is = refl
other-same first_end second_end is = absurd (cc)
other-same second_end first_end is = absurd (cc)

pub all-weaker : {X : Type 0} (P Q : X → Type 0) → ((x : X) → P x → Q x) → (xs : List X)
    → AllByRecursion P xs → AllByRecursion Q xs
all-weaker P Q gives [] all = tt
all-weaker P Q gives (x ∷ xs) all = (gives x all.0, all-weaker P Q gives xs all.1)

abbrev NotAt : End → ℕ → HandUp → Type 0
NotAt o n u = u.end ≡ other o → u.session ≡ n → ⊥

past-none : (parties : Party × Party) → ArePeers parties → (o : End) (n : ℕ) (events : List Event)
    (w : World) → HoldsIn (PastAt o n) parties w
    → AllByRecursion (NotAt o n) (hand_ups parties w events)
unfolding hand_ups
past-none parties peers o n [] w good = tt
past-none parties peers o n (event ∷ events) w good =
    let rest = past-none parties peers o n events (happens parties w event)
    (holds-happens any_time no_submissions (PastAt o n) (past-invariant o n) parties w event
    (λ end now low. tt) peers (λ plan is. tt) good) in
    all-append (NotAt o n) (hand_ups_at parties w event)
    (hand_ups parties (happens parties w event) events) (by_event event) rest
  where
    by_up : (d : Sent) (up : Option (List ℕ)) → up_by parties w d ≡ up
        → AllByRecursion (NotAt o n) (hand_up_of d up)
    by_up d None is = tt
    by_up d (Some body) is = (
      (λ end session. (up-reply parties w d body peers is).before
          (good.session d.from (d.segment).session (other-same d.from o end) session)),
      tt,
    )

    by_got : (got : Option Sent) → AllByRecursion (NotAt o n) (hand_ups_by parties w got)
    by_got None = tt
    by_got (Some d) = by_up d (up_by parties w d) refl

    by_event : (event : Event) → AllByRecursion (NotAt o n) (hand_ups_at parties w event)
    by_event (submit end block red) = tt
    by_event (deliver k) = by_got (slice_get w.sent k)
    by_event (clock now) = tt

-- nothing is asked of a session
abbrev pub Anything : End → ℕ → View → Type 0
Anything o n v = Unit {0}

pub anything-invariant : IsInvariant any_time no_submissions Anything
anything-invariant = record {
  begins = λ o policy n block red now v ok told cuts within unused any. tt;
  sender = λ o n policy v content now t ok among hears any. tt;
  receiver = λ o n policy place v content now t ok closed among hears any. tt;
  sender_tick = λ o n policy now v s ok is any. tt;
  receiver_tick = λ o n policy now v r ok is any. tt;
  evicted = λ o n v r is any. tt;
}

past-holds : (parties : Party × Party) (w : World) (o : End) (n : ℕ) → HoldsIn Anything parties w
    → IsPast (view parties w o n).receiver (view parties w o n).closed
    → HoldsIn (PastAt o n) parties w
past-holds parties w o n sound past = record {
  session = λ o' n' here there. subst (λ e. IsPast (view parties w e n').receiver
      (view parties w e n').closed) (sym here) (subst (λ m. IsPast (view parties w o m).receiver
      (view parties w o m).closed) (sym there) past);
  senders = sound.senders;
  receivers = sound.receivers;
  next = sound.next;
}

at-most-once : (parties : Party × Party) → ArePeers parties → (events : List Event) (w : World)
    → HoldsIn Anything parties w → AtMostOnce (hand_ups parties w events)
unfolding hand_ups
at-most-once parties peers [] w sound = tt
at-most-once parties peers (event ∷ events) w sound =
    let sound' = holds-happens any_time no_submissions Anything anything-invariant parties w event
    (λ end now low. tt) peers (λ plan is. tt) sound in
    by_event event sound' (at-most-once parties peers events (happens parties w event) sound')
  where
    Goal : List HandUp → World → Type 0
    Goal now w' = HoldsIn Anything parties w' → AtMostOnce (hand_ups parties w' events)
        → AtMostOnce (now ++ hand_ups parties w' events)

    by_up : (d : Sent) (up : Option (List ℕ)) → up_by parties w d ≡ up
        → Goal (hand_up_of d up) (arrival parties w (other d.from) d.segment)
    by_up d None is sound' rest = rest
    by_up d (Some body) is sound' rest =
        let reply = up-reply parties w d body peers is in
        let past = past-after parties w d.from d.segment body _ reply in
        let none = past-none parties peers d.from (d.segment).session events
        (arrival parties w (other d.from) d.segment)
        (past-holds parties (arrival parties w (other d.from) d.segment) d.from
        (d.segment).session sound' past) in (
          all-weaker (NotAt d.from (d.segment).session)
              (λ v. IsSame (record {
                end = other d.from;
                originator = (d.segment).originator;
                session = (d.segment).session;
                body = body;
              }) v → ⊥)
              (λ v apart same. apart (sym same.end) (sym same.session))
              (hand_ups parties (arrival parties w (other d.from) d.segment) events) none,
          rest,
        )

    by_got : (got : Option Sent) → Goal (hand_ups_by parties w got) (delivered parties w got)
    by_got None sound' rest = rest
    by_got (Some d) sound' rest = by_up d (up_by parties w d) refl sound' rest

    by_event : (event : Event) → Goal (hand_ups_at parties w event) (happens parties w event)
    by_event (submit end block red) sound' rest = rest
    by_event (deliver k) sound' rest = by_got (slice_get w.sent k) sound' rest
    by_event (clock now) sound' rest = rest

-- ---- fronts

same-octets : (xs ys : List ℕ) → length xs ≡ length ys
    → ((k : ℕ) → k < length xs → get_or xs k 0 ≡ get_or ys k 0) → xs ≡ ys
same-octets [] [] size same = refl
same-octets [] (y ∷ ys) size same = absurd (omega (arith, size))
same-octets (x ∷ xs) [] size same = absurd (omega (arith, size))
same-octets (x ∷ xs) (y ∷ ys) size same =
    let here : x ≡ y = same zero (omega arith) in
    let rest : xs ≡ ys =
    same-octets xs ys (omega (arith, size)) (λ k low. same (suc k) (omega (arith, low))) in
    rw (here, rest) refl

pub whole-front : (block : List ℕ) (red : ℕ) (cells : List (Option ℕ)) (known : Option ℕ)
    (body : List ℕ) → red ≤ length block
    → ((k octet : ℕ) → cell cells k ≡ Some octet → IsAt block k octet) → IfKnown red known
    → whole_part cells known ≡ Some body → body ≡ take red block
whole-front block red cells None body within of bound is = absurd (cc)
whole-front block red cells (Some end) body within of bound is =
    by_test (end == length cells) refl is
  where
    by_test : (all : Bool) → (end == length cells) ≡ all → (if all then all_octets cells else None)
        ≡ Some body → body ≡ take red block
    by_test false same is = absurd (cc)
    by_test true same is =
        let size = all_octets-length cells body is in
        let end_is = eqb-true end (length cells) same in
        let taken = length-take red block in
        same-octets body (take red block) (omega (arith, size, end_is, taken, bound, within))
        (λ k low. sym (of k (get_or body k 0) (all_octets-cell cells body is k low)).1 ∙ sym
        (get_or-take red block k 0 (omega (arith, low, size, end_is, bound))))

abbrev Begun : List Submission → End → ℕ → List ℕ → ℕ → Type 0
Begun all o n block red = IsIn (record { from = o; session = n; block = block; red = red }) all

submitted-on : (F : List ℕ → ℕ → View → Type 0) (all : List Submission) (o : End) (n : ℕ)
    (v v' : View) → (Unused v → ⊥) → v'.used ≡ v.used
    → ((block : List ℕ) (red : ℕ) → F block red v → F block red v')
    → HasFacts F all o n v → HasFacts F all o n v'
submitted-on F all o n v v' not_unused used' follows planned = by_used v.used refl planned
  where
    by_used : (used : Bool) → v.used ≡ used → HasFactsBy F all o n used v → HasFacts F all o n v'
    by_used false used unused = absurd (not_unused unused)
    by_used true used has =
        subst (λ b. HasFactsBy F all o n b v') (sym (used' ∙ used))
        (record {
          submission = has.submission;
          among = has.among;
          from = has.from;
          session = has.session;
          facts = follows (has.submission).block (has.submission).red has.facts;
        })

submitted-invariant : (F : List ℕ → ℕ → View → Type 0) (all : List Submission)
    → KeepsUnder no_facts F → IsInvariant any_time (Begun all) (HasFacts F all)
submitted-invariant F all kept = record {
  begins = λ o policy n block red now v ok told cuts within unused planned. record {
    submission = record { from = o; session = n; block = block; red = red };
    among = told;
    from = refl;
    session = refl;
    facts = kept.begins policy n block red now v cuts within
        (subst (λ b. HasFactsBy F all o n b v) unused planned) tt;
  };
  sender = λ o n policy v content now t ok among hears planned.
      submitted-on F all o n v (sender_moves v t) (λ none. among_none content v.by_receiver among
      none.by_receiver) refl
      (λ block red facts. kept.sender block red policy v content now t among hears tt tt facts)
      planned;
  receiver = λ o n policy place v content now t ok closed among hears planned.
      submitted-on F all o n v (receiver_moves v t) (λ none. among_none content v.by_sender among
      none.by_sender) refl
      (λ block red facts. kept.receiver block red policy place v content now t closed among hears
      tt tt facts) planned;
  sender_tick = λ o n policy now v s ok is planned.
      submitted-on F all o n v (sender_moves v (sender_tick policy s now))
      (λ none. let empty : v.sender ≡ None = none.sender in cc) refl
      (λ block red facts. kept.sender_tick block red policy now v s is tt tt facts) planned;
  receiver_tick = λ o n policy now v r ok is planned.
      submitted-on F all o n v (receiver_moves v (receiver_tick policy r now))
      (λ none. let empty : v.receiver ≡ None = none.receiver in cc) refl
      (λ block red facts. kept.receiver_tick block red policy now v r is tt tt facts) planned;
  evicted = λ o n v r is planned.
      submitted-on F all o n v (evicted v) (λ none. let empty : v.receiver ≡ None =
      none.receiver in cc) refl
      (λ block red facts. kept.evicted block red v r is tt tt facts) planned;
}

no-submission : (F : List ℕ → ℕ → View → Type 0) (all : List Submission) (o : End) (n : ℕ)
    → HasFacts F all o n untouched_view
no-submission F all o n = record {
  sender = refl;
  receiver = refl;
  closed = refl;
  by_sender = refl;
  by_receiver = refl;
}

-- every run keeps what the steps keep, of the blocks that it submits
pub every_submitted : (F : List ℕ → ℕ → View → Type 0) → KeepsUnder no_facts F
    → (parties : Party × Party) (events : List Event) → ArePeers parties → (o : End) (n : ℕ)
    → HasFacts F (submissions parties (starts_world parties) events) o n
    (view parties (run parties (starts_world parties) events) o n)
every_submitted F kept parties events peers =
    (holds-run any_time (Begun all) (HasFacts F all) (submitted-invariant F all kept) parties
    (starts_world parties) events (λ end now. tt) peers (λ plan is. is)
    (holds-start (HasFacts F all) (λ o n. no-submission F all o n) parties)).session
  where
    all : List Submission
    all = submissions parties (starts_world parties) events

-- ... and what follows from it
pub every_fact : (G : List ℕ → ℕ → View → Type 0)
    → ((block : List ℕ) (red : ℕ) (v : View) → SessionFacts block red v → G block red v)
    → (parties : Party × Party) (events : List Event) → ArePeers parties → (o : End) (n : ℕ)
    → HasFacts G (submissions parties (starts_world parties) events) o n
    (view parties (run parties (starts_world parties) events) o n)
every_fact G gives parties events peers o n =
    by_used (view parties (run parties (starts_world parties) events) o n)
    (every_submitted SessionFacts session-keep parties events peers o n)
  where
    by_used : (v : View)
        → HasFacts SessionFacts (submissions parties (starts_world parties) events) o n v
        → HasFacts G (submissions parties (starts_world parties) events) o n v
    by_used v planned = go v.used planned
      where
        go : (used : Bool)
            → HasFactsBy SessionFacts (submissions parties (starts_world parties) events) o n used
            v → HasFactsBy G (submissions parties (starts_world parties) events) o n used v
        go false unused = unused
        go true has =
            record {
              submission = has.submission;
              among = has.among;
              from = has.from;
              session = has.session;
              facts = gives (has.submission).block (has.submission).red v has.facts;
            }

-- what an arrival hands up is the front of the planned block
front-of : (all : List Submission) (parties : Party × Party) (w : World) (d : Sent) (body : List ℕ)
    → IsIn d.segment.content (said d.from d.segment.originator d.segment.session w.sent)
    → HasFacts BlockFacts all d.from d.segment.session (view parties w d.from d.segment.session)
    → UpReply (at_end parties d.from) (at_end w.engines (other d.from)) d.segment body
    (arrives (at_end parties (other d.from)) (at_end w.engines (other d.from)) d.segment w.now)
    → IsFront parties all (record {
      end = other d.from;
      originator = d.segment.originator;
      session = d.segment.session;
      body = body;
    })
front-of all parties w d body heard planned up = by_used v.used planned
  where
    v : View
    v = view parties w d.from (d.segment).session

    among : IsIn (d.segment).content (view parties w d.from (d.segment).session).by_sender
    among = subst (λ o. IsIn (d.segment).content (said d.from o (d.segment).session w.sent))
        up.originator heard

    front : (block : List ℕ) (red : ℕ)
        → BlockFacts block red (view parties w d.from (d.segment).session) → body ≡ take red block
    front block red facts =
        let hands = up.hands in
        let of : IsPieceOf block red hands.piece =
        all-among (IsContentOf block red) (a_piece hands.piece) _ facts.said
        (subst (λ c. IsIn c (view parties w d.from (d.segment).session).by_sender)
        hands.is_piece among) in
        let was : IsReceiverOf block red (met (d.segment).session (find (d.segment).session
        (at_end w.engines (other d.from)).receivers)) =
        met-kept (IsReceiverOf block red) (d.segment).session (find (d.segment).session
        (at_end w.engines (other d.from)).receivers) (fresh-is block red (d.segment).session)
        facts.receiver in
        let now = with_red-is block red (met (d.segment).session (find (d.segment).session
        (at_end w.engines (other d.from)).receivers)) hands.piece was of hands.red_kind in
        whole-front block red _ _ body facts.within now.cells now.known hands.whole

    by_used : (used : Bool) → HasFactsBy BlockFacts all d.from (d.segment).session used
        (view parties w d.from (d.segment).session)
        → IsFront parties all (record {
          end = other d.from;
          originator = (d.segment).originator;
          session = (d.segment).session;
          body = body;
        })
    by_used false unused = absurd (among_none (d.segment).content _ among unused.by_sender)
    by_used true has = record {
      submission = has.submission;
      among = has.among;
      from = ap other (sym has.from);
      originator =
          up.originator ∙ ap (λ e. (at_end parties e).own) (sym has.from);
      session = sym has.session;
      front = front (has.submission).block (has.submission).red has.facts;
    }

fronts-of : (all : List Submission) (parties : Party × Party) → ArePeers parties
    → (events : List Event) (w : World) → AllBegun (Begun all) parties w events
    → HoldsIn (HasFacts BlockFacts all) parties w
    → AllByRecursion (IsFront parties all) (hand_ups parties w events)
unfolding hand_ups
fronts-of all parties peers [] w told good = tt
fronts-of all parties peers (event ∷ events) w told good =
    let rest = fronts-of all parties peers events (happens parties w event)
    (begun-rest (Begun all) parties w event events told)
    (holds-happens any_time (Begun all) (HasFacts BlockFacts all)
    (submitted-invariant BlockFacts all facts-keep) parties w event (λ end now low. tt) peers
    (begun-first (Begun all) parties w event events told) good) in
    all-append (IsFront parties all) (hand_ups_at parties w event)
    (hand_ups parties (happens parties w event) events) (by_event event) rest
  where
    by_up : (k : ℕ) (d : Sent) → slice_get w.sent k ≡ Some d → (up : Option (List ℕ))
        → up_by parties w d ≡ up → AllByRecursion (IsFront parties all) (hand_up_of d up)
    by_up k d is_d None is = tt
    by_up k d is_d (Some body) is = (
      front-of all parties w d body (sent-among w.sent k d is_d)
          (good.session d.from (d.segment).session) (up-reply parties w d body peers is),
      tt,
    )

    by_got : (k : ℕ) (got : Option Sent) → slice_get w.sent k ≡ got
        → AllByRecursion (IsFront parties all) (hand_ups_by parties w got)
    by_got k None is = tt
    by_got k (Some d) is = by_up k d is (up_by parties w d) refl

    by_event : (event : Event) → AllByRecursion (IsFront parties all) (hand_ups_at parties w event)
    by_event (submit end block red) = tt
    by_event (deliver k) = by_got k (slice_get w.sent k) refl
    by_event (clock now) = tt

-- ---- each number once

abbrev UsedAt : End → ℕ → End → ℕ → View → Type 0
UsedAt o n o' n' v = o' ≡ o → n' ≡ n → v.used ≡ true

used-invariant : (o : End) (n : ℕ) → IsInvariant any_time no_submissions (UsedAt o n)
used-invariant o n = record {
  begins = λ o' policy n' block red now v ok told cuts within unused used here there. refl;
  sender = λ o' n' policy v content now t ok among hears used. used;
  receiver = λ o' n' policy place v content now t ok closed among hears used. used;
  sender_tick = λ o' n' policy now v s ok is used. used;
  receiver_tick = λ o' n' policy now v r ok is used. used;
  evicted = λ o' n' v r is used. used;
}

abbrev NotNumbered : End → ℕ → Submission → Type 0
NotNumbered o n p = p.from ≡ o → p.session ≡ n → ⊥

used-none : (parties : Party × Party) → ArePeers parties → (o : End) (n : ℕ) (events : List Event)
    (w : World) → HoldsIn (UsedAt o n) parties w → AllByRecursion (NotNumbered o n)
    (submissions parties w events)
unfolding submissions
used-none parties peers o n [] w good = tt
used-none parties peers o n (event ∷ events) w good =
    let rest = used-none parties peers o n events (happens parties w event)
    (holds-happens any_time no_submissions (UsedAt o n) (used-invariant o n) parties w event
    (λ end now low. tt) peers (λ plan is. tt) good) in
    all-append (NotNumbered o n) (submissions_at parties w event)
    (submissions parties (happens parties w event) events) (by_event event) rest
  where
    by_reply : (end : End) (block : List ℕ) (red : ℕ) (reply : Option Reply)
        → AllByRecursion (NotNumbered o n) (submission_of end (at_end w.engines end).next
        block red reply)
    by_reply end block red None = tt
    by_reply end block red (Some r) = (
      (λ here there. let used = good.session end (at_end w.engines end).next here there in
          let unused = next-unused (at_end parties end) (at_end w.engines end) in cc (used)),
      tt,
    )

    by_event : (event : Event) → AllByRecursion (NotNumbered o n) (submissions_at parties w event)
    by_event (submit end block red) =
        both_arms (AllByRecursion (NotNumbered o n)) (nat_le red (length block)) _ _
        (by_reply end block red (submit_reply parties w end block red)) tt
    by_event (deliver k) = tt
    by_event (clock now) = tt

submits-next : (p : Party) (e : Engine) (block : List ℕ) (red now : ℕ) (r : Reply)
    → unless_refused (submits p e block red now) ≡ Some r → r.engine.next ≡ e.next + 1
unfolding submits
submits-next p e block red now r is = by_fault (submit_fault p e block) is
  where
    by_fault : (fault : Option SubmitFault)
        → unless_refused (submits_unless fault p e block red now) ≡ Some r
        → r.engine.next ≡ e.next + 1
    by_fault (Some fault) is = absurd (cc)
    by_fault None is = let same : begun e (begin p.policy e.next block red now) ≡ r =
        cc (is) in ap (λ (x : Reply). (x.engine).next) (sym same)

used-next : (p : Party) (e e' : Engine) → p.first ≤ e.next → e'.next ≡ e.next + 1
    → is_used p e' e.next ≡ true
used-next p e e' low is = rw is (grind (arith, nat_tests))

used-after : (parties : Party × Party) (w : World) (end : End) (block : List ℕ) (red : ℕ)
    (r : Reply) → (at_end parties end).first ≤ (at_end w.engines end).next
    → submit_reply parties w end block red ≡ Some r
    → (view parties (replies w end (session_of (at_end parties end).own
    (at_end w.engines end).next) (Some r)) end (at_end w.engines end).next).used ≡ true
used-after parties w first_end block red r low is =
    used-next parties.0 w.engines.0 r.engine low
    (submits-next parties.0 w.engines.0 block red w.now r is)
used-after parties w second_end block red r low is =
    used-next parties.1 w.engines.1 r.engine low
    (submits-next parties.1 w.engines.1 block red w.now r is)

used-holds : (parties : Party × Party) (w : World) (o : End) (n : ℕ) → HoldsIn Anything parties w
    → (view parties w o n).used ≡ true → HoldsIn (UsedAt o n) parties w
used-holds parties w o n sound used = record {
  session = λ o' n' here there. subst (λ e. (view parties w e n').used ≡ true) (sym here)
      (subst (λ m. (view parties w o m).used ≡ true) (sym there) used);
  senders = sound.senders;
  receivers = sound.receivers;
  next = sound.next;
}

each-once : (parties : Party × Party) → ArePeers parties → (events : List Event) (w : World)
    → HoldsIn Anything parties w → EachOnce (submissions parties w events)
unfolding submissions submitted
each-once parties peers [] w sound = tt
each-once parties peers (event ∷ events) w sound =
    let sound' = holds-happens any_time no_submissions Anything anything-invariant parties w event
    (λ end now low. tt) peers (λ plan is. tt) sound in
    by_event event sound' (each-once parties peers events (happens parties w event) sound')
  where
    Goal : List Submission → World → Type 0
    Goal now w' = HoldsIn Anything parties w' → EachOnce (submissions parties w' events)
        → EachOnce (now ++ submissions parties w' events)

    next_world : End → Option Reply → World
    next_world end o =
        replies w end (session_of (at_end parties end).own (at_end w.engines end).next) o

    by_reply : (end : End) (block : List ℕ) (red : ℕ) (o : Option Reply)
        → submit_reply parties w end block red ≡ o
        → Goal (submission_of end (at_end w.engines end).next block red o)
        (replies w end (session_of (at_end parties end).own (at_end w.engines end).next) o)
    by_reply end block red None is sound' rest = rest
    by_reply end block red (Some r) is sound' rest =
        let used = used-after parties w end block red r (sound.next end) is in
        let none = used-none parties peers end (at_end w.engines end).next events
        (next_world end (Some r)) (used-holds parties (next_world end (Some r)) end
        (at_end w.engines end).next sound' used) in (
          all-weaker (NotNumbered end (at_end w.engines end).next)
              (λ q. IsSameNumber (record {
                from = end;
                session = (at_end w.engines end).next;
                block = block;
                red = red;
              }) q → ⊥)
              (λ q apart same. apart (sym same.from) (sym same.session))
              (submissions parties (next_world end (Some r)) events) none,
          rest,
        )

    by_length : (end : End) (block : List ℕ) (red : ℕ) (fits : Bool)
        → Goal (if fits then submission_of end (at_end w.engines end).next block red
        (submit_reply parties w end block red) else [])
        (if fits then replies w end (session_of (at_end parties end).own
        (at_end w.engines end).next) (submit_reply parties w end block red) else w)
    by_length end block red true sound' rest =
        by_reply end block red (submit_reply parties w end block red) refl sound' rest
    by_length end block red false sound' rest = rest

    by_event : (event : Event) → Goal (submissions_at parties w event) (happens parties w event)
    by_event (submit end block red) sound' rest =
        by_length end block red (nat_le red (length block)) sound' rest
    by_event (deliver k) sound' rest = rest
    by_event (clock now) sound' rest = rest

-- ---- what is handed up is the front, once

pub red_parts_are_fronts : (parties : Party × Party) (events : List Event) → ArePeers parties
    → HandsUpFronts parties (submissions parties (starts_world parties) events)
    (hand_ups parties (starts_world parties) events)
red_parts_are_fronts parties events peers = record {
  numbers = each-once parties peers events (starts_world parties)
      (holds-start Anything (λ o n. tt) parties);
  fronts = fronts-of (submissions parties (starts_world parties) events) parties peers events
      (starts_world parties) (λ plan is. is)
      (holds-start (HasFacts BlockFacts (submissions parties (starts_world parties) events))
      (λ o n. no-submission BlockFacts (submissions parties (starts_world parties) events)
      o n) parties);
  once = at-most-once parties peers events (starts_world parties)
      (holds-start Anything (λ o n. tt) parties);
}

-- ---- engines

pub engines_are_well_formed : (parties : Party × Party) (events : List Event) → ArePeers parties
    → (o : End)
    → IsWellFormed (at_end parties o)
    (at_end (run parties (starts_world parties) events).engines o)
engines_are_well_formed parties events peers o =
    record { senders = good.senders o; receivers = good.receivers o; next = good.next o }
  where
    good : HoldsIn Anything parties (run parties (starts_world parties) events)
    good = holds-run any_time no_submissions Anything anything-invariant parties
        (starts_world parties) events (λ end now. tt) peers (λ plan is. tt)
        (holds-start Anything (λ o n. tt) parties)
