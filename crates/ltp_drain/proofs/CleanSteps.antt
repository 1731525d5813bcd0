-- A clean event of a link that drains: the ranks fall, and what becomes of open senders.

use Rattle.std.proofs.Common.{◌≡◌, ℕ, zero, suc, ◌+◌, ◌<◌, ◌≤◌, Bool, true, false, ◌==◌, List, []}
use Rattle.std.proofs.Common.{◌∷◌, ◌++◌, length, drop, Option, None, Some, ◌⊎◌, inl, inr, refl}
use Rattle.std.proofs.Common.{sym, ◌∙◌, ap, arith, subst, nat_lt, if◌then◌else◌, ⊎_elim}
use Rattle.std.proofs.lemmas.Bool.{eqb-true, ltb-true, ltb-false, cases_lt}
use Rattle.std.proofs.lemmas.Bool.Decides.{nat_tests}
use Rattle.std.specs.List.{slice_get}
use Rattle.std.specs.Option.{option_map}
use Rattle.std.specs.Prelude.{min}
use Rattle.ltp_segment.specs.Values.{SegmentValue}
use Rattle.ltp_session.specs.Engine.{Engine, Party, Reply, arrives, earlier, least_deadline}
use Rattle.ltp_session.specs.Engine.{next_deadline, tick_step}
use Rattle.ltp_session.specs.Receiver.{Receiving, ReceivingPhase, is_cancelling}
use Rattle.ltp_session.specs.Receiver.{receiver_cancelling, receiver_deadline, receiver_open}
use Rattle.ltp_session.specs.Receiver.{receiving_timer}
use Rattle.ltp_session.specs.Sender.{Sending, sender_deadline, sending_timer}
use Rattle.ltp_session.specs.Table.{AreAscending, find}
use Rattle.ltp_session.specs.Views.{headed_all}
use Rattle.ltp_session.specs.World.{ArePeers, End, Event, Sent, World, arrival, at_end, clock}
use Rattle.ltp_session.specs.World.{deliver, delivered, first_end, happens, other, replies, run}
use Rattle.ltp_session.specs.World.{second_end, sent_by, starts_world, ticks}
use Rattle.ltp_session.specs.declared.name.SessionName.{SessionName}
use Rattle.ltp_laws.specs.Deadlines.{AreAhead, PhaseAhead, ReceiverAhead, SenderAhead}
use Rattle.ltp_laws.specs.Facts.{SessionFacts}
use Rattle.ltp_laws.specs.Kept.{IfKept}
use Rattle.ltp_laws.specs.Serials.{pending_of}
use Rattle.ltp_laws.specs.View.{said, view}
use Rattle.ltp_laws.proofs.DeadlineLemmas.{deadlines_are_ahead}
use Rattle.ltp_laws.proofs.FrameLemmas.{same_self}
use Rattle.ltp_laws.proofs.TableLemmas.{find_below, self_eqb}
use Rattle.ltp_drain.specs.Clean.{clean_event, link_deadline, passed_after}
use Rattle.ltp_drain.specs.Draining.{Oldest, oldest, since}
use Rattle.ltp_drain.specs.Effects.{EndEffects, deliver_effects, effects_at}
use Rattle.ltp_drain.specs.Hopeful.{AreAlike, IsReached, Room}
use Rattle.ltp_drain.specs.Standing.{AllAdvance, DrainHolds, IsDueOf, Next, due_receiver}
use Rattle.ltp_drain.specs.Standing.{due_sender, setting, sum_of}
use Rattle.ltp_drain.proofs.DrainFrame.{Begun, is-begun, never_begun, was_begun}
use Rattle.ltp_drain.proofs.DrainLists.{drop-front}
use Rattle.ltp_drain.proofs.DrainRun.{arrival-next, ticked-next, delivery-advances}
use Rattle.ltp_drain.proofs.DrainRun.{delivery-next, due-fires, other_other, sent-ticked}
use Rattle.ltp_drain.proofs.DrainRun.{since-ticks, tick-advances, tick-next, ticked-new}
use Rattle.ltp_drain.proofs.DrainRun.{ticked-world, ticks-are}
use Rattle.ltp_drain.proofs.RoomRuns.{delivery-room, room-roomy, tick-room}
use Rattle.ltp_drain.proofs.StartLemmas.{ample-at, session-gives}

-- ---- lists

-- what stands at a place, and what comes after it
pub record Taken {X : Type 0} (xs : List X) (k : ℕ) : Type 0 where
  pub x : X
  pub got : slice_get xs k ≡ Some x
  pub rest : drop k xs ≡ x ∷ drop (suc k) xs

pub taken : {X : Type 0} (xs : List X) (k : ℕ) → k < length xs → Taken xs k
taken [] k low = absurd (omega (arith, low))
taken (x ∷ xs) zero low = record { x = x; got = refl; rest = refl }
taken (x ∷ xs) (suc k) low =
    let t = taken xs k (omega (arith, low)) in record { x = t.x; got = t.got; rest = t.rest }

pub drop-append : {X : Type 0} (k : ℕ) (xs ys : List X) → k ≤ length xs
    → drop k (xs ++ ys) ≡ drop k xs ++ ys
drop-append zero xs ys low = refl
drop-append (suc k) [] ys low = absurd (omega (arith, low))
drop-append (suc k) (x ∷ xs) ys low = drop-append k xs ys (omega (arith, low))

pub drop-end : {X : Type 0} (xs : List X) (k : ℕ) → length xs ≤ k → drop k xs ≡ []
drop-end [] zero low = refl
drop-end [] (suc k) low = refl
drop-end (x ∷ xs) zero low = absurd (omega (arith, low))
drop-end (x ∷ xs) (suc k) low = drop-end xs k (omega (arith, low))

-- ---- deadlines

-- a kept session has this deadline
pub record FoundAt {S : Type 0} (deadline : S → Option ℕ) (es : List (ℕ × S)) (now : ℕ) : Type 0
  where
    pub n : ℕ
    pub s : S
    pub kept : find n es ≡ Some s
    pub at_now : deadline s ≡ Some now

found-later : {S : Type 0} (deadline : S → Option ℕ) (e : ℕ × S) (es : List (ℕ × S)) (low now : ℕ)
    → AreAscending low (e ∷ es) → FoundAt deadline es now → FoundAt deadline (e ∷ es) now
unfolding find
found-later deadline e es low now ascending found = record {
  n = found.n;
  s = found.s;
  kept = by_test (e.0 == found.n) refl;
  at_now = found.at_now;
}
  where
    by_test : (same : Bool) → (e.0 == found.n) ≡ same
        → (if same then Some e.1 else find found.n es) ≡ Some found.s
    by_test true same = absurd (
        let none : find found.n es ≡ None = find_below found.n (e.0 + 1) es
        (omega (arith, eqb-true e.0 found.n same)) ascending.1 in
        let some = found.kept in cc)
    by_test false same = found.kept

found-first : {S : Type 0} (deadline : S → Option ℕ) (e : ℕ × S) (es : List (ℕ × S)) (now : ℕ)
    → deadline e.1 ≡ Some now → FoundAt deadline (e ∷ es) now
unfolding find
found-first deadline e es now is = record {
  n = e.0;
  s = e.1;
  kept = rw self_eqb refl;
  at_now = is;
}

least-found : {S : Type 0} (deadline : S → Option ℕ) (es : List (ℕ × S)) (low now : ℕ)
    → AreAscending low es
    → least_deadline deadline es ≡ Some now → FoundAt deadline es now
unfolding least_deadline
least-found deadline [] low now ascending is = absurd (cc)
least-found deadline (e ∷ es) low now ascending is =
    by_both (deadline e.1) refl (least_deadline deadline es) refl is
    (least-found deadline es (e.0 + 1) now ascending.1)
  where
    by_both : (first : Option ℕ) → deadline e.1 ≡ first → (second : Option ℕ)
        → least_deadline deadline es ≡ second
        → earlier first second ≡ Some now → (least_deadline deadline es ≡ Some now
        → FoundAt deadline es now) → FoundAt deadline (e ∷ es) now
    by_both None is_first second is_second both rest = found-later deadline e es low now ascending
        (rest (is_second ∙ both))
    by_both (Some a) is_first None is_second both rest = found-first deadline e es now (is_first
        ∙ both)
    by_both (Some a) is_first (Some b) is_second both rest =
        let less : min a b ≡ now = cc in
        ⊎_elim
        (λ low_a. found-first deadline e es now (is_first
        ∙ ap (λ k. Some k) (omega (arith, less, low_a))))
        (λ low_b. found-later deadline e es low now ascending
        (rest (is_second ∙ ap (λ k. Some k) (omega (arith, less, low_b)))))
        (cases_lt a b)

earlier-none : (a b : Option ℕ) → earlier a b ≡ None → (a ≡ None) × (b ≡ None)
earlier-none None b is = (refl, is)
earlier-none (Some a) None is = absurd (cc)
earlier-none (Some a) (Some b) is = absurd (cc)

pub earlier-some : (a b : Option ℕ) (now : ℕ) → earlier a b ≡ Some now → (a ≡ Some now)
    ⊎ (b ≡ Some now)
earlier-some None b now is = inr is
earlier-some (Some a) None now is = inl is
earlier-some (Some a) (Some b) now is =
    let less : min a b ≡ now = cc in
    ⊎_elim (λ low. inl (ap (λ k. Some k) (omega (arith, less, low))))
    (λ low. inr (ap (λ k. Some k) (omega (arith, less, low)))) (cases_lt a b)

least-none : {S : Type 0} (deadline : S → Option ℕ) (es : List (ℕ × S)) (n : ℕ) (s : S)
    → least_deadline deadline es ≡ None
    → find n es ≡ Some s → deadline s ≡ None
unfolding least_deadline find
least-none deadline [] n s none kept = absurd (cc)
least-none deadline (e ∷ es) n s none kept =
    let both = earlier-none (deadline e.1) (least_deadline deadline es) none in
    by_test (e.0 == n) kept both.0 (least-none deadline es n s both.1)
  where
    by_test : (same : Bool) → (if same then Some e.1 else find n es) ≡ Some s
        → deadline e.1 ≡ None
        → (find n es ≡ Some s → deadline s ≡ None) → deadline s ≡ None
    by_test true kept here rest = let one : e.1 ≡ s =
        cc in subst (λ x. deadline x ≡ None) one here
    by_test false kept here rest = rest kept

-- an engine has a session whose deadline this is
pub data DueIn (e : Engine) (now : ℕ) : Type 0 where
  sender_due_at : FoundAt sender_deadline e.senders now → DueIn e now
  receiver_due_at : FoundAt receiver_deadline e.receivers now → DueIn e now

due-in : (e : Engine) (now : ℕ) → AreAscending 0 e.senders → AreAscending 0 e.receivers
    → next_deadline e ≡ Some now → DueIn e now
due-in e now senders receivers is = go (earlier-some (least_deadline sender_deadline e.senders)
    (least_deadline receiver_deadline e.receivers) now is)
  where
    go : (least_deadline sender_deadline e.senders ≡ Some now)
        ⊎ (least_deadline receiver_deadline e.receivers ≡ Some now) → DueIn e now
    go (inl found) = sender_due_at (least-found sender_deadline e.senders 0 now senders found)
    go (inr found) = receiver_due_at (least-found receiver_deadline e.receivers 0 now receivers
        found)

pub idle-senders : (e : Engine) (n : ℕ) → next_deadline e ≡ None → find n e.senders ≡ None
idle-senders e n none = by_kept (find n e.senders) refl
  where
    by_kept : (o : Option Sending) → find n e.senders ≡ o → o ≡ None
    by_kept None is = refl
    by_kept (Some s) is = absurd (
        let no : sender_deadline s ≡ None = least-none sender_deadline e.senders n s
        (earlier-none _ _ none).0 is in cc)

pub idle-link : (w : World) → link_deadline w ≡ None → (o : End)
    → next_deadline (at_end w.engines o) ≡ None
idle-link w none first_end = (earlier-none (next_deadline w.engines.0) (next_deadline w.engines.1)
    none).0
idle-link w none second_end = (earlier-none (next_deadline w.engines.0)
    (next_deadline w.engines.1) none).1

-- ---- what a drain keeps from event to event

-- a drain stands in a world of which the first c segments are delivered or lost
pub record IsGoing (parties : Party × Party) (w : World) (c : ℕ) (rank : End → ℕ
    → ℕ) : Type 0 where
  pub holds : DrainHolds SessionFacts parties (record { world = w; new = drop c w.sent }) rank
  pub room : Room w
  pub within : c ≤ length w.sent
  pub reached : IsReached parties w

-- it goes on to a world, and the ranks fall
pub record GoesOn (parties : Party × Party) (w : World) (rank : End → ℕ → ℕ) (w' : World) (c' : ℕ)
    (es : List EndEffects) : Type 0 where
  pub rank' : End → ℕ → ℕ
  pub holds : DrainHolds SessionFacts parties (record { world = w'; new = drop c' w'.sent }) rank'
  pub room : Room w'
  pub within : c' ≤ length w'.sent
  pub falls : sum_of w' rank' < sum_of w rank
  pub advances : AllAdvance parties w w' es
  pub next : (o : End) → (at_end w'.engines o).next ≡ (at_end w.engines o).next

-- ---- a delivery

oldest-first : (x : Sent) (xs : List Sent) → oldest x.from (x ∷ xs) ≡ Some
    (record { first = x; others = xs })
unfolding oldest
oldest-first x xs = rw (same_self x.from) refl

pub replies-since : (w : World) (end : End) (name : SessionName) (x : Option Reply)
    → (replies w end name x).sent ≡ w.sent ++ since w (replies w end name x)
replies-since w end name None = sym (ap (λ (ds : List Sent). w.sent ++ ds)
    (drop-end w.sent (length w.sent) (omega arith)) ∙ append_nil w.sent)
  where
    append_nil : (xs : List Sent) → xs ++ [] ≡ xs
    append_nil [] = refl
    append_nil (x ∷ xs) = ap (λ (ys : List Sent). x ∷ ys) (append_nil xs)
replies-since w end name (Some r) = ap (λ (ds : List Sent). w.sent ++ ds)
    (sym (drop-front w.sent (sent_by end (headed_all name r.out))))

pub since-arrival : (parties : Party × Party) (w : World) (me : End) (s : SegmentValue)
    → (arrival parties w me s).sent ≡ w.sent ++ since w (arrival parties w me s)
since-arrival parties w me s = replies-since w me
    (record { originator = s.originator; number = s.session })
    (arrives (at_end parties me) (at_end w.engines me) s w.now)

delivery-goes : (parties : Party × Party) (w : World) (c : ℕ) (rank : End → ℕ → ℕ) (d : Sent)
    → ArePeers parties → AreAlike parties → IsGoing parties w c rank
    → c < length w.sent → drop c w.sent ≡ d ∷ drop (suc c) w.sent
    → GoesOn parties w rank (delivered parties w (Some d)) (c + 1)
    (deliver_effects parties w (Some d))
delivery-goes parties w c rank d peers alike going low rest = record {
  rank' = next.rank';
  holds = subst (λ new. DrainHolds SessionFacts parties
      (record { world = arrival parties w me d.segment; new = new }) next.rank')
      (sym new-is) next.holds;
  room = delivery-room SessionFacts parties (record { world = w; new = drop c w.sent }) rank me o
      peers (ample-at parties alike) going.holds going.room is;
  within = omega (
    arith,
    low,
    ap length sent-is,
    length-more w.sent
        (since w (arrival parties w me d.segment)),
  );
  falls = next.falls;
  next = arrival-next parties w me d.segment;
  advances = delivery-advances SessionFacts session-gives parties
      (record { world = w; new = drop c w.sent }) rank me o peers going.holds is;
}
  where
    me : End
    me = other d.from

    o : Oldest
    o = record { first = d; others = drop (suc c) w.sent }

    is : oldest (other (other d.from)) (drop c w.sent) ≡ Some
        (record { first = d; others = drop (suc c) w.sent })
    is = subst (λ (e : End). oldest e (drop c w.sent) ≡ Some
        (record { first = d; others = drop (suc c) w.sent })) (sym (other_other d.from))
        (ap (oldest d.from) rest ∙ oldest-first d (drop (suc c) w.sent))

    next : Next SessionFacts parties (record { world = w; new = drop c w.sent })
        (record {
          world = arrival parties w (other d.from) d.segment;
          new = drop (suc c) w.sent ++ since w (arrival parties w (other d.from) d.segment);
        })
        rank
    next = (delivery-next SessionFacts session-gives parties
        (record { world = w; new = drop c w.sent }) rank me o peers going.holds
        (room-roomy parties w (ample-at parties alike) going.room) is).next

    sent-is : (arrival parties w (other d.from) d.segment).sent ≡ w.sent ++ since w
        (arrival parties w (other d.from) d.segment)
    sent-is = since-arrival parties w (other d.from) d.segment

    length-more : (xs ys : List Sent) → length xs ≤ length (xs ++ ys)
    length-more [] ys = omega arith
    length-more (x ∷ xs) ys = omega (arith, length-more xs ys)

    one-more : c + 1 ≡ suc c
    one-more = omega arith

    new-is : drop (c + 1) (arrival parties w (other d.from) d.segment).sent ≡ drop
        (suc c) w.sent ++ since w (arrival parties w (other d.from) d.segment)
    new-is = ap (λ (k : ℕ). drop k (arrival parties w (other d.from) d.segment).sent) one-more
        ∙ ap (drop (suc c)) sent-is ∙ drop-append (suc c) w.sent
        (since w (arrival parties w (other d.from) d.segment)) (omega (arith, low))

-- ---- a clock

kept-at : {S : Type 0} (P : S → Type 0) (o : Option S) (s : S) → o ≡ Some s → IfKept P o → P s
kept-at P o s is holds = subst (IfKept P) is holds

-- the deadline isn't before the clock, and its timer fires
pub record IsNext (parties : Party × Party) (w : World) (now : ℕ) : Type 0 where
  pub o : End
  pub n : ℕ
  pub due : IsDueOf parties w now o n
  pub low : w.now ≤ now

ahead-at : (parties : Party × Party) (w : World) → ArePeers parties → AreAlike parties
    → IsReached parties w → (o : End) (n : ℕ) → AreAhead w.now w.now (view parties w o n)
ahead-at parties w peers alike reached o n =
    subst (λ (w : World). AreAhead w.now w.now (view parties w o n)) reached.leads
    (deadlines_are_ahead parties reached.events peers alike.first_waits alike.second_waits o n)

sender-next : (parties : Party × Party) (w : World) (now : ℕ) (o : End) (n : ℕ) (s : Sending)
    → AreAhead w.now w.now (view parties w o n)
    → (view parties w o n).sender ≡ Some s → sender_deadline s ≡ Some now → IsNext parties w now
sender-next parties w now o n s ahead kept is =
    let at : (sending_timer s.phase).deadline ≡ now = cc in
    let later : w.now < (sending_timer s.phase).deadline =
    kept-at (SenderAhead w.now) (view parties w o n).sender s kept ahead.sender in
    record {
      o = o;
      n = n;
      due = due_sender s kept (omega (arith, at));
      low = omega (arith, at, later);
    }

receiver-next : (parties : Party × Party) (w : World) (now : ℕ) (o : End) (n : ℕ) (r : Receiving)
    → AreAhead w.now w.now (view parties w o n)
    → (view parties w o n).receiver ≡ Some r → is_cancelling r.phase ≡ false
    → receiver_deadline r ≡ Some now → IsNext parties w now
receiver-next parties w now o n r ahead kept listens is = by_phase r.phase refl listens is
    (kept-at (ReceiverAhead w.now) (view parties w o n).receiver r kept ahead.receiver)
  where
    by_phase : (phase : ReceivingPhase) → r.phase ≡ phase → is_cancelling phase ≡ false
        → option_map (λ timer. timer.deadline) (receiving_timer phase) ≡ Some now
        → PhaseAhead w.now phase → IsNext parties w now
    by_phase (receiver_cancelling reason timer) phase listens is later = absurd (cc)
    by_phase (receiver_open None) phase listens is later = absurd (cc)
    by_phase (receiver_open (Some p)) phase listens is later =
        let at : (p.timer).deadline ≡ now = cc in
        record {
          o = o;
          n = n;
          due = due_receiver r p kept (ap pending_of phase) (omega (arith, at));
          low = omega (arith, at, later);
        }

pub next-is : (parties : Party × Party) (w : World) (rank : End → ℕ → ℕ) (now : ℕ) → ArePeers parties
    → AreAlike parties
    → DrainHolds SessionFacts parties (record { world = w; new = [] }) rank → IsReached parties w
    → link_deadline w ≡ Some now → IsNext parties w now
next-is parties w rank now peers alike holds reached is =
    go (earlier-some (next_deadline w.engines.0) (next_deadline w.engines.1) now is)
  where
    listens : (o : End) (n : ℕ) (r : Receiving) → (view parties w o n).receiver ≡ Some r
        → is_cancelling r.phase ≡ false
    listens o n r kept = by_begun (is-begun SessionFacts (setting parties o n)
        (view parties w o n) _ _ (rank o n) (holds.session o n))
      where
        by_begun : Begun SessionFacts (setting parties o n) (view parties w o n)
            (said o (at_end parties o).own n []) (said (other o) (at_end parties o).own n [])
            (rank o n) → is_cancelling r.phase ≡ false
        by_begun (was_begun used st) = ((st.drains).calm).receiving r kept
        by_begun (never_begun unused idle) = absurd
            (let none : (view parties w o n).receiver ≡ None = (idle.unused).receiver in cc)

    in_first : DueIn w.engines.0 now → IsNext parties w now
    in_first (sender_due_at found) = sender-next parties w now first_end found.n found.s
        (ahead-at parties w peers alike reached first_end found.n) found.kept found.at_now
    in_first (receiver_due_at found) = receiver-next parties w now second_end found.n found.s
        (ahead-at parties w peers alike reached second_end found.n) found.kept
        (listens second_end found.n found.s found.kept) found.at_now

    in_second : DueIn w.engines.1 now → IsNext parties w now
    in_second (sender_due_at found) = sender-next parties w now second_end found.n found.s
        (ahead-at parties w peers alike reached second_end found.n) found.kept found.at_now
    in_second (receiver_due_at found) = receiver-next parties w now first_end found.n found.s
        (ahead-at parties w peers alike reached first_end found.n) found.kept
        (listens first_end found.n found.s found.kept) found.at_now

    go : (next_deadline w.engines.0 ≡ Some now) ⊎ (next_deadline w.engines.1 ≡ Some now)
        → IsNext parties w now
    go (inl found) = in_first (due-in w.engines.0 now (holds.senders first_end)
        (holds.receivers first_end) found)
    go (inr found) = in_second (due-in w.engines.1 now (holds.senders second_end)
        (holds.receivers second_end) found)

tick-goes : (parties : Party × Party) (w : World) (c : ℕ) (rank : End → ℕ → ℕ) (now : ℕ)
    (es : List EndEffects) → ArePeers parties → AreAlike parties → IsGoing parties w c rank
    → length w.sent ≤ c → IsNext parties w now
    → GoesOn parties w rank (ticks parties now second_end (ticks parties now first_end w)) c
    es
tick-goes parties w c rank now es peers alike going over next_is =
    subst (λ (w' : World). GoesOn parties w rank w' c es) (sym (ticks-are parties w now))
    (record {
      rank' = next.rank';
      holds = subst (λ new. DrainHolds SessionFacts parties
          (record { world = ticked-world parties w now; new = new }) next.rank')
          (sym new-is) next.holds;
      room = tick-room SessionFacts parties (record { world = w; new = [] }) rank now peers holds
          going.room;
      within = omega (
        arith,
        going.within,
        over,
        ap length sent-is,
        length-more w.sent
            (ticked-new parties w now),
      );
      falls = next.falls;
      next = ticked-next parties w now;
      advances = tick-advances SessionFacts session-gives parties (record { world = w; new = [] })
          rank now es peers holds refl;
    })
  where
    holds : DrainHolds SessionFacts parties (record { world = w; new = [] }) rank
    holds = subst (λ new. DrainHolds SessionFacts parties (record { world = w; new = new }) rank)
        (drop-end w.sent c over) going.holds

    next : Next SessionFacts parties (record { world = w; new = [] })
        (record { world = ticked-world parties w now; new = ticked-new parties w now }) rank
    next = tick-next SessionFacts session-gives parties (record { world = w; new = [] }) rank now
        peers holds refl
        (due-fires SessionFacts session-gives parties (record { world = w; new = [] }) rank now
        peers holds refl next_is.o next_is.n next_is.due)

    sent-is : (ticked-world parties w now).sent ≡ w.sent ++ ticked-new parties w now
    sent-is = sent-ticked parties w now

    length-more : (xs ys : List Sent) → length xs ≤ length (xs ++ ys)
    length-more [] ys = omega arith
    length-more (x ∷ xs) ys = omega (arith, length-more xs ys)

    same : c ≡ length w.sent
    same = omega (arith, going.within, over)

    new-is : drop c (ticked-world parties w now).sent ≡ ticked-new parties w now
    new-is = ap (λ (k : ℕ). drop k (ticked-world parties w now).sent) same
        ∙ since-ticks parties w now

-- ---- an event

pub run-more : (parties : Party × Party) (w : World) (events : List Event) (event : Event)
    → run parties w (events ++ event ∷ []) ≡ happens parties (run parties w events) event
run-more parties w [] event = refl
run-more parties w (first ∷ events) event = run-more parties (happens parties w first) events
    event

pub reached-more : (parties : Party × Party) (w : World) (event : Event) → IsReached parties w
    → IsReached parties (happens parties w event)
reached-more parties w event reached = record {
  events = reached.events ++ event ∷ [];
  leads = run-more parties (starts_world parties) reached.events event
      ∙ ap (λ (w : World). happens parties w event) reached.leads;
}

pub clean-goes : (parties : Party × Party) (w : World) (c : ℕ) (rank : End → ℕ
    → ℕ) (event : Event) → ArePeers parties → AreAlike parties → IsGoing parties w c rank
    → clean_event w c ≡ Some event → GoesOn parties w rank (happens parties w event)
    (passed_after c event) (effects_at parties w event)
clean-goes parties w c rank event peers alike going clean =
    by_test (nat_lt c (length w.sent)) refl clean
  where
    Goal : Event → Type 0
    Goal event = GoesOn parties w rank (happens parties w event) (passed_after c event)
        (effects_at parties w event)

    by_delivery : c < length w.sent → Goal (deliver c)
    by_delivery low =
        let t = taken w.sent c low in
        subst (λ (x : Option Sent). GoesOn parties w rank (delivered parties w x) (c + 1)
        (deliver_effects parties w x)) (sym t.got)
        (delivery-goes parties w c rank t.x peers alike going low t.rest)

    by_clock : (now : ℕ) → length w.sent ≤ c → link_deadline w ≡ Some now → Goal (clock now)
    by_clock now over is =
        let next = next-is parties w rank now peers alike
        (subst (λ new. DrainHolds SessionFacts parties (record { world = w; new = new }) rank)
        (drop-end w.sent c over) going.holds) going.reached is in
        let ahead : nat_lt now w.now ≡ false = not-lt now w.now next.low in
        subst (λ (b : Bool). GoesOn parties w rank
        (if b then w else ticks parties now second_end (ticks parties now first_end w)) c
        (if b then [] else record {
          end = first_end;
          effects = (tick_step parties.0 w.engines.0 now).effects;
        }
        ∷ record { end = second_end; effects = (tick_step parties.1 w.engines.1 now).effects } ∷
        [])) (sym ahead)
        (tick-goes parties w c rank now _ peers alike going over next)
      where
        not-lt : (a b : ℕ) → b ≤ a → nat_lt a b ≡ false
        not-lt a b low = grind (arith, nat_tests)

    by_deadline : (x : Option ℕ) → link_deadline w ≡ x → length w.sent ≤ c
        → option_map clock x ≡ Some event → Goal event
    by_deadline None is over clean = absurd (cc)
    by_deadline (Some now) is over clean = let one : clock now ≡ event =
        cc in subst Goal one (by_clock now over is)

    by_test : (b : Bool) → nat_lt c (length w.sent) ≡ b
        → (if b then Some (deliver c) else option_map clock (link_deadline w)) ≡ Some event
        → Goal event
    by_test true is clean = let one : deliver c ≡ event =
        cc in subst Goal one (by_delivery (ltb-true c (length w.sent) is))
    by_test false is clean = by_deadline (link_deadline w) refl (ltb-false c (length w.sent) is)
        clean
