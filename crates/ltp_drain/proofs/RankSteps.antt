-- The ranks of all sessions fall from step to step of a drain.

use Rattle.std.proofs.Common.{◌≡◌, ◌≢◌, ℕ, ◌+◌, ◌<◌, ◌≤◌, Bool, true, false, ◌==◌, ◌&&◌, List, []}
use Rattle.std.proofs.Common.{◌∷◌, ◌++◌, length, Option, None, Some, ◌⊎◌, inl, inr, refl, sym}
use Rattle.std.proofs.Common.{◌∙◌, ap, arith, subst, nat_lt, nat_le, if◌then◌else◌}
use Rattle.std.proofs.lemmas.Bool.{eqb-false, eqb-true, lt-ltb, ltb-true}
use Rattle.std.proofs.lemmas.Bool.Decides.{nat_tests}
use Rattle.std.proofs.lemmas.List.{append-nil}
use Rattle.std.specs.Option.{option_map}
use Rattle.ltp_segment.specs.Values.{ContentValue}
use Rattle.ltp_session.specs.Engine.{Reply, SubmitFault, begun, submit_fault, submits}
use Rattle.ltp_session.specs.Engine.{submits_unless, Engine, Party, earlier, is_used}
use Rattle.ltp_session.specs.Engine.{least_deadline, next_deadline}
use Rattle.ltp_session.specs.Receiver.{Pending, Receiving, ReceivingPhase, is_cancelling}
use Rattle.ltp_session.specs.Receiver.{receiver_cancelling, receiver_deadline, receiver_open}
use Rattle.ltp_session.specs.Receiver.{receiving_timer}
use Rattle.ltp_session.specs.Sender.{Sending, begin, sender_deadline, sending_timer}
use Rattle.ltp_session.specs.Table.{find}
use Rattle.ltp_session.specs.World.{ArePeers, End, Sent, World, arrival, at_end, first_end, other}
use Rattle.ltp_session.specs.World.{replies, second_end, submit_reply, submitted, ticks}
use Rattle.ltp_session.specs.World.{unless_refused, with_end}
use Rattle.ltp_session.specs.declared.name.SessionName.{SessionName}
use Rattle.ltp_laws.specs.Facts.{SessionFacts}
use Rattle.ltp_laws.specs.Serials.{pending_of}
use Rattle.ltp_laws.specs.View.{said, view}
use Rattle.ltp_laws.proofs.FrameLemmas.{said-append, next-unused}
use Rattle.ltp_laws.proofs.WritableLemmas.{cuts-at}
use Rattle.ltp_drain.specs.Calm.{Rests}
use Rattle.ltp_drain.specs.Clean.{link_deadline}
use Rattle.ltp_drain.specs.Completion.{IsReady}
use Rattle.ltp_drain.specs.Draining.{Draining, DrainStep, IsBefore, MayHappen, Oldest}
use Rattle.ltp_drain.specs.Draining.{after_step, begins_at, next_draining, oldest, oldest_comes}
use Rattle.ltp_drain.specs.Draining.{sets_clock, since, submits_block, takes_oldest}
use Rattle.ltp_drain.specs.Hopeful.{AreAlike, Room, begun_cost, different, offsets_of}
use Rattle.ltp_drain.specs.Hopeful.{session_cost, view_cost}
use Rattle.ltp_drain.specs.Rank.{RankAtMost}
use Rattle.ltp_drain.specs.Ranks.{HasRanks, IsAtRest, IsDueBy, MayFollow, RanksFall, after_steps}
use Rattle.ltp_drain.specs.Standing.{NextOf, BelowDeadlines, DrainHolds, IsDueOf, TickedTo}
use Rattle.ltp_drain.specs.Standing.{due_receiver, due_sender, setting}
use Rattle.ltp_drain.proofs.CleanSteps.{drop-end, replies-since, since-arrival}
use Rattle.ltp_drain.proofs.CompletionLemmas.{first-low, first-none, first_rank, starts}
use Rattle.ltp_drain.proofs.DrainBegins.{AfterBlock, left_alone, one_more, submit-next}
use Rattle.ltp_drain.proofs.DrainFrame.{Begun, is-begun, never_begun, was_begun}
use Rattle.ltp_drain.proofs.DrainRun.{IsKnown, of-known, same_draining, arrival-next}
use Rattle.ltp_drain.proofs.DrainRun.{delivery-next, due-says, other_other, sent-ticked}
use Rattle.ltp_drain.proofs.DrainRun.{since-ticks, tick-holds, ticked-new, ticked-next}
use Rattle.ltp_drain.proofs.DrainRun.{ticked-world, ticks-are, used-low}
use Rattle.ltp_drain.proofs.DrainStarts.{rank-zero}
use Rattle.ltp_drain.proofs.OffsetLemmas.{begin-differ, different-more, offsets-append}
use Rattle.ltp_drain.proofs.QuietClock.{quiet-clock}
use Rattle.ltp_drain.proofs.RoomRuns.{delivery-room, room-roomy, tick-room}
use Rattle.ltp_drain.proofs.StartLemmas.{ample-at, session-gives}

-- ---- what a drain keeps from step to step

record Keeps (parties : Party × Party) (w : World) (d : Draining) (rank : End → ℕ
    → ℕ) : Type 0 where
  holds : DrainHolds SessionFacts parties d rank
  room : Room d.world
  within : (o : End) (n : ℕ) → rank o n ≤ session_cost parties w d.world o n

-- ---- a session of rank 0 is at rest

still : (parties : Party × Party) (d : Draining) (rank : End → ℕ → ℕ)
    → DrainHolds SessionFacts parties d rank
    → (o : End) (n : ℕ) → rank o n ≡ 0 → IsAtRest parties d o n
still parties d rank holds o n none =
    by_begun (is-begun SessionFacts (setting parties o n) (view parties d.world o n) _ _
    (rank o n) (holds.session o n))
  where
    by_begun : Begun SessionFacts (setting parties o n) (view parties d.world o n)
        (said o (at_end parties o).own n d.new)
        (said (other o) (at_end parties o).own n d.new) (rank o n) → IsAtRest parties d o n
    by_begun (never_begun unused idle) = record {
      by_sender = idle.none_s;
      by_receiver = idle.none_r;
      timers = record {
        sender = (idle.unused).sender;
        receiver = λ r is. absurd (let nobody : (view parties d.world o n).receiver ≡ None =
            (idle.unused).receiver in cc);
      };
    }
    by_begun (was_begun used st) = record {
      by_sender = rests.none_s;
      by_receiver = rests.none_r;
      timers = record {
        sender = by_sender (view parties d.world o n).sender refl;
        receiver = λ r is. by_phase r is r.phase refl (((st.drains).calm).receiving r is);
      };
    }
      where
        rests : Rests (view parties d.world o n) (said o (at_end parties o).own n d.new)
            (said (other o) (at_end parties o).own n d.new)
        rests = rank-zero (at_end parties o).policy.segment st.red (view parties d.world o n) _ _
            (subst (RankAtMost (at_end parties o).policy.segment st.red (view parties d.world o n)
            (said o (at_end parties o).own n d.new)
            (said (other o) (at_end parties o).own n d.new)) none (st.drains).rank)

        by_sender : (x : Option Sending) → (view parties d.world o n).sender ≡ x
            → (view parties d.world o n).sender ≡ None
        by_sender None is = is
        by_sender (Some s) is =
            let waits = ((st.drains).calm).sending s is in absurd
            (rests.no_checkpoint s waits.checkpoint waits.timer is waits.is)

        by_phase : (r : Receiving) → (view parties d.world o n).receiver ≡ Some r
            → (phase : ReceivingPhase) → r.phase ≡ phase
            → is_cancelling phase ≡ false → option_map (λ timer. timer.deadline)
            (receiving_timer phase) ≡ None
        by_phase r is (receiver_open None) phase listens = refl
        by_phase r is (receiver_open (Some p)) phase listens =
            absurd (rests.no_report r p is (ap pending_of phase))
        by_phase r is (receiver_cancelling reason timer) phase listens = absurd (cc)

-- ---- deadlines

before-both : (now : ℕ) (a b : Option ℕ) → IsBefore now (earlier a b) → IsBefore now a
    × IsBefore now b
before-both now None b is = (tt, is)
before-both now (Some a) None is = (is, tt)
before-both now (Some a) (Some b) is = (omega (arith, is), omega (arith, is))

before-least : {S : Type 0} (deadline : S → Option ℕ) (es : List (ℕ × S)) (now n : ℕ) (s : S)
    → IsBefore now (least_deadline deadline es)
    → find n es ≡ Some s → IsBefore now (deadline s)
unfolding least_deadline find
before-least deadline [] now n s before kept = absurd (cc)
before-least deadline (e ∷ es) now n s before kept =
    let both = before-both now (deadline e.1) (least_deadline deadline es) before in
    by_test (e.0 == n) kept both.0 (before-least deadline es now n s both.1)
  where
    by_test : (same : Bool) → (if same then Some e.1 else find n es) ≡ Some s
        → IsBefore now (deadline e.1)
        → (find n es ≡ Some s → IsBefore now (deadline s)) → IsBefore now (deadline s)
    by_test true kept here rest = let one : e.1 ≡ s =
        cc in subst (λ x. IsBefore now (deadline x)) one here
    by_test false kept here rest = rest kept

below : (parties : Party × Party) (w : World) (now : ℕ) → IsBefore now (link_deadline w)
    → BelowDeadlines parties w now
below parties w now before = record {
  sender = λ o n s is. before-least sender_deadline (at_end w.engines o).senders now n s
      (sender-side (at_end w.engines o) (at_link o)) is;
  receiver = λ o n r p is waits. by_phase r.phase waits
      (before-least receiver_deadline (at_end w.engines (other o)).receivers now n r
      (receiver-side (at_end w.engines (other o)) (at_link (other o))) is);
}
  where
    both : IsBefore now (next_deadline w.engines.0) × IsBefore now (next_deadline w.engines.1)
    both = before-both now (next_deadline w.engines.0) (next_deadline w.engines.1) before

    at_link : (o : End) → IsBefore now (next_deadline (at_end w.engines o))
    at_link first_end = both.0
    at_link second_end = both.1

    sender-side : (e : Engine) → IsBefore now (next_deadline e)
        → IsBefore now (least_deadline sender_deadline e.senders)
    sender-side e is = (before-both now (least_deadline sender_deadline e.senders)
        (least_deadline receiver_deadline e.receivers) is).0

    receiver-side : (e : Engine) → IsBefore now (next_deadline e)
        → IsBefore now (least_deadline receiver_deadline e.receivers)
    receiver-side e is = (before-both now (least_deadline sender_deadline e.senders)
        (least_deadline receiver_deadline e.receivers) is).1

    by_phase : {p : Pending} (phase : ReceivingPhase) → pending_of phase ≡ Some p
        → IsBefore now (option_map (λ timer. timer.deadline) (receiving_timer phase))
        → now < (p.timer).deadline
    by_phase (receiver_open None) waits is = absurd (cc)
    by_phase {p} (receiver_open (Some x)) waits is = let one : x ≡ p =
        cc in subst (λ (p : Pending). now < (p.timer).deadline) one is
    by_phase (receiver_cancelling reason timer) waits is = absurd (cc)

due-of : (parties : Party × Party) (d : Draining) (rank : End → ℕ → ℕ) (now : ℕ)
    → DrainHolds SessionFacts parties d rank → (o : End) (n : ℕ)
    → IsDueBy now (view parties d.world o n) → IsDueOf parties d.world now o n
due-of parties d rank now holds o n (inl (s, t, is, at, low)) =
    let same : (sending_timer s.phase).deadline ≡ t =
    cc in due_sender s is (omega (arith, same, low))
due-of parties d rank now holds o n (inr (r, t, is, at, low)) = by_phase r.phase refl listens at
  where
    listens : is_cancelling r.phase ≡ false
    listens = by_begun (is-begun SessionFacts (setting parties o n) (view parties d.world o n) _ _
        (rank o n) (holds.session o n))
      where
        by_begun : Begun SessionFacts (setting parties o n) (view parties d.world o n)
            (said o (at_end parties o).own n d.new)
            (said (other o) (at_end parties o).own n d.new) (rank o n)
            → is_cancelling r.phase ≡ false
        by_begun (was_begun used st) = ((st.drains).calm).receiving r is
        by_begun (never_begun unused idle) = absurd
            (let nobody : (view parties d.world o n).receiver ≡ None = (idle.unused).receiver in
            cc)

    by_phase : (phase : ReceivingPhase) → r.phase ≡ phase → is_cancelling phase ≡ false
        → option_map (λ timer. timer.deadline) (receiving_timer phase) ≡ Some t
        → IsDueOf parties d.world now o n
    by_phase (receiver_open None) phase listens at = absurd (cc)
    by_phase (receiver_open (Some p)) phase listens at =
        let same : (p.timer).deadline ≡ t = cc in due_receiver r p is (ap pending_of phase)
        (omega (arith, same, low))
    by_phase (receiver_cancelling reason timer) phase listens at = absurd (cc)

-- ---- costs grow

-- a world after another: more was sent, and more sessions may have begun
pub record Grows (w w' : World) : Type 0 where
  pub sent : w'.sent ≡ w.sent ++ since w w'
  pub next : (o : End) → (at_end w.engines o).next ≤ (at_end w'.engines o).next

used-more : (p : Party) (e e' : Engine) (n : ℕ) → e.next ≤ e'.next → is_used p e n ≡ true
    → is_used p e' n ≡ true
used-more p e e' n more is = go (nat_le p.first n) (nat_lt n e.next) refl is
  where
    go : (a b : Bool) → nat_lt n e.next ≡ b → (a && b) ≡ true → (a && nat_lt n e'.next) ≡ true
    go true true low is = lt-ltb n e'.next (omega (arith, ltb-true n e.next low, more))
    go true false low is = absurd (cc)
    go false b low is = absurd (cc)

begun-grows : (parties : Party × Party) (w w' : World) (o : End) (n : ℕ) → Grows w w'
    → begun_cost (view parties w o n) ≤ begun_cost (view parties w' o n)
begun-grows parties w w' o n grows = by_used (view parties w o n).used refl
  where
    more : different [] (offsets_of (view parties w o n).by_sender) ≤ different []
        (offsets_of (view parties w' o n).by_sender)
    more = subst (λ (cs : List ContentValue). different []
        (offsets_of (view parties w o n).by_sender) ≤ different [] (offsets_of cs)) (sym said-is)
        (subst (λ (xs : List ℕ). different [] (offsets_of (view parties w o n).by_sender) ≤
        different [] xs)
        (sym (offsets-append (view parties w o n).by_sender
        (said o (at_end parties o).own n (since w w'))))
        (different-more [] (offsets_of (view parties w o n).by_sender)
        (offsets_of (said o (at_end parties o).own n (since w w')))))
      where
        said-is : (view parties w' o n).by_sender ≡ (view parties w o n).by_sender ++ said o
            (at_end parties o).own n (since w w')
        said-is = ap (said o (at_end parties o).own n) grows.sent
            ∙ said-append o (at_end parties o).own n w.sent (since w w')

    by_used : (used : Bool) → (view parties w o n).used ≡ used
        → (if used then different [] (offsets_of (view parties w o n).by_sender) + 16 else 0) ≤
        begun_cost (view parties w' o n)
    by_used false is = omega arith
    by_used true is =
        let now : (view parties w' o n).used ≡ true =
        used-more (at_end parties o) (at_end w.engines o) (at_end w'.engines o) n
        (grows.next o) is in
        rw now (omega (arith, more))

pub cost-grows : (parties : Party × Party) (w v v' : World) (o : End) (n : ℕ) → Grows v v'
    → session_cost parties w v o n ≤ session_cost parties w v' o n
cost-grows parties w v v' o n grows = by_test (nat_lt n (at_end w.engines o).next)
  where
    by_test : (b : Bool) → (if b then view_cost parties o (view parties w o n) else begun_cost
        (view parties v o n))
        ≤ (if b then view_cost parties o (view parties w o n) else begun_cost
        (view parties v' o n))
    by_test true = omega arith
    by_test false = begun-grows parties v v' o n grows

-- ---- steps

-- what a step leaves
record Steps (parties : Party × Party) (w : World) (d : Draining) (rank : End → ℕ
    → ℕ) (step : DrainStep) (d' : Draining) : Type 0 where
  rank' : End → ℕ → ℕ
  falls : RanksFall parties d rank rank' step
  keeps : Keeps parties w d' rank'

within-on : (parties : Party × Party) (w : World) (d d' : Draining) (rank rank' : End → ℕ → ℕ)
    → Keeps parties w d rank → Grows d.world d'.world
    → ((o : End) (n : ℕ) → rank' o n ≤ rank o n) → (o : End) (n : ℕ)
    → rank' o n ≤ session_cost parties w d'.world o n
within-on parties w d d' rank rank' keeps grows most o n =
    omega (arith, most o n, keeps.within o n, cost-grows parties w d.world d'.world o n grows)

oldest-is : (x y : Oldest) (o : Option Oldest) → o ≡ Some x → o ≡ Some y → x ≡ y
oldest-is x y o is_x is_y = let both : Some x ≡ Some y = sym is_x ∙ is_y in cc

-- the end that an originator is
end-of : (parties : Party × Party) (origin : ℕ) → IsKnown parties origin
    → (o : End) × ((at_end parties o).own ≡ origin)
end-of parties origin (inl own) = (first_end, sym own)
end-of parties origin (inr own) = (second_end, sym own)

takes-steps : (parties : Party × Party) (w : World) (d : Draining) (rank : End → ℕ
    → ℕ) (from : End) (x : Oldest) → ArePeers parties → AreAlike parties
    → Keeps parties w d rank → oldest from d.new ≡ Some x
    → Steps parties w d rank (takes_oldest from)
    (next_draining d x.others (arrival parties d.world (other from) x.first.segment))
takes-steps parties w d rank from x peers alike keeps is = record {
  rank' = (next.next).rank';
  falls = (
    (next.next).never_up,
    λ y is_y.
        let one : x ≡ y = oldest-is x y (oldest from d.new) is is_y in
        let o = end-of parties x.first.segment.originator
        (of-known parties from d.new x is (keeps.holds).known) in (
          o.0,
          o.1 ∙ ap (λ (y : Oldest). y.first.segment.originator) one,
          subst (λ (y : Oldest). (next.next).rank' o.0 y.first.segment.session < rank o.0
              y.first.segment.session) one (next.named o.0 o.1),
        ),
  );
  keeps = record {
    holds = (next.next).holds;
    room = delivery-room SessionFacts parties d rank (other from) x peers
        (ample-at parties alike) keeps.holds keeps.room back;
    within = within-on parties w d (next_draining d x.others
        (arrival parties d.world (other from) x.first.segment)) rank (next.next).rank' keeps
        (record {
          sent = since-arrival parties d.world (other from) x.first.segment;
          next = λ o. omega (arith, arrival-next parties d.world (other from) x.first.segment o);
        })
        (next.next).never_up;
  };
}
  where
    back : oldest (other (other from)) d.new ≡ Some x
    back = subst (λ (e : End). oldest e d.new ≡ Some x) (sym (other_other from)) is

    next : NextOf SessionFacts parties d (next_draining d x.others
        (arrival parties d.world (other from) x.first.segment)) rank x.first.segment.originator
        x.first.segment.session
    next = delivery-next SessionFacts session-gives parties d rank (other from) x peers
        keeps.holds (room-roomy parties d.world (ample-at parties alike) keeps.room) back

pub ticked-grows : (parties : Party × Party) (w : World) (now : ℕ)
    → Grows w (ticks parties now second_end (ticks parties now first_end w))
ticked-grows parties w now = subst (Grows w) (sym (ticks-are parties w now)) (record {
  sent = sent-ticked parties w now ∙ ap (λ (ds : List Sent). w.sent ++ ds)
      (sym (since-ticks parties w now));
  next = λ o. omega (arith, ticked-next parties w now o);
})

-- nothing is new
ticks-steps : (parties : Party × Party) (w : World) (d : Draining) (rank : End → ℕ → ℕ) (now : ℕ)
    → ArePeers parties
    → Keeps parties w d rank → d.new ≡ []
    → Steps parties w d rank (sets_clock now)
    (next_draining d d.new (ticks parties now second_end
    (ticks parties now first_end d.world)))
ticks-steps parties w d rank now peers keeps none = record {
  rank' = t.rank';
  falls = (
    most,
    λ o n due. omega (
      arith,
      t.less o n,
      due-says SessionFacts session-gives parties
          d rank now peers keeps.holds none o n (due-of parties d rank now keeps.holds o n due),
    ),
  );
  keeps = record {
    holds = subst (λ (d' : Draining). DrainHolds SessionFacts parties d' t.rank')
        (sym same) t.holds;
    room = subst Room (sym (ticks-are parties d.world now))
        (tick-room SessionFacts parties d rank now peers keeps.holds keeps.room);
    within = within-on parties w d (next_draining d d.new
        (ticks parties now second_end (ticks parties now first_end d.world))) rank t.rank' keeps
        (ticked-grows parties d.world now) most;
  };
}
  where
    t : TickedTo SessionFacts parties (record {
      world = ticked-world parties d.world now;
      new = ticked-new parties d.world now;
    }) rank
    t = tick-holds SessionFacts session-gives parties d rank now peers keeps.holds none

    most : (o : End) (n : ℕ) → t.rank' o n ≤ rank o n
    most o n = omega (arith, t.less o n)

    same : next_draining d d.new (ticks parties now second_end
        (ticks parties now first_end d.world)) ≡ record
        { world = ticked-world parties d.world now; new = ticked-new parties d.world now }
    same = same_draining (record {
      world = ticked-world parties d.world now;
      new = ticked-new parties d.world now;
    })
        (next_draining d d.new (ticks parties now second_end
        (ticks parties now first_end d.world)))
        (ticks-are parties d.world now)
        (ap (λ (ds : List Sent). ds ++ since d.world
        (ticks parties now second_end (ticks parties now first_end d.world))) none
        ∙ ap (since d.world) (ticks-are parties d.world now) ∙ since-ticks parties d.world now)

-- no timer is due
quiet-steps : (parties : Party × Party) (w : World) (d : Draining) (rank : End → ℕ → ℕ) (now : ℕ)
    → ArePeers parties
    → Keeps parties w d rank → IsBefore now (link_deadline d.world)
    → Steps parties w d rank (sets_clock now)
    (next_draining d d.new (ticks parties now second_end
    (ticks parties now first_end d.world)))
quiet-steps parties w d rank now peers keeps before = record {
  rank' = rank;
  falls = (
    (λ o n. omega arith),
    λ o n due. absurd
        (by_due o n (due-of parties d rank now keeps.holds o n due)),
  );
  keeps = record {
    holds = quiet-clock SessionFacts parties d rank now peers keeps.holds early;
    room = subst Room (sym (ticks-are parties d.world now))
        (tick-room SessionFacts parties d rank now peers keeps.holds keeps.room);
    within = within-on parties w d (next_draining d d.new
        (ticks parties now second_end (ticks parties now first_end d.world))) rank rank keeps
        (ticked-grows parties d.world now) (λ o n. omega arith);
  };
}
  where
    early : BelowDeadlines parties d.world now
    early = below parties d.world now before

    by_due : (o : End) (n : ℕ) → IsDueOf parties d.world now o n → ⊥
    by_due o n (due_sender s is low) = omega (arith, early.sender o n s is, low)
    by_due o n (due_receiver r p is waits low) =
        omega (arith, early.receiver o n r p is waits, low)

clock-steps : (parties : Party × Party) (w : World) (d : Draining) (rank : End → ℕ → ℕ) (now : ℕ)
    → ArePeers parties
    → Keeps parties w d rank → MayHappen parties d (sets_clock now)
    → Steps parties w d rank (sets_clock now) (after_step parties d (sets_clock now))
clock-steps parties w d rank now peers keeps may =
    subst (λ (b : Bool). Steps parties w d rank (sets_clock now)
    (next_draining d d.new (if b then d.world else ticks parties now second_end
    (ticks parties now first_end d.world)))) (sym forward)
    (by_may may.1)
  where
    not-lt : (a b : ℕ) → b ≤ a → nat_lt a b ≡ false
    not-lt a b low = grind (arith, nat_tests)

    forward : nat_lt now (d.world).now ≡ false
    forward = not-lt now (d.world).now may.0

    by_may : (d.new ≡ []) ⊎ IsBefore now (link_deadline d.world)
        → Steps parties w d rank (sets_clock now)
        (next_draining d d.new (ticks parties now second_end
        (ticks parties now first_end d.world)))
    by_may (inl none) = ticks-steps parties w d rank now peers keeps none
    by_may (inr before) = quiet-steps parties w d rank now peers keeps before

-- ---- a submit

at_ends : (w : World) (end o : End) (r : Reply) → (at_end w.engines end).next ≤ r.engine.next
    → (at_end w.engines o).next ≤ (at_end (with_end w.engines end r.engine) o).next
at_ends w first_end first_end r low = low
at_ends w first_end second_end r low = omega arith
at_ends w second_end first_end r low = omega arith
at_ends w second_end second_end r low = low

submits-more : (p : Party) (e : Engine) (block : List ℕ) (red now : ℕ) (r : Reply)
    → unless_refused (submits p e block red now) ≡ Some r → e.next ≤ r.engine.next
unfolding submits
submits-more p e block red now r is = by_fault (submit_fault p e block) is
  where
    by_fault : (fault : Option SubmitFault) → unless_refused
        (submits_unless fault p e block red now) ≡ Some r → e.next ≤ r.engine.next
    by_fault (Some fault) is = absurd (cc)
    by_fault None is =
        let same : begun e (begin p.policy e.next block red now) ≡ r = cc in
        subst (λ (r : Reply). e.next ≤ r.engine.next) same (omega arith)

pub submitted-grows : (parties : Party × Party) (w : World) (end : End) (block : List ℕ) (red : ℕ)
    → Grows w (submitted parties w end block red)
unfolding submitted
submitted-grows parties w end block red = by_length (nat_le red (length block))
  where
    name : SessionName
    name = record { originator = (at_end parties end).own; number = (at_end w.engines end).next }

    more : (o : End) (x : Option Reply) → submit_reply parties w end block red ≡ x
        → (at_end w.engines o).next ≤ (at_end (replies w end name x).engines o).next
    more o None is = omega arith
    more o (Some r) is = at_ends w end o r (submits-more (at_end parties end)
        (at_end w.engines end) block red w.now r is)

    by_length : (b : Bool) → Grows w (if b then replies w end name
        (submit_reply parties w end block red) else w)
    by_length true = record {
      sent = replies-since w end name (submit_reply parties w end block red);
      next = λ o. more o (submit_reply parties w end block red) refl;
    }
    by_length false = record { sent = replies-since w end name None; next = λ o. omega arith }

pub ends-same : (a b : End) → (a ≡ b) ⊎ (a ≢ b)
ends-same first_end first_end = inl refl
ends-same second_end second_end = inl refl
ends-same first_end second_end = inr (λ h. cc)
ends-same second_end first_end = inr (λ h. cc)

submit-steps : (parties : Party × Party) (w : World) (d : Draining) (rank : End → ℕ
    → ℕ) (end : End) (block : List ℕ) (red : ℕ) → ArePeers parties → AreAlike parties
    → ((o : End) → (at_end w.engines o).next ≤ ((at_end (d.world).engines o).next))
    → Keeps parties w d rank → Room (submitted parties d.world end block red)
    → Steps parties w d rank (submits_block end block red)
    (next_draining d d.new (submitted parties d.world end block red))
submit-steps parties w d rank end block red peers alike begun_before keeps room =
    go (submit-next SessionFacts session-gives parties d rank end block red peers alike
    keeps.holds)
  where
    w' : World
    w' = submitted parties d.world end block red

    grows : Grows d.world (submitted parties d.world end block red)
    grows = submitted-grows parties d.world end block red

    same-new : submitted parties d.world end block red ≡ d.world
        → next_draining d d.new (submitted parties d.world end block red) ≡ d
    same-new same = same_draining d (next_draining d d.new
        (submitted parties d.world end block red)) same
        (ap (λ (w : World). d.new ++ since d.world w) same
        ∙ ap (λ (ds : List Sent). d.new ++ ds)
        (drop-end (d.world).sent (length (d.world).sent) (omega arith)) ∙ append-nil d.new)

    go : AfterBlock SessionFacts parties d rank end block red
        (submitted parties d.world end block red)
        → Steps parties w d rank (submits_block end block red)
        (next_draining d d.new (submitted parties d.world end block red))
    go (left_alone same) = record {
      rank' = rank;
      falls = λ o n used. omega arith;
      keeps = record {
        holds = subst (λ (d' : Draining). DrainHolds SessionFacts parties d' rank)
            (sym (same-new same)) keeps.holds;
        room = room;
        within = within-on parties w d (next_draining d d.new
            (submitted parties d.world end block red)) rank rank keeps grows (λ o n. omega arith);
      };
    }
    go (one_more fits used_now said_is more) = record {
      rank' = more.rank';
      falls = λ o n used. by_session o n (o_is o) (n == (at_end (d.world).engines end).next) refl
          used;
      keeps = record { holds = more.holds; room = room; within = within };
    }
      where
        o_is : (o : End) → (o ≡ end) ⊎ (o ≢ end)
        o_is o = ends-same o end

        unused : (view parties d.world end (at_end (d.world).engines end).next).used ≡ false
        unused = next-unused (at_end parties end) (at_end (d.world).engines end)

        by_session : (o : End) (n : ℕ) → (o ≡ end) ⊎ (o ≢ end) → (b : Bool)
            → (n == (at_end (d.world).engines end).next) ≡ b
            → (view parties d.world o n).used ≡ true → more.rank' o n ≤ rank o n
        by_session o n (inr apart) b is used =
            omega (arith, more.same o n (λ same. absurd (apart same)))
        by_session o n (inl here) false is used =
            omega (
              arith,
              more.same o n (λ same. eqb-false n (at_end (d.world).engines end).next
                  is),
            )
        by_session o n (inl here) true is used = absurd (
            let there : n ≡ (at_end (d.world).engines end).next =
            eqb-true n (at_end (d.world).engines end).next is in
            let one : (view parties d.world end (at_end (d.world).engines end).next).used ≡ true =
            subst (λ (k : ℕ). (view parties d.world end k).used ≡ true) there
            (subst (λ (e : End). (view parties d.world e n).used ≡ true) here used) in
            let none = unused in cc)

        new-cost : more.rank' end (at_end (d.world).engines end).next ≤ session_cost parties w
            (submitted parties d.world end block red) end (at_end (d.world).engines end).next
        new-cost =
            let old : nat_lt (at_end (d.world).engines end).next (at_end w.engines end).next ≡
            false = not-lt (at_end (d.world).engines end).next (at_end w.engines end).next
            (begun_before end) in
            rw (old, used_now) (omega (
              arith,
              more.begun,
              begin-differ (at_end parties end).policy
                  (at_end (d.world).engines end).next block red (d.world).now
                  (cuts-at parties end peers) fits,
              ap (λ (cs : List ContentValue). different [] (offsets_of cs)) said_is,
            ))
          where
            not-lt : (a b : ℕ) → b ≤ a → nat_lt a b ≡ false
            not-lt a b low = grind (arith, nat_tests)

        within : (o : End) (n : ℕ) → more.rank' o n ≤ session_cost parties w
            (submitted parties d.world end block red) o n
        within o n = by_session' (o_is o) (n == (at_end (d.world).engines end).next) refl
          where
            by_session' : (o ≡ end) ⊎ (o ≢ end) → (b : Bool)
                → (n == (at_end (d.world).engines end).next) ≡ b
                → more.rank' o n ≤ session_cost parties w
                (submitted parties d.world end block red) o n
            by_session' (inr apart) b is = omega (
              arith,
              more.same o n (λ same. absurd (apart same)),
              keeps.within o n,
              cost-grows parties w d.world (submitted parties d.world end block red) o n grows,
            )
            by_session' (inl here) false is =
                omega (
                  arith,
                  more.same o n (λ same. eqb-false n
                      (at_end (d.world).engines end).next is),
                  keeps.within o n,
                  cost-grows parties w d.world (submitted parties d.world end block red) o n
                      grows,
                )
            by_session' (inl here) true is =
                subst (λ (k : ℕ). more.rank' o k ≤ session_cost parties w
                (submitted parties d.world end block red) o k)
                (sym (eqb-true n (at_end (d.world).engines end).next is))
                (subst (λ (e : End). more.rank' e (at_end (d.world).engines end).next ≤
                session_cost parties w (submitted parties d.world end block red) e
                (at_end (d.world).engines end).next) (sym here) new-cost)

-- ---- a list of steps

started-rank : (parties : Party × Party) (w : World) → IsReady parties w
    → Keeps parties w (begins_at w) (first_rank parties w)
started-rank parties w ready = record {
  holds = starts parties w ready;
  room = ready.room;
  within = λ o n. by_test o n (nat_lt n (at_end w.engines o).next) refl;
}
  where
    by_begun : (o : End) (n : ℕ) → nat_lt n (at_end w.engines o).next ≡ false
        → Begun SessionFacts (setting parties o n) (view parties w o n)
        (said o (at_end parties o).own n []) (said (other o) (at_end parties o).own n [])
        (first_rank parties w o n)
        → first_rank parties w o n ≤ begun_cost (view parties w o n)
    by_begun o n late (never_begun unused idle) =
        omega (arith, first-none parties w o n (idle.unused).sender (idle.unused).receiver)
    by_begun o n late (was_begun used st) = absurd (
        let yes : nat_lt n (at_end w.engines o).next ≡ true = lt-ltb n (at_end w.engines o).next
        (used-low (at_end parties o) (at_end w.engines o) n used) in cc)

    by_test : (o : End) (n : ℕ) (b : Bool) → nat_lt n (at_end w.engines o).next ≡ b
        → first_rank parties w o n ≤ (if b then view_cost parties o (view parties w o n) else
        begun_cost (view parties w o n))
    by_test o n true is = first-low parties w o n
    by_test o n false is = by_begun o n is (is-begun SessionFacts (setting parties o n)
        (view parties w o n) _ _ (first_rank parties w o n)
        ((starts parties w ready).session o n))

next-on : (parties : Party × Party) (w : World) (d : Draining) (step : DrainStep)
    → MayHappen parties d step
    → (o : End) → (at_end w.engines o).next ≤ (at_end (d.world).engines o).next
    → (at_end w.engines o).next ≤ (at_end (after_step parties d step).world.engines o).next
next-on parties w d (takes_oldest from) may o low =
    subst (λ (x : Option Oldest). (at_end w.engines o).next ≤
    (at_end (oldest_comes parties d from x).world.engines o).next) (sym may.1)
    (omega (arith, low, arrival-next parties d.world (other from) (may.0).first.segment o))
next-on parties w d (sets_clock now) may o low = by_test (nat_lt now (d.world).now)
  where
    by_test : (b : Bool) → (at_end w.engines o).next ≤
        (at_end (if b then d.world else ticks parties now second_end
        (ticks parties now first_end d.world)).engines o).next
    by_test true = low
    by_test false = omega (arith, low, (ticked-grows parties d.world now).next o)
next-on parties w d (submits_block end block red) may o low =
    omega (arith, low, (submitted-grows parties d.world end block red).next o)

step-steps : (parties : Party × Party) (w : World) (d : Draining) (rank : End → ℕ
    → ℕ) (step : DrainStep) → ArePeers parties → AreAlike parties
    → ((o : End) → (at_end w.engines o).next ≤ ((at_end (d.world).engines o).next))
    → Keeps parties w d rank → MayHappen parties d step
    → Steps parties w d rank step (after_step parties d step)
step-steps parties w d rank (takes_oldest from) peers alike before keeps may =
    subst (λ (x : Option Oldest). Steps parties w d rank (takes_oldest from)
    (oldest_comes parties d from x)) (sym may.1)
    (takes-steps parties w d rank from may.0 peers alike keeps may.1)
step-steps parties w d rank (sets_clock now) peers alike before keeps may =
    clock-steps parties w d rank now peers keeps may
step-steps parties w d rank (submits_block end block red) peers alike before keeps may =
    submit-steps parties w d rank end block red peers alike before keeps may

-- what is kept after steps
record KeptAfter (parties : Party × Party) (w : World) (steps : List DrainStep) : Type 0 where
  rank : End → ℕ → ℕ
  before : (o : End) → (at_end w.engines o).next
      ≤ (at_end (after_steps parties (begins_at w) steps).world.engines o).next
  keeps : Keeps parties w (after_steps parties (begins_at w) steps) rank

kept-after : (parties : Party × Party) (w : World) → IsReady parties w
    → (steps : List DrainStep) → MayFollow parties (begins_at w) steps
    → KeptAfter parties w steps
kept-after parties w ready [] may = record {
  rank = first_rank parties w;
  before = λ o. omega arith;
  keeps = started-rank parties w ready;
}
kept-after parties w ready (step ∷ earlier) may =
    let was = kept-after parties w ready earlier may.0 in
    let next = step-steps parties w (after_steps parties (begins_at w) earlier) was.rank step
    ready.peers ready.alike was.before was.keeps may.1 in
    record {
      rank = next.rank';
      before = λ o. next-on parties w (after_steps parties (begins_at w) earlier) step may.1 o
          (was.before o);
      keeps = next.keeps;
    }

pub sessions-have-ranks : (parties : Party × Party) (w : World) → IsReady parties w
    → HasRanks parties w
unfolding kept-after
sessions-have-ranks parties w ready = record {
  rank = λ steps may. (kept-after parties w ready steps may).rank;
  are = λ steps may. (let kept = kept-after parties w ready steps may in record {
    within = (kept.keeps).within;
    rests = still parties (after_steps parties (begins_at w) steps) kept.rank
        (kept.keeps).holds;
  });
  fall = λ step earlier may next. (let was = kept-after parties w ready earlier may in
      (step-steps parties w (after_steps parties (begins_at w) earlier) was.rank step ready.peers
      ready.alike was.before was.keeps next).falls);
}
