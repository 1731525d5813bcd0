-- Every running deadline is above the clock.

use Rattle.std.proofs.Common.{◌≡◌, ℕ, ◌+◌, ◌-◌, ◌<◌, ◌≤◌, ◌==◌, List, [], ◌∷◌, length}
use Rattle.std.proofs.Common.{Option, None, Some, refl, sym, arith, subst, nat_lt, nat_le}
use Rattle.std.proofs.lemmas.Bool.Decides.{nat_tests}
use Rattle.std.proofs.Math.Nat.{le-mul_of_pos_right}
use Rattle.std.proofs.lemmas.Nat.{pow_pos}
use Rattle.ltp_segment.specs.Policy.{PolicyValue, wait_after}
use Rattle.ltp_segment.specs.Values.{PieceValue, ReportValue, ContentValue, a_piece, a_report}
use Rattle.ltp_segment.specs.Values.{a_report_ack, a_sender_cancel, a_sender_cancel_ack}
use Rattle.ltp_segment.specs.Values.{a_receiver_cancel, a_receiver_cancel_ack}
use Rattle.ltp_session.specs.Claims.{with_claims}
use Rattle.ltp_session.specs.Engine.{Party, Reply, sender_ticks, receiver_ticks, sender_changes}
use Rattle.ltp_session.specs.Engine.{receiver_changes}
use Rattle.ltp_session.specs.Receiver.{Receiving, ReceivingPhase, receiver_open}
use Rattle.ltp_session.specs.Receiver.{receiver_cancelling, Admission, fresh, receiver_due}
use Rattle.ltp_session.specs.Receiver.{receiver_tick, receiver_answers}
use Rattle.ltp_session.specs.Sender.{Sending, SendingPhase, sender_open, sender_cancelling}
use Rattle.ltp_session.specs.Sender.{checkpoint_at, opened, begin, sends_again, takes_report}
use Rattle.ltp_session.specs.Sender.{report_step, sender_due, sender_tick, sending_timer}
use Rattle.ltp_session.specs.Sender.{ends_cancelling, sender_answers, is_all_claimed}
use Rattle.ltp_session.specs.Step.{StepValue, after}
use Rattle.ltp_session.specs.Table.{find}
use Rattle.ltp_session.specs.Timer.{first_serial, is_past_serials}
use Rattle.ltp_session.specs.World.{End, first_end, second_end, other, at_end, with_end, World}
use Rattle.ltp_session.specs.World.{Event, submit, deliver, clock, replies, submitted, delivered}
use Rattle.ltp_session.specs.World.{ticks, happens, run, starts_world, ArePeers, Sent}
use Rattle.ltp_session.specs.declared.name.SessionName.{SessionName}
use Rattle.ltp_laws.specs.Deadlines.{SenderAhead, PhaseAhead, ReceiverAhead, AreAhead, Waits}
use Rattle.ltp_laws.specs.Kept.{IfKept, IfKeeps}
use Rattle.ltp_laws.specs.Runs.{sender_after, receiver_after, IsInvariant, HoldsIn}
use Rattle.ltp_laws.specs.View.{View, view, view_by}
use Rattle.ltp_laws.proofs.CheckpointLemmas.{begin-next}
use Rattle.ltp_laws.proofs.FrameLemmas.{tick-own, tick-peer}
use Rattle.ltp_laws.proofs.HandUpLemmas.{kept-on}
use Rattle.ltp_laws.proofs.ListLemmas.{both_arms, by_arms, answered}
use Rattle.ltp_laws.proofs.RunLemmas.{linked-at, holds-at, holds-happens, holds-start}
use Rattle.ltp_laws.proofs.RunLemmas.{no_submissions, two_ends, linked-apart, Linked}
use Rattle.ltp_laws.proofs.TableLemmas.{ascending-ticked}
use Rattle.ltp_laws.proofs.WalkLemmas.{OnPiece, OnSegment, walk-segment}
use Rattle.std.specs.List.{slice_get}

later : (policy : PolicyValue) (c now n : ℕ) → Waits policy → c ≤ now
    → c < now + wait_after policy n
later policy c now n waits low =
    let power = pow_pos (n - 1) in
    let longer = le-mul_of_pos_right policy.timeout power in
    omega (arith, low, waits.0, waits.1, longer)

-- ---- a sender

report-ahead : (policy : PolicyValue) (c : ℕ) (s : Sending) (x : ReportValue) (now : ℕ)
    → Waits policy → c ≤ now → SenderAhead c s
    → IfKeeps (SenderAhead c) (report_step policy s x now).next
unfolding report_step
report-ahead policy c s x now waits low ahead =
    both_arms Ahead (nat_lt s.red x.upper) _ _ tt (by_phase s.phase)
  where
    Ahead : StepValue Sending → Type 0
    Ahead t = IfKeeps (SenderAhead c) t.next

    by_last : (q : PieceValue) (parts : List (ℕ × List ℕ)) (o : Option (ℕ × List ℕ))
        → Ahead (sends_again policy (record s {
          claimed = (with_claims x.lower x.claims s.claimed);
        }) now parts (checkpoint_at (length s.block) s.red (q.checkpoint + 1) x.serial) o
        (a_report_ack x.serial ∷ []))
    by_last q parts None = ahead
    by_last q parts (Some part) = later policy c now 1 waits low

    by_phase : (phase : SendingPhase)
        → Ahead (takes_report policy s phase x now (a_report_ack x.serial ∷ []))
    by_phase (sender_cancelling reason timer) = tt
    by_phase (sender_open q timer) =
        both_arms Ahead (is_all_claimed (with_claims x.lower x.claims s.claimed)) _ _ tt
        (both_arms Ahead (x.checkpoint == q.checkpoint) _ _
        (both_arms Ahead (is_past_serials (q.checkpoint + 1)) _ _ (later policy c now 1 waits low)
        (by_last q _ _)) ahead)

pub hears-ahead : (policy : PolicyValue) (c : ℕ) (kept : Option Sending) (content : ContentValue)
    (now : ℕ) (t : StepValue Sending) → Waits policy → c ≤ now → IfKept (SenderAhead c) kept
    → sender_answers policy kept content now ≡ Some t → IfKeeps (SenderAhead c) t.next
unfolding sender_answers
hears-ahead policy c None (a_report x) now t waits low ahead hears =
    answered (λ (u : StepValue Sending). IfKeeps (SenderAhead c) u.next) _ t hears tt
hears-ahead policy c (Some s) (a_report x) now t waits low ahead hears =
    answered (λ (u : StepValue Sending). IfKeeps (SenderAhead c) u.next) _ t hears
    (report-ahead policy c s x now waits low ahead)
hears-ahead policy c None (a_receiver_cancel reason) now t waits low ahead hears =
    answered (λ (u : StepValue Sending). IfKeeps (SenderAhead c) u.next) _ t hears tt
hears-ahead policy c (Some s) (a_receiver_cancel reason) now t waits low ahead hears =
    answered (λ (u : StepValue Sending). IfKeeps (SenderAhead c) u.next) _ t hears tt
hears-ahead policy c None a_sender_cancel_ack now t waits low ahead hears =
    answered (λ (u : StepValue Sending). IfKeeps (SenderAhead c) u.next) _ t hears tt
hears-ahead policy c (Some s) a_sender_cancel_ack now t waits low ahead hears =
    answered (λ (u : StepValue Sending). IfKeeps (SenderAhead c) u.next) _ t hears
    (by_phase s.phase)
  where
    by_phase : (phase : SendingPhase) → IfKeeps (SenderAhead c) (ends_cancelling phase).next
    by_phase (sender_open q timer) = tt
    by_phase (sender_cancelling reason timer) = tt
hears-ahead policy c kept (a_piece q) now t waits low ahead hears = absurd (cc)
hears-ahead policy c kept (a_report_ack n) now t waits low ahead hears = absurd (cc)
hears-ahead policy c kept (a_sender_cancel n) now t waits low ahead hears = absurd (cc)
hears-ahead policy c kept a_receiver_cancel_ack now t waits low ahead hears = absurd (cc)

pub begin-ahead : (policy : PolicyValue) (c n : ℕ) (block : List ℕ) (red now : ℕ) → Waits policy
    → c ≤ now → IfKeeps (SenderAhead c) (begin policy n block red now).next
begin-ahead policy c n block red now waits low =
    subst (IfKeeps (SenderAhead c)) (sym (begin-next policy n block red now)) (go _)
  where
    go : (o : Option (ℕ × List ℕ)) → IfKeeps (SenderAhead c) (opened policy block red now
        (checkpoint_at (length block) red (first_serial n) 0) o)
    go None = tt
    go (Some part) = later policy c now 1 waits low

-- after a tick a deadline is above its moment
pub tick-ahead : (policy : PolicyValue) (now : ℕ) (s : Sending) → Waits policy
    → IfKept (SenderAhead now) (after (sender_tick policy s now).next (Some s))
unfolding sender_tick
tick-ahead policy now s waits =
    by_arms Ahead (nat_le (sending_timer s.phase).deadline now) _ _ (λ due. by_phase s.phase)
    (λ early. grind (arith, nat_tests))
  where
    Ahead : StepValue Sending → Type 0
    Ahead t = IfKept (SenderAhead now) (after t.next (Some s))

    by_phase : (phase : SendingPhase) → Ahead (sender_due policy s phase now)
    by_phase (sender_open q timer) = both_arms Ahead (nat_lt timer.times policy.limit) _ _
        (later policy now now (timer.times + 1) waits (omega arith)) (later policy now now 1 waits
        (omega arith))
    by_phase (sender_cancelling reason timer) =
        both_arms Ahead (nat_lt timer.times policy.limit) _ _
        (later policy now now (timer.times + 1) waits (omega arith)) tt

-- ---- a receiver

abbrev NextAhead : ℕ → StepValue Receiving → Type 0
NextAhead c t = IfKeeps (ReceiverAhead c) t.next

piece-ahead : (policy : PolicyValue) (c : ℕ) (r : Receiving) (q : PieceValue) (now : ℕ)
    → Waits policy → c ≤ now → ReceiverAhead c r → OnPiece policy r q now (NextAhead c)
piece-ahead policy c r q now waits low ahead =
    let fresh_one = later policy c now 1 waits low in
    record {
      outside = λ note. tt;
      miscoloured = fresh_one;
      greener = λ _. ahead;
      filled = λ _ _.
          ahead;
      serials_out = λ _ _. fresh_one;
      reported = λ _ _ _. fresh_one;
    }

segment-ahead : (policy : PolicyValue) (place : Admission) (c : ℕ) (kept : Option Receiving)
    (content : ContentValue) (now : ℕ) → Waits policy → c ≤ now → IfKept (ReceiverAhead c) kept
    → OnSegment policy place kept content now (NextAhead c)
segment-ahead policy place c kept content now waits low ahead = record {
  rests = λ note. tt;
  refused_service = λ q _ _. tt;
  echoed = λ _. tt;
  green_alone = λ q _ _. tt;
  opened = λ q _ _ _. piece-ahead policy c (fresh place.session) q now waits low tt;
  came = λ q r _ is _. piece-ahead policy c r q now waits low
      (subst (IfKept (ReceiverAhead c)) is ahead);
  unmoved = λ r is. subst (IfKept (ReceiverAhead c)) is ahead;
  closed_whole = λ r p serial _ _ _ _ _. tt;
  dropped = λ r p serial _ _ _ _. tt;
  called_off =
      λ r reason _. tt;
  answered_off = λ r _ _. tt;
}

pub receiver-ahead : (policy : PolicyValue) (place : Admission) (c : ℕ) (kept : Option Receiving)
    (content : ContentValue) (now : ℕ) (t : StepValue Receiving) → Waits policy → c ≤ now
    → IfKept (ReceiverAhead c) kept
    → receiver_answers policy place kept content now ≡ Some t → IfKeeps (ReceiverAhead c) t.next
receiver-ahead policy place c kept content now t waits low ahead hears =
    walk-segment policy place kept content now t (NextAhead c) hears
    (segment-ahead policy place c kept content now waits low ahead)

pub receiver_tick-ahead : (policy : PolicyValue) (now : ℕ) (r : Receiving) → Waits policy
    → IfKept (ReceiverAhead now) (after (receiver_tick policy r now).next (Some r))
unfolding receiver_tick
receiver_tick-ahead policy now r waits = by_phase r.phase refl
  where
    Ahead : StepValue Receiving → Type 0
    Ahead t = IfKept (ReceiverAhead now) (after t.next (Some r))

    by_phase : (phase : ReceivingPhase) → r.phase ≡ phase → Ahead (receiver_due policy r phase now)
    by_phase (receiver_open None) is = subst (PhaseAhead now) (sym is) tt
    by_phase (receiver_open (Some pending)) is =
        by_arms Ahead (nat_le pending.timer.deadline now) _ _
        (λ due. both_arms Ahead (nat_lt pending.timer.times policy.limit) _ _
        (later policy now now ((pending.timer).times + 1) waits (omega arith))
        (both_arms Ahead r.handed_up _ _ tt (later policy now now 1 waits (omega arith))))
        (λ early. let above : now < (pending.timer).deadline = grind (arith, nat_tests) in
        subst (PhaseAhead now) (sym is) above)
    by_phase (receiver_cancelling reason timer) is =
        by_arms Ahead (nat_le timer.deadline now) _ _
        (λ due. both_arms Ahead (nat_lt timer.times policy.limit) _ _
        (later policy now now (timer.times + 1) waits (omega arith)) tt)
        (λ early. let above : now < timer.deadline = grind (arith, nat_tests) in
        subst (PhaseAhead now) (sym is) above)

-- ---- a session

kept-lower : {S : Type 0} (P Q : S → Type 0) → ((s : S) → P s → Q s) → (kept : Option S)
    → IfKept P kept → IfKept Q kept
kept-lower P Q gives None is = tt
kept-lower P Q gives (Some s) is = gives s is

phase-lower : (c now : ℕ) → c ≤ now → (phase : ReceivingPhase) → PhaseAhead now phase
    → PhaseAhead c phase
phase-lower c now low (receiver_open None) ahead = tt
phase-lower c now low (receiver_open (Some p)) ahead = omega (arith, low, ahead)
phase-lower c now low (receiver_cancelling reason timer) ahead = omega (arith, low, ahead)

abbrev AheadAt : ℕ × ℕ → End → ℕ → View → Type 0
AheadAt c o n v = AreAhead (at_end c o) (at_end c (other o)) v

abbrev Allowed : ℕ × ℕ → PolicyValue → ℕ → Type 0
Allowed c policy now = Waits policy × (c.0 ≤ now) × (c.1 ≤ now)

low-at : (c : ℕ × ℕ) (o : End) (now : ℕ) → c.0 ≤ now → c.1 ≤ now → at_end c o ≤ now
low-at c first_end now a b = a
low-at c second_end now a b = b

ahead-invariant : (c : ℕ × ℕ) → IsInvariant (Allowed c) no_submissions (AheadAt c)
ahead-invariant c = record {
  begins = λ o policy n block red now v ok told cuts within unused ahead. record {
    sender = kept-on (SenderAhead (at_end c o)) (begin policy n block red now).next v.sender
        ahead.sender (begin-ahead policy (at_end c o) n block red now ok.0
        (low-at c o now ok.1 ok.2));
    receiver = ahead.receiver;
  };
  sender = λ o n policy v content now t ok among hears ahead. record {
    sender = kept-on (SenderAhead (at_end c o)) t.next v.sender ahead.sender
        (hears-ahead policy (at_end c o) v.sender content now t ok.0 (low-at c o now ok.1 ok.2)
        ahead.sender hears);
    receiver = ahead.receiver;
  };
  receiver = λ o n policy place v content now t ok closed among hears ahead. record {
    sender = ahead.sender;
    receiver = kept-on (ReceiverAhead (at_end c (other o))) t.next v.receiver ahead.receiver
        (receiver-ahead policy place (at_end c (other o)) v.receiver content now t ok.0
        (low-at c (other o) now ok.1 ok.2) ahead.receiver hears);
  };
  sender_tick = λ o n policy now v s ok is ahead. record {
    sender = subst (λ kept. IfKept (SenderAhead (at_end c o))
        (after (sender_tick policy s now).next kept)) (sym is)
        (kept-lower (SenderAhead now) (SenderAhead (at_end c o))
        (λ s' above. let low = low-at c o now ok.1 ok.2 in omega (arith, above, low)) _
        (tick-ahead policy now s ok.0));
    receiver = ahead.receiver;
  };
  receiver_tick = λ o n policy now v r ok is ahead. record {
    sender = ahead.sender;
    receiver = subst (λ kept. IfKept (ReceiverAhead (at_end c (other o)))
        (after (receiver_tick policy r now).next kept)) (sym is)
        (kept-lower (ReceiverAhead now) (ReceiverAhead (at_end c (other o)))
        (λ r' above. phase-lower (at_end c (other o)) now (low-at c (other o) now ok.1 ok.2)
        r'.phase above) _ (receiver_tick-ahead policy now r ok.0));
  };
  evicted = λ o n v r is ahead. record { sender = ahead.sender; receiver = tt };
}

own-ticks : (a b : ℕ) (p : Party) (now : ℕ) (v : View) (kept : Option Sending) → v.sender ≡ kept
    → Waits p.policy → AreAhead a b v → AreAhead now b (sender_after (sender_ticks p now) kept v)
own-ticks a b p now v None is waits ahead =
    record { sender = subst (IfKept (SenderAhead now)) (sym is) tt; receiver = ahead.receiver }
own-ticks a b p now v (Some s) is waits ahead = record {
  sender = subst (λ kept. IfKept (SenderAhead now) (after (sender_tick p.policy s now).next kept))
      (sym is) (tick-ahead p.policy now s waits);
  receiver = ahead.receiver;
}

peer-ticks : (a b : ℕ) (p : Party) (now : ℕ) (v : View) (kept : Option Receiving)
    → v.receiver ≡ kept → Waits p.policy → AreAhead a b v
    → AreAhead a now (receiver_after (receiver_ticks p now) kept v)
peer-ticks a b p now v None is waits ahead =
    record { sender = ahead.sender; receiver = subst (IfKept (ReceiverAhead now)) (sym is) tt }
peer-ticks a b p now v (Some r) is waits ahead = record {
  sender = ahead.sender;
  receiver =
      subst (λ kept. IfKept (ReceiverAhead now) (after (receiver_tick p.policy r now).next kept))
      (sym is) (receiver_tick-ahead p.policy now r waits);
}

-- ---- the world

abbrev BothWait : Party × Party → Type 0
BothWait parties = Waits parties.0.policy × Waits parties.1.policy

waits-at : (parties : Party × Party) (end : End) → BothWait parties
    → Waits (at_end parties end).policy
waits-at parties first_end both = both.0
waits-at parties second_end both = both.1

ticks-ahead : (parties : Party × Party) (c : ℕ × ℕ) (now : ℕ) (end : End) (w : World)
    → ArePeers parties → BothWait parties → HoldsIn (AheadAt c) parties w
    → HoldsIn (AheadAt (with_end c end now)) parties (ticks parties now end w)
unfolding ticks
ticks-ahead parties c now first_end w peers waits good =
    holds-at (AheadAt c) (AheadAt (now, c.1)) parties w first_end _ _ now good (record {
      own = λ n ahead. subst (AreAhead now c.1)
          (sym (tick-own first_end second_end parties.0 w.engines.0 w.engines.1 w.sent n now
          (two_ends first_end) (linked-apart parties.0 parties.1 linked) (good.senders first_end)))
          (own-ticks c.0 c.1 parties.0 now (view_by first_end second_end parties.0 w.engines.0
          w.engines.1 w.sent n) (find n w.engines.0.senders) refl waits.0 ahead);
      peer = λ n ahead. subst (AreAhead c.1 now)
          (sym (tick-peer first_end second_end parties.0 parties.1 w.engines.0 w.engines.1 w.sent n
          now (two_ends first_end) linked.knows linked.apart (good.receivers first_end)))
          (peer-ticks c.1 c.0 parties.0 now (view_by second_end first_end parties.1 w.engines.1
          w.engines.0 w.sent n) (find n w.engines.0.receivers) refl waits.0 ahead);
      senders = λ ascending. ascending-ticked (sender_changes parties.0 now) 0
          w.engines.0.senders ascending;
      receivers = λ ascending. ascending-ticked (receiver_changes parties.0 now) 0
          w.engines.0.receivers ascending;
      next = λ low. low;
    })
  where
    linked : Linked parties.0 parties.1
    linked = linked-at parties first_end peers
ticks-ahead parties c now second_end w peers waits good =
    holds-at (AheadAt c) (AheadAt (c.0, now)) parties w second_end _ _ now good (record {
      own = λ n ahead. subst (AreAhead now c.0)
          (sym (tick-own second_end first_end parties.1 w.engines.1 w.engines.0 w.sent n now
          (two_ends second_end) (linked-apart parties.1 parties.0 linked)
          (good.senders second_end)))
          (own-ticks c.1 c.0 parties.1 now (view_by second_end first_end parties.1 w.engines.1
          w.engines.0 w.sent n) (find n w.engines.1.senders) refl waits.1 ahead);
      peer = λ n ahead. subst (AreAhead c.0 now)
          (sym (tick-peer second_end first_end parties.1 parties.0 w.engines.1 w.engines.0 w.sent n
          now (two_ends second_end) linked.knows linked.apart (good.receivers second_end)))
          (peer-ticks c.0 c.1 parties.1 now (view_by first_end second_end parties.0 w.engines.0
          w.engines.1 w.sent n) (find n w.engines.1.receivers) refl waits.1 ahead);
      senders = λ ascending. ascending-ticked (sender_changes parties.1 now) 0
          w.engines.1.senders ascending;
      receivers = λ ascending. ascending-ticked (receiver_changes parties.1 now) 0
          w.engines.1.receivers ascending;
      next = λ low. low;
    })
  where
    linked : Linked parties.1 parties.0
    linked = linked-at parties second_end peers

-- the world's own clock
abbrev AllAhead : Party × Party → World → Type 0
AllAhead parties w = HoldsIn (AheadAt (w.now, w.now)) parties w

replies-now : (w : World) (end : End) (name : SessionName) (reply : Option Reply)
    → (replies w end name reply).now ≡ w.now
replies-now w end name None = refl
replies-now w end name (Some r) = refl

submitted-now : (parties : Party × Party) (w : World) (end : End) (block : List ℕ) (red : ℕ)
    → (submitted parties w end block red).now ≡ w.now
unfolding submitted
submitted-now parties w end block red =
    both_arms (λ (u : World). u.now ≡ w.now) (nat_le red (length block)) _ _
    (replies-now w end _ _) refl

happens-ahead : (parties : Party × Party) (w : World) (event : Event) → ArePeers parties
    → BothWait parties → AllAhead parties w → AllAhead parties (happens parties w event)
unfolding submitted ticks
happens-ahead parties w (submit end block red) peers waits good =
    subst (λ m. HoldsIn (AheadAt (m, m)) parties (happens parties w (submit end block red)))
    (sym (submitted-now parties w end block red))
    (holds-happens (Allowed (w.now, w.now)) no_submissions (AheadAt (w.now, w.now))
    (ahead-invariant (w.now, w.now)) parties w (submit end block red)
    (λ e now low. (waits-at parties e waits, low, low)) peers (λ plan is. tt) good)
happens-ahead parties w (deliver k) peers waits good =
    subst (λ m. HoldsIn (AheadAt (m, m)) parties (happens parties w (deliver k)))
    (sym (got-now (slice_get w.sent k)))
    (holds-happens (Allowed (w.now, w.now)) no_submissions (AheadAt (w.now, w.now))
    (ahead-invariant (w.now, w.now)) parties w (deliver k)
    (λ e now low. (waits-at parties e waits, low, low)) peers (λ plan is. tt) good)
  where
    got-now : (got : Option Sent) → (delivered parties w got).now ≡ w.now
    got-now None = refl
    got-now (Some d) = replies-now w (other d.from) _ _
happens-ahead parties w (clock now) peers waits good =
    by_arms (AllAhead parties) (nat_lt now w.now) w _ (λ past. good)
    (λ later. ticks-ahead parties (now, w.now) now second_end _ peers waits
    (ticks-ahead parties (w.now, w.now) now first_end w peers waits good))

run-ahead : (parties : Party × Party) (events : List Event) (w : World) → ArePeers parties
    → BothWait parties → AllAhead parties w → AllAhead parties (run parties w events)
run-ahead parties [] w peers waits good = good
run-ahead parties (event ∷ events) w peers waits good =
    run-ahead parties events (happens parties w event) peers waits
    (happens-ahead parties w event peers waits good)

ahead-both : (c : ℕ) (o : End) (v : View) → AheadAt (c, c) o 0 v → AreAhead c c v
ahead-both c first_end v ahead = ahead
ahead-both c second_end v ahead = ahead

pub deadlines_are_ahead : (parties : Party × Party) (events : List Event) → ArePeers parties
    → Waits parties.0.policy → Waits parties.1.policy → (o : End) (n : ℕ)
    → AreAhead (run parties (starts_world parties) events).now
    (run parties (starts_world parties) events).now
    (view parties (run parties (starts_world parties) events) o n)
deadlines_are_ahead parties events peers waits_first waits_second o n =
    ahead-both (run parties (starts_world parties) events).now o
    (view parties (run parties (starts_world parties) events) o n)
    ((run-ahead parties events (starts_world parties) peers (waits_first, waits_second)
    (holds-start (AheadAt (0, 0)) (λ o n. record { sender = tt; receiver = tt }) parties)).session
    o n)
