-- What an engine sends breaks no rule over the recording of its exchange.

use Rattle.std.proofs.Common.{◌≡◌, ◌≢◌, ℕ, ◌<◌, ◌≤◌, ◌^◌, Bool, true, false, ◌==◌, ◌&&◌, nat_lt, nat_le}
use Rattle.std.proofs.Common.{List, [], ◌∷◌, length, Option, None, Some, is_some, Result, Ok, Err, refl, sym, ◌∙◌, ap, arith, subst, if◌then◌else◌}
use Rattle.std.specs.List.{AllByRecursion}
use Rattle.std.proofs.lemmas.Bool.{eqb-true, ne_eqb, eq-eqb}
use Rattle.std.proofs.lemmas.Bool.Decides.{nat_tests}
use Rattle.ltp_segment.specs.declared.fault.SegmentCause.{SegmentCause}
use Rattle.ltp_segment.specs.Policy.{PolicyValue}
use Rattle.ltp_segment.specs.Reading.{segment_of}
use Rattle.ltp_segment.specs.Values.{ContentValue, a_piece, a_report, a_report_ack}
use Rattle.ltp_segment.specs.Values.{a_sender_cancel, a_sender_cancel_ack, a_receiver_cancel}
use Rattle.ltp_segment.specs.Values.{a_receiver_cancel_ack, SegmentValue}
use Rattle.ltp_session.specs.declared.name.SessionName.{SessionName}
use Rattle.ltp_session.specs.Table.{find, ticked}
use Rattle.ltp_session.specs.Step.{Change, stays, keeps, ends, after, StepValue}
use Rattle.ltp_session.specs.Sender.{Sending, begin, sender_answers}
use Rattle.ltp_session.specs.Receiver.{Receiving, Admission, receiver_answers}
use Rattle.ltp_segment.specs.declared.session.Note.TheVariants as notes
use Rattle.ltp_session.specs.Engine.{Party, Engine, Reply, EngineStep, sender_replies, receiver_replies, replied_or_stranger, noted, admission_of, is_used, to_sender, to_receiver, arrives, datagram_step, begun, replied, submits, submit_step, submits_unless, block_empty, block_too_large, numbers_spent, senders_busy, SubmitFault, tick_step, tick_out, tick_segments, sender_ticks, receiver_ticks, sender_changes, receiver_changes}
use Rattle.ltp_laws.specs.Kept.{IfKept, IfKeeps}
use Rattle.ltp_laws.proofs.TableLemmas.{self_eqb, find-settled_other, ascending-settled, ascending-ticked, find-ticked, after_tick}
use Rattle.ltp_audit.specs.declared.entry.Entry.{Entry}
use Rattle.ltp_audit.specs.Sides.{is_of_sender, is_on_its_side}
use Rattle.ltp_audit.specs.Recorded.{said_in}
use Rattle.ltp_audit.specs.Recording.{came}
use Rattle.ltp_audit.specs.Keeping.{followed_by, KeepsRules}
use Rattle.ltp_audit.specs.Knows.{SenderMay, Awaits, IsOfBlock, IsNoPiece, IsParty, Sends, Receives, Knows}
use Rattle.ltp_audit.proofs.SaidLemmas.{said-here, entries, Says, says, holds-after}
use Rattle.ltp_audit.proofs.SenderSays.{SenderGoes, StillSends, IsTold, begin-goes, tick-goes}
use Rattle.ltp_audit.proofs.ReceiverSays.{receiver-tick-goes}
use Rattle.ltp_audit.proofs.KnowsLemmas.{sender-safe, settled-each, TicksWell, TickedWell, sent, sent-append, followed-append, rules-append, tick-all}
use Rattle.ltp_audit.proofs.ComingLemmas.{knows-came, on-side-in, of-block}
use Rattle.ltp_audit.proofs.ReplyLemmas.{apart-name, other-number, knows-sender, sender-does, sender-hears, receiver-does, receiver-hears, knows-receiver}

-- ---- the steps of an engine

-- a step after a recording: what is sent breaks no rule, and the recording tells of the engine after it
pub record GoesWell (p : Party) (history : List Entry) (step : EngineStep) : Type 0 where
  pub rules : KeepsRules p.own p.peer history (sent step.effects.out)
  pub knows : Knows p step.engine (followed_by history (sent step.effects.out))

-- contents that have an answer come from their side
answers-side : (policy : PolicyValue) (kept : Option Sending) (content : ContentValue) (now : ℕ) (t : StepValue Sending)
    → sender_answers policy kept content now ≡ Some t → is_of_sender content ≡ false
unfolding sender_answers
answers-side policy kept (a_report x) now t hears = refl
answers-side policy kept (a_receiver_cancel reason) now t hears = refl
answers-side policy kept a_sender_cancel_ack now t hears = refl
answers-side policy kept (a_piece q) now t hears = absurd (cc)
answers-side policy kept (a_report_ack n) now t hears = absurd (cc)
answers-side policy kept (a_sender_cancel n) now t hears = absurd (cc)
answers-side policy kept a_receiver_cancel_ack now t hears = absurd (cc)

hears-side : (policy : PolicyValue) (place : Admission) (kept : Option Receiving) (content : ContentValue) (now : ℕ) (t : StepValue Receiving)
    → receiver_answers policy place kept content now ≡ Some t → is_of_sender content ≡ true
unfolding receiver_answers
hears-side policy place kept (a_piece q) now t hears = refl
hears-side policy place kept (a_report_ack n) now t hears = refl
hears-side policy place kept (a_sender_cancel n) now t hears = refl
hears-side policy place kept a_receiver_cancel_ack now t hears = refl
hears-side policy place kept (a_report x) now t hears = absurd (cc)
hears-side policy place kept (a_receiver_cancel reason) now t hears = absurd (cc)
hears-side policy place kept a_sender_cancel_ack now t hears = absurd (cc)

module _ (p : Party) (party : IsParty p) (e : Engine) (datagram : List ℕ) (history : List Entry) (knows : Knows p e history)
    (s : SegmentValue) (is : segment_of datagram ≡ Ok s) (few : s.session < 2 ^ 64) (told : IsTold s.content) (now : ℕ) where
  name-of : SessionName
  name-of = record { originator = s.originator; number = s.session }

  strange : (reply : Option Reply) → reply ≡ None
      → GoesWell p (came datagram ∷ history) (replied_or_stranger e (record { originator = s.originator; number = s.session }) reply)
  strange reply none =
      subst (λ (r : Option Reply). GoesWell p (came datagram ∷ history) (replied_or_stranger e (record { originator = s.originator; number = s.session }) r)) (sym none)
      (record { rules = tt; knows = knows-came p e datagram history knows })

  own-well : s.originator ≡ p.own → s.session < e.next → (o : Option (StepValue Sending))
      → sender_answers p.policy (find s.session e.senders) s.content now ≡ o
      → GoesWell p (came datagram ∷ history)
      (replied_or_stranger e (record { originator = s.originator; number = s.session }) (sender_replies e s.session o))
  own-well own used None answers = record { rules = tt; knows = knows-came p e datagram history knows }
  own-well own used (Some t) answers =
      let by_receiver = answers-side p.policy (find s.session e.senders) s.content now t answers in
      let same = eq-eqb s.originator p.own own in
      let side : is_on_its_side p.own p.peer false s ≡ true = rw (by_receiver, same) refl in
      let more = said-here p.own p.peer (came datagram) history s p.own s.session (on-side-in p.own p.peer datagram s is side)
      (rw (same, self_eqb s.session) refl) in
      let before = knows-came p e datagram history knows in
      let replies = sender-hears p party s.session few (came datagram ∷ history) p.policy (find s.session e.senders) s.content now t
      (said_in p.own p.peer history p.own s.session) more (before.senders s.session) told answers in
      subst (λ (o : ℕ). GoesWell p (came datagram ∷ history)
      (replied_or_stranger e (record { originator = o; number = s.session }) (sender_replies e s.session (Some t)))) (sym own)
      (record {
        rules = replies.said.rules;
        knows = knows-sender p party e (came datagram ∷ history) before s.session used t replies.said replies.known;
      })

  peer-well : s.originator ≡ p.peer → (o : Option (StepValue Receiving))
      → receiver_answers p.policy (admission_of p e s.session) (find s.session e.receivers) s.content now ≡ o
      → GoesWell p (came datagram ∷ history)
      (replied_or_stranger e (record { originator = s.originator; number = s.session }) (receiver_replies p e s.session o))
  peer-well peer None answers = record { rules = tt; knows = knows-came p e datagram history knows }
  peer-well peer (Some t) answers =
      let by_sender = hears-side p.policy (admission_of p e s.session) (find s.session e.receivers) s.content now t answers in
      let same = eq-eqb s.originator p.peer peer in
      let apart : (s.originator == p.own) ≡ false = ne_eqb s.originator p.own (λ h. party.apart (sym h ∙ peer)) in
      let side : is_on_its_side p.own p.peer false s ≡ true = rw (by_sender, apart, same) refl in
      let more = said-here p.own p.peer (came datagram) history s p.peer s.session (on-side-in p.own p.peer datagram s is side)
      (rw (same, self_eqb s.session) refl) in
      let before = knows-came p e datagram history knows in
      let replies = receiver-hears p party s.session few (came datagram ∷ history) p.policy (admission_of p e s.session) (find s.session e.receivers)
      s.content now t (said_in p.own p.peer history p.peer s.session) more (before.receivers s.session) told answers in
      subst (λ (o : ℕ). GoesWell p (came datagram ∷ history)
      (replied_or_stranger e (record { originator = o; number = s.session }) (receiver_replies p e s.session (Some t)))) (sym peer)
      (record {
        rules = replies.said.rules;
        knows = knows-receiver p party e (came datagram ∷ history) before s.session t replies.said replies.known;
      })

  segment-well : GoesWell p (came datagram ∷ history)
      (replied_or_stranger e (record { originator = s.originator; number = s.session }) (arrives p e s now))
  unfolding arrives
  segment-well = by_own (s.originator == p.own) refl where
    none : GoesWell p (came datagram ∷ history) (noted e notes.Stranger)
    none = record { rules = tt; knows = knows-came p e datagram history knows }

    by_own : (own : Bool) → (s.originator == p.own) ≡ own
        → GoesWell p (came datagram ∷ history) (replied_or_stranger e (record { originator = s.originator; number = s.session })
        (if own then (if is_used p e s.session then to_sender p e s now else None)
        else if s.originator == p.peer then to_receiver p e s now else None))
    by_own true own = by_used (is_used p e s.session) refl where
      by_used : (used : Bool) → is_used p e s.session ≡ used
          → GoesWell p (came datagram ∷ history) (replied_or_stranger e (record { originator = s.originator; number = s.session })
          (if used then to_sender p e s now else None))
      by_used false used = none
      by_used true used = own-well (eqb-true s.originator p.own own) (below (nat_le p.first s.session) (nat_lt s.session e.next) refl used) _ refl where
        below : (a b : Bool) → nat_lt s.session e.next ≡ b → (a && b) ≡ true → s.session < e.next
        below true true is_b both = grind (arith, nat_tests)
        below true false is_b both = absurd (cc)
        below false b is_b both = absurd (cc)
    by_own false own = by_peer (s.originator == p.peer) refl where
      by_peer : (peer : Bool) → (s.originator == p.peer) ≡ peer
          → GoesWell p (came datagram ∷ history) (replied_or_stranger e (record { originator = s.originator; number = s.session })
          (if peer then to_receiver p e s now else None))
      by_peer false peer = none
      by_peer true peer = peer-well (eqb-true s.originator p.peer peer) _ refl

-- a datagram comes, whose numbers fit 64 bits where it is a segment
pub datagram-well : (p : Party) (e : Engine) (datagram : List ℕ) (history : List Entry) (now : ℕ) → IsParty p → Knows p e history
    → ((s : SegmentValue) → segment_of datagram ≡ Ok s → (s.session < 2 ^ 64) × IsTold s.content)
    → GoesWell p (came datagram ∷ history) (datagram_step p e (segment_of datagram) now)
unfolding datagram_step
datagram-well p e datagram history now party knows fits = by (segment_of datagram) refl where
  by : (r : Result SegmentValue (ℕ × SegmentCause)) → segment_of datagram ≡ r → GoesWell p (came datagram ∷ history) (datagram_step p e r now)
  by (Err refusal) is = record { rules = tt; knows = knows-came p e datagram history knows }
  by (Ok s) is = let told = fits s is in segment-well p party e datagram history knows s is told.0 told.1 now

-- ---- a block is submitted

all-of-block : (block : List ℕ) (said : List ContentValue) → AllByRecursion IsNoPiece said → AllByRecursion (IsOfBlock block) said
all-of-block block [] none = tt
all-of-block block (content ∷ said) none = (of-block block content none.0, all-of-block block said none.1)

begun-sends : (n : ℕ) (said : List ContentValue) (block : List ℕ) (c : Change Sending) → n < 2 ^ 64 → length block < 2 ^ 64
    → AllByRecursion (IsOfBlock block) said → IfKeeps (StillSends block) c → IfKept (Sends n said) (after c None)
begun-sends n said block stays few small pieces next = tt
begun-sends n said block (keeps s) few small pieces next =
    let same = sym next.0 in (
      few,
      record {
        small = subst (λ (b : List ℕ). length b < 2 ^ 64) same small;
        awaits = subst (λ (b : List ℕ). Awaits b s.phase) same next.1;
        pieces = subst (λ (b : List ℕ). AllByRecursion (IsOfBlock b) said) same pieces;
      },
    )
begun-sends n said block ends few small pieces next = tt

begun-well : (p : Party) (e : Engine) (block : List ℕ) (red now : ℕ) (history : List Entry) → IsParty p → Knows p e history
    → length block < 2 ^ 64 → e.next < 2 ^ 32
    → GoesWell p history (replied (record { originator = p.own; number = e.next }) (begun e (begin p.policy e.next block red now)))
begun-well p e block red now history party knows small numbered = record {
  rules = said.rules;
  knows = record {
    senders = settled-each (λ m. Sends m (said_in p.own p.peer history p.own m))
        (λ m. Sends m (said_in p.own p.peer later p.own m)) e.next e.senders knows.senders
        (λ m s apart is. subst (λ (x : List ContentValue). Sends m x s) (sym (said.there p.own m (other-number p.own e.next m (λ h. apart (sym h))))) is)
        t.next here;
    receivers = λ m. subst (λ (x : List ContentValue). IfKept (Receives m x) (find m e.receivers)) (sym (said.there p.peer m (apart-name p party e.next m)))
        (knows.receivers m);
    fresh = λ m above.
        let apart : m ≢ e.next = λ h. absurd (omega (arith, h, above)) in
        let before = knows.fresh m (omega (arith, above)) in (
          find-settled_other m e.next t.next e.senders apart ∙ before.0,
          subst (λ (x : List ContentValue). AllByRecursion IsNoPiece x)
              (sym (said.there p.own m (other-number p.own e.next m (λ h. apart (sym h))))) before.1,
        );
    numbers = omega (arith, numbered);
    own_ascend = ascending-settled e.next 0 t.next e.senders (omega arith) knows.own_ascend;
    others_ascend = knows.others_ascend;
  };
} where
  t : StepValue Sending
  t = begin p.policy e.next block red now

  few : e.next < 2 ^ 64
  few = omega (arith, numbered)

  unsaid : AllByRecursion (IsOfBlock block) (said_in p.own p.peer history p.own e.next)
  unsaid = all-of-block block (said_in p.own p.peer history p.own e.next) (knows.fresh e.next (omega arith)).1

  goes : SenderGoes block (said_in p.own p.peer history p.own e.next) (begin p.policy e.next block red now)
  goes = begin-goes p.policy e.next block red now (said_in p.own p.peer history p.own e.next) small

  said : Says p.own p.peer (record { originator = p.own; number = e.next }) (begin p.policy e.next block red now).out history
  said = says p.own p.peer (record { originator = p.own; number = e.next }) (SenderMay block) (AllByRecursion (IsOfBlock block))
      (sender-safe p party e.next few block) (begin p.policy e.next block red now).out history goes.0 unsaid

  later : List Entry
  later = followed_by history (entries (record { originator = p.own; number = e.next }) (begin p.policy e.next block red now).out)

  here : IfKept (Sends e.next (said_in p.own p.peer (followed_by history
      (entries (record { originator = p.own; number = e.next }) (begin p.policy e.next block red now).out)) p.own e.next))
      (after (begin p.policy e.next block red now).next (find e.next e.senders))
  here =
      let all = holds-after p.own p.peer (record { originator = p.own; number = e.next }) (SenderMay block) (AllByRecursion (IsOfBlock block))
      (sender-safe p party e.next few block) (begin p.policy e.next block red now).out (said_in p.own p.peer history p.own e.next) goes.0 unsaid in
      let none = (knows.fresh e.next (omega arith)).0 in
      subst (λ (x : List ContentValue). IfKept (Sends e.next x) (after (begin p.policy e.next block red now).next (find e.next e.senders))) (sym said.here)
      (subst (λ (o : Option Sending). IfKept (Sends e.next (followed_by (said_in p.own p.peer history p.own e.next) (begin p.policy e.next block red now).out))
      (after (begin p.policy e.next block red now).next o)) (sym none)
      (begun-sends e.next _ block (begin p.policy e.next block red now).next few small all goes.1))

abbrev GoesIfSent : Party → List Entry → Result EngineStep SubmitFault → Type 0
GoesIfSent p history (Ok step) = GoesWell p history step
GoesIfSent p history (Err fault) = Unit {0}

pub submit-well : (p : Party) (e : Engine) (block : List ℕ) (red now : ℕ) (history : List Entry) (step : EngineStep) → IsParty p → Knows p e history
    → submit_step p e (submits p e block red now) ≡ Ok step → GoesWell p history step
unfolding submits
submit-well p e block red now history step party knows is =
    by (length block == 0) (nat_lt p.most (length block)) refl (nat_le (2 ^ 32) e.next) refl (nat_le p.sessions (length e.senders)) is
  where
    within : (a b : ℕ) → nat_lt a b ≡ false → b ≤ a
    within a b is = grind (arith, nat_tests)

    by : (empty large : Bool) → nat_lt p.most (length block) ≡ large → (spent : Bool) → nat_le (2 ^ 32) e.next ≡ spent → (busy : Bool)
        → submit_step p e (submits_unless (if empty then Some block_empty else if large then Some block_too_large
        else if spent then Some numbers_spent else if busy then Some senders_busy else None) p e block red now) ≡ Ok step
        → GoesWell p history step
    by true large is_large spent is_spent busy is = absurd (cc)
    by false true is_large spent is_spent busy is = absurd (cc)
    by false false is_large true is_spent busy is = absurd (cc)
    by false false is_large false is_spent true is = absurd (cc)
    by false false is_large false is_spent false is =
        subst (GoesIfSent p history) is (begun-well p e block red now history party knows
        (omega (arith, party.most, within p.most (length block) is_large)) (grind (arith, nat_tests)))

-- ---- time passes

pub tick-well : (p : Party) (e : Engine) (now : ℕ) (history : List Entry) → IsParty p → Knows p e history → GoesWell p history (tick_step p e now)
unfolding tick_step
tick-well p e now history party knows = record {
  rules = subst (KeepsRules p.own p.peer history) (sym (sent-append own_segments other_segments))
      (rules-append p.own p.peer history (sent own_segments) (sent other_segments) first.rules second.rules);
  knows = record {
    senders = λ n.
        subst (λ (x : List ContentValue). IfKept (Sends n x) (find n (ticked (sender_changes p now) e.senders)))
        (sym (at-end p.own n ∙ second.others p.own n (apart n (is_some (find n e.receivers))))) (first.each n);
    receivers = λ n. subst (λ (x : List ContentValue). IfKept (Receives n x) (find n (ticked (receiver_changes p now) e.receivers)))
        (sym (at-end p.peer n)) (second.each n);
    fresh = λ n above.
        let before = knows.fresh n above in
        let none = before.0 in (
          find-ticked (sender_changes p now) n 0 e.senders knows.own_ascend ∙ ap (after_tick (sender_changes p now)) none,
          subst (λ (x : List ContentValue). AllByRecursion IsNoPiece x)
              (sym (at-end p.own n ∙ (second.others p.own n (apart n (is_some (find n e.receivers)))
              ∙ first.others p.own n (rw (self_eqb p.own, none) refl)))) before.1,
        );
    numbers = knows.numbers;
    own_ascend = ascending-ticked (sender_changes p now) 0 e.senders knows.own_ascend;
    others_ascend = ascending-ticked (receiver_changes p now) 0 e.receivers knows.others_ascend;
  };
} where
  own_segments : List SegmentValue
  own_segments = tick_segments (sender_ticks p now) p.own e.senders

  other_segments : List SegmentValue
  other_segments = tick_segments (receiver_ticks p now) p.peer e.receivers

  sender-ticks : (n : ℕ) (s : Sending) (h : List Entry) → Sends n (said_in p.own p.peer h p.own n) s
      → TicksWell p.own p.peer (record { originator = p.own; number = n }) (Sends n) (sender_ticks p now s) s h
  sender-ticks n s h sends =
      let replies = sender-does p party n sends.0 h s (sender_ticks p now s) sends.1 (tick-goes p.policy now s (said_in p.own p.peer h p.own n) sends.1.awaits) in
      record { said = replies.said; known = replies.known }

  receiver-ticks : (n : ℕ) (r : Receiving) (h : List Entry) → Receives n (said_in p.own p.peer h p.peer n) r
      → TicksWell p.own p.peer (record { originator = p.peer; number = n }) (Receives n) (receiver_ticks p now r) r h
  receiver-ticks n r h receives =
      let replies = receiver-does p party n receives.0 h (Some r) (receiver_ticks p now r) receives.1 (receiver-tick-goes p.policy r now (said_in p.own p.peer h p.peer n) receives.1) in
      record { said = replies.said; known = replies.known }

  apart : (n : ℕ) (b : Bool) → ((p.peer == p.own) && b) ≡ false
  apart n b = let other : (p.peer == p.own) ≡ false = ne_eqb p.peer p.own (λ h. party.apart (sym h)) in rw other refl

  away : (n : ℕ) (b : Bool) → ((p.own == p.peer) && b) ≡ false
  away n b = let other : (p.own == p.peer) ≡ false = ne_eqb p.own p.peer party.apart in rw other refl

  first : TickedWell p.own p.peer p.own (sender_ticks p now) Sends sender-ticks e.senders history
  first = tick-all p.own p.peer p.own (sender_ticks p now) Sends sender-ticks e.senders 0 history knows.own_ascend knows.senders

  second : TickedWell p.own p.peer p.peer (receiver_ticks p now) Receives receiver-ticks e.receivers
      (followed_by history (sent (tick_segments (sender_ticks p now) p.own e.senders)))
  second = tick-all p.own p.peer p.peer (receiver_ticks p now) Receives receiver-ticks e.receivers 0
      (followed_by history (sent (tick_segments (sender_ticks p now) p.own e.senders))) knows.others_ascend
      (λ n. subst (λ (x : List ContentValue). IfKept (Receives n x) (find n e.receivers))
      (sym (first.others p.peer n (away n (is_some (find n e.senders))))) (knows.receivers n))

  at-end : (o n : ℕ) → said_in p.own p.peer (followed_by history (sent (tick_out p e now))) o n
      ≡ said_in p.own p.peer (followed_by (followed_by history (sent (tick_segments (sender_ticks p now) p.own e.senders)))
      (sent (tick_segments (receiver_ticks p now) p.peer e.receivers))) o n
  at-end o n = ap (λ (h : List Entry). said_in p.own p.peer h o n)
      (ap (followed_by history) (sent-append (tick_segments (sender_ticks p now) p.own e.senders) (tick_segments (receiver_ticks p now) p.peer e.receivers))
      ∙ followed-append history (sent (tick_segments (sender_ticks p now) p.own e.senders)) (sent (tick_segments (receiver_ticks p now) p.peer e.receivers)))
