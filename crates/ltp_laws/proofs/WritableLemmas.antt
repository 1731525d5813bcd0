-- What is sent can be written.

use Rattle.std.proofs.Common.{◌≡◌, ℕ, zero, suc, ◌+◌, ◌<◌, ◌≤◌, ◌^◌, ◌-◌, Bool, true, false}
use Rattle.std.proofs.Common.{◌==◌, List, [], ◌∷◌, length, take, drop, Option, None}
use Rattle.std.proofs.Common.{Some, ◌⊎◌, inl, inr, refl, sym, arith, subst, nat_lt}
use Rattle.std.proofs.Common.{nat_le, if◌then◌else◌}
use Rattle.std.specs.List.{AllByRecursion, slice_get}
use Rattle.std.proofs.lemmas.Bool.Decides.{nat_tests}
use Rattle.std.proofs.lemmas.List.{length-take, length-drop}
use Rattle.ltp_segment.specs.declared.segment.Claim.{Claim}
use Rattle.ltp_segment.specs.declared.segment.PieceKind.{PieceKind}
use Rattle.ltp_segment.specs.declared.segment.PieceKind.TheVariants as kinds
use Rattle.ltp_segment.specs.Kinds.{is_checkpoint, is_red}
use Rattle.ltp_segment.specs.Legal.{AreClaims, AreSerials, IsContent, IsReport}
use Rattle.ltp_segment.specs.Legal.{IsSegment}
use Rattle.ltp_segment.specs.Policy.{PolicyValue}
use Rattle.ltp_segment.specs.Values.{ContentValue, PieceValue, ReportValue, a_piece, a_report}
use Rattle.ltp_segment.specs.Values.{a_report_ack, a_sender_cancel, a_sender_cancel_ack}
use Rattle.ltp_segment.specs.Values.{a_receiver_cancel, a_receiver_cancel_ack}
use Rattle.ltp_session.specs.Claims.{with_claims, report_on}
use Rattle.ltp_session.specs.Engine.{Party, Engine, Reply, submits}
use Rattle.ltp_session.specs.Engine.{submits_unless, block_empty, block_too_large}
use Rattle.ltp_session.specs.Engine.{numbers_spent, senders_busy}
use Rattle.ltp_session.specs.Receiver.{Admission, Receiving, fresh, receiver_tick}
use Rattle.ltp_session.specs.Receiver.{receiver_open, report_of}
use Rattle.ltp_session.specs.Sender.{Sending, SendingPhase, sender_open, sender_cancelling, begin}
use Rattle.ltp_session.specs.Sender.{checkpoint_at, checkpoint_kind, segments_from}
use Rattle.ltp_session.specs.Sender.{red_segments, green_segments, last_segment}
use Rattle.ltp_session.specs.Sender.{opened, unclaimed as parts_left, red_pieces, green_pieces}
use Rattle.ltp_session.specs.Sender.{sends_again, takes_report, report_step, sender_due}
use Rattle.ltp_session.specs.Sender.{sender_tick, sending_timer, ends_cancelling, sender_answers}
use Rattle.ltp_session.specs.Sender.{is_all_claimed}
use Rattle.ltp_session.specs.Step.{StepValue, ends}
use Rattle.ltp_session.specs.Timer.{first_serial, is_past_serials}
use Rattle.ltp_session.specs.World.{End, first_end, second_end, at_end, World, Sent, Event}
use Rattle.ltp_session.specs.World.{submit, deliver, clock, happens, run, starts_world, ArePeers}
use Rattle.ltp_session.specs.World.{unless_refused, submit_reply}
use Rattle.ltp_laws.specs.Blocks.{IsInPart, IsPieceOf, IsContentOf}
use Rattle.ltp_laws.specs.Checkpoints.{IsAsked}
use Rattle.ltp_laws.specs.Claims.{AreApart, IsReportOf}
use Rattle.ltp_laws.specs.Facts.{SessionFacts}
use Rattle.ltp_laws.specs.Kept.{IfKept, IfKeeps}
use Rattle.ltp_laws.specs.Kinds.{IsSenders, IsReceivers}
use Rattle.ltp_laws.specs.Log.{Submission, submission_of, submissions_at, submissions, HasSession}
use Rattle.ltp_laws.specs.Log.{HasFactsBy}
use Rattle.ltp_laws.specs.Reach.{LeavesOut}
use Rattle.ltp_laws.specs.Runs.{IsInvariant}
use Rattle.ltp_laws.specs.Spelling.{Ends}
use Rattle.ltp_laws.specs.View.{IsIn, View, view, said, sender_moves, receiver_moves}
use Rattle.ltp_laws.specs.Writable.{HasSmallNumbers, IsSmallPiece, IsSmall, IsSmallSending}
use Rattle.ltp_laws.specs.Writable.{IsSmallSender, IsSmallReceiving, IsSmallReceiver, AreSmall}
use Rattle.ltp_laws.proofs.FactLemmas.{session-keep}
use Rattle.ltp_laws.proofs.ListLemmas.{both_arms, by_arms, all-append, answered}
use Rattle.ltp_laws.proofs.LogLemmas.{every_submitted}
use Rattle.ltp_laws.proofs.RunLemmas.{holds-run, holds-start, sent-among}
use Rattle.ltp_laws.proofs.SegmentLemmas.{segments_have_sessions}
use Rattle.ltp_laws.proofs.SenderLemmas.{last-part, unclaimed-parts}
use Rattle.ltp_laws.proofs.SerialLemmas.{all-among}
use Rattle.ltp_laws.proofs.WalkLemmas.{OnPiece, OnSegment, OnTick, walk-segment, walk-tick}
use Rattle.ltp_laws.proofs.HandUpLemmas.{kept-on}

-- ---- parts of a block

-- a part that has an octet, and stops where places fit 64 bits
abbrev IsSmallPart : ℕ × List ℕ → Type 0
IsSmallPart part = (0 < length part.1) × (part.0 + length part.1 < 2 ^ 64)

small-parts : (z n at : ℕ) (octets : List ℕ) → 1 ≤ z
    → (0 < length octets → at + length octets < 2 ^ 64)
    → AllByRecursion IsSmallPart (segments_from z n at octets)
unfolding segments_from
small-parts z zero at octets cuts within = tt
small-parts z (suc n) at [] cuts within = tt
small-parts z (suc n) at (octet ∷ octets) cuts within = (
  (
    omega (arith, length-take z (octet ∷ octets), cuts),
    omega (arith, length-take z (octet ∷ octets), within (omega arith)),
  ),
  small-parts z n (at + z) (drop z (octet ∷ octets)) cuts
      (λ some. omega (arith, length-drop z (octet ∷ octets), within (omega arith), some)),
)

red-parts : (policy : PolicyValue) (block : List ℕ) (red : ℕ) → 1 ≤ policy.segment
    → length block < 2 ^ 64 → AllByRecursion IsSmallPart (red_segments policy block red)
red-parts policy block red cuts few =
    small-parts policy.segment (length (take red block)) 0 (take red block) cuts
    (λ some. omega (arith, length-take red block, few))

green-parts : (policy : PolicyValue) (block : List ℕ) (red : ℕ) → 1 ≤ policy.segment
    → length block < 2 ^ 64 → AllByRecursion IsSmallPart (green_segments policy block red)
green-parts policy block red cuts few =
    small-parts policy.segment (length (drop red block)) red (drop red block) cuts
    (λ some. omega (arith, length-drop red block, few, some))

-- ---- pieces of parts

asks-kind : (size red stop : ℕ) → is_checkpoint (checkpoint_kind size red stop) ≡ true
asks-kind size red stop =
    both_arms (λ kind. is_checkpoint kind ≡ true) (stop == red) _ _
    (both_arms (λ kind. is_checkpoint kind ≡ true) (red == size) _ _ refl refl) refl

small-checkpoint : (size red serial report : ℕ) (part : ℕ × List ℕ) → 0 < serial
    → serial < 2 ^ 64 → report < 2 ^ 64 → IsSmallPart part
    → IsSmallPiece (checkpoint_at size red serial report part)
small-checkpoint size red serial report part named few few_report is = record {
  legal = record {
    service = omega arith;
    range = is.1;
    serials = subst (λ b. AreSerials b serial report)
        (sym (asks-kind size red (part.0 + length part.1))) (named, few, few_report);
  };
  some = is.0;
}

small-red : (last : ℕ × List ℕ → PieceValue)
    → ((part : ℕ × List ℕ) → IsSmallPart part → IsSmallPiece (last part))
    → (parts : List (ℕ × List ℕ)) → AllByRecursion IsSmallPart parts
    → AllByRecursion IsSmall (red_pieces last parts)
unfolding red_pieces
small-red last of [] all = tt
small-red last of (part ∷ []) all = (of part all.0, tt)
small-red last of (part ∷ next ∷ parts) all = (
  record {
    legal = record { service = omega arith; range = all.0.1; serials = (refl, refl) };
    some = all.0.0;
  },
  small-red last of (next ∷ parts) all.1,
)

small-green : (parts : List (ℕ × List ℕ)) → AllByRecursion IsSmallPart parts
    → AllByRecursion IsSmall (green_pieces parts)
unfolding green_pieces
small-green [] all = tt
small-green (part ∷ []) all = (
  record {
    legal = record { service = omega arith; range = all.0.1; serials = (refl, refl) };
    some = all.0.0;
  },
  tt,
)
small-green (part ∷ next ∷ parts) all = (
  record {
    legal = record { service = omega arith; range = all.0.1; serials = (refl, refl) };
    some = all.0.0;
  },
  small-green (next ∷ parts) all.1,
)

-- ---- a sender's steps

abbrev SenderSmall : StepValue Sending → Type 0
SenderSmall t = AllByRecursion IsSmall t.out × IfKeeps IsSmallSender t.next

next-serial : (serial : ℕ) → serial < 2 ^ 32 → (serial + 1 == 2 ^ 32) ≡ false
    → serial + 1 < 2 ^ 32
next-serial serial low more = grind (arith, nat_tests)

small-report : (policy : PolicyValue) (s : Sending) (x : ReportValue) (now : ℕ)
    → 1 ≤ policy.segment → IsSmallSender s → x.serial < 2 ^ 64
    → SenderSmall (report_step policy s x now)
unfolding report_step
small-report policy s x now cuts small few =
    both_arms SenderSmall (nat_lt s.red x.upper) _ _ (tt, tt) (by_phase s.phase small.phase)
  where
    claimed : List Bool
    claimed = with_claims x.lower x.claims s.claimed

    parts : AllByRecursion IsSmallPart (parts_left (with_claims x.lower x.claims s.claimed)
        (red_segments policy s.block s.red))
    parts = unclaimed-parts IsSmallPart claimed _ (red-parts policy s.block s.red cuts small.block)

    by_last : (c : PieceValue) → c.checkpoint + 1 < 2 ^ 32 → (o : Option (ℕ × List ℕ))
        → IfKept IsSmallPart o
        → SenderSmall (sends_again policy
        (record s { claimed = with_claims x.lower x.claims s.claimed }) now
        (parts_left (with_claims x.lower x.claims s.claimed)
        (red_segments policy s.block s.red))
        (checkpoint_at (length s.block) s.red (c.checkpoint + 1) x.serial) o
        (a_report_ack x.serial ∷ []))
    by_last c low None is =
        ((few, tt), record { block = small.block; phase = small.phase })
    by_last c low (Some part) is =
        let of = λ (p : ℕ × List ℕ) (is_small : IsSmallPart p). small-checkpoint (length s.block)
        s.red (c.checkpoint + 1) x.serial p (omega arith) (omega (arith, low)) few is_small in (
          (few, small-red _ of _ parts),
          record { block = small.block; phase = (of part is, omega arith, low) },
        )

    by_phase : (phase : SendingPhase) → IsSmallSending phase
        → SenderSmall (takes_report policy s phase x now (a_report_ack x.serial ∷ []))
    by_phase (sender_cancelling reason timer) is = ((few, tt), tt)
    by_phase (sender_open c timer) is =
        both_arms SenderSmall (is_all_claimed (with_claims x.lower x.claims s.claimed)) _ _
        ((few, tt), tt)
        (both_arms SenderSmall (x.checkpoint == c.checkpoint) _ _
        (by_arms SenderSmall (is_past_serials (c.checkpoint + 1)) _ _
        (λ past. ((few, (omega arith, tt)), record { block = small.block; phase = omega arith }))
        (λ more. by_last c (next-serial c.checkpoint is.2 more) _ (last-part IsSmallPart _ parts)))
        ((few, tt), record { block = small.block; phase = small.phase }))

small-tick : (policy : PolicyValue) (now : ℕ) (s : Sending) → IsSmallSender s
    → SenderSmall (sender_tick policy s now)
unfolding sender_tick
small-tick policy now s small =
    both_arms SenderSmall (nat_le (sending_timer s.phase).deadline now) _ _
    (by_phase s.phase small.phase) (tt, tt)
  where
    by_phase : (phase : SendingPhase) → IsSmallSending phase
        → SenderSmall (sender_due policy s phase now)
    by_phase (sender_open c timer) is =
        both_arms SenderSmall (nat_lt timer.times policy.limit) _ _
        ((is.0, tt), record { block = small.block; phase = is })
        ((omega arith, tt), record { block = small.block; phase = omega arith })
    by_phase (sender_cancelling reason timer) is =
        both_arms SenderSmall (nat_lt timer.times policy.limit) _ _
        ((is, tt), record { block = small.block; phase = is }) (tt, tt)

small-hears : (policy : PolicyValue) (kept : Option Sending) (content : ContentValue) (now : ℕ)
    (t : StepValue Sending) → 1 ≤ policy.segment → IfKept IsSmallSender kept → IsSmall content
    → sender_answers policy kept content now ≡ Some t → SenderSmall t
unfolding sender_answers
small-hears policy None (a_report x) now t cuts small is hears =
    answered SenderSmall _ t hears ((is.1, tt), tt)
small-hears policy (Some s) (a_report x) now t cuts small is hears =
    answered SenderSmall _ t hears (small-report policy s x now cuts small is.1)
small-hears policy None (a_receiver_cancel reason) now t cuts small is hears =
    answered SenderSmall _ t hears ((tt, tt), tt)
small-hears policy (Some s) (a_receiver_cancel reason) now t cuts small is hears =
    answered SenderSmall _ t hears ((tt, tt), tt)
small-hears policy None a_sender_cancel_ack now t cuts small is hears =
    answered SenderSmall _ t hears (tt, tt)
small-hears policy (Some s) a_sender_cancel_ack now t cuts small is hears =
    answered SenderSmall _ t hears (by_phase s.phase)
  where
    by_phase : (phase : SendingPhase) → SenderSmall (ends_cancelling phase)
    by_phase (sender_open c timer) = (tt, tt)
    by_phase (sender_cancelling reason timer) = (tt, tt)
small-hears policy kept (a_piece q) now t cuts small is hears = absurd (cc)
small-hears policy kept (a_report_ack n) now t cuts small is hears = absurd (cc)
small-hears policy kept (a_sender_cancel n) now t cuts small is hears = absurd (cc)
small-hears policy kept a_receiver_cancel_ack now t cuts small is hears = absurd (cc)

first-small : (n : ℕ) → (0 < first_serial n) × (first_serial n < 2 ^ 32)
first-small n = (omega arith, omega arith)

small-begin : (policy : PolicyValue) (n : ℕ) (block : List ℕ) (red now : ℕ) → 1 ≤ policy.segment
    → length block < 2 ^ 64 → SenderSmall (begin policy n block red now)
unfolding begin
small-begin policy n block red now cuts few = (
  all-append IsSmall _ _ (small-red _ of _ parts)
      (small-green _ (green-parts policy block red cuts few)),
  by_last (last_segment (red_segments policy block red)) (last-part IsSmallPart _ parts),
)
  where
    parts : AllByRecursion IsSmallPart (red_segments policy block red)
    parts = red-parts policy block red cuts few

    of : (part : ℕ × List ℕ) → IsSmallPart part
        → IsSmallPiece (checkpoint_at (length block) red (first_serial n) 0 part)
    of part is = small-checkpoint (length block) red (first_serial n) 0 part (first-small n).0
        (omega (arith, (first-small n).1)) (omega arith) is

    by_last : (o : Option (ℕ × List ℕ)) → IfKept IsSmallPart o
        → IfKeeps IsSmallSender (opened policy block red now
        (checkpoint_at (length block) red (first_serial n) 0) o)
    by_last None is = tt
    by_last (Some part) is =
        record { block = few; phase = (of part is, (first-small n).0, (first-small n).1) }

-- ---- a receiver's steps

abbrev ReceiverSmall : StepValue Receiving → Type 0
ReceiverSmall t = AllByRecursion IsSmall t.out × IfKeeps IsSmallReceiver t.next

not-past : (serial : ℕ) → serial ≤ 2 ^ 32 → (serial == 2 ^ 32) ≡ false → serial + 1 ≤ 2 ^ 32
not-past serial most more = grind (arith, nat_tests)

small-piece : (policy : PolicyValue) (r : Receiving) (q : PieceValue) (now : ℕ)
    → IsSmallReceiver r → OnPiece policy r q now ReceiverSmall
unfolding report_of report_on
small-piece policy r q now small = record {
  outside = λ note. (tt, tt);
  miscoloured = (
    (omega arith, tt),
    record { named = small.named; serial = small.serial; phase = omega arith },
  );
  greener =
      λ _. (tt, record { named = small.named; serial = small.serial; phase = small.phase });
  filled =
      λ _ _. (tt, record { named = small.named; serial = small.serial; phase = small.phase });
  serials_out = λ _ _. (
    (omega arith, tt),
    record { named = small.named; serial = small.serial; phase = omega arith },
  );
  reported = λ _ _ more. (
    ((small.named, omega (arith, small.serial)), tt),
    record {
      named = omega arith;
      serial = not-past r.serial small.serial more;
      phase = (small.named, omega (arith, small.serial));
    },
  );
}

small-fresh : (n : ℕ) → IsSmallReceiver (fresh n)
small-fresh n = record {
  named = (first-small n).0;
  serial = omega (arith, (first-small n).1);
  phase = tt;
}

small-segment : (policy : PolicyValue) (place : Admission) (kept : Option Receiving)
    (content : ContentValue) (now : ℕ) → IfKept IsSmallReceiver kept
    → OnSegment policy place kept content now ReceiverSmall
small-segment policy place kept content now small = record {
  rests = λ note. (tt, tt);
  refused_service = λ q _ _. ((omega arith, tt), tt);
  echoed = λ _. ((tt, tt), tt);
  green_alone = λ q _ _. (tt, tt);
  opened = λ q _ _ _. small-piece policy (fresh place.session) q now (small-fresh place.session);
  came = λ q r _ is _. small-piece policy r q now (subst (IfKept IsSmallReceiver) is small);
  unmoved = λ r is. (tt, subst (IfKept IsSmallReceiver) is small);
  closed_whole = λ r p serial _ _ _ _ _. (tt, tt);
  dropped = λ r p serial is _ _ _. (tt, dropped (subst (IfKept IsSmallReceiver) is small));
  called_off = λ r reason _. ((tt, tt), tt);
  answered_off = λ r _ _. (tt, tt);
}
  where
    dropped : {r : Receiving} → IsSmallReceiver r
        → IsSmallReceiver (record r { phase = receiver_open None })
    dropped was = record { named = was.named; serial = was.serial; phase = tt }

small-receiver-tick : (policy : PolicyValue) (r : Receiving) (now : ℕ) → IsSmallReceiver r
    → OnTick policy r now ReceiverSmall
small-receiver-tick policy r now small = record {
  early = (tt, tt);
  resent = λ p is.
      let pending : IsSmall (a_report p.report) = subst IsSmallReceiving is small.phase in
      ((pending, tt), record { named = small.named; serial = small.serial; phase = pending });
  timed_out_handed = λ p _ _. (tt, tt);
  timed_out = λ p _ _. (
    (omega arith, tt),
    record { named = small.named; serial = small.serial; phase = omega arith },
  );
  recancelled = λ reason timer is.
      let few : reason < 256 = subst IsSmallReceiving is small.phase in
      ((few, tt), record { named = small.named; serial = small.serial; phase = few });
  let_go = λ reason timer _. (tt, tt);
}

-- ---- every session

abbrev pub Cuts : PolicyValue → ℕ → Type 0
Cuts policy now = 1 ≤ policy.segment

abbrev BegunSmall : End → ℕ → List ℕ → ℕ → Type 0
BegunSmall o n block red = (n < 2 ^ 32) × (length block < 2 ^ 64)

sender-small : (n : ℕ) (v : View) (t : StepValue Sending) → SenderSmall t → AreSmall n v
    → AreSmall n (sender_moves v t)
sender-small n v t step small = record {
  session = small.session;
  by_sender = all-append IsSmall v.by_sender t.out small.by_sender step.0;
  by_receiver = small.by_receiver;
  sender = kept-on IsSmallSender t.next v.sender small.sender step.1;
  receiver = small.receiver;
}

receiver-small : (n : ℕ) (v : View) (t : StepValue Receiving) → ReceiverSmall t → AreSmall n v
    → AreSmall n (receiver_moves v t)
receiver-small n v t step small = record {
  session = small.session;
  by_sender = small.by_sender;
  by_receiver = all-append IsSmall v.by_receiver t.out small.by_receiver step.0;
  sender = small.sender;
  receiver = kept-on IsSmallReceiver t.next v.receiver small.receiver step.1;
}

small-invariant : IsInvariant Cuts BegunSmall (λ o n. AreSmall n)
small-invariant = record {
  begins = λ o policy n block red now v cuts told _ within unused small.
      let step = small-begin policy n block red now cuts told.1 in
      record {
        session = λ _. told.0;
        by_sender = all-append IsSmall v.by_sender (begin policy n block red now).out
            small.by_sender step.0;
        by_receiver = small.by_receiver;
        sender = kept-on IsSmallSender (begin policy n block red now).next v.sender
            small.sender step.1;
        receiver = small.receiver;
      };
  sender = λ o n policy v content now t cuts among hears small.
      sender-small n v t (small-hears policy v.sender content now t cuts small.sender
      (all-among IsSmall content v.by_receiver small.by_receiver among) hears) small;
  receiver = λ o n policy place v content now t cuts closed among hears small.
      receiver-small n v t (walk-segment policy place v.receiver content now t ReceiverSmall hears
      (small-segment policy place v.receiver content now small.receiver)) small;
  sender_tick = λ o n policy now v s cuts is small.
      sender-small n v (sender_tick policy s now)
      (small-tick policy now s (subst (IfKept IsSmallSender) is small.sender)) small;
  receiver_tick = λ o n policy now v r cuts is small.
      receiver-small n v (receiver_tick policy r now)
      (walk-tick policy r now ReceiverSmall (small-receiver-tick policy r now
      (subst (IfKept IsSmallReceiver) is small.receiver))) small;
  evicted = λ o n v r is small. record {
    session = small.session;
    by_sender = small.by_sender;
    by_receiver = small.by_receiver;
    sender = small.sender;
    receiver = tt;
  };
}

-- ---- what is submitted

submitted-small : (p : Party) (e : Engine) (block : List ℕ) (red now : ℕ) (r : Reply)
    → p.most < 2 ^ 64 → unless_refused (submits p e block red now) ≡ Some r
    → (e.next < 2 ^ 32) × (length block < 2 ^ 64)
unfolding submits
submitted-small p e block red now r most is =
    by_tests (length block == 0) (nat_lt p.most (length block)) refl (nat_le (2 ^ 32) e.next) refl
    (nat_le p.sessions (length e.senders)) is
  where
    within : (a b : ℕ) → nat_lt a b ≡ false → b ≤ a
    within a b is = grind (arith, nat_tests)

    by_tests : (empty large : Bool) → nat_lt p.most (length block) ≡ large → (spent : Bool)
        → nat_le (2 ^ 32) e.next ≡ spent → (busy : Bool)
        → unless_refused (submits_unless (if empty then Some block_empty else if large
        then Some block_too_large else if spent then Some numbers_spent else if busy
        then Some senders_busy else None) p e block red now) ≡ Some r
        → (e.next < 2 ^ 32) × (length block < 2 ^ 64)
    by_tests true large is_large spent is_spent busy is = absurd (cc)
    by_tests false true is_large spent is_spent busy is = absurd (cc)
    by_tests false false is_large true is_spent busy is = absurd (cc)
    by_tests false false is_large false is_spent true is = absurd (cc)
    by_tests false false is_large false is_spent false is =
        (grind (arith, nat_tests), omega (arith, most, within p.most (length block) is_large))

at-most : (parties : Party × Party) (o : End) → HasSmallNumbers parties.0
    → HasSmallNumbers parties.1 → HasSmallNumbers (at_end parties o)
at-most parties first_end first second = first
at-most parties second_end first second = second

abbrev BegunBy : Submission → Type 0
BegunBy plan = BegunSmall plan.from plan.session plan.block plan.red

event-small : (parties : Party × Party) (w : World) (event : Event) → HasSmallNumbers parties.0
    → HasSmallNumbers parties.1 → AllByRecursion BegunBy (submissions_at parties w event)
event-small parties w (submit end block red) first second =
    both_arms (AllByRecursion BegunBy) (nat_le red (length block)) _ _
    (by_reply (submit_reply parties w end block red) refl) tt
  where
    by_reply : (o : Option Reply) → submit_reply parties w end block red ≡ o
        → AllByRecursion BegunBy (submission_of end (at_end w.engines end).next block red o)
    by_reply None is = tt
    by_reply (Some r) is = (
      submitted-small (at_end parties end) (at_end w.engines end) block red w.now r
          (at-most parties end first second).most is,
      tt,
    )
event-small parties w (deliver k) first second = tt
event-small parties w (clock now) first second = tt

all-small : (parties : Party × Party) (events : List Event) (w : World)
    → HasSmallNumbers parties.0 → HasSmallNumbers parties.1
    → AllByRecursion BegunBy (submissions parties w events)
unfolding submissions
all-small parties [] w first second = tt
all-small parties (event ∷ events) w first second =
    all-append BegunBy (submissions_at parties w event)
    (submissions parties (happens parties w event) events)
    (event-small parties w event first second)
    (all-small parties events (happens parties w event) first second)

pub in-all : {X : Type 0} (P : X → Type 0) (x : X) (xs : List X) → AllByRecursion P xs → IsIn x xs
    → P x
in-all P x [] all among = absurd among
in-all P x (y ∷ xs) all (inl here) = subst P here all.0
in-all P x (y ∷ xs) all (inr there) = in-all P x xs all.1 there

pub cuts-at : (parties : Party × Party) (o : End) → ArePeers parties
    → 1 ≤ (at_end parties o).policy.segment
cuts-at parties first_end peers = peers.first_cuts
cuts-at parties second_end peers = peers.second_cuts

numbers-small : (parties : Party × Party) (events : List Event) → ArePeers parties
    → HasSmallNumbers parties.0 → HasSmallNumbers parties.1 → (o : End) (n : ℕ)
    → AreSmall n (view parties (run parties (starts_world parties) events) o n)
numbers-small parties events peers first second =
    (holds-run Cuts BegunSmall (λ o n. AreSmall n) small-invariant parties (starts_world parties)
    events (λ end now. cuts-at parties end peers) peers
    (λ plan among. in-all BegunBy plan _ (all-small parties events (starts_world parties) first
    second) among)
    (holds-start (λ o n. AreSmall n) (λ o n. record {
      session = λ used. absurd (cc);
      by_sender = tt;
      by_receiver = tt;
      sender = tt;
      receiver = tt;
    }) parties)).session

-- ---- all contents

claims-legal : (most end low : ℕ) (cs : List Claim) → end ≤ low → AreApart low most cs
    → AreClaims most end cs
claims-legal most end low [] least apart = tt
claims-legal most end low (c ∷ cs) least apart = (
  record {
    some = apart.1;
    begins = omega (arith, least, apart.0);
    ends = apart.2;
  },
  claims-legal most (c.offset + c.length) (c.offset + c.length + 1) cs (omega arith) apart.3,
)

pub asks-red : (kind : PieceKind) → is_checkpoint kind ≡ true → is_red kind ≡ true
asks-red kinds.Red is = refl
asks-red kinds.RedCheckpoint is = refl
asks-red kinds.RedEnd is = refl
asks-red kinds.RedEndBlock is = refl
asks-red kinds.Green is = absurd (cc)
asks-red kinds.GreenEndBlock is = absurd (cc)

-- a red piece stops within the red part
stops-within : (red : ℕ) (reds ends_it : Bool) (from to : ℕ) → reds ≡ true
    → IsInPart red reds ends_it from to → to ≤ red
stops-within red true true from to is part = omega (arith, part)
stops-within red true false from to is part = part
stops-within red false last from to is part = absurd (cc)

serial-small : (asks : Bool) (checkpoint report : ℕ) → asks ≡ true
    → AreSerials asks checkpoint report → checkpoint < 2 ^ 64
serial-small true checkpoint report is serials = serials.1
serial-small false checkpoint report is serials = absurd (cc)

report-legal : (block : List ℕ) (red n : ℕ) (v : View) (x : ReportValue)
    → SessionFacts block red v → AreSmall n v → IsIn (a_report x) v.by_receiver → IsReport x
report-legal block red n v x facts small among =
    let is : IsSmall (a_report x) = all-among IsSmall (a_report x) v.by_receiver small.by_receiver
    among in
    let of : IsReportOf red x = facts.claims.told x among in
    record {
      named = is.0;
      serial = is.1;
      checkpoint = subst (λ c. c < 2 ^ 64) asked.named (serial-small _ _ _ asked.asks
          piece.legal.serials);
      upper = omega (arith, of.upper, red-few);
      bounds = omega (arith, of.lower, some-upper (facts.reach.reach x among));
      claims = subst (λ m. AreClaims m 0 x.claims) same (claims-legal x.upper 0 0 x.claims
          (omega arith) of.apart);
    }
  where
    asked : IsAsked v.by_sender x.checkpoint
    asked = facts.asks.names x among

    piece : IsSmallPiece asked.piece
    piece = all-among IsSmall (a_piece asked.piece) v.by_sender small.by_sender asked.among

    red-some : 0 < red
    red-some =
        let of : IsPieceOf block red asked.piece = all-among (IsContentOf block red)
        (a_piece asked.piece) v.by_sender facts.basic.said asked.among in
        let stop = stops-within red _ _ _ _ (asks-red _ asked.asks) of.part in
        omega (arith, stop, piece.some)

    red-few : red < 2 ^ 64
    red-few =
        let end : Ends v.by_sender red = facts.spelled.ended (omega (arith, red-some)) in
        let last : IsSmallPiece end.piece = all-among IsSmall (a_piece end.piece) v.by_sender
        small.by_sender end.among in
        omega (arith, end.place, last.legal.range)

    some-upper : (x.upper ≡ red) ⊎ LeavesOut x → 0 < x.upper
    some-upper (inl is) = omega (arith, is, red-some)
    some-upper (inr out) = omega (arith, out.below)

    same : x.upper ≡ x.upper - x.lower
    same = omega (arith, (facts.claims.told x among).lower)

sender-legal : (n : ℕ) (v : View) (content : ContentValue) → AreSmall n v
    → AllByRecursion IsSenders v.by_sender → IsIn content v.by_sender → IsContent content
sender-legal n v content small own among =
    by_content content (all-among IsSmall content v.by_sender small.by_sender among)
    (all-among IsSenders content v.by_sender own among)
  where
    by_content : (c : ContentValue) → IsSmall c → IsSenders c → IsContent c
    by_content (a_piece q) is says = is.legal
    by_content (a_report x) is says = absurd says
    by_content (a_report_ack serial) is says = is
    by_content (a_sender_cancel reason) is says = is
    by_content a_sender_cancel_ack is says = tt
    by_content (a_receiver_cancel reason) is says = is
    by_content a_receiver_cancel_ack is says = tt

receiver-legal : (block : List ℕ) (red n : ℕ) (v : View) (content : ContentValue)
    → SessionFacts block red v → AreSmall n v → IsIn content v.by_receiver → IsContent content
receiver-legal block red n v content facts small among =
    by_content content refl (all-among IsSmall content v.by_receiver small.by_receiver among)
    (all-among IsReceivers content v.by_receiver facts.kinds.by_receiver among)
  where
    by_content : (c : ContentValue) → content ≡ c → IsSmall c → IsReceivers c → IsContent c
    by_content (a_report x) same is says =
        report-legal block red n v x facts small (subst (λ c. IsIn c v.by_receiver) same among)
    by_content (a_piece q) same is says = absurd says
    by_content (a_report_ack serial) same is says = absurd says
    by_content (a_sender_cancel reason) same is says = is
    by_content a_sender_cancel_ack same is says = tt
    by_content (a_receiver_cancel reason) same is says = is
    by_content a_receiver_cancel_ack same is says = tt

-- what was said in a session by either end
said-legal : (parties : Party × Party) (w : World) (from of : End) (n : ℕ) (content : ContentValue)
    → IsIn content (said from (at_end parties of).own n w.sent)
    → IsIn content (view parties w of n).by_sender ⊎ IsIn content (view parties w of n).by_receiver
said-legal parties w first_end first_end n content among = inl among
said-legal parties w second_end first_end n content among = inr among
said-legal parties w first_end second_end n content among = inr among
said-legal parties w second_end second_end n content among = inl among

pub segments_can_be_written : (parties : Party × Party) (events : List Event) → ArePeers parties
    → HasSmallNumbers parties.0 → HasSmallNumbers parties.1 → (k : ℕ) (d : Sent)
    → slice_get (run parties (starts_world parties) events).sent k ≡ Some d → IsSegment d.segment
segments_can_be_written parties events peers first second k d is =
    record {
      originator = subst (λ o. o < 2 ^ 64) (sym has.originator)
          (at-most parties has.of first second).own;
      session = omega (arith, small.session has.used);
      content = by_used v.used refl (every_submitted SessionFacts session-keep parties events
          peers has.of (d.segment).session);
    }
  where
    w : World
    w = run parties (starts_world parties) events

    has : HasSession parties (run parties (starts_world parties) events) d
    has = segments_have_sessions parties events peers k d is

    v : View
    v = view parties w has.of (d.segment).session

    small : AreSmall (d.segment).session (view parties (run parties (starts_world parties) events)
        has.of (d.segment).session)
    small = numbers-small parties events peers first second has.of (d.segment).session

    among : IsIn (d.segment).content (view parties w has.of (d.segment).session).by_sender
        ⊎ IsIn (d.segment).content (view parties w has.of (d.segment).session).by_receiver
    among = said-legal parties w d.from has.of (d.segment).session (d.segment).content
        (subst (λ o. IsIn (d.segment).content (said d.from o (d.segment).session w.sent))
        has.originator (sent-among w.sent k d is))

    by_facts : (block : List ℕ) (red : ℕ)
        → SessionFacts block red (view parties w has.of (d.segment).session)
        → IsIn (d.segment).content (view parties w has.of (d.segment).session).by_sender
        ⊎ IsIn (d.segment).content (view parties w has.of (d.segment).session).by_receiver
        → IsContent (d.segment).content
    by_facts block red facts (inl by_sender) =
        sender-legal (d.segment).session v (d.segment).content small facts.kinds.by_sender
        by_sender
    by_facts block red facts (inr by_receiver) =
        receiver-legal block red (d.segment).session v (d.segment).content facts small by_receiver

    by_used : (used : Bool) → (view parties w has.of (d.segment).session).used ≡ used
        → HasFactsBy SessionFacts (submissions parties (starts_world parties) events) has.of
        (d.segment).session used (view parties w has.of (d.segment).session)
        → IsContent (d.segment).content
    by_used false unused facts = absurd (let used = has.used in cc)
    by_used true used facts =
        by_facts (facts.submission).block (facts.submission).red facts.facts among
