-- Where nothing is on its way, a tick of both timers costs one for each that fires.

use Rattle.std.proofs.Common.{◌≡◌, ℕ, ◌+◌, ◌<◌, ◌≤◌, Bool, true, false, List, [], ◌∷◌, length}
use Rattle.std.proofs.Common.{take, Option, None, Some, is_some, ◌⊎◌, inl, inr, refl, sym, ◌∙◌}
use Rattle.std.proofs.Common.{ap, arith, subst, subst₂, nat_lt, nat_le, if◌then◌else◌}
use Rattle.std.proofs.lemmas.Bool.{lt-ltb, le-leb}
use Rattle.std.proofs.lemmas.List.{append-nil}
use Rattle.ltp_segment.specs.Kinds.{is_checkpoint}
use Rattle.ltp_segment.specs.Policy.{PolicyValue}
use Rattle.ltp_segment.specs.Values.{PieceValue, ReportValue, ContentValue, a_piece, a_report}
use Rattle.ltp_session.specs.Cells.{cell}
use Rattle.ltp_session.specs.Receiver.{receiver_due, Pending, Receiving, ReceivingPhase}
use Rattle.ltp_session.specs.Receiver.{is_cancelling, receiver_cancelling, receiver_open}
use Rattle.ltp_session.specs.Receiver.{receiver_tick}
use Rattle.ltp_session.specs.Sender.{Sending, segments_of, sender_due, sender_open, sender_tick}
use Rattle.ltp_session.specs.Sender.{sending_timer}
use Rattle.ltp_session.specs.Step.{StepValue, after}
use Rattle.ltp_session.specs.Timer.{next_timer}
use Rattle.ltp_session.specs.declared.timer.Timer.{Timer}
use Rattle.ltp_laws.specs.Checkpoints.{HasAsked}
use Rattle.ltp_laws.specs.Claims.{IsWhole}
use Rattle.ltp_laws.specs.Kept.{IfKept}
use Rattle.ltp_laws.specs.Runs.{receiver_after, sender_after}
use Rattle.ltp_laws.specs.Serials.{HasReported, pending_of}
use Rattle.ltp_laws.specs.View.{IsIn, View, closed_after}
use Rattle.ltp_laws.proofs.FrameLemmas.{out_of}
use Rattle.ltp_laws.proofs.ListLemmas.{both_arms}
use Rattle.ltp_laws.proofs.SerialLemmas.{among-append, among-right}
use Rattle.ltp_drain.specs.Calm.{sender_rests, Calm, Drains, Given, Advances, ReceiverTicked}
use Rattle.ltp_drain.specs.Calm.{SenderTicked, Setting, TickFalls, Ticked, WaitsOn, asks}
use Rattle.ltp_drain.specs.Calm.{is_cancel, sleeps, tells}
use Rattle.ltp_drain.specs.Hopeful.{IsHanded, IsKeptSender}
use Rattle.ltp_drain.specs.Rank.{HasFilled, IsAskedOn, IsReportedOn, Settled, ahead, weight}
use Rattle.ltp_drain.specs.Rank.{weights}
use Rattle.ltp_drain.proofs.DrainStarts.{none-asked, none-reported}

only_true : {A : Type 0} (P : A → Type 0) (b : Bool) (x y : A) → b ≡ true → P x
    → P (if b then x else y)
only_true P true x y is holds = holds
only_true P false x y is holds = absurd (cc)

-- ---- a session's ticks have these forms

pub sender-ticks : (policy : PolicyValue) (s : Sending) (c : PieceValue) (timer : Timer) (now : ℕ)
    → s.phase ≡ sender_open c timer → timer.times < policy.limit
    → SenderTicked (Some s) (after (sender_tick policy s now).next (Some s))
    (sender_tick policy s now).out
unfolding sender_tick
sender-ticks policy s c timer now waited left =
    both_arms Form (nat_le (sending_timer s.phase).deadline now) _ _
    (subst (λ phase. Form (sender_due policy s phase now)) (sym waited)
    (only_true Form (nat_lt timer.times policy.limit) _ _ (lt-ltb timer.times policy.limit left)
    (asks s _ c timer (next_timer policy timer now) refl waited refl refl refl refl refl)))
    (sender_rests refl refl)
  where
    Form : StepValue Sending → Type 0
    Form t = SenderTicked (Some s) (after t.next (Some s)) t.out

pub receiver-ticks : (policy : PolicyValue) (r : Receiving) (now : ℕ)
    → is_cancelling r.phase ≡ false → ((p : Pending) → pending_of r.phase ≡ Some p
    → (p.timer).times < policy.limit)
    → ReceiverTicked (Some r) (after (receiver_tick policy r now).next (Some r))
    (receiver_tick policy r now).out × ((closed : Bool)
    → closed_after (receiver_tick policy r now).next closed ≡ closed)
unfolding receiver_tick
receiver-ticks policy r now listening left = by_phase r.phase refl listening
  where
    Form : StepValue Receiving → Type 0
    Form t = ReceiverTicked (Some r) (after t.next (Some r)) t.out
        × ((closed : Bool) → closed_after t.next closed ≡ closed)

    by_phase : (phase : ReceivingPhase) → r.phase ≡ phase → is_cancelling phase ≡ false
        → Form (receiver_due policy r phase now)
    by_phase (receiver_cancelling reason timer) is listens_on = absurd (cc)
    by_phase (receiver_open None) is listens_on = (sleeps refl refl, λ closed. refl)
    by_phase (receiver_open (Some p)) is listens_on =
        both_arms Form (nat_le (p.timer).deadline now) _ _
        (only_true Form (nat_lt (p.timer).times policy.limit) _ _
        (lt-ltb (p.timer).times policy.limit (left p (ap pending_of is))) (
          tells r _ p (record p { timer = next_timer policy p.timer now }) refl (ap pending_of is)
              refl refl refl refl refl refl refl refl,
          λ closed. refl,
        ))
        (sleeps refl refl, λ closed. refl)

-- ---- the row

record ReportTick (report : ℕ) (o' : Option Receiving) (out_s out_r : List ContentValue) : Type 0
  where
    left : ℕ
    paid : weights out_r + left + length out_r ≤ report
    reporting : (r' : Receiving) (p : Pending) → o' ≡ Some r' → pending_of r'.phase ≡ Some p
        → IsReportedOn (p.report).serial out_s out_r ⊎ (3 ≤ left)

report-tick : (report : ℕ) (o o' : Option Receiving) (out_s out_r : List ContentValue)
    → ((r : Receiving) (p : Pending) → o ≡ Some r → pending_of r.phase ≡ Some p
    → IsReportedOn (p.report).serial [] [] ⊎ (3 ≤ report))
    → ReceiverTicked o o' out_r → ReportTick report o' out_s out_r
unfolding weights
report-tick report o o' out_s out_r before (sleeps same out) = record {
  left = report;
  paid = omega (arith, ap weights out, ap length out);
  reporting = λ r' p is waits. go (before r' p (sym same ∙ is) waits);
}
  where
    go : {X : Type 0} {serial : ℕ} → IsReportedOn serial [] [] ⊎ X
        → IsReportedOn serial out_s out_r ⊎ X
    go (inr x) = inr x
    go {serial = serial} (inl on) = absurd (none-reported serial on)
report-tick report o o' out_s out_r before (tells r r' p p' is waits is' waits' same_report cells
    handed serial listening out) = record {
      left = 0;
      paid = omega (arith, ap weights out, ap length out, three (before r p is waits));
      reporting = λ r₂ p₂ is₂ waits₂.
          let both : Some r' ≡ Some r₂ = sym is' ∙ is₂ in
          let one : r' ≡ r₂ = cc in
          let also : Some p' ≡ Some p₂ = sym waits'
          ∙ ap (λ (r : Receiving). pending_of r.phase) one
          ∙ waits₂ in
          let same : p' ≡ p₂ = cc in
          inl (inl (
            p.report,
            subst (IsIn (a_report p.report)) (sym out) (inl refl),
            ap (λ (x : ReportValue). x.serial) (sym same_report)
                ∙ ap (λ (p : Pending). (p.report).serial) same,
          ));
    }
  where
    three : IsReportedOn (p.report).serial [] [] ⊎ (3 ≤ report) → 3 ≤ report
    three (inl on) = absurd (none-reported (p.report).serial on)
    three (inr enough) = enough

record CheckpointTick (checkpoint : ℕ) (o' : Option Sending) (out_s out_r : List ContentValue) :
    Type 0 where
  left : ℕ
  paid : weights out_s + left + length out_s ≤ checkpoint
  asking : (s' : Sending) (c : PieceValue) (timer : Timer) → o' ≡ Some s'
      → s'.phase ≡ sender_open c timer → IsAskedOn c.checkpoint out_s out_r ⊎ (4 ≤ left)

checkpoint-tick : (checkpoint : ℕ) (o o' : Option Sending) (out_s out_r : List ContentValue)
    → ((s : Sending) (c : PieceValue) (timer : Timer) → o ≡ Some s → s.phase ≡ sender_open c timer
    → IsAskedOn c.checkpoint [] [] ⊎ (4 ≤ checkpoint))
    → ((s : Sending) (c : PieceValue) (timer : Timer) → o ≡ Some s → s.phase ≡ sender_open c timer
    → is_checkpoint c.kind ≡ true)
    → SenderTicked o o' out_s → CheckpointTick checkpoint o' out_s out_r
unfolding weights
checkpoint-tick checkpoint o o' out_s out_r before current (sender_rests same out) = record {
  left = checkpoint;
  paid = omega (arith, ap weights out, ap length out);
  asking = λ s' c timer is waits. go (before s' c timer (sym same ∙ is) waits);
}
  where
    go : {X : Type 0} {c : ℕ} → IsAskedOn c [] [] ⊎ X → IsAskedOn c out_s out_r ⊎ X
    go (inr x) = inr x
    go {c = c} (inl on) = absurd (none-asked c on)
checkpoint-tick checkpoint o o' out_s out_r before current
    (asks s s' c timer timer' is waits is' waits' same_red same_block out) = record {
      left = 0;
      paid = omega (
        arith,
        ap weights out,
        ap length out,
        four (before s c timer is waits),
        heavy,
      );
      asking = λ s₂ c₂ timer₂ is₂ waits₂.
          let both : Some s' ≡ Some s₂ = sym is' ∙ is₂ in
          let one : s' ≡ s₂ = cc in
          let also : sender_open c timer' ≡ sender_open c₂ timer₂ = sym waits'
          ∙ ap (λ (s : Sending). s.phase) one ∙ waits₂ in
          let same : c ≡ c₂ = cc in
          inl (inl (
            c,
            subst (IsIn (a_piece c)) (sym out) (inl refl),
            current s c timer is waits,
            ap (λ (q : PieceValue). q.checkpoint) same,
          ));
    }
  where
    four : IsAskedOn c.checkpoint [] [] ⊎ (4 ≤ checkpoint) → 4 ≤ checkpoint
    four (inl on) = absurd (none-asked c.checkpoint on)
    four (inr enough) = enough

    heavy : weight (a_piece c) ≡ 3
    heavy = rw (current s c timer is waits) refl

-- what is kept of the sender, and of the receiver
same-sender : (o o' : Option Sending) (out : List ContentValue) → SenderTicked o o' out
    → (s' : Sending) (c : PieceValue) (timer' : Timer) → o' ≡ Some s'
    → s'.phase ≡ sender_open c timer'
    → (s : Sending) × (timer : Timer) × (o ≡ Some s) × (s.phase ≡ sender_open c timer)
    × (s'.red ≡ s.red) × (s'.block ≡ s.block)
same-sender o o' out (sender_rests same none) s' c timer' is waits = (
  s',
  timer',
  sym same
      ∙ is,
  waits,
  refl,
  refl,
)
same-sender o o' out (asks s s₂ c₂ timer timer₂ is₂ waited is' waits' same_red same_block sends)
    s' c timer' is waits =
    let both : Some s₂ ≡ Some s' = sym is' ∙ is in
    let one : s₂ ≡ s' = cc in
    let also : sender_open c₂ timer₂ ≡ sender_open c timer' = sym waits'
    ∙ ap (λ (s : Sending). s.phase) one ∙ waits in
    let same : c₂ ≡ c = cc in (
      s,
      timer,
      is₂,
      subst (λ (q : PieceValue). s.phase ≡ sender_open q timer) same waited,
      ap (λ (s : Sending). s.red) (sym one) ∙ same_red,
      ap (λ (s : Sending). s.block) (sym one)
          ∙ same_block,
    )

record SameReceiver (o : Option Receiving) (r' : Receiving) : Type 0 where
  r : Receiving
  is : o ≡ Some r
  cells : r'.cells ≡ r.cells
  handed : r'.handed_up ≡ r.handed_up
  serial : r'.serial ≡ r.serial

same-receiver : (o o' : Option Receiving) (out : List ContentValue) → ReceiverTicked o o' out
    → (r' : Receiving) → o' ≡ Some r' → SameReceiver o r'
same-receiver o o' out (sleeps same none) r' is = record {
  r = r';
  is = sym same
      ∙ is;
  cells = refl;
  handed = refl;
  serial = refl;
}
same-receiver o o' out (tells r r₂ p p' is₂ waits is' waits' same_report cells handed serial
    listening sends) r' is =
    let both : Some r₂ ≡ Some r' = sym is' ∙ is in
    let one : r₂ ≡ r' = cc in
    record {
      r = r;
      is = is₂;
      cells = ap (λ (r : Receiving). r.cells) (sym one)
          ∙ cells;
      handed = ap (λ (r : Receiving). r.handed_up) (sym one)
          ∙ handed;
      serial = ap (λ (r : Receiving). r.serial) (sym one) ∙ serial;
    }

still-filled : (i : ℕ) (o o' : Option Receiving) (out : List ContentValue)
    → ReceiverTicked o o' out → HasFilled i o → HasFilled i o'
still-filled i o o' out (sleeps same none) has = subst (HasFilled i) (sym same) has
still-filled i o o' out (tells r r₂ p p' is₂ waits is' waits' same_report cells handed serial
    listening sends) has =
    subst (HasFilled i) (sym is') (subst (λ (cs : List (Option ℕ)). is_some (cell cs i) ≡ true)
    (sym cells) (subst (HasFilled i) is₂ has))

ahead-none : (c i : ℕ) → ahead c i [] ≡ true → ⊥
unfolding ahead
ahead-none c i is = cc

-- what is told again was told before
told-before : (said : List ContentValue) (o o' : Option Receiving) (out : List ContentValue)
    → ReceiverTicked o o' out → IfKept (HasReported said) o → (x : ReportValue)
    → IsIn (a_report x) out → IsIn (a_report x) said
told-before said o o' out (sleeps same none) known x among =
    absurd (subst (IsIn (a_report x)) none among)
told-before said o o' out (tells r r₂ p p' is₂ waits is' waits' same_report cells handed serial
    listening sends) known x among = go (subst (IsIn (a_report x)) sends among)
  where
    go : IsIn (a_report x) (a_report p.report ∷ []) → IsIn (a_report x) said
    go (inl here) = subst (λ c. IsIn c said) here
        ((subst (IfKept (HasReported said)) is₂ known).pending p waits)
    go (inr none) = absurd none

asked-before : (by_sender by_receiver : List ContentValue) (o o' : Option Sending)
    (out : List ContentValue) → SenderTicked o o' out → IfKept (HasAsked by_sender by_receiver) o
    → (c : ContentValue) → IsIn c out → IsIn c by_sender
asked-before by_sender by_receiver o o' out (sender_rests same none) known c among =
    absurd (subst (IsIn c) none among)
asked-before by_sender by_receiver o o' out (asks s s₂ q timer timer₂ is₂ waited is' waits'
    same_red same_block sends) known c among = go (subst (IsIn c) sends among)
  where
    go : IsIn c (a_piece q ∷ []) → IsIn c by_sender
    go (inl here) = subst (λ c. IsIn c by_sender) here
        ((subst (IfKept (HasAsked by_sender by_receiver)) is₂ known).current q timer waited).among
    go (inr none) = absurd none

tells-only : (o o' : Option Receiving) (out : List ContentValue) → ReceiverTicked o o' out
    → (c : ContentValue) → IsIn c out → (x : ReportValue) × (a_report x ≡ c)
tells-only o o' out (sleeps same none) c among = absurd (subst (IsIn c) none among)
tells-only o o' out (tells r r₂ p p' is₂ waits is' waits' same_report cells handed serial
    listening sends) c among = go (subst (IsIn c) sends among)
  where
    go : IsIn c (a_report p.report ∷ []) → (x : ReportValue) × (a_report x ≡ c)
    go (inl here) = (p.report, here)
    go (inr none) = absurd none

sends-open : (o o' : Option Sending) (out : List ContentValue) → SenderTicked o o' out
    → (c : ContentValue) → IsIn c out → IsKeptSender o' × (is_cancel c ≡ false)
sends-open o o' out (sender_rests same none) c among = absurd (subst (IsIn c) none among)
sends-open o o' out (asks s s₂ q timer timer₂ is₂ waited is' waits' same_red same_block sends) c
    among = (subst IsKeptSender (sym is') tt, go (subst (IsIn c) sends among))
  where
    go : IsIn c (a_piece q ∷ []) → is_cancel c ≡ false
    go (inl here) = ap is_cancel (sym here)
    go (inr none) = absurd none

pub tick-falls : (at : Setting) (block : List ℕ) (most : ℕ) (v v' : View)
    (out_s out_r : List ContentValue) (n : ℕ) → Given block at.red most v
    → Drains at v [] [] n → Ticked v v' out_s out_r → TickFalls at v' out_s out_r n
unfolding weights
tick-falls at block most v v' out_s out_r n given drains ticked = record {
  left = weights out_s + weights out_r + reports.left + checkpoints.left + (drains.rank).round;
  less = omega (arith, reports.paid, checkpoints.paid, (drains.rank).sum);
  drains = record {
    calm = calm;
    rank = record {
      report = reports.left;
      checkpoint = checkpoints.left;
      round = (drains.rank).round;
      sum = omega arith;
      reporting = reports.reporting;
      asking = checkpoints.asking;
      rounding = rounding;
    };
    serials = record {
      sender = λ s' c timer' is waits.
          let (s, timer, kept, waited, same_red, same_block) =
          same-sender v.sender v'.sender out_s ticked.sender s' c timer' is waits in
          omega (
            arith,
            (drains.serials).sender s c timer kept waited,
            reports.paid,
            checkpoints.paid,
            (drains.rank).sum,
          );
      receiver = λ r' is.
          let same = same-receiver v.receiver v'.receiver out_r ticked.receiver r' is in
          omega (
            arith,
            (drains.serials).receiver same.r same.is,
            same.serial,
            reports.paid,
            checkpoints.paid,
            (drains.rank).sum,
          );
      fresh = omega (
        arith,
        (drains.serials).fresh,
        reports.paid,
        checkpoints.paid,
        (drains.rank).sum,
      );
    };
    fit = λ q among. drains.fit q (sent_before q
        (among-append (a_piece q) v.by_sender out_s
        (subst (IsIn (a_piece q)) ticked.by_sender among)));
    low = λ is_open. drains.low (was_open v'.sender ticked.sender is_open);
  };
}
  where
    sent_before : (q : PieceValue) → IsIn (a_piece q) v.by_sender ⊎ IsIn (a_piece q) out_s
        → IsIn (a_piece q) v.by_sender
    sent_before q (inl old) = old
    sent_before q (inr now) = asked-before v.by_sender v.by_receiver v.sender v'.sender out_s
        ticked.sender ((given.facts).1).sender (a_piece q) now

    was_open : (o' : Option Sending) → SenderTicked v.sender o' out_s → IsKeptSender o'
        → IsKeptSender v.sender
    was_open o' (sender_rests same none) is_open = subst IsKeptSender same is_open
    was_open o' (asks s s₂ q timer timer₂ is₂ waited is' waits' same_red same_block sends)
        is_open = subst IsKeptSender (sym is₂) tt

    current : (s : Sending) (c : PieceValue) (timer : Timer) → v.sender ≡ Some s
        → s.phase ≡ sender_open c timer → is_checkpoint c.kind ≡ true
    current s c timer is waits = ((subst (IfKept (HasAsked v.by_sender v.by_receiver)) is
        ((given.facts).1).sender).current c timer waits).asks

    reports : ReportTick (drains.rank).report v'.receiver out_s out_r
    reports = report-tick (drains.rank).report v.receiver v'.receiver out_s out_r
        (drains.rank).reporting ticked.receiver

    checkpoints : CheckpointTick (drains.rank).checkpoint v'.sender out_s out_r
    checkpoints = checkpoint-tick (drains.rank).checkpoint v.sender v'.sender out_s out_r
        (drains.rank).asking current ticked.sender

    heard_r : (c : ContentValue) → IsIn c out_r → IsIn c v'.by_receiver
    heard_r c among = subst (IsIn c) (sym ticked.by_receiver)
        (among-right c v.by_receiver out_r among)

    heard_s : (c : ContentValue) → IsIn c out_s → IsIn c v'.by_sender
    heard_s c among = subst (IsIn c) (sym ticked.by_sender)
        (among-right c v.by_sender out_s among)

    settled : (c : ℕ) → Settled at.red v c [] → Settled at.red v' c out_s
    settled c before = record { whole = whole; cells = λ i low. go i (before.cells i low) }
      where
        by_among : (x : ReportValue) → IsIn (a_report x) v.by_receiver ⊎ IsIn (a_report x) out_r
            → IsIn (a_report x) v.by_receiver
        by_among x (inl old) = old
        by_among x (inr now) = told-before v.by_receiver v.receiver v'.receiver out_r
            ticked.receiver ((given.facts).0.0.1).kept x now

        whole : (x : ReportValue) → IsIn (a_report x) v'.by_receiver → x.checkpoint ≡ c
            → IsWhole at.red x
        whole x among named = before.whole x (by_among x
            (among-append (a_report x) v.by_receiver out_r
            (subst (IsIn (a_report x)) ticked.by_receiver among))) named

        go : (i : ℕ) → HasFilled i v.receiver ⊎ (ahead c i [] ≡ true) → HasFilled i v'.receiver
            ⊎ (ahead c i out_s ≡ true)
        go i (inl has) = inl (still-filled i v.receiver v'.receiver out_r ticked.receiver has)
        go i (inr on) = absurd (ahead-none c i on)

    rounding : (s' : Sending) (c : PieceValue) (timer : Timer) → v'.sender ≡ Some s'
        → s'.phase ≡ sender_open c timer
        → Settled at.red v' c.checkpoint out_s
        ⊎ (length (segments_of at.z 0 (take s'.red s'.block)) + 2 ≤ (drains.rank).round)
    rounding s' c timer' is waits =
        let (s, timer, kept, waited, same_red, same_block) =
        same-sender v.sender v'.sender out_s ticked.sender s' c timer' is waits in
        go s same_red same_block ((drains.rank).rounding s c timer kept waited)
      where
        go : (s : Sending) → s'.red ≡ s.red → s'.block ≡ s.block
            → Settled at.red v c.checkpoint []
            ⊎ (length (segments_of at.z 0 (take s.red s.block)) + 2 ≤ (drains.rank).round)
            → Settled at.red v' c.checkpoint out_s
            ⊎ (length (segments_of at.z 0 (take s'.red s'.block)) + 2 ≤ (drains.rank).round)
        go s same_red same_block (inl before) = inl (settled c.checkpoint before)
        go s same_red same_block (inr paid) =
            inr (subst₂ (λ (r : ℕ) (b : List ℕ). length (segments_of at.z 0 (take r b)) + 2 ≤
            (drains.rank).round) (sym same_red) (sym same_block) paid)

    calm : Calm at.limit_s at.limit_r v' out_s out_r
    calm = record {
      sending = sending;
      receiving = receiving;
      none_s = λ c among. (sends-open v.sender v'.sender out_s ticked.sender c among).1;
      none_r = λ c among. let told = tells-only v.receiver v'.receiver out_r ticked.receiver c
          among in ap is_cancel (sym told.1);
      asking = asking ticked.sender;
      reporting = reporting ticked.receiver;
      unclosed = λ s' is. ticked.closed ∙ unclosed s' is;
      awaited = λ q among red_kind. inl (sends-open v.sender v'.sender out_s ticked.sender
          (a_piece q) among).0;
      heard_s = heard_s;
      heard_r = heard_r;
    }
      where
        by_sender : (o' : Option Sending) → SenderTicked v.sender o' out_s → (s' : Sending)
            → o' ≡ Some s' → WaitsOn s'
        by_sender o' (sender_rests same none) s' is = (drains.calm).sending s' (sym same ∙ is)
        by_sender o' (asks s s₂ q timer timer₂ is₂ waited is' waits' same_red same_block sends) s'
            is =
            let both : Some s₂ ≡ Some s' = sym is' ∙ is in
            let one : s₂ ≡ s' = cc in
            subst WaitsOn one (record { checkpoint = q; timer = timer₂; is = waits' })

        sending : (s' : Sending) → v'.sender ≡ Some s' → WaitsOn s'
        sending = by_sender v'.sender ticked.sender

        was : (o' : Option Sending) → SenderTicked v.sender o' out_s → (s' : Sending)
            → o' ≡ Some s' → v.closed ≡ false
        was o' (sender_rests same none) s' is = (drains.calm).unclosed s' (sym same ∙ is)
        was o' (asks s s₂ q timer timer₂ is₂ waited is' waits' same_red same_block sends) s' is =
            (drains.calm).unclosed s is₂

        unclosed : (s' : Sending) → v'.sender ≡ Some s' → v.closed ≡ false
        unclosed = was v'.sender ticked.sender

        by_receiver : (o' : Option Receiving) → ReceiverTicked v.receiver o' out_r
            → (r' : Receiving) → o' ≡ Some r' → is_cancelling r'.phase ≡ false
        by_receiver o' (sleeps same none) r' is = (drains.calm).receiving r' (sym same ∙ is)
        by_receiver o' (tells r r₂ p p' is₂ waits is' waits' same_report cells handed serial
            listening sends) r' is =
            let both : Some r₂ ≡ Some r' = sym is' ∙ is in
            let one : r₂ ≡ r' = cc in
            subst (λ (r : Receiving). is_cancelling r.phase ≡ false) one listening

        receiving : (r' : Receiving) → v'.receiver ≡ Some r' → is_cancelling r'.phase ≡ false
        receiving = by_receiver v'.receiver ticked.receiver

        idle_asked : {X : Type 0} (c : ℕ) → IsAskedOn c [] [] ⊎ X → IsAskedOn c out_s out_r ⊎ X
        idle_asked c (inl on) = absurd (none-asked c on)
        idle_asked c (inr x) = inr x

        asking : SenderTicked v.sender v'.sender out_s
            → (s' : Sending) (c : PieceValue) (timer : Timer) → v'.sender ≡ Some s'
            → s'.phase ≡ sender_open c timer
            → IsAskedOn c.checkpoint out_s out_r ⊎ (timer.times < at.limit_s)
        asking (sender_rests same none) s' c timer is waits =
            idle_asked c.checkpoint ((drains.calm).asking s' c timer (sym same ∙ is) waits)
        asking (asks s s₂ q timer timer₂ is₂ waited is' waits' same_red same_block sends) s' c
            timer' is waits =
            let both : Some s₂ ≡ Some s' = sym is' ∙ is in
            let one : s₂ ≡ s' = cc in
            let also : sender_open q timer₂ ≡ sender_open c timer' = sym waits'
            ∙ ap (λ (s : Sending). s.phase) one ∙ waits in
            let same : q ≡ c = cc in
            inl (inl (
              q,
              subst (IsIn (a_piece q)) (sym sends) (inl refl),
              current s q timer is₂ waited,
              ap (λ (q : PieceValue). q.checkpoint) same,
            ))

        idle_reported : {X : Type 0} (serial : ℕ) → IsReportedOn serial [] [] ⊎ X
            → IsReportedOn serial out_s out_r ⊎ X
        idle_reported serial (inl on) = absurd (none-reported serial on)
        idle_reported serial (inr x) = inr x

        reporting : ReceiverTicked v.receiver v'.receiver out_r → (r' : Receiving) (p : Pending)
            → v'.receiver ≡ Some r' → pending_of r'.phase ≡ Some p
            → IsReportedOn (p.report).serial out_s out_r ⊎ ((p.timer).times < at.limit_r)
        reporting (sleeps same none) r' p is waits = idle_reported (p.report).serial
            ((drains.calm).reporting r' p (sym same ∙ is) waits)
        reporting (tells r r₂ p p' is₂ waits is' waits' same_report cells handed serial listening
            sends) r' p₂ is waits₂ =
            let both : Some r₂ ≡ Some r' = sym is' ∙ is in
            let one : r₂ ≡ r' = cc in
            let also : Some p' ≡ Some p₂ = sym waits'
            ∙ ap (λ (r : Receiving). pending_of r.phase) one ∙ waits₂ in
            let same : p' ≡ p₂ = cc in
            inl (inl (
              p.report,
              subst (IsIn (a_report p.report)) (sym sends) (inl refl),
              ap (λ (x : ReportValue). x.serial) (sym same_report)
                  ∙ ap (λ (p : Pending). (p.report).serial) same,
            ))

-- ---- a session whose ends tick, as a view

record TicksAs (v : View) (o_s : Option Sending) (o_r : Option Receiving) (tick_s : Sending
    → StepValue Sending) (tick_r : Receiving → StepValue Receiving) : Type 0 where
  sender : (s : Sending) → o_s ≡ Some s → SenderTicked (Some s) (after (tick_s s).next (Some s))
      (tick_s s).out
  receiver : (r : Receiving) → o_r ≡ Some r → ReceiverTicked (Some r)
      (after (tick_r r).next (Some r)) (tick_r r).out
      × ((closed : Bool) → closed_after (tick_r r).next closed ≡ closed)

ticks_as : (policy_s policy_r : PolicyValue) (now : ℕ) (v : View)
    → Calm policy_s.limit policy_r.limit v [] []
    → TicksAs v v.sender v.receiver (λ s. sender_tick policy_s s now)
    (λ r. receiver_tick policy_r r now)
ticks_as policy_s policy_r now v calm = record {
  sender = λ s is.
      let waits = calm.sending s is in
      sender-ticks policy_s s waits.checkpoint waits.timer now waits.is
      (idle waits.checkpoint (calm.asking s waits.checkpoint waits.timer is waits.is));
  receiver = λ r is. receiver-ticks policy_r r now (calm.receiving r is)
      (λ p waits. idle_too (p.report).serial (calm.reporting r p is waits));
}
  where
    idle : {times : ℕ} (c : PieceValue) → IsAskedOn c.checkpoint [] [] ⊎ (times < policy_s.limit)
        → times < policy_s.limit
    idle c (inl on) = absurd (none-asked c.checkpoint on)
    idle c (inr left) = left

    idle_too : {times : ℕ} (serial : ℕ) → IsReportedOn serial [] [] ⊎ (times < policy_r.limit)
        → times < policy_r.limit
    idle_too serial (inl on) = absurd (none-reported serial on)
    idle_too serial (inr left) = left

sender-first-as : (v : View) (o_s : Option Sending) (o_r : Option Receiving) (tick_s : Sending
    → StepValue Sending) (tick_r : Receiving → StepValue Receiving) → v.sender ≡ o_s
    → v.receiver ≡ o_r
    → TicksAs v o_s o_r tick_s tick_r → Ticked v
    (receiver_after tick_r o_r (sender_after tick_s o_s v)) (out_of tick_s o_s)
    (out_of tick_r o_r)
sender-first-as v None None tick_s tick_r is_s is_r forms = record {
  by_sender = sym (append-nil v.by_sender);
  by_receiver = sym (append-nil v.by_receiver);
  closed = refl;
  sender = sender_rests refl refl;
  receiver = sleeps refl refl;
}
sender-first-as v (Some s) None tick_s tick_r is_s is_r forms = record {
  by_sender = refl;
  by_receiver = sym (append-nil v.by_receiver);
  closed = refl;
  sender = subst (λ o. SenderTicked o (after (tick_s s).next o) (tick_s s).out) (sym is_s)
      (forms.sender s refl);
  receiver = sleeps refl refl;
}
sender-first-as v None (Some r) tick_s tick_r is_s is_r forms = record {
  by_sender = sym (append-nil v.by_sender);
  by_receiver = refl;
  closed = (forms.receiver r refl).1 v.closed;
  sender = sender_rests refl refl;
  receiver = subst (λ o. ReceiverTicked o (after (tick_r r).next o) (tick_r r).out) (sym is_r)
      (forms.receiver r refl).0;
}
sender-first-as v (Some s) (Some r) tick_s tick_r is_s is_r forms = record {
  by_sender = refl;
  by_receiver = refl;
  closed = (forms.receiver r refl).1 v.closed;
  sender = subst (λ o. SenderTicked o (after (tick_s s).next o) (tick_s s).out) (sym is_s)
      (forms.sender s refl);
  receiver = subst (λ o. ReceiverTicked o (after (tick_r r).next o) (tick_r r).out) (sym is_r)
      (forms.receiver r refl).0;
}

either-order : (v : View) (o_s : Option Sending) (o_r : Option Receiving) (tick_s : Sending
    → StepValue Sending) (tick_r : Receiving → StepValue Receiving)
    → sender_after tick_s o_s (receiver_after tick_r o_r v) ≡ receiver_after tick_r o_r
    (sender_after tick_s o_s v)
either-order v None None tick_s tick_r = refl
either-order v (Some s) None tick_s tick_r = refl
either-order v None (Some r) tick_s tick_r = refl
either-order v (Some s) (Some r) tick_s tick_r = refl

pub sender-first : (policy_s policy_r : PolicyValue) (now : ℕ) (v : View)
    → Calm policy_s.limit policy_r.limit v [] []
    → Ticked v (receiver_after (λ r. receiver_tick policy_r r now) v.receiver
    (sender_after (λ s. sender_tick policy_s s now) v.sender v))
    (out_of (λ s. sender_tick policy_s s now) v.sender)
    (out_of (λ r. receiver_tick policy_r r now) v.receiver)
sender-first policy_s policy_r now v calm =
    sender-first-as v v.sender v.receiver (λ s. sender_tick policy_s s now)
    (λ r. receiver_tick policy_r r now) refl refl (ticks_as policy_s policy_r now v calm)

pub receiver-first : (policy_s policy_r : PolicyValue) (now : ℕ) (v : View)
    → Calm policy_s.limit policy_r.limit v [] []
    → Ticked v (sender_after (λ s. sender_tick policy_s s now) v.sender
    (receiver_after (λ r. receiver_tick policy_r r now) v.receiver v))
    (out_of (λ s. sender_tick policy_s s now) v.sender)
    (out_of (λ r. receiver_tick policy_r r now) v.receiver)
receiver-first policy_s policy_r now v calm =
    subst (λ v'. Ticked v v' (out_of (λ s. sender_tick policy_s s now) v.sender)
    (out_of (λ r. receiver_tick policy_r r now) v.receiver))
    (sym (either-order v v.sender v.receiver (λ s. sender_tick policy_s s now)
    (λ r. receiver_tick policy_r r now)))
    (sender-first policy_s policy_r now v calm)

-- ---- a timer that is due fires

pub sending-fires : (policy : PolicyValue) (s : Sending) (c : PieceValue) (timer : Timer)
    (now : ℕ) → s.phase ≡ sender_open c timer → timer.times < policy.limit → timer.deadline ≤ now
    → (sender_tick policy s now).out ≡ a_piece c ∷ []
unfolding sender_tick
sending-fires policy s c timer now waited left due =
    only_true Form (nat_le (sending_timer s.phase).deadline now) _ _
    (subst (λ phase. nat_le (sending_timer phase).deadline now ≡ true) (sym waited)
    (le-leb timer.deadline now due))
    (subst (λ phase. Form (sender_due policy s phase now)) (sym waited)
    (only_true Form (nat_lt timer.times policy.limit) _ _
    (lt-ltb timer.times policy.limit left) refl))
  where
    Form : StepValue Sending → Type 0
    Form t = t.out ≡ a_piece c ∷ []

pub receiving-fires : (policy : PolicyValue) (r : Receiving) (p : Pending) (now : ℕ)
    → pending_of r.phase ≡ Some p → (p.timer).times < policy.limit → (p.timer).deadline ≤ now
    → (receiver_tick policy r now).out ≡ a_report p.report ∷ []
unfolding receiver_tick
receiving-fires policy r p now waits left due = by_phase r.phase waits
  where
    Form : StepValue Receiving → Type 0
    Form t = t.out ≡ a_report p.report ∷ []

    by_phase : (phase : ReceivingPhase) → pending_of phase ≡ Some p
        → Form (receiver_due policy r phase now)
    by_phase (receiver_cancelling reason timer) is = absurd (cc)
    by_phase (receiver_open None) is = absurd (cc)
    by_phase (receiver_open (Some x)) is =
        let found : p ≡ x = cc in
        subst (λ (x : Pending). Form (receiver_due policy r (receiver_open (Some x)) now)) found
        (only_true Form (nat_le (p.timer).deadline now) _ _ (le-leb (p.timer).deadline now due)
        (only_true Form (nat_lt (p.timer).times policy.limit) _ _
        (lt-ltb (p.timer).times policy.limit left) refl))

pub ticked-advances : (v v' : View) (out_s out_r : List ContentValue) → Ticked v v' out_s out_r
    → Advances v v' ⊥ ⊥
ticked-advances v v' out_s out_r ticked = record {
  sender = λ is_open. inl (by_sender is_open v'.sender ticked.sender);
  receiver = λ handed. inl (by_receiver v'.receiver handed ticked.receiver);
}
  where
    by_sender : IsKeptSender v.sender → (o' : Option Sending) → SenderTicked v.sender o' out_s
        → IsKeptSender o'
    by_sender is_open o' (sender_rests same none) = subst IsKeptSender (sym same) is_open
    by_sender is_open o' (asks s s₂ q timer timer₂ is₂ waited is' waits' same_red same_block
        sends) = subst IsKeptSender (sym is') tt

    by_receiver : (o' : Option Receiving) → IsHanded o' → ReceiverTicked v.receiver o' out_r
        → IsHanded v.receiver
    by_receiver o' handed (sleeps same none) = subst IsHanded same handed
    by_receiver o' handed (tells r r₂ p p₂ is₂ waits is' waits' same cells handed_too serial
        listening sends) =
        subst IsHanded (sym is₂) (sym handed_too ∙ subst IsHanded is' handed)
