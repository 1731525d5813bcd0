-- An acknowledgement that closes a receiver names a whole report, and the sender isn't open.

use Rattle.std.proofs.Common.{◌≡◌, ℕ, zero, suc, ◌<◌, Bool, true, false, ◌==◌, ◌&&◌, List, [], ◌∷◌}
use Rattle.std.proofs.Common.{◌++◌, length, Option, None, Some, ◌⊎◌, inl, inr, refl, sym, ◌∙◌, ap}
use Rattle.std.proofs.Common.{arith, subst, subst₂, if◌then◌else◌}
use Rattle.std.specs.Prelude.{slice_index_or}
use Rattle.std.proofs.lemmas.Bool.{eqb-true}
use Rattle.ltp_segment.specs.declared.segment.Claim.{Claim}
use Rattle.ltp_segment.specs.Kinds.{is_checkpoint}
use Rattle.ltp_segment.specs.Values.{PieceValue, ReportValue, ContentValue, a_piece, a_report}
use Rattle.ltp_segment.specs.Values.{a_report_ack, a_sender_cancel_ack}
use Rattle.ltp_session.specs.Claims.{is_whole_claim}
use Rattle.ltp_session.specs.Receiver.{Receiving, ReceivingPhase, receiver_open}
use Rattle.ltp_session.specs.Receiver.{receiver_cancelling, Pending, acknowledged_in, acknowledged}
use Rattle.ltp_session.specs.Sender.{Sending, SendingPhase, sender_open, sender_cancelling, begin}
use Rattle.ltp_session.specs.Sender.{sender_tick, is_all_claimed}
use Rattle.ltp_session.specs.Step.{StepValue, keeps, ends, sending}
use Rattle.ltp_session.specs.Timer.{first_serial}
use Rattle.ltp_session.specs.declared.timer.Timer.{Timer}
use Rattle.ltp_laws.specs.Acknowledgements.{HasClaims, AckFacts, IsClosedWhole, CloseFacts}
use Rattle.ltp_laws.specs.Acknowledgements.{IsSenderCancelling}
use Rattle.ltp_laws.specs.Blocks.{IfKnown, IsReceiverOf, BlockFacts}
use Rattle.ltp_laws.specs.Checkpoints.{HasAsked, SomeReport, CheckpointFacts, FirstFacts}
use Rattle.ltp_laws.specs.Claims.{HasPlace, IsWhole}
use Rattle.ltp_laws.specs.Kept.{IfKept}
use Rattle.ltp_laws.specs.Runs.{AskedFacts, KeepsUnder}
use Rattle.ltp_laws.specs.Serials.{pending_of, HasReported, SerialFacts}
use Rattle.ltp_laws.specs.View.{View, IsIn}
use Rattle.ltp_laws.proofs.CheckpointLemmas.{AsksOn, listens-asks, step-asks, begun-among}
use Rattle.ltp_laws.proofs.CheckpointLemmas.{more-reports}
use Rattle.ltp_laws.proofs.SenderStepLemmas.{listens-form, sender_tick-form}
use Rattle.ltp_laws.proofs.SerialLemmas.{among-append}

-- ---- an acknowledgement that ends the session

pub whole-claim : (red : ℕ) (known : Option ℕ) (claims : List Claim) → IfKnown red known
    → is_whole_claim known claims ≡ true → claims ≡ record { offset = 0; length = red } ∷ []
whole-claim red None claims bound is = absurd (cc)
whole-claim red (Some end) [] bound is = absurd (cc)
whole-claim red (Some end) (c ∷ d ∷ cs) bound is = absurd (cc)
whole-claim red (Some end) (c ∷ []) bound is =
    by_tests (c.offset == 0) refl (c.length == end) refl is
  where
    by_tests : (first : Bool) → (c.offset == 0) ≡ first → (all : Bool) → (c.length == end) ≡ all
        → (first && all) ≡ true → c ∷ [] ≡ record { offset = 0; length = red } ∷ []
    by_tests true first true all is =
        let offset : c.offset ≡ 0 = eqb-true c.offset 0 first in
        let size : c.length ≡ red = eqb-true c.length end all ∙ bound in
        λ i. record { offset = offset i; length = size i } ∷ []
    by_tests true first false all is = absurd (cc)
    by_tests false first all is_all is = absurd (cc)

record Closing (r : Receiving) (serial : ℕ) : Type 0 where
  p : Pending
  waits : pending_of r.phase ≡ Some p
  named : (p.report).serial ≡ serial
  whole : is_whole_claim r.length (p.report).claims ≡ true

acknowledged-closes : (r : Receiving) (serial : ℕ) → (acknowledged r serial).next ≡ ends
    → Closing r serial
unfolding acknowledged
acknowledged-closes r serial is = by_phase r.phase refl is
  where
    by_phase : (phase : ReceivingPhase) → r.phase ≡ phase → (acknowledged_in r phase serial).next
        ≡ ends → Closing r serial
    by_phase (receiver_open None) waits is = absurd (cc)
    by_phase (receiver_open (Some p)) waits is =
        by_tests ((p.report).serial == serial) refl (is_whole_claim r.length
        (p.report).claims) refl is
      where
        by_tests : (named : Bool) → ((p.report).serial == serial) ≡ named → (whole : Bool)
            → is_whole_claim r.length (p.report).claims ≡ whole
            → (if named then (if whole then sending ends [] else sending
            (keeps (record r { phase = receiver_open None })) []) else sending (keeps r) []).next
            ≡ ends → Closing r serial
        by_tests true named true whole is =
            record {
              p = p;
              waits = ap pending_of waits;
              named = eqb-true _ _ named;
              whole = whole;
            }
        by_tests true named false whole is = absurd (cc)
        by_tests false named whole is_whole is = absurd (cc)
    by_phase (receiver_cancelling reason timer) waits is = absurd (cc)

pub all-claimed : (places : List Bool)
    → ((k : ℕ) → k < length places → slice_index_or places k false ≡ true)
    → is_all_claimed places ≡ true
all-claimed [] has = refl
all-claimed (b ∷ bs) has =
    let here : b ≡ true = has zero (omega arith) in
    let rest = all-claimed bs (λ k low. has (suc k) (omega arith)) in
    rw (here, rest) refl

-- a sender that has all claims of a whole report isn't open
pub whole-over : (red : ℕ) (by_sender by_receiver : List ContentValue) (s : Sending)
    (x : ReportValue) → IsWhole red x → length s.claimed ≡ red → HasAsked by_sender by_receiver s
    → IsSenderCancelling s.phase ⊎ HasClaims s x → IsSenderCancelling s.phase
whole-over red by_sender by_receiver s x whole size asks (inl giving) = giving
whole-over red by_sender by_receiver s x whole size asks (inr has) = by_phase s.phase refl
  where
    claimed : is_all_claimed s.claimed ≡ true
    claimed = all-claimed s.claimed
        (λ k low. has k (subst₂ (λ (lower : ℕ) (claims : List Claim). HasPlace lower claims k)
        (sym whole.lower) (sym whole.claims) (inl (omega arith, omega (arith, low, size)))))

    by_phase : (phase : SendingPhase) → s.phase ≡ phase → IsSenderCancelling phase
    by_phase (sender_open c timer) is =
        absurd (let open_part = asks.unclaimed c timer is in cc (claimed))
    by_phase (sender_cancelling reason timer) is = tt

pub record Known (block : List ℕ) (red : ℕ) (v : View) : Type 0 where
  pub more : AskedFacts block red v
  pub acks : AckFacts block red v

pub closes-whole : (block : List ℕ) (red : ℕ) (v : View) → Known block red v
    → CloseFacts block red v
closes-whole block red v known = record { closes = closes }
  where
    facts : BlockFacts block red v
    facts = known.more.0.0.0

    reports : SerialFacts block red v
    reports = known.more.0.0.1

    closes : (r : Receiving) (serial : ℕ) → v.receiver ≡ Some r
        → IsIn (a_report_ack serial) v.by_sender → (acknowledged r serial).next ≡ ends
        → IsClosedWhole red v serial
    closes r serial is among over =
        let closing = acknowledged-closes r serial over in
        let tells : HasReported v.by_receiver r =
        subst (IfKept (HasReported v.by_receiver)) is reports.kept in
        let receives : IsReceiverOf block red r =
        subst (IfKept (IsReceiverOf block red)) is facts.receiver in
        let named = known.acks.acks serial among in
        let sent : IsIn (a_report (closing.p).report) v.by_receiver =
        tells.pending closing.p closing.waits in
        let same : (closing.p).report ≡ named.report =
        reports.once (closing.p).report named.report sent named.among
        (closing.named ∙ sym named.named) in
        let whole : IsWhole red (closing.p).report =
        record {
          claims = whole-claim red r.length ((closing.p).report).claims receives.known
              closing.whole;
          lower = (known.more.0.1.told (closing.p).report sent).lower;
        } in
        let whole_x : IsWhole red named.report = subst (IsWhole red) same whole in
        record {
          report = named.report;
          among = named.among;
          named = named.named;
          whole = whole_x;
          over = by_kept named.report whole_x v.sender known.acks.size
              known.more.1.sender named.taken;
        }
      where
        by_kept : (x : ReportValue) → IsWhole red x → (kept : Option Sending)
            → IfKept (λ s. length s.claimed ≡ red) kept
            → IfKept (HasAsked v.by_sender v.by_receiver) kept
            → IfKept (λ s. IsSenderCancelling s.phase ⊎ HasClaims s x) kept
            → IfKept (λ s. IsSenderCancelling s.phase) kept
        by_kept x whole None size asks taken = tt
        by_kept x whole (Some s) size asks taken =
            whole-over red v.by_sender v.by_receiver s x whole size asks taken

-- ---- the first checkpoint

abbrev FirstOr : List ContentValue → ℕ → PieceValue → Type 0
FirstOr by_receiver first q = (q.checkpoint ≡ first) ⊎ SomeReport by_receiver

abbrev AllFirst : List ContentValue → List ContentValue → ℕ → Type 0
AllFirst by_sender by_receiver first = (q : PieceValue) → IsIn (a_piece q) by_sender
    → is_checkpoint q.kind ≡ true → FirstOr by_receiver first q

with-first : (block : List ℕ) (red : ℕ) (v : View) (first : ℕ) → CheckpointFacts block red v
    → AllFirst v.by_sender v.by_receiver first → FirstFacts block red v
with-first block red v first asks sent =
    record { first = first; sent = sent; current = by_kept v.sender asks.sender }
  where
    by_kept : (kept : Option Sending) → IfKept (HasAsked v.by_sender v.by_receiver) kept
        → IfKept (λ s. (c : PieceValue) (timer : Timer) → s.phase ≡ sender_open c timer
        → FirstOr v.by_receiver first c) kept
    by_kept None asked = tt
    by_kept (Some s) asked = λ c timer waits. let current = asked.current c timer waits in
        sent c current.among current.asks

still-first : (by_sender by_receiver : List ContentValue) (first : ℕ) (t : StepValue Sending)
    → AllFirst by_sender by_receiver first → AsksOn by_sender by_receiver t
    → AllFirst (by_sender ++ t.out) by_receiver first
still-first by_sender by_receiver first t sent on q among asks =
    go (among-append (a_piece q) by_sender t.out among)
  where
    now : IsIn (a_piece q) by_sender ⊎ SomeReport by_receiver → FirstOr by_receiver first q
    now (inl before) = sent q before asks
    now (inr some) = inr some

    go : IsIn (a_piece q) by_sender ⊎ IsIn (a_piece q) t.out → FirstOr by_receiver first q
    go (inl before) = sent q before asks
    go (inr said) = now (on.pieces q said asks)

more-first : (by_sender by_receiver out : List ContentValue) (first : ℕ)
    → AllFirst by_sender by_receiver first → AllFirst by_sender (by_receiver ++ out) first
more-first by_sender by_receiver out first sent q among asks = go (sent q among asks)
  where
    go : FirstOr by_receiver first q → FirstOr (by_receiver ++ out) first q
    go (inl same) = inl same
    go (inr some) = inr (more-reports by_receiver out some)

pub first-keep : KeepsUnder CheckpointFacts FirstFacts
first-keep = record {
  begins = λ policy n block red now v cuts within unused f'.
      with-first block red _ (first_serial n) f'
      (λ q among asks. let (part, is_part, is_piece) = begun-among policy n block red now q
      (subst (λ said. IsIn (a_piece q) (said ++ (begin policy n block red now).out))
      unused.by_sender among) asks in
      inl (ap (λ (p : PieceValue). p.checkpoint) (sym is_piece)));
  sender = λ block red policy v content now t among hears f f' facts.
      with-first block red _ facts.first f'
      (still-first v.by_sender v.by_receiver facts.first t facts.sent
      (listens-asks v content t v.sender refl (λ x is. among) f.sender
      (listens-form policy v.sender content now t hears)));
  receiver = λ block red policy place v content now t closed among hears f f' facts.
      with-first block red _ facts.first f' (more-first v.by_sender v.by_receiver t.out
      facts.first facts.sent);
  sender_tick = λ block red policy now v s is f f' facts.
      with-first block red _ facts.first f'
      (still-first v.by_sender v.by_receiver facts.first (sender_tick policy s now) facts.sent
      (step-asks v.by_sender v.by_receiver a_sender_cancel_ack s (sender_tick policy s now)
      (λ x h. absurd (cc)) (subst (IfKept (HasAsked v.by_sender v.by_receiver)) is f.sender)
      (sender_tick-form a_sender_cancel_ack policy now s)));
  receiver_tick = λ block red policy now v r is f f' facts.
      with-first block red _ facts.first f'
      (more-first v.by_sender v.by_receiver _ facts.first facts.sent);
  evicted = λ block red v r is f f' facts. record {
    first = facts.first;
    sent = facts.sent;
    current = facts.current;
  };
}
