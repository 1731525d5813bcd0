-- What a sender says breaks no rule.

use Rattle.std.proofs.Common.{◌≡◌, ℕ, zero, suc, ◌+◌, ◌<◌, ◌^◌, Bool, true, false, ◌==◌, ◌||◌}
use Rattle.std.proofs.Common.{List, [], ◌∷◌, length, take, drop, Option, None, Some, refl, sym}
use Rattle.std.proofs.Common.{◌∙◌, ap, arith, subst, nat_lt, nat_le}
use Rattle.std.specs.Prelude.{slice_index}
use Rattle.std.specs.List.{AllByRecursion, list_any}
use Rattle.std.proofs.lemmas.Bool.Decides.{nat_tests}
use Rattle.std.proofs.lemmas.List.{get_or-take, get_or-drop, length-take, length-drop}
use Rattle.ltp_segment.specs.Legal.{AreSerials}
use Rattle.ltp_segment.specs.Policy.{PolicyValue}
use Rattle.ltp_segment.specs.Values.{PieceValue, ReportValue, ContentValue, a_piece, a_report}
use Rattle.ltp_segment.specs.Values.{a_report_ack, a_sender_cancel, a_sender_cancel_ack}
use Rattle.ltp_segment.specs.Values.{a_receiver_cancel, a_receiver_cancel_ack}
use Rattle.ltp_session.specs.Claims.{with_claims}
use Rattle.ltp_session.specs.Sender.{Sending, SendingPhase, sender_open, sender_cancelling}
use Rattle.ltp_session.specs.Sender.{segments_from, red_segments, green_segments}
use Rattle.ltp_session.specs.Sender.{checkpoint_at, red_pieces, green_pieces, last_segment, opened}
use Rattle.ltp_session.specs.Sender.{begin, unclaimed, sends_again, takes_report, report_step}
use Rattle.ltp_session.specs.Sender.{sender_due, sender_tick, sending_timer, ends_cancelling}
use Rattle.ltp_session.specs.Sender.{sender_answers, is_all_claimed}
use Rattle.ltp_session.specs.Step.{StepValue}
use Rattle.ltp_session.specs.Timer.{first_serial, is_past_serials}
use Rattle.ltp_laws.specs.Blocks.{IsOf}
use Rattle.ltp_laws.specs.Kept.{IfKept, IfKeeps}
use Rattle.ltp_laws.proofs.CheckpointLemmas.{checkpoint_at-asks}
use Rattle.ltp_laws.proofs.ListLemmas.{both_arms, by_arms, all-append, answered}
use Rattle.ltp_laws.proofs.SenderLemmas.{last-part, unclaimed-parts}
use Rattle.ltp_laws.proofs.TableLemmas.{self_eqb}
use Rattle.ltp_audit.specs.Recorded.{is_report_of}
use Rattle.ltp_audit.specs.Knows.{IsCut, SenderMay, Awaits}

-- ---- segments of a block

-- octets of the block, which stop where places fit 64 bits
record IsPart (block : List ℕ) (part : ℕ × List ℕ) : Type 0 where
  octets : IsOf block part.0 part.1
  range : part.0 + length part.1 < 2 ^ 64

front-of : (block : List ℕ) (at z : ℕ) (octets : List ℕ) → IsOf block at octets → IsOf block at (take z octets)
front-of block at z octets of k low =
    let size = length-take z octets in
    let here = of k (omega (arith, size)) in
    (here.0, here.1 ∙ sym (get_or-take z octets k 0 (omega (arith, size))))

rest-of : (block : List ℕ) (at z : ℕ) (octets : List ℕ) → IsOf block at octets → IsOf block (at + z) (drop z octets)
rest-of block at z octets of k low =
    let size = length-drop z octets in
    let here = of (z + k) (omega (arith, size)) in
    let place : at + (z + k) ≡ at + z + k = omega arith in
    (omega (arith, here.0), ap (slice_index block) (sym place) ∙ here.1 ∙ sym (get_or-drop z octets k 0))

parts-of : (block : List ℕ) (z n at : ℕ) (octets : List ℕ) → IsOf block at octets
    → (0 < length octets → at + length octets < 2 ^ 64) → AllByRecursion (IsPart block) (segments_from z n at octets)
unfolding segments_from
parts-of block z zero at octets of range = tt
parts-of block z (suc n) at [] of range = tt
parts-of block z (suc n) at (octet ∷ octets) of range = (
  record {
    octets = front-of block at z (octet ∷ octets) of;
    range = omega (arith, length-take z (octet ∷ octets), range (omega arith));
  },
  parts-of block z n (at + z) (drop z (octet ∷ octets)) (rest-of block at z (octet ∷ octets) of)
      (λ some. omega (arith, length-drop z (octet ∷ octets), range (omega arith), some)),
)

whole-of : (block : List ℕ) → IsOf block 0 block
whole-of block k low = (omega (arith, low), ap (slice_index block) (omega arith))

back-of : (block : List ℕ) (red : ℕ) → IsOf block red (drop red block)
back-of block red k low = (omega (arith, length-drop red block, low), sym (get_or-drop red block k 0))

red-parts : (policy : PolicyValue) (block : List ℕ) (red : ℕ) → length block < 2 ^ 64
    → AllByRecursion (IsPart block) (red_segments policy block red)
red-parts policy block red few =
    parts-of block policy.segment (length (take red block)) 0 (take red block) (front-of block 0 red block (whole-of block))
    (λ some. omega (arith, length-take red block, few))

green-parts : (policy : PolicyValue) (block : List ℕ) (red : ℕ) → length block < 2 ^ 64
    → AllByRecursion (IsPart block) (green_segments policy block red)
green-parts policy block red few =
    parts-of block policy.segment (length (drop red block)) red (drop red block) (back-of block red)
    (λ some. omega (arith, length-drop red block, few, some))

-- ---- pieces of segments

cut-checkpoint : (block : List ℕ) (size red serial report : ℕ) (part : ℕ × List ℕ) → 0 < serial → serial < 2 ^ 64
    → report < 2 ^ 64 → IsPart block part → IsCut block (checkpoint_at size red serial report part)
cut-checkpoint block size red serial report part named few few_report is = record {
  octets = is.octets;
  legal = record {
    service = omega arith;
    range = is.range;
    serials = subst (λ b. AreSerials b serial report) (sym (checkpoint_at-asks size red serial report part)) (named, few, few_report);
  };
}

module _ (block : List ℕ) (said : List ContentValue) where
  red-may : (last : ℕ × List ℕ → PieceValue) → ((part : ℕ × List ℕ) → IsPart block part → IsCut block (last part))
      → (parts : List (ℕ × List ℕ)) → AllByRecursion (IsPart block) parts
      → AllByRecursion (SenderMay block said) (red_pieces last parts)
  unfolding red_pieces
  red-may last of [] all = tt
  red-may last of (part ∷ []) all = (of part all.0, tt)
  red-may last of (part ∷ next ∷ parts) all = (
    record { octets = all.0.octets; legal = record { service = omega arith; range = all.0.range; serials = (refl, refl) } },
    red-may last of (next ∷ parts) all.1,
  )

  green-may : (parts : List (ℕ × List ℕ)) → AllByRecursion (IsPart block) parts
      → AllByRecursion (SenderMay block said) (green_pieces parts)
  unfolding green_pieces
  green-may [] all = tt
  green-may (part ∷ []) all = (
    record { octets = all.0.octets; legal = record { service = omega arith; range = all.0.range; serials = (refl, refl) } },
    tt,
  )
  green-may (part ∷ next ∷ parts) all = (
    record { octets = all.0.octets; legal = record { service = omega arith; range = all.0.range; serials = (refl, refl) } },
    green-may (next ∷ parts) all.1,
  )

-- ---- steps

-- the same block is sent
abbrev pub StillSends : List ℕ → Sending → Type 0
StillSends block s = (s.block ≡ block) × Awaits block s.phase

-- a step says what may be said, and sends the same block on
abbrev pub SenderGoes : List ℕ → List ContentValue → StepValue Sending → Type 0
SenderGoes block said t = AllByRecursion (SenderMay block said) t.out × IfKeeps (StillSends block) t.next

next-serial : (serial : ℕ) → serial < 2 ^ 32 → (serial + 1 == 2 ^ 32) ≡ false → serial + 1 < 2 ^ 32
next-serial serial low more = grind (arith, nat_tests)

report-goes : (policy : PolicyValue) (s : Sending) (x : ReportValue) (now : ℕ) (said : List ContentValue)
    → length s.block < 2 ^ 64 → Awaits s.block s.phase → x.serial < 2 ^ 64 → list_any (is_report_of x.serial) said ≡ true
    → SenderGoes s.block said (report_step policy s x now)
unfolding report_step
report-goes policy s x now said small awaits few seen =
    both_arms (SenderGoes s.block said) (nat_lt s.red x.upper) _ _ (tt, tt) (by_phase s.phase awaits)
  where
    claimed : List Bool
    claimed = with_claims x.lower x.claims s.claimed

    ack : SenderMay s.block said (a_report_ack x.serial)
    ack = (few, seen)

    parts : AllByRecursion (IsPart s.block) (unclaimed (with_claims x.lower x.claims s.claimed) (red_segments policy s.block s.red))
    parts = unclaimed-parts (IsPart s.block) claimed _ (red-parts policy s.block s.red small)

    by_last : (c : PieceValue) → c.checkpoint + 1 < 2 ^ 32 → (o : Option (ℕ × List ℕ)) → IfKept (IsPart s.block) o
        → SenderGoes s.block said (sends_again policy (record s { claimed = with_claims x.lower x.claims s.claimed }) now
        (unclaimed (with_claims x.lower x.claims s.claimed) (red_segments policy s.block s.red))
        (checkpoint_at (length s.block) s.red (c.checkpoint + 1) x.serial) o (a_report_ack x.serial ∷ []))
    by_last c low None is = ((ack, tt), (refl, awaits))
    by_last c low (Some part) is =
        let of = λ (p : ℕ × List ℕ) (is_part : IsPart s.block p). cut-checkpoint s.block (length s.block) s.red (c.checkpoint + 1) x.serial p
        (omega arith) (omega (arith, low)) few is_part in
        ((ack, red-may s.block said _ of _ parts), (refl, (of part is, omega arith, low)))

    by_phase : (phase : SendingPhase) → Awaits s.block phase
        → SenderGoes s.block said (takes_report policy s phase x now (a_report_ack x.serial ∷ []))
    by_phase (sender_cancelling reason timer) is = ((ack, tt), tt)
    by_phase (sender_open c timer) is =
        both_arms (SenderGoes s.block said) (is_all_claimed (with_claims x.lower x.claims s.claimed)) _ _ ((ack, tt), tt)
        (both_arms (SenderGoes s.block said) (x.checkpoint == c.checkpoint) _ _
        (by_arms (SenderGoes s.block said) (is_past_serials (c.checkpoint + 1)) _ _
        (λ past. ((ack, (omega arith, tt)), (refl, omega arith)))
        (λ more. by_last c (next-serial c.checkpoint is.2 more) _ (last-part (IsPart s.block) _ parts)))
        ((ack, tt), (refl, awaits)))

pub tick-goes : (policy : PolicyValue) (now : ℕ) (s : Sending) (said : List ContentValue) → Awaits s.block s.phase
    → SenderGoes s.block said (sender_tick policy s now)
unfolding sender_tick
tick-goes policy now s said awaits =
    both_arms (SenderGoes s.block said) (nat_le (sending_timer s.phase).deadline now) _ _ (by_phase s.phase awaits) (tt, tt)
  where
    by_phase : (phase : SendingPhase) → Awaits s.block phase → SenderGoes s.block said (sender_due policy s phase now)
    by_phase (sender_open c timer) is =
        both_arms (SenderGoes s.block said) (nat_lt timer.times policy.limit) _ _ ((is.0, tt), (refl, is))
        ((omega arith, tt), (refl, omega arith))
    by_phase (sender_cancelling reason timer) is =
        both_arms (SenderGoes s.block said) (nat_lt timer.times policy.limit) _ _ ((is, tt), (refl, is)) (tt, tt)

first-small : (n : ℕ) → (0 < first_serial n) × (first_serial n < 2 ^ 32)
first-small n = (omega arith, omega arith)

pub begin-goes : (policy : PolicyValue) (n : ℕ) (block : List ℕ) (red now : ℕ) (said : List ContentValue)
    → length block < 2 ^ 64 → SenderGoes block said (begin policy n block red now)
unfolding begin
begin-goes policy n block red now said few = (
  all-append (SenderMay block said) _ _ (red-may block said _ of _ parts) (green-may block said _ (green-parts policy block red few)),
  by_last (last_segment (red_segments policy block red)) (last-part (IsPart block) _ parts),
)
  where
    parts : AllByRecursion (IsPart block) (red_segments policy block red)
    parts = red-parts policy block red few

    of : (part : ℕ × List ℕ) → IsPart block part → IsCut block (checkpoint_at (length block) red (first_serial n) 0 part)
    of part is = cut-checkpoint block (length block) red (first_serial n) 0 part (first-small n).0
        (omega (arith, (first-small n).1)) (omega arith) is

    by_last : (o : Option (ℕ × List ℕ)) → IfKept (IsPart block) o
        → IfKeeps (StillSends block) (opened policy block red now (checkpoint_at (length block) red (first_serial n) 0) o)
    by_last None is = tt
    by_last (Some part) is = (refl, (of part is, (first-small n).0, (first-small n).1))

-- ---- what comes

-- the block of a session that is kept, or any
abbrev pub SendsOf : List ℕ → Option Sending → Type 0
SendsOf block None = Unit {0}
SendsOf block (Some s) = (s.block ≡ block) × (length s.block < 2 ^ 64) × Awaits s.block s.phase

-- a content that came, after which this was said
abbrev pub IsTold : ContentValue → Type 0
IsTold (a_piece piece) = (piece.offset + length piece.body < 2 ^ 64) × (piece.checkpoint < 2 ^ 64)
IsTold (a_report report) = report.serial < 2 ^ 64
IsTold (a_report_ack serial) = Unit {0}
IsTold (a_sender_cancel reason) = Unit {0}
IsTold a_sender_cancel_ack = Unit {0}
IsTold (a_receiver_cancel reason) = Unit {0}
IsTold a_receiver_cancel_ack = Unit {0}

or-true : (b : Bool) (t : Bool) → t ≡ true → (t || b) ≡ true
or-true b true is = refl
or-true b false is = absurd (cc)

pub answers-go : (policy : PolicyValue) (kept : Option Sending) (content : ContentValue) (now : ℕ) (t : StepValue Sending)
    (block : List ℕ) (said : List ContentValue) → SendsOf block kept → IsTold content
    → sender_answers policy kept content now ≡ Some t → SenderGoes block (content ∷ said) t
unfolding sender_answers
answers-go policy None (a_report x) now t block said sends told hears =
    answered (SenderGoes block (a_report x ∷ said)) _ t hears (((told, or-true _ _ (self_eqb x.serial)), tt), tt)
answers-go policy (Some s) (a_report x) now t block said sends told hears =
    answered (SenderGoes block (a_report x ∷ said)) _ t hears
    (subst (λ b. SenderGoes b (a_report x ∷ said) (report_step policy s x now)) sends.0
    (report-goes policy s x now (a_report x ∷ said) sends.1 sends.2 told (or-true _ _ (self_eqb x.serial))))
answers-go policy None (a_receiver_cancel reason) now t block said sends told hears =
    answered (SenderGoes block (a_receiver_cancel reason ∷ said)) _ t hears ((refl, tt), tt)
answers-go policy (Some s) (a_receiver_cancel reason) now t block said sends told hears =
    answered (SenderGoes block (a_receiver_cancel reason ∷ said)) _ t hears ((refl, tt), tt)
answers-go policy None a_sender_cancel_ack now t block said sends told hears =
    answered (SenderGoes block (a_sender_cancel_ack ∷ said)) _ t hears (tt, tt)
answers-go policy (Some s) a_sender_cancel_ack now t block said sends told hears =
    answered (SenderGoes block (a_sender_cancel_ack ∷ said)) _ t hears (by_phase s.phase)
  where
    by_phase : (phase : SendingPhase) → SenderGoes block (a_sender_cancel_ack ∷ said) (ends_cancelling phase)
    by_phase (sender_open c timer) = (tt, tt)
    by_phase (sender_cancelling reason timer) = (tt, tt)
answers-go policy kept (a_piece q) now t block said sends told hears = absurd (cc)
answers-go policy kept (a_report_ack n) now t block said sends told hears = absurd (cc)
answers-go policy kept (a_sender_cancel n) now t block said sends told hears = absurd (cc)
answers-go policy kept a_receiver_cancel_ack now t block said sends told hears = absurd (cc)
