-- A delivery makes less than what was delivered.

use Rattle.std.proofs.Common.{◌≡◌, ℕ, zero, suc, ◌+◌, ◌-◌, ◌*◌, ◌^◌, ◌<◌, ◌≤◌, Bool, true, false, ◌==◌, List, [], ◌∷◌, ◌++◌, length, take, drop, Option, None, Some, refl, sym, ◌∙◌, ap, arith, subst, nat_lt, if◌then◌else◌}
use Rattle.std.proofs.lemmas.Bool.{eqb-true}
use Rattle.std.proofs.lemmas.Bool.Decides.{nat_tests}
use Rattle.std.proofs.Math.Nat.{suc-mul}
use Rattle.std.proofs.lemmas.List.{length-take}
use Rattle.ltp_segment.specs.Policy.{PolicyValue}
use Rattle.ltp_segment.specs.Values.{PieceValue, ReportValue, ContentValue, a_piece, a_report, a_report_ack, a_sender_cancel, a_sender_cancel_ack, a_receiver_cancel, a_receiver_cancel_ack}
use Rattle.ltp_session.specs.declared.timer.Timer.{Timer}
use Rattle.ltp_session.specs.Step.{Change, stays, keeps, ends, after, StepValue}
use Rattle.ltp_session.specs.Table.{find, put, without, settled, AreAscending}
use Rattle.ltp_session.specs.Timer.{is_past_serials}
use Rattle.ltp_session.specs.Claims.{with_claims, is_whole_claim}
use Rattle.ltp_session.specs.Sender.{Sending, SendingPhase, sender_open, sender_cancelling, segments_from, red_segments, red_pieces, checkpoint_at, unclaimed, is_claimed, is_all_claimed, with_report, sends_again, takes_report, report_step, ends_cancelling, sender_answers}
use Rattle.ltp_session.specs.Receiver.{Receiving, ReceivingPhase, receiver_open, receiver_cancelling, Admission, acknowledged_in, acknowledged, is_cancelling, receiver_answers, fresh}
use Rattle.ltp_laws.proofs.ListLemmas.{both_arms, answered}
use Rattle.ltp_laws.proofs.TableLemmas.{find_below}
use Rattle.ltp_laws.proofs.WalkLemmas.{OnPiece, OnSegment, walk-segment}
use Rattle.ltp_drain.specs.Left.{burden, round_burden, rounds_left, sending_left, senders_left}

-- ---- what a step sends

unfoldable pub contents_burden : List ContentValue → ℕ
contents_burden [] = 0
contents_burden (c ∷ cs) = burden c + contents_burden cs

pub contents-append : (xs ys : List ContentValue) → contents_burden (xs ++ ys) ≡ contents_burden xs + contents_burden ys
unfolding contents_burden
contents-append [] ys = omega arith
contents-append (x ∷ xs) ys = let rest = contents-append xs ys in omega (arith, rest)

pub pieces-burden : (checkpoint : ℕ × List ℕ → PieceValue) (parts : List (ℕ × List ℕ)) → contents_burden (red_pieces checkpoint parts) ≡ 3 * length parts
unfolding red_pieces contents_burden
pieces-burden checkpoint [] = omega arith
pieces-burden checkpoint (part ∷ []) = omega arith
pieces-burden checkpoint (part ∷ next ∷ parts) = let rest = pieces-burden checkpoint (next ∷ parts) in omega (arith, rest)

pub parts-few : (size n at : ℕ) (octets : List ℕ) → length (segments_from size n at octets) ≤ n
unfolding segments_from
parts-few size zero at octets = omega arith
parts-few size (suc n) at [] = omega arith
parts-few size (suc n) at (octet ∷ octets) = let rest = parts-few size n (at + size) (drop size (octet ∷ octets)) in omega (arith, rest)

pub left-few : (claimed : List Bool) (parts : List (ℕ × List ℕ)) → length (unclaimed claimed parts) ≤ length parts
unfolding unclaimed
left-few claimed [] = omega arith
left-few claimed (part ∷ parts) =
    let rest = left-few claimed parts in
    both_arms (λ xs. length xs ≤ suc (length parts)) (is_claimed claimed part) (unclaimed claimed parts) (part ∷ unclaimed claimed parts) (omega (arith, rest)) (omega (arith, rest))

round-few : (policy : PolicyValue) (claimed : List Bool) (block : List ℕ) (red : ℕ) → length (unclaimed claimed (red_segments policy block red)) ≤ length block
round-few policy claimed block red =
    let cut = length-take red block in
    let few = parts-few policy.segment (length (take red block)) 0 (take red block) in
    let fewer = left-few claimed (red_segments policy block red) in
    omega (arith, cut, few, fewer)

-- ---- a step of a sender

abbrev pub kept_left : Option Sending → ℕ
kept_left None = 0
kept_left (Some s) = sending_left s

-- what is left after the step is less than before, together with what came
abbrev Falls : Option Sending → ℕ → StepValue Sending → Type 0
Falls kept came t = kept_left (after t.next kept) + contents_burden t.out < kept_left kept + came

-- the serial of a checkpoint is below the greatest
abbrev pub HasSerial : SendingPhase → Type 0
HasSerial (sender_open c timer) = c.checkpoint < 2 ^ 64
HasSerial (sender_cancelling reason timer) = Unit {0}

one-less : (top c size : ℕ) → c < top → (top - (c + 1)) * size + size ≡ (top - c) * size
one-less top c size below =
    let more : top - c ≡ suc (top - (c + 1)) = omega (arith, below) in
    sym (ap (λ n. n * size) more ∙ suc-mul (top - (c + 1)) size)

report-falls : (policy : PolicyValue) (s : Sending) (x : ReportValue) (now : ℕ) → HasSerial s.phase
    → Falls (Some s) 2 (report_step policy s x now)
unfolding report_step contents_burden
report-falls policy s x now serial =
    both_arms Fall (nat_lt s.red x.upper) _ _ (omega arith) (by_phase s.phase refl serial)
  where
    Fall : StepValue Sending → Type 0
    Fall t = Falls (Some s) 2 t

    size : ℕ
    size = length s.block

    by_last : (c : PieceValue) (timer : Timer) → s.phase ≡ sender_open c timer → c.checkpoint < 2 ^ 64
        → (parts : List (ℕ × List ℕ)) → length parts ≤ length s.block → (o : Option (ℕ × List ℕ))
        → Falls (Some s) 2 (sends_again policy (with_report s x) now parts (checkpoint_at (length s.block) s.red (c.checkpoint + 1) x.serial) o (a_report_ack x.serial ∷ []))
    by_last c timer is below parts few None = omega arith
    by_last c timer is below parts few (Some part) =
        let weighs = pieces-burden (checkpoint_at (length s.block) s.red (c.checkpoint + 1) x.serial) parts in
        let before = ap (rounds_left (length s.block)) is in
        let less = one-less (2 ^ 64) c.checkpoint (round_burden (length s.block)) below in
        omega (arith, weighs, before, less, few)

    by_phase : (phase : SendingPhase) → s.phase ≡ phase → HasSerial phase
        → Falls (Some s) 2 (takes_report policy s phase x now (a_report_ack x.serial ∷ []))
    by_phase (sender_cancelling reason timer) is below = omega arith
    by_phase (sender_open c timer) is below =
        both_arms Fall (is_all_claimed (with_claims x.lower x.claims s.claimed)) _ _ (omega arith)
        (both_arms Fall (x.checkpoint == c.checkpoint) _ _
        (both_arms Fall (is_past_serials (c.checkpoint + 1)) _ _
        (let before = ap (rounds_left (length s.block)) is in
        let less = one-less (2 ^ 64) c.checkpoint (round_burden (length s.block)) below in
        omega (arith, before, less))
        (by_last c timer is below (unclaimed (with_claims x.lower x.claims s.claimed) (red_segments policy s.block s.red)) (round-few policy (with_claims x.lower x.claims s.claimed) s.block s.red) _))
        (omega arith))

abbrev pub KeptHasSerial : Option Sending → Type 0
KeptHasSerial None = Unit {0}
KeptHasSerial (Some s) = HasSerial s.phase

pub sender-falls : (policy : PolicyValue) (kept : Option Sending) (content : ContentValue) (now : ℕ) (t : StepValue Sending)
    → KeptHasSerial kept → sender_answers policy kept content now ≡ Some t → Falls kept (burden content) t
unfolding sender_answers contents_burden
sender-falls policy None (a_report x) now t serial hears = answered (Falls None 2) _ t hears (omega arith)
sender-falls policy (Some s) (a_report x) now t serial hears = answered (Falls (Some s) 2) _ t hears (report-falls policy s x now serial)
sender-falls policy None (a_receiver_cancel reason) now t serial hears = answered (Falls None 2) _ t hears (omega arith)
sender-falls policy (Some s) (a_receiver_cancel reason) now t serial hears = answered (Falls (Some s) 2) _ t hears (omega arith)
sender-falls policy None a_sender_cancel_ack now t serial hears = answered (Falls None 1) _ t hears (omega arith)
sender-falls policy (Some s) a_sender_cancel_ack now t serial hears = answered (Falls (Some s) 1) _ t hears (by_phase s.phase)
  where
    by_phase : (phase : SendingPhase) → Falls (Some s) 1 (ends_cancelling phase)
    by_phase (sender_open q timer) = omega arith
    by_phase (sender_cancelling reason timer) = omega arith
sender-falls policy kept (a_piece q) now t serial hears = absurd (cc)
sender-falls policy kept (a_report_ack n) now t serial hears = absurd (cc)
sender-falls policy kept (a_sender_cancel n) now t serial hears = absurd (cc)
sender-falls policy kept a_receiver_cancel_ack now t serial hears = absurd (cc)

-- ---- a step of a receiver

abbrev Lighter : ℕ → StepValue Receiving → Type 0
Lighter came t = contents_burden t.out < came

piece-lighter : (policy : PolicyValue) (r : Receiving) (q : PieceValue) (now : ℕ) → OnPiece policy r q now (Lighter 3)
unfolding contents_burden
piece-lighter policy r q now = record {
  outside = λ note. omega arith;
  miscoloured = omega arith;
  greener = λ _. omega arith;
  filled = λ _ _. omega arith;
  serials_out = λ _ _. omega arith;
  reported = λ _ _ _. omega arith;
}

heavy-lighter : (policy : PolicyValue) (place : Admission) (kept : Option Receiving) (content : ContentValue) (now came : ℕ) → 2 ≤ came
    → ((q : PieceValue) → content ≡ a_piece q → came ≡ 3) → OnSegment policy place kept content now (Lighter came)
unfolding contents_burden
heavy-lighter policy place kept content now came two three = record {
  rests = λ note. omega (arith, two);
  refused_service = λ q is _. let heavy = three q is in omega (arith, heavy);
  echoed = λ _. omega (arith, two);
  green_alone = λ q _ _. omega (arith, two);
  opened = λ q is _ _. subst (λ n. OnPiece policy (fresh place.session) q now (Lighter n)) (sym (three q is)) (piece-lighter policy (fresh place.session) q now);
  came = λ q r is _ _. subst (λ n. OnPiece policy r q now (Lighter n)) (sym (three q is)) (piece-lighter policy r q now);
  unmoved = λ r is. omega (arith, two);
  closed_whole = λ r p serial _ _ _ _ _. omega (arith, two);
  dropped = λ r p serial _ _ _ _. omega (arith, two);
  called_off = λ r reason _. omega (arith, two);
  answered_off = λ r _ _. omega (arith, two);
}

pub receiver-lighter : (policy : PolicyValue) (place : Admission) (kept : Option Receiving) (content : ContentValue) (now : ℕ) (t : StepValue Receiving)
    → receiver_answers policy place kept content now ≡ Some t → contents_burden t.out < burden content
unfolding receiver_answers contents_burden acknowledged
receiver-lighter policy place kept (a_piece q) now t hears =
    walk-segment policy place kept (a_piece q) now t (Lighter 3) hears (heavy-lighter policy place kept (a_piece q) now 3 (omega arith) (λ _ _. refl))
receiver-lighter policy place kept (a_sender_cancel reason) now t hears =
    walk-segment policy place kept (a_sender_cancel reason) now t (Lighter 2) hears (heavy-lighter policy place kept (a_sender_cancel reason) now 2 (omega arith) (λ q is. absurd (cc)))
receiver-lighter policy place None (a_report_ack serial) now t hears = answered (Lighter 1) _ t hears (omega arith)
receiver-lighter policy place (Some r) (a_report_ack serial) now t hears = answered (Lighter 1) _ t hears (by_phase r.phase)
  where
    by_phase : (phase : ReceivingPhase) → Lighter 1 (acknowledged_in r phase serial)
    by_phase (receiver_open None) = omega arith
    by_phase (receiver_open (Some p)) =
        both_arms (Lighter 1) (p.report.serial == serial) _ _
        (both_arms (Lighter 1) (is_whole_claim r.length p.report.claims) _ _ (omega arith) (omega arith)) (omega arith)
    by_phase (receiver_cancelling reason timer) = omega arith
receiver-lighter policy place None a_receiver_cancel_ack now t hears = answered (Lighter 1) _ t hears (omega arith)
receiver-lighter policy place (Some r) a_receiver_cancel_ack now t hears =
    answered (Lighter 1) _ t hears (both_arms (Lighter 1) (is_cancelling r.phase) _ _ (omega arith) (omega arith))
receiver-lighter policy place kept (a_report x) now t hears = absurd (cc)
receiver-lighter policy place kept (a_receiver_cancel reason) now t hears = absurd (cc)
receiver-lighter policy place kept a_sender_cancel_ack now t hears = absurd (cc)

-- ---- a table

left-without : (n low : ℕ) (es : List (ℕ × Sending)) → AreAscending low es → senders_left (without n es) + kept_left (find n es) ≡ senders_left es
unfolding find without senders_left
left-without n low [] is = omega arith
left-without n low (e ∷ es) is = by_test (e.0 == n) refl (left-without n (e.0 + 1) es is.1)
  where
    by_test : (same : Bool) → (e.0 == n) ≡ same → senders_left (without n es) + kept_left (find n es) ≡ senders_left es
        → senders_left (if same then without n es else e ∷ without n es) + kept_left (if same then Some e.1 else find n es) ≡ sending_left e.1 + senders_left es
    by_test true same rest =
        let here : e.0 ≡ n = eqb-true e.0 n same in
        let none : kept_left (find n es) ≡ 0 = ap kept_left (find_below n (e.0 + 1) es (omega (arith, here)) is.1) in
        omega (arith, rest, none)
    by_test false same rest = omega (arith, rest)

left-put : (n low : ℕ) (s : Sending) (es : List (ℕ × Sending)) → AreAscending low es → senders_left (put n s es) + kept_left (find n es) ≡ senders_left es + sending_left s
unfolding find put senders_left
left-put n low s [] is = omega arith
left-put n low s (e ∷ es) is = by_test (e.0 == n) refl (nat_lt n e.0) refl (left-put n (e.0 + 1) s es is.1)
  where
    by_test : (same : Bool) → (e.0 == n) ≡ same → (less : Bool) → nat_lt n e.0 ≡ less → senders_left (put n s es) + kept_left (find n es) ≡ senders_left es + sending_left s
        → senders_left (if same then (n, s) ∷ es else if less then (n, s) ∷ (e ∷ es) else e ∷ put n s es) + kept_left (if same then Some e.1 else find n es) ≡ (sending_left e.1 + senders_left es) + sending_left s
    by_test true same less is_less rest = omega arith
    by_test false same true is_less rest =
        let below : n < e.0 = grind (arith, nat_tests) in
        let none : kept_left (find n es) ≡ 0 = ap kept_left (find_below n (e.0 + 1) es (omega (arith, below)) is.1) in
        omega (arith, none)
    by_test false same false is_less rest = omega (arith, rest)

pub left-settled : (n : ℕ) (c : Change Sending) (es : List (ℕ × Sending)) → AreAscending 0 es
    → senders_left (settled n c es) + kept_left (find n es) ≡ senders_left es + kept_left (after c (find n es))
left-settled n stays es is = refl
left-settled n (keeps s) es is = left-put n 0 s es is
left-settled n ends es is = let rest = left-without n 0 es is in omega (arith, rest)
