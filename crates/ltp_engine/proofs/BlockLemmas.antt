-- A session's octets stay within the greatest block.

use Rattle.std.proofs.Common.{◌≡◌, ℕ, ◌+◌, ◌≤◌, Bool, true, false, ◌==◌, ◌||◌, nat_lt, nat_le, List, [], ◌∷◌, length, Option, None, Some, ◌⊎◌, inl, inr, refl, sym, ◌∙◌, ap, not, arith, subst, if◌then◌else◌}
use Rattle.std.specs.List.{AllByRecursion}
use Rattle.std.proofs.lemmas.Bool.{eqb-true}
use Rattle.std.proofs.lemmas.Bool.Decides.{nat_tests}
use Rattle.ltp_segment.specs.Policy.{PolicyValue}
use Rattle.ltp_segment.specs.Values.{ContentValue, PieceValue, ReportValue, a_piece, a_report, a_report_ack, a_sender_cancel, a_sender_cancel_ack, a_receiver_cancel, a_receiver_cancel_ack}
use Rattle.ltp_session.specs.Cells.{filled}
use Rattle.ltp_session.specs.Claims.{with_claims}
use Rattle.ltp_session.specs.Receiver.{Receiving, Admission, piece_stop, receiver_answers, receiver_tick}
use Rattle.ltp_session.specs.Sender.{Sending, SendingPhase, sender_open, sender_cancelling, begin, opened, last_segment, red_segments, checkpoint_at, sends_again, takes_report, report_step, sender_due, sender_tick, sending_timer, ends_cancelling, sender_answers, is_all_claimed}
use Rattle.ltp_session.specs.Step.{Change, stays, keeps, ends, StepValue}
use Rattle.ltp_session.specs.Table.{find, put, without, settled, ticked, then_kept}
use Rattle.ltp_session.specs.Timer.{first_serial, is_past_serials}
use Rattle.cells.proofs.CellLemmas.{length-filled}
use Rattle.ltp_laws.specs.Kept.{IfKept, IfKeeps}
use Rattle.ltp_laws.specs.Steps.{ReceiverStep, idle, over, turns, again, fills, reports_on}
use Rattle.ltp_laws.proofs.ListLemmas.{both_arms, by_arms, answered}
use Rattle.ltp_laws.proofs.StepLemmas.{met, hears-form, tick-form}
use Rattle.ltp_engine.specs.Bounds.{SendsAtMost, ReceivesAtMost}

-- ---- what holds of all entries of a table

all-without : {S : Type 0} (P : ℕ × S → Type 0) (n : ℕ) (es : List (ℕ × S)) → AllByRecursion P es → AllByRecursion P (without n es)
unfolding without
all-without P n [] all = tt
all-without {S = S} P n (e ∷ es) all = by_test (e.0 == n) (all-without P n es all.1) where
  by_test : (same : Bool) → AllByRecursion P (without n es) → AllByRecursion P (if same then without n es else e ∷ without n es)
  by_test true rest = rest
  by_test false rest = (all.0, rest)

all-put : {S : Type 0} (P : ℕ × S → Type 0) (n : ℕ) (s : S) (es : List (ℕ × S)) → P (n, s) → AllByRecursion P es → AllByRecursion P (put n s es)
unfolding put
all-put P n s [] here all = (here, tt)
all-put {S = S} P n s (e ∷ es) here all = by_tests (e.0 == n) (nat_lt n e.0) (all-put P n s es here all.1) where
  by_tests : (same less : Bool) → AllByRecursion P (put n s es) → AllByRecursion P (if same then (n, s) ∷ es else if less then (n, s) ∷ (e ∷ es) else e ∷ put n s es)
  by_tests true less rest = (here, all.1)
  by_tests false true rest = (here, all)
  by_tests false false rest = (all.0, rest)

-- what holds of the states holds after a change that keeps it
pub all-settled : {S : Type 0} (P : ℕ × S → Type 0) (n : ℕ) (change : Change S) (es : List (ℕ × S)) → AllByRecursion P es → IfKeeps (λ s. P (n, s)) change
    → AllByRecursion P (settled n change es)
all-settled P n stays es all kept = all
all-settled P n (keeps s) es all kept = all-put P n s es kept all
all-settled P n ends es all kept = all-without P n es all

pub all-ticked : {S : Type 0} (P : ℕ × S → Type 0) (change : S → Change S) (es : List (ℕ × S)) → ((n : ℕ) (s : S) → P (n, s) → IfKeeps (λ t. P (n, t)) (change s)) → AllByRecursion P es
    → AllByRecursion P (ticked change es)
unfolding ticked
all-ticked P change [] step all = tt
all-ticked {S = S} P change (e ∷ es) step all = by_change (change e.1) (step e.0 e.1 all.0) (all-ticked P change es step all.1) where
  by_change : (c : Change S) → IfKeeps (λ t. P (e.0, t)) c → AllByRecursion P (ticked change es) → AllByRecursion P (then_kept e c (ticked change es))
  by_change stays kept rest = (all.0, rest)
  by_change (keeps s) kept rest = (kept, rest)
  by_change ends kept rest = rest

pub all-find : {S : Type 0} (P : ℕ × S → Type 0) (n : ℕ) (es : List (ℕ × S)) → AllByRecursion P es → IfKept (λ s. P (n, s)) (find n es)
unfolding find
all-find P n [] all = tt
all-find {S = S} P n (e ∷ es) all = by_test (e.0 == n) refl (all-find P n es all.1) where
  by_test : (same : Bool) → (e.0 == n) ≡ same → IfKept (λ s. P (n, s)) (find n es) → IfKept (λ s. P (n, s)) (if same then Some e.1 else find n es)
  by_test true is rest = subst (λ k. P (k, e.1)) (eqb-true e.0 n is) all.0
  by_test false is rest = rest

-- ---- a sender keeps its block

abbrev Has : List ℕ → Sending → Type 0
Has block s = s.block ≡ block

abbrev KeepsIt : List ℕ → StepValue Sending → Type 0
KeepsIt block t = IfKeeps (Has block) t.next

report-keeps : (policy : PolicyValue) (s : Sending) (x : ReportValue) (now : ℕ) → KeepsIt s.block (report_step policy s x now)
unfolding report_step
report-keeps policy s x now = both_arms (KeepsIt s.block) (nat_lt s.red x.upper) _ _ tt (by_phase s.phase) where
  by_last : (c : PieceValue) (parts : List (ℕ × List ℕ)) (o : Option (ℕ × List ℕ))
      → KeepsIt s.block (sends_again policy (record s { claimed = with_claims x.lower x.claims s.claimed }) now parts (checkpoint_at (length s.block) s.red (c.checkpoint + 1) x.serial) o (a_report_ack x.serial ∷ []))
  by_last c parts None = refl
  by_last c parts (Some part) = refl

  by_phase : (phase : SendingPhase) → KeepsIt s.block (takes_report policy s phase x now (a_report_ack x.serial ∷ []))
  by_phase (sender_cancelling reason timer) = tt
  by_phase (sender_open c timer) =
      both_arms (KeepsIt s.block) (is_all_claimed (with_claims x.lower x.claims s.claimed)) _ _ tt
      (both_arms (KeepsIt s.block) (x.checkpoint == c.checkpoint) _ _
      (both_arms (KeepsIt s.block) (is_past_serials (c.checkpoint + 1)) _ _ refl (by_last c _ _)) refl)

tick-keeps : (policy : PolicyValue) (s : Sending) (now : ℕ) → KeepsIt s.block (sender_tick policy s now)
unfolding sender_tick
tick-keeps policy s now = both_arms (KeepsIt s.block) (nat_le (sending_timer s.phase).deadline now) _ _ (by_phase s.phase) tt where
  by_phase : (phase : SendingPhase) → KeepsIt s.block (sender_due policy s phase now)
  by_phase (sender_open c timer) = both_arms (KeepsIt s.block) (nat_lt timer.times policy.limit) _ _ refl refl
  by_phase (sender_cancelling reason timer) = both_arms (KeepsIt s.block) (nat_lt timer.times policy.limit) _ _ refl tt

hears-keeps : (policy : PolicyValue) (s : Sending) (content : ContentValue) (now : ℕ) (t : StepValue Sending) → sender_answers policy (Some s) content now ≡ Some t → KeepsIt s.block t
unfolding sender_answers
hears-keeps policy s (a_report x) now t hears = answered (KeepsIt s.block) _ t hears (report-keeps policy s x now)
hears-keeps policy s (a_receiver_cancel reason) now t hears = answered (KeepsIt s.block) _ t hears tt
hears-keeps policy s a_sender_cancel_ack now t hears = answered (KeepsIt s.block) _ t hears (by_phase s.phase) where
  by_phase : (phase : SendingPhase) → KeepsIt s.block (ends_cancelling phase)
  by_phase (sender_open c timer) = tt
  by_phase (sender_cancelling reason timer) = tt
hears-keeps policy s (a_piece q) now t hears = absurd (cc)
hears-keeps policy s (a_report_ack n) now t hears = absurd (cc)
hears-keeps policy s (a_sender_cancel n) now t hears = absurd (cc)
hears-keeps policy s a_receiver_cancel_ack now t hears = absurd (cc)

at-most : (most n : ℕ) (block : List ℕ) (change : Change Sending) → length block ≤ most → IfKeeps (Has block) change → IfKeeps (λ s. SendsAtMost most (n, s)) change
at-most most n block stays few kept = tt
at-most most n block (keeps s) few kept = subst (λ b. length b ≤ most) (sym kept) few
at-most most n block ends few kept = tt

pub sender-within : (most n : ℕ) (policy : PolicyValue) (kept : Option Sending) (content : ContentValue) (now : ℕ) (t : StepValue Sending)
    → (kept ≡ None → t.next ≡ stays) → sender_answers policy kept content now ≡ Some t → IfKept (λ s. SendsAtMost most (n, s)) kept → IfKeeps (λ s. SendsAtMost most (n, s)) t.next
sender-within most n policy None content now t unmoved hears within = subst (λ c. IfKeeps (λ s. SendsAtMost most (n, s)) c) (sym (unmoved refl)) tt
sender-within most n policy (Some s) content now t unmoved hears within = at-most most n s.block t.next within (hears-keeps policy s content now t hears)

pub sender-tick-within : (most n : ℕ) (policy : PolicyValue) (now : ℕ) (s : Sending) → SendsAtMost most (n, s) → IfKeeps (λ t. SendsAtMost most (n, t)) (sender_tick policy s now).next
sender-tick-within most n policy now s within = at-most most n s.block (sender_tick policy s now).next within (tick-keeps policy s now)

pub begin-within : (most n : ℕ) (policy : PolicyValue) (block : List ℕ) (red now : ℕ) → length block ≤ most → IfKeeps (λ s. SendsAtMost most (n, s)) (begin policy n block red now).next
unfolding begin
begin-within most n policy block red now few = by_last (last_segment (red_segments policy block red)) where
  by_last : (o : Option (ℕ × List ℕ)) → IfKeeps (λ s. SendsAtMost most (n, s)) (opened policy block red now (checkpoint_at (length block) red (first_serial n) 0) o)
  by_last None = tt
  by_last (Some part) = few

-- ---- a receiver takes no piece that stops past the greatest block

within-of : (most n stop : ℕ) → ((n == 0) || nat_lt most stop) ≡ false → stop ≤ most
within-of most n stop is = by_test (n == 0) is where
  by_test : (none : Bool) → (none || nat_lt most stop) ≡ false → stop ≤ most
  by_test true is = absurd (cc)
  by_test false is = grind (arith, nat_tests)

piece-within : (policy : PolicyValue) (place : Admission) (kept : Option Receiving) (content : ContentValue) (q : PieceValue) (now : ℕ) (t : StepValue Receiving)
    → content ≡ a_piece q → receiver_answers policy place kept content now ≡ Some t → (t.next ≡ stays) ⊎ (piece_stop q ≤ place.most)
unfolding receiver_answers
piece-within policy place kept content q now t is hears = answered Within _ t (ap (λ c. receiver_answers policy place kept c now) (sym is) ∙ hears)
    (both_arms Within (not (q.service == 1)) _ _ (inl refl)
    (by_arms Within ((length q.body == 0) || nat_lt place.most (piece_stop q)) _ _ (λ outside. inl refl) (λ inside. inr (within-of place.most (length q.body) (piece_stop q) inside))))
  where
    Within : StepValue Receiving → Type 0
    Within t = (t.next ≡ stays) ⊎ (piece_stop q ≤ place.most)

filled-within : (most n : ℕ) (r r' : Receiving) (q : PieceValue) (c : Change Receiving) → c ≡ keeps r' → r'.cells ≡ filled r.cells q.offset q.body
    → (c ≡ stays) ⊎ (piece_stop q ≤ most) → ReceivesAtMost most (n, r) → ReceivesAtMost most (n, r')
filled-within most n r r' q c next cells (inl same) within = absurd (cc)
filled-within most n r r' q c next cells (inr fits) within =
    let size = length-filled r.cells q.offset q.body in
    subst (λ cs. length cs ≤ most) (sym cells) (omega (arith, size, fits, within))

-- the same, in the form of its step
form-within : (most n : ℕ) (content : ContentValue) (r : Receiving) (t : StepValue Receiving) → ReceiverStep content r t
    → ((q : PieceValue) → content ≡ a_piece q → (t.next ≡ stays) ⊎ (piece_stop q ≤ most)) → ReceivesAtMost most (n, r) → IfKeeps (λ s. ReceivesAtMost most (n, s)) t.next
form-within most n content r t (idle next none) fits within = subst (λ c. IfKeeps (λ s. ReceivesAtMost most (n, s)) c) (sym next) tt
form-within most n content r t (over next none) fits within = subst (λ c. IfKeeps (λ s. ReceivesAtMost most (n, s)) c) (sym next) tt
form-within most n content r t (turns r' next turned none) fits within = subst (λ c. IfKeeps (λ s. ReceivesAtMost most (n, s)) c) (sym next) (subst (λ cs. length cs ≤ most) (sym turned.cells) within)
form-within most n content r t (again p timer pending next out) fits within = subst (λ c. IfKeeps (λ s. ReceivesAtMost most (n, s)) c) (sym next) within
form-within most n content r t (fills q r' is_piece red_kind next filling none) fits within =
    subst (λ c. IfKeeps (λ s. ReceivesAtMost most (n, s)) c) (sym next) (filled-within most n r r' q t.next next filling.cells (fits q is_piece) within)
form-within most n content r t (reports_on q r' is_piece red_kind checkpoint next reporting out) fits within =
    subst (λ c. IfKeeps (λ s. ReceivesAtMost most (n, s)) c) (sym next) (filled-within most n r r' q t.next next reporting.cells (fits q is_piece) within)

pub receiver-within : (n : ℕ) (policy : PolicyValue) (place : Admission) (kept : Option Receiving) (content : ContentValue) (now : ℕ) (t : StepValue Receiving)
    → receiver_answers policy place kept content now ≡ Some t → IfKept (λ r. ReceivesAtMost place.most (n, r)) kept → IfKeeps (λ r. ReceivesAtMost place.most (n, r)) t.next
receiver-within n policy place kept content now t hears within =
    form-within place.most n content (met place.session kept) t (hears-form policy place kept content now t hears).form
    (λ q is. piece-within policy place kept content q now t is hears) (start kept within)
  where
    start : (kept : Option Receiving) → IfKept (λ r. ReceivesAtMost place.most (n, r)) kept → ReceivesAtMost place.most (n, met place.session kept)
    start None within = omega arith
    start (Some r) within = within

pub receiver-tick-within : (most n : ℕ) (policy : PolicyValue) (now : ℕ) (r : Receiving) → ReceivesAtMost most (n, r) → IfKeeps (λ s. ReceivesAtMost most (n, s)) (receiver_tick policy r now).next
receiver-tick-within most n policy now r within =
    form-within most n a_sender_cancel_ack r (receiver_tick policy r now) (tick-form a_sender_cancel_ack policy now r) (λ q is. absurd (cc)) within
