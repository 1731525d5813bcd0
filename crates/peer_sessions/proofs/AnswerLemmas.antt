-- What a receiving session answers, for the face that keeps it.

use Rattle.std.proofs.Common.{◌≡◌, ℕ, zero, suc, ◌+◌, ◌≤◌, Bool, true, false, not, ◌==◌, ◌&&◌, ◌||◌, nat_lt, if◌then◌else◌, List, [], ◌∷◌, ◌++◌, length, Option, Some, None, is_some, ◌⊎◌, inl, inr, refl, sym, ◌∙◌, ap, subst, arith}
use Rattle.std.specs.List.{count_by, list_any}
use Rattle.std.specs.Option.{option_map}
use Rattle.std.proofs.lemmas.List.Sums.{sum_by-cons}
use Rattle.std.proofs.lemmas.Bool.Decides.{nat_tests}
use Rattle.ltp_segment.specs.declared.session.Note.TheVariants as notes
use Rattle.ltp_segment.specs.Kinds.{is_red, is_checkpoint, ends_red_part}
use Rattle.ltp_segment.specs.Policy.{PolicyValue}
use Rattle.ltp_segment.specs.Values.{PieceValue, ContentValue, a_piece, a_report, a_report_ack, a_sender_cancel, a_sender_cancel_ack, a_receiver_cancel, a_receiver_cancel_ack}
use Rattle.ltp_session.specs.Cells.{laid_over, filled, is_no_part}
use Rattle.ltp_session.specs.Claims.{is_whole_claim}
use Rattle.ltp_session.specs.Step.{Change, stays, keeps, ends, after, StepValue, NoteValue, note_sent, note_failed, note_refused, note_cancelled, note_bad_bounds, note_closed, note_history_full, sending, noting, unreachable, miscoloured, by_system, sent_too_often}
use Rattle.ltp_session.specs.Receiver.{Receiving, ReceivingPhase, receiver_open, receiver_cancelling, Admission, fresh, is_cancelling, rejects, is_outside, is_miscoloured, hands_up_green, takes_green, with_red, report_of, reports, takes_red, piece_step, settles, acknowledged, on_piece, receiver_answers, red_part, with_handed_up, acknowledged_in, receiver_due, receiver_tick}
use Rattle.ltp_session.specs.Timer.{is_due, may_repeat, next_timer, is_past_serials}
use Rattle.ltp_session.specs.Engine.{list_of, notes_of}
use Rattle.ltp_session.specs.Views.{note_of}
use Rattle.peer_sessions.specs.Contents.{red_octets, is_left, touches_by}
use Rattle.peer_sessions.specs.Sessions.{may_open, is_kept_by, is_touched}

-- ---- what a receiving session has to know

abbrev pub place : ℕ → ℕ → Bool → Admission
place n most over = record { session = n; most = most; closed = over; full = false }

-- the answer to a piece, by its tests
abbrev piece_by : PolicyValue → ℕ → PieceValue → ℕ → Option Receiving → Bool → Bool → StepValue Receiving
piece_by policy n piece now None red over =
    if not red then hands_up_green stays piece
    else if over then noting stays [] note_closed
    else piece_step policy (fresh n) piece now
piece_by policy n piece now (Some r) red over =
    if is_cancelling r.phase then noting stays [] note_closed else piece_step policy r piece now

abbrev answer_by : PolicyValue → ℕ → PieceValue → ℕ → Bool → Bool → Option Receiving → Bool → Bool → StepValue Receiving
answer_by policy n piece now right none kept red over =
    if not right then noting stays (a_receiver_cancel unreachable ∷ []) (note_refused piece.service)
    else if none then noting stays [] note_bad_bounds
    else piece_by policy n piece now kept red over

by-tests : (policy : PolicyValue) (n most : ℕ) (over : Bool) (kept : Option Receiving) (piece : PieceValue) (now : ℕ)
    → on_piece policy (place n most over) kept piece now
    ≡ answer_by policy n piece now (piece.service == 1) (is_no_part most piece.offset piece.body) kept (is_red piece.kind) over
by-tests policy n most over None piece now = refl
by-tests policy n most over (Some r) piece now = refl

-- whether its number is remembered counts for a red piece that may open it
same-by : (policy : PolicyValue) (n : ℕ) (piece : PieceValue) (now : ℕ) (right none : Bool) (kept : Option Receiving) (red a b : Bool)
    → (is_some kept ≡ false → (red && (right && not none)) ≡ true → a ≡ b)
    → answer_by policy n piece now right none kept red a ≡ answer_by policy n piece now right none kept red b
same-by policy n piece now false none kept red a b same = refl
same-by policy n piece now true true kept red a b same = refl
same-by policy n piece now true false (Some r) red a b same = refl
same-by policy n piece now true false None false a b same = refl
same-by policy n piece now true false None true a b same =
    ap (λ (over : Bool). if over then noting stays [] note_closed else piece_step policy (fresh n) piece now) (same refl refl)

pub answer-same : (policy : PolicyValue) (n most : ℕ) (a b : Bool) (kept : Option Receiving) (content : ContentValue) (now : ℕ)
    → (is_some kept ≡ false → may_open most content ≡ true → a ≡ b)
    → receiver_answers policy (place n most a) kept content now ≡ receiver_answers policy (place n most b) kept content now
unfolding receiver_answers
answer-same policy n most a b kept (a_piece piece) now same =
    ap (λ (step : StepValue Receiving). Some step) (by-tests policy n most a kept piece now
    ∙ (same-by policy n piece now (piece.service == 1) (is_no_part most piece.offset piece.body) kept (is_red piece.kind) a b same
    ∙ sym (by-tests policy n most b kept piece now)))
answer-same policy n most a b kept (a_report report) now same = refl
answer-same policy n most a b kept (a_report_ack serial) now same = refl
answer-same policy n most a b kept (a_sender_cancel reason) now same = refl
answer-same policy n most a b kept a_sender_cancel_ack now same = refl
answer-same policy n most a b kept (a_receiver_cancel reason) now same = refl
answer-same policy n most a b kept a_receiver_cancel_ack now same = refl

-- ---- octets

abbrev pub octets_of : List (Option ℕ) → ℕ
octets_of cells = count_by is_some cells

octets-cons : (c : Option ℕ) (cells : List (Option ℕ)) → octets_of (c ∷ cells) ≡ (if is_some c then 1 else 0) + octets_of cells
octets-cons c cells = sum_by-cons (λ (x : Option ℕ). if is_some x then 1 else 0) c cells

octets-some : (x : ℕ) (cells : List (Option ℕ)) → octets_of (Some x ∷ cells) ≡ 1 + octets_of cells
octets-some x cells = octets-cons (Some x) cells

octets-none : (cells : List (Option ℕ)) → octets_of (None ∷ cells) ≡ octets_of cells
octets-none cells = let none = octets-cons None cells in omega (arith, none)

octets-laid : (cells : List (Option ℕ)) (body : List ℕ) → octets_of (laid_over cells body) ≤ octets_of cells + length body
octets-laid [] [] = omega arith
octets-laid (c ∷ cells) [] = omega arith
octets-laid [] (o ∷ body) = let one = octets-some o (laid_over [] body) in let rest = octets-laid [] body in omega (arith, one, rest)
octets-laid (None ∷ cells) (o ∷ body) =
    let one = octets-some o (laid_over cells body) in let none = octets-none cells in let rest = octets-laid cells body in omega (arith, one, none, rest)
octets-laid (Some f ∷ cells) (o ∷ body) =
    let one = octets-some f (laid_over cells body) in let some = octets-some f cells in let rest = octets-laid cells body in omega (arith, one, some, rest)

pub octets-filled : (cells : List (Option ℕ)) (offset : ℕ) (body : List ℕ) → octets_of (filled cells offset body) ≤ octets_of cells + length body
unfolding filled
octets-filled cells zero body = octets-laid cells body
octets-filled [] (suc offset) body = let none = octets-none (filled [] offset body) in let rest = octets-filled [] offset body in omega (arith, none, rest)
octets-filled (c ∷ cells) (suc offset) body =
    let one = octets-cons c (filled cells offset body) in let old = octets-cons c cells in let rest = octets-filled cells offset body in omega (arith, one, old, rest)

-- ---- one piece

-- a note says that a piece left its session as it was
abbrev pub is_left_by : Option NoteValue → Bool
is_left_by None = false
is_left_by (Some note_sent) = false
is_left_by (Some (note_failed reason)) = false
is_left_by (Some (note_refused service)) = true
is_left_by (Some (note_cancelled reason)) = false
is_left_by (Some note_bad_bounds) = true
is_left_by (Some note_closed) = true
is_left_by (Some note_history_full) = false

-- a step leaves the session as it was
record IsLeft (step : StepValue Receiving) : Type 0 where
  next : step.next ≡ stays
  note : is_left_by step.note ≡ true

-- or keeps it, with so many octets at most
record IsKept (most : ℕ) (step : StepValue Receiving) : Type 0 where
  state : Receiving
  next : step.next ≡ keeps state
  note : is_left_by step.note ≡ false
  octets : octets_of state.cells ≤ most

takes-red : (policy : PolicyValue) (r : Receiving) (piece : PieceValue) (now : ℕ) → IsKept (octets_of r.cells) (takes_red policy r piece now)
takes-red policy r piece now = by (is_checkpoint piece.kind) (is_past_serials r.serial) where
  by : (checkpoint past : Bool) → IsKept (octets_of r.cells) (if checkpoint then
      (if past then rejects policy (with_handed_up r) by_system now (red_part r) else reports policy r (report_of r piece) now)
      else record { next = keeps (with_handed_up r); out = []; up = red_part r; green = None; note = None })
  by true true = record { state = _; next = refl; note = refl; octets = omega arith }
  by true false = record { state = _; next = refl; note = refl; octets = omega arith }
  by false past = record { state = _; next = refl; note = refl; octets = omega arith }

piece-does : (policy : PolicyValue) (r : Receiving) (piece : PieceValue) (now : ℕ)
    → IsLeft (piece_step policy r piece now) ⊎ IsKept (octets_of r.cells + red_octets (a_piece piece)) (piece_step policy r piece now)
unfolding piece_step
piece-does policy r piece now = by (is_outside r piece) (is_miscoloured r piece) (is_red piece.kind) where
  more : IsKept (octets_of r.cells + length piece.body) (takes_red policy (with_red r piece) piece now)
  more =
      let taken = takes-red policy (with_red r piece) piece now in
      let few = octets-filled r.cells piece.offset piece.body in
      record { state = taken.state; next = taken.next; note = taken.note; octets = let most = taken.octets in omega (arith, few, most) }

  by : (outside wrong red : Bool) → IsLeft (if outside then noting stays [] note_bad_bounds else if wrong then rejects policy r miscoloured now None else if red then takes_red policy (with_red r piece) piece now else takes_green r piece)
      ⊎ IsKept (octets_of r.cells + (if red then length piece.body else 0)) (if outside then noting stays [] note_bad_bounds else if wrong then rejects policy r miscoloured now None else if red then takes_red policy (with_red r piece) piece now else takes_green r piece)
  by true wrong red = inl (record { next = refl; note = refl })
  by false true red = inr (record { state = _; next = refl; note = refl; octets = omega arith })
  by false false true = inr more
  by false false false = inr (record { state = _; next = refl; note = refl; octets = omega arith })

-- a red piece is kept of a session of which nothing came yet
pub fresh-keeps : (policy : PolicyValue) (n : ℕ) (piece : PieceValue) (now : ℕ) → is_red piece.kind ≡ true → is_kept_by (piece_step policy (fresh n) piece now).next ≡ true
unfolding piece_step
fresh-keeps policy n piece now red = by (is_outside (fresh n) piece) outside (is_miscoloured (fresh n) piece) wrong (is_red piece.kind) red where
  never : (stop : ℕ) → nat_lt stop 0 ≡ false
  never stop = grind (arith, nat_tests)

  outside : is_outside (fresh n) piece ≡ false
  outside = rw (never (piece.offset + length piece.body)) (by_ends (is_red piece.kind) (ends_red_part piece.kind)) where
    by_ends : (a b : Bool) → (a && (false || (b && (false || false)))) ≡ false
    by_ends true true = refl
    by_ends true false = refl
    by_ends false b = refl

  wrong : is_miscoloured (fresh n) piece ≡ false
  wrong = rw red refl

  kept : is_kept_by (takes_red policy (with_red (fresh n) piece) piece now).next ≡ true
  kept = let taken = takes-red policy (with_red (fresh n) piece) piece now in ap is_kept_by taken.next

  by : (a : Bool) → a ≡ false → (b : Bool) → b ≡ false → (c : Bool) → c ≡ true
      → is_kept_by (if a then noting stays [] note_bad_bounds else if b then rejects policy (fresh n) miscoloured now None else if c then takes_red policy (with_red (fresh n) piece) piece now else takes_green (fresh n) piece).next ≡ true
  by a is_a b is_b c is_c = rw (is_a, is_b, is_c) kept

-- ---- all contents

abbrev pub kept_octets : Option Receiving → ℕ
kept_octets None = 0
kept_octets (Some r) = octets_of r.cells

abbrev pub is_over_by : Change Receiving → Bool
is_over_by stays = false
is_over_by (keeps r) = false
is_over_by ends = true

-- Whether a step touches its session; what opens one; that none ends which isn't kept; and how many octets
-- are kept then.
pub record Facts (most : ℕ) (kept : Option Receiving) (content : ContentValue) (step : StepValue Receiving) : Type 0 where
  pub touched : is_kept_by step.next ≡ (is_some (after step.next kept) && touches_by content (is_left_by step.note))
  pub opens : is_some kept ≡ false → is_kept_by step.next ≡ true → may_open most content ≡ true
  pub none_ends : is_some kept ≡ false → is_over_by step.next ≡ false
  pub octets : (r : Receiving) → step.next ≡ keeps r → octets_of r.cells ≤ kept_octets kept + red_octets content

differ : {b : Bool} → b ≡ false → b ≡ true → ⊥
differ is also = cc

got : {X : Type 0} (x : X) {y : X} → Some x ≡ Some y → x ≡ y
got x is = cc

no-keeps : {S : Type 0} (s : S) → stays ≡ keeps s → ⊥
no-keeps s is = cc

same-state : {S : Type 0} (s t : S) → keeps s ≡ keeps t → s ≡ t
same-state s t is = cc

-- a session that stays as it is
stays-so : (most : ℕ) (kept : Option Receiving) (content : ContentValue) (step : StepValue Receiving) → step.next ≡ stays
    → (is_some kept && touches_by content (is_left_by step.note)) ≡ false → Facts most kept content step
stays-so most kept content step next untouched = record {
  touched = rw next (sym untouched);
  opens = λ none holds. absurd (differ (ap is_kept_by next) holds);
  none_ends = λ none. ap is_over_by next;
  octets = λ r is. absurd (no-keeps r (sym next ∙ is));
}

and-none : (b : Bool) → (b && false) ≡ false
and-none true = refl
and-none false = refl

-- one that is over
ends-so : (most : ℕ) (r : Receiving) (content : ContentValue) (step : StepValue Receiving) → step.next ≡ ends → Facts most (Some r) content step
ends-so most r content step next = record {
  touched = rw next refl;
  opens = λ none. absurd (cc (none));
  none_ends = λ none. absurd (cc (none));
  octets = λ s is. absurd (never s (sym next ∙ is));
} where
  never : (s : Receiving) → ends ≡ keeps s → ⊥
  never s is = cc

-- one that is kept
keeps-so : (most : ℕ) (kept : Option Receiving) (content : ContentValue) (step : StepValue Receiving) (s : Receiving) → step.next ≡ keeps s
    → touches_by content (is_left_by step.note) ≡ true → (is_some kept ≡ false → may_open most content ≡ true)
    → octets_of s.cells ≤ kept_octets kept + red_octets content → Facts most kept content step
keeps-so most kept content step s next touches opens octets = record {
  touched = rw (next, touches) refl;
  opens = λ none holds. opens none;
  none_ends = λ none. ap is_over_by next;
  octets = λ r is. subst (λ (t : Receiving). octets_of t.cells ≤ kept_octets kept + red_octets content) (same-state s r (sym next ∙ is)) octets;
}

piece-facts : (policy : PolicyValue) (n most : ℕ) (piece : PieceValue) (now : ℕ) (right none : Bool) (kept : Option Receiving) (red over : Bool)
    → red ≡ is_red piece.kind → (piece.service == 1) ≡ right → is_no_part most piece.offset piece.body ≡ none
    → Facts most kept (a_piece piece) (answer_by policy n piece now right none kept red over)
piece-facts policy n most piece now false none kept red over is_red_so is_right is_none = stays-so most kept (a_piece piece) _ refl (and-none (is_some kept))
piece-facts policy n most piece now true true kept red over is_red_so is_right is_none = stays-so most kept (a_piece piece) _ refl (and-none (is_some kept))
piece-facts policy n most piece now true false None false over is_red_so is_right is_none = stays-so most None (a_piece piece) _ refl refl
piece-facts policy n most piece now true false None true true is_red_so is_right is_none = stays-so most None (a_piece piece) _ refl refl
piece-facts policy n most piece now true false None true false is_red_so is_right is_none = elim (piece-does policy (fresh n) piece now) [
  | inl left ↦ stays-so most None (a_piece piece) _ left.next refl
  | inr kept ↦ keeps-so most None (a_piece piece) _ kept.state kept.next (rw kept.note refl) (λ none. rw (sym is_red_so, is_right, is_none) refl) kept.octets
]
piece-facts policy n most piece now true false (Some r) red over is_red_so is_right is_none = by (is_cancelling r.phase) where
  by : (cancelling : Bool) → Facts most (Some r) (a_piece piece) (if cancelling then noting stays [] note_closed else piece_step policy r piece now)
  by true = stays-so most (Some r) (a_piece piece) _ refl refl
  by false = elim (piece-does policy r piece now) [
    | inl left ↦ stays-so most (Some r) (a_piece piece) _ left.next (rw left.note refl)
    | inr kept ↦ keeps-so most (Some r) (a_piece piece) _ kept.state kept.next (rw kept.note refl) (λ none. absurd (cc (none))) kept.octets
  ]

acknowledged-facts : (most : ℕ) (r : Receiving) (serial : ℕ) → Facts most (Some r) (a_report_ack serial) (acknowledged r serial)
unfolding acknowledged
acknowledged-facts most r serial = by r.phase where
  same : Facts most (Some r) (a_report_ack serial) (sending (keeps r) [])
  same = keeps-so most (Some r) (a_report_ack serial) _ r refl refl (λ none. absurd (cc (none))) (omega arith)

  settled-facts : (whole : Bool) → Facts most (Some r) (a_report_ack serial) (if whole then sending ends [] else sending (keeps (record r { phase = receiver_open None })) [])
  settled-facts true = ends-so most r (a_report_ack serial) _ refl
  settled-facts false = keeps-so most (Some r) (a_report_ack serial) _ _ refl refl (λ none. absurd (cc (none))) (omega arith)

  by : (phase : ReceivingPhase) → Facts most (Some r) (a_report_ack serial) (acknowledged_in r phase serial)
  by (receiver_open None) = same
  by (receiver_open (Some pending)) = by_serial (pending.report.serial == serial) where
    by_serial : (right : Bool) → Facts most (Some r) (a_report_ack serial) (if right then settles r pending.report else sending (keeps r) [])
    by_serial true = settled-facts (is_whole_claim r.length (pending.report).claims)
    by_serial false = same
  by (receiver_cancelling reason timer) = same

pub answer-facts : (policy : PolicyValue) (n most : ℕ) (over : Bool) (kept : Option Receiving) (content : ContentValue) (now : ℕ) (step : StepValue Receiving)
    → receiver_answers policy (place n most over) kept content now ≡ Some step → Facts most kept content step
unfolding receiver_answers
answer-facts policy n most over kept (a_piece piece) now step is =
    subst (λ (s : StepValue Receiving). Facts most kept (a_piece piece) s) (sym (by-tests policy n most over kept piece now) ∙ got (on_piece policy (place n most over) kept piece now) is)
    (piece-facts policy n most piece now (piece.service == 1) (is_no_part most piece.offset piece.body) kept (is_red piece.kind) over refl refl refl)
answer-facts policy n most over kept (a_report report) now step is = absurd (cc (is))
answer-facts policy n most over None (a_report_ack serial) now step is =
    subst (λ (s : StepValue Receiving). Facts most None (a_report_ack serial) s) (got _ is) (stays-so most None (a_report_ack serial) _ refl refl)
answer-facts policy n most over (Some r) (a_report_ack serial) now step is =
    subst (λ (s : StepValue Receiving). Facts most (Some r) (a_report_ack serial) s) (got _ is) (acknowledged-facts most r serial)
answer-facts policy n most over None (a_sender_cancel reason) now step is =
    subst (λ (s : StepValue Receiving). Facts most None (a_sender_cancel reason) s) (got _ is) (stays-so most None (a_sender_cancel reason) _ refl refl)
answer-facts policy n most over (Some r) (a_sender_cancel reason) now step is =
    subst (λ (s : StepValue Receiving). Facts most (Some r) (a_sender_cancel reason) s) (got _ is) (ends-so most r (a_sender_cancel reason) _ refl)
answer-facts policy n most over kept a_sender_cancel_ack now step is = absurd (cc (is))
answer-facts policy n most over kept (a_receiver_cancel reason) now step is = absurd (cc (is))
answer-facts policy n most over None a_receiver_cancel_ack now step is =
    subst (λ (s : StepValue Receiving). Facts most None a_receiver_cancel_ack s) (got _ is) (stays-so most None a_receiver_cancel_ack _ refl refl)
answer-facts policy n most over (Some r) a_receiver_cancel_ack now step is =
    subst (λ (s : StepValue Receiving). Facts most (Some r) a_receiver_cancel_ack s) (got _ is) (by (is_cancelling r.phase)) where
      by : (cancelling : Bool) → Facts most (Some r) a_receiver_cancel_ack (if cancelling then sending ends [] else sending stays [])
      by true = ends-so most r a_receiver_cancel_ack _ refl
      by false = stays-so most (Some r) a_receiver_cancel_ack _ refl refl

-- ---- notes

pub notes-left : (n : ℕ) (gone : Option ℕ) (step : StepValue Receiving) → list_any is_left (list_of (option_map notes.Evicted gone) ++ notes_of n step) ≡ is_left_by step.note
notes-left n gone step = by gone step.note where
  by : (gone : Option ℕ) (note : Option NoteValue) → list_any is_left (list_of (option_map notes.Evicted gone) ++ list_of (option_map (note_of n) note)) ≡ is_left_by note
  by None None = refl
  by (Some g) None = refl
  by None (Some note_sent) = refl
  by (Some g) (Some note_sent) = refl
  by None (Some (note_failed reason)) = refl
  by (Some g) (Some (note_failed reason)) = refl
  by None (Some (note_refused service)) = refl
  by (Some g) (Some (note_refused service)) = refl
  by None (Some (note_cancelled reason)) = refl
  by (Some g) (Some (note_cancelled reason)) = refl
  by None (Some note_bad_bounds) = refl
  by (Some g) (Some note_bad_bounds) = refl
  by None (Some note_closed) = refl
  by (Some g) (Some note_closed) = refl
  by None (Some note_history_full) = refl
  by (Some g) (Some note_history_full) = refl

-- ---- a tick

pub tick-octets : (policy : PolicyValue) (r s : Receiving) (now : ℕ) → (receiver_tick policy r now).next ≡ keeps s → octets_of s.cells ≤ octets_of r.cells
unfolding receiver_tick
tick-octets policy r s now is = by r.phase is where
  kept : (t : Receiving) → t.cells ≡ r.cells → keeps t ≡ keeps s → octets_of s.cells ≤ octets_of r.cells
  kept t cells is = subst (λ (u : Receiving). octets_of u.cells ≤ octets_of r.cells) (same-state t s is) (rw cells (omega arith))

  by : (phase : ReceivingPhase) → (receiver_due policy r phase now).next ≡ keeps s → octets_of s.cells ≤ octets_of r.cells
  by (receiver_open None) is = absurd (cc (is))
  by (receiver_open (Some pending)) is = by_due (is_due pending.timer now) (may_repeat policy pending.timer) r.handed_up is where
    by_due : (due again up : Bool) → (if due then (if again then sending (keeps (record r { phase = receiver_open (Some (record pending { timer = next_timer policy pending.timer now })) })) (a_report pending.report ∷ []) else if up then sending ends [] else rejects policy r sent_too_often now None) else sending stays []).next ≡ keeps s → octets_of s.cells ≤ octets_of r.cells
    by_due true true up is = kept _ refl is
    by_due true false true is = absurd (cc (is))
    by_due true false false is = kept _ refl is
    by_due false again up is = absurd (cc (is))
  by (receiver_cancelling reason timer) is = by_due (is_due timer now) (may_repeat policy timer) is where
    by_due : (due again : Bool) → (if due then (if again then sending (keeps (record r { phase = receiver_cancelling reason (next_timer policy timer now) })) (a_receiver_cancel reason ∷ []) else sending ends []) else sending stays []).next ≡ keeps s → octets_of s.cells ≤ octets_of r.cells
    by_due true true is = kept _ refl is
    by_due true false is = absurd (cc (is))
    by_due false again is = absurd (cc (is))

-- ---- a red piece that may open its session

parts : (a b c : Bool) → (a && (b && not c)) ≡ true → (a ≡ true) × (b ≡ true) × (c ≡ false)
parts true true false is = (refl, refl, refl)
parts true true true is = absurd (cc)
parts true false c is = absurd (cc)
parts false b c is = absurd (cc)

-- it does
pub opens : (policy : PolicyValue) (n most : ℕ) (kept : Option Receiving) (content : ContentValue) (now : ℕ) → is_some kept ≡ false → may_open most content ≡ true
    → is_touched (receiver_answers policy (place n most false) kept content now) ≡ true
unfolding receiver_answers
opens policy n most (Some r) content now none may = absurd (cc)
opens policy n most None (a_piece piece) now none may =
    let all : (is_red piece.kind ≡ true) × ((piece.service == 1) ≡ true) × (is_no_part most piece.offset piece.body ≡ false) = parts (is_red piece.kind) (piece.service == 1) (is_no_part most piece.offset piece.body) may in
    ap (λ (step : StepValue Receiving). is_kept_by step.next) (by-tests policy n most false None piece now)
    ∙ rw (all.1, all.2, all.0) (fresh-keeps policy n piece now all.0)
opens policy n most None (a_report report) now none may = absurd (cc)
opens policy n most None (a_report_ack serial) now none may = absurd (cc)
opens policy n most None (a_sender_cancel reason) now none may = absurd (cc)
opens policy n most None a_sender_cancel_ack now none may = absurd (cc)
opens policy n most None (a_receiver_cancel reason) now none may = absurd (cc)
opens policy n most None a_receiver_cancel_ack now none may = absurd (cc)

-- of one that is remembered it is noted
pub over : (policy : PolicyValue) (n most : ℕ) (kept : Option Receiving) (content : ContentValue) (now : ℕ) → is_some kept ≡ false → may_open most content ≡ true
    → receiver_answers policy (place n most true) kept content now ≡ Some (noting stays [] note_closed)
unfolding receiver_answers
over policy n most (Some r) content now none may = absurd (cc)
over policy n most None (a_piece piece) now none may =
    let all : (is_red piece.kind ≡ true) × ((piece.service == 1) ≡ true) × (is_no_part most piece.offset piece.body ≡ false) = parts (is_red piece.kind) (piece.service == 1) (is_no_part most piece.offset piece.body) may in
    ap (λ (step : StepValue Receiving). Some step) (by-tests policy n most true None piece now ∙ rw (all.1, all.2, all.0) refl)
over policy n most None (a_report report) now none may = absurd (cc)
over policy n most None (a_report_ack serial) now none may = absurd (cc)
over policy n most None (a_sender_cancel reason) now none may = absurd (cc)
over policy n most None a_sender_cancel_ack now none may = absurd (cc)
over policy n most None (a_receiver_cancel reason) now none may = absurd (cc)
over policy n most None a_receiver_cancel_ack now none may = absurd (cc)
