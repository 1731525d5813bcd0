-- The steps of a session agree with the receiver's law.
use Rattle.std.proofs.Common.{◌≡◌, ℕ, Bool, true, false, not, ◌&&◌, ◌||◌, ◌==◌, List, [], ◌∷◌, length, Option, None, Some, is_some, refl, sym, ◌∙◌, if◌then◌else◌}
use Rattle.spans.proofs.Covering.{same_truth}
use Rattle.ltp_segment.specs.Kinds.{is_red, is_checkpoint, ends_red_part}
use Rattle.ltp_segment.specs.Policy.{PolicyValue}
use Rattle.ltp_segment.specs.Values.{PieceValue}
use Rattle.ltp_session.specs.Timer.{is_due, may_repeat, is_past_serials}
use Rattle.ltp_session.specs.Cells.{whole_part, is_misplaced}
use Rattle.ltp_session.specs.Claims.{is_whole_claim}
use Rattle.ltp_session.specs.Step.{StepValue, after, ends, sending, sent_too_often}
use Rattle.ltp_session.specs.Receiver.{Receiving, ReceivingPhase, receiver_open, receiver_cancelling, fresh, is_cancelling, piece_stop, is_outside, is_miscoloured, with_red, red_part, rejects, with_handed_up, takes_red, piece_step, acknowledged_in, acknowledged, on_receiver_cancel_ack, receiver_due, receiver_tick}
use Rattle.ltp_receiver.specs.RedPart.{red_piece, Event, a_piece_comes, a_report_is_acknowledged, the_cancel_is_acknowledged, time_passes, with_piece, with_event, piece_comes, event_step, kept_after, taken, HandsUpOnce}
use Rattle.ltp_session.specs.RedPart.{RedPiece, is_whole, IsRedPart}
use Rattle.ltp_session.proofs.RedPartLemmas.{Agrees, agrees-more, nothing-agrees, red_part-whole, whole_part-red, red-whole_part, whole-some, whole-stays}

-- ---- how a session stands, by the pieces that count

pub record Stands (r : Receiving) (pieces : List RedPiece) : Type 0 where
  pub agrees : Agrees r.cells r.length pieces
  pub handed : r.handed_up ≡ is_whole pieces

abbrev pub Told : Option Receiving → List RedPiece → Type 0
Told None pieces = Unit {0}
Told (Some r) pieces = Stands r pieces

-- a step is by the law
pub record ByLaw (step : StepValue Receiving) (kept : Option Receiving) (pieces now : List RedPiece) : Type 0 where
  pub told : Told (after step.next kept) now
  pub hands : (body : List ℕ) → step.up ≡ Some body → (is_whole pieces ≡ false) × IsRedPart now body
  pub handed : (body : List ℕ) → is_whole pieces ≡ false → IsRedPart now body → step.up ≡ Some body

-- one that takes no octets
idle : (step : StepValue Receiving) (kept : Option Receiving) (pieces : List RedPiece)
    → Told (after step.next kept) pieces → step.up ≡ None → ByLaw step kept pieces pieces
idle step kept pieces told none = record {
  told = told;
  hands = λ body is. absurd (cc);
  handed = λ body unfinished part. let whole = red_part-whole pieces body part in absurd (cc);
}

-- ---- a red piece is taken

takes_red-up : (policy : PolicyValue) (r : Receiving) (piece : PieceValue) (now : ℕ) → (takes_red policy r piece now).up ≡ red_part r
takes_red-up policy r piece now = by_test (is_checkpoint piece.kind) refl (is_past_serials r.serial) refl
  where
    by_test : (t : Bool) → is_checkpoint piece.kind ≡ t → (u : Bool) → is_past_serials r.serial ≡ u → (takes_red policy r piece now).up ≡ red_part r
    by_test true is true past = rw (is, past) refl
    by_test true is false past = rw (is, past) refl
    by_test false is u past = rw is refl

takes_red-told : (policy : PolicyValue) (r : Receiving) (piece : PieceValue) (now : ℕ) (kept : Option Receiving) (pieces : List RedPiece)
    → Stands (with_handed_up r) pieces → Told (after (takes_red policy r piece now).next kept) pieces
takes_red-told policy r piece now kept pieces stands = by_test (is_checkpoint piece.kind) refl (is_past_serials r.serial) refl
  where
    by_test : (t : Bool) → is_checkpoint piece.kind ≡ t → (u : Bool) → is_past_serials r.serial ≡ u
        → Told (after (takes_red policy r piece now).next kept) pieces
    by_test true is true past = rw (is, past) (record { agrees = stands.agrees; handed = stands.handed })
    by_test true is false past = rw (is, past) (record { agrees = stands.agrees; handed = stands.handed })
    by_test false is u past = rw is stands

-- the red part of a session, and whether it is whole
handed-more : (r : Receiving) (pieces : List RedPiece) (piece : PieceValue) → r.handed_up ≡ is_whole pieces
    → Agrees r.cells r.length (red_piece piece ∷ pieces) → (with_handed_up r).handed_up ≡ is_whole (red_piece piece ∷ pieces)
handed-more r pieces piece handed agrees = by_test (is_whole pieces) refl
  where
    by_test : (t : Bool) → is_whole pieces ≡ t → (r.handed_up || is_some (red_part r)) ≡ is_whole (red_piece piece ∷ pieces)
    by_test true whole =
        let before : r.handed_up ≡ true = handed ∙ whole in
        rw before (sym (whole-stays pieces (red_piece piece) whole))
    by_test false part =
        let before : r.handed_up ≡ false = handed ∙ part in
        rw before (same_truth (is_some (whole_part r.cells r.length)) (is_whole (red_piece piece ∷ pieces))
        (λ some. by_part (whole_part r.cells r.length) refl some)
        (λ whole. whole-some r.cells r.length (red_piece piece ∷ pieces) agrees whole))
      where
        by_part : (o : Option (List ℕ)) → whole_part r.cells r.length ≡ o → is_some o ≡ true → is_whole (red_piece piece ∷ pieces) ≡ true
        by_part None none some = absurd (cc)
        by_part (Some body) is some = red_part-whole (red_piece piece ∷ pieces) body (whole_part-red r.cells r.length (red_piece piece ∷ pieces) body agrees is)

red-law : (policy : PolicyValue) (r s : Receiving) (piece : PieceValue) (now : ℕ) (kept : Option Receiving) (pieces : List RedPiece)
    → s.handed_up ≡ is_whole pieces → Agrees s.cells s.length (red_piece piece ∷ pieces)
    → ByLaw (takes_red policy s piece now) kept pieces (red_piece piece ∷ pieces)
red-law policy r s piece now kept pieces handed agrees = record {
  told = takes_red-told policy s piece now kept (red_piece piece ∷ pieces) (record { agrees = agrees; handed = handed-more s pieces piece handed agrees });
  hands = λ body up. hands_it body (sym (takes_red-up policy s piece now) ∙ up);
  handed = λ body unfinished part.
      takes_red-up policy s piece now
      ∙ (rw (handed ∙ unfinished) (red-whole_part s.cells s.length (red_piece piece ∷ pieces) body agrees part));
}
  where
    hands_it : (body : List ℕ) → red_part s ≡ Some body → (is_whole pieces ≡ false) × IsRedPart (red_piece piece ∷ pieces) body
    hands_it body up = by_test s.handed_up refl up
      where
        by_test : (t : Bool) → s.handed_up ≡ t → (if t then None else whole_part s.cells s.length) ≡ Some body
            → (is_whole pieces ≡ false) × IsRedPart (red_piece piece ∷ pieces) body
        by_test true before is = absurd (cc)
        by_test false before is = (sym handed ∙ before, whole_part-red s.cells s.length (red_piece piece ∷ pieces) body agrees is)

-- ---- a piece comes

pub piece-law : (policy : PolicyValue) (r : Receiving) (piece : PieceValue) (now : ℕ) (pieces : List RedPiece) → Stands r pieces
    → is_cancelling r.phase ≡ false
    → (red outside wrong : Bool) → is_red piece.kind ≡ red → is_outside r piece ≡ outside → is_miscoloured r piece ≡ wrong
    → ByLaw (piece_step policy r piece now) (Some r) pieces (if red && (not outside && not wrong) then red_piece piece ∷ pieces else pieces)
unfolding piece_step
piece-law policy r piece now pieces stands free red true wrong is_it out mis =
    rw (out, and_false red) (idle _ (Some r) pieces stands refl)
  where
    and_false : (b : Bool) → (b && false) ≡ false
    and_false true = refl
    and_false false = refl
piece-law policy r piece now pieces stands free red false true is_it out mis =
    rw (out, mis, and_false red) (idle _ (Some r) pieces (record { agrees = stands.agrees; handed = stands.handed }) refl)
  where
    and_false : (b : Bool) → (b && false) ≡ false
    and_false true = refl
    and_false false = refl
piece-law policy r piece now pieces stands free true false false is_it out mis =
    let fits : is_misplaced (length r.cells) r.length (ends_red_part piece.kind) (piece_stop piece) ≡ false = rw is_it at out in
    rw (out, mis, is_it) (red-law policy r (with_red r piece) piece now (Some r) pieces stands.handed (agrees-more r.cells r.length pieces (red_piece piece) stands.agrees fits))
piece-law policy r piece now pieces stands free false false false is_it out mis =
    rw (out, mis, is_it) (idle _ (Some r) pieces (record { agrees = stands.agrees; handed = stands.handed }) refl)

comes-law : (policy : PolicyValue) (kept : Option Receiving) (piece : PieceValue) (now : ℕ) (pieces : List RedPiece) → Told kept pieces
    → ByLaw (piece_comes policy kept piece now) kept pieces (with_piece kept piece pieces)
comes-law policy None piece now pieces told = idle _ None pieces tt refl
comes-law policy (Some r) piece now pieces stands = by_test (is_cancelling r.phase) refl
  where
    by_test : (t : Bool) → is_cancelling r.phase ≡ t → ByLaw (piece_comes policy (Some r) piece now) (Some r) pieces (with_piece (Some r) piece pieces)
    by_test true is = rw is (idle _ (Some r) pieces stands refl)
    by_test false is = rw is (piece-law policy r piece now pieces stands is (is_red piece.kind) (is_outside r piece) (is_miscoloured r piece) refl refl refl)

-- ---- what takes no octets

-- a session with another phase
moved : (r : Receiving) (phase : ReceivingPhase) (pieces : List RedPiece) → Stands r pieces → Stands (record r { phase = phase }) pieces
moved r phase pieces stands = record { agrees = stands.agrees; handed = stands.handed }

pub ack-law : (r : Receiving) (serial : ℕ) (pieces : List RedPiece) → Stands r pieces
    → ByLaw (acknowledged r serial) (Some r) pieces pieces
unfolding acknowledged
ack-law r serial pieces stands = by_phase r.phase
  where
    by_phase : (phase : ReceivingPhase) → ByLaw (acknowledged_in r phase serial) (Some r) pieces pieces
    by_phase (receiver_open None) = idle _ (Some r) pieces stands refl
    by_phase (receiver_open (Some pending)) = by_test (pending.report.serial == serial) (is_whole_claim r.length pending.report.claims) refl refl
      where
        by_test : (t u : Bool) → (pending.report.serial == serial) ≡ t → is_whole_claim r.length pending.report.claims ≡ u
            → ByLaw (acknowledged_in r (receiver_open (Some pending)) serial) (Some r) pieces pieces
        by_test false u other is = rw other (idle _ (Some r) pieces stands refl)
        by_test true true named is = rw (named, is) (idle _ (Some r) pieces tt refl)
        by_test true false named is = rw (named, is) (idle _ (Some r) pieces (moved r (receiver_open None) pieces stands) refl)
    by_phase (receiver_cancelling reason timer) = idle _ (Some r) pieces stands refl

pub tick-law : (policy : PolicyValue) (r : Receiving) (now : ℕ) (pieces : List RedPiece) → Stands r pieces
    → ByLaw (receiver_tick policy r now) (Some r) pieces pieces
unfolding receiver_tick
tick-law policy r now pieces stands = by_phase r.phase
  where
    by_phase : (phase : ReceivingPhase) → ByLaw (receiver_due policy r phase now) (Some r) pieces pieces
    by_phase (receiver_open None) = idle _ (Some r) pieces stands refl
    by_phase (receiver_open (Some pending)) = by_test (is_due pending.timer now) (may_repeat policy pending.timer) refl refl
      where
        too_often : (t : Bool) → ByLaw (if t then sending ends [] else rejects policy r sent_too_often now None) (Some r) pieces pieces
        too_often true = idle _ (Some r) pieces tt refl
        too_often false = idle _ (Some r) pieces (record { agrees = stands.agrees; handed = stands.handed }) refl

        by_test : (t u : Bool) → is_due pending.timer now ≡ t → may_repeat policy pending.timer ≡ u
            → ByLaw (receiver_due policy r (receiver_open (Some pending)) now) (Some r) pieces pieces
        by_test false u early more = rw early (idle _ (Some r) pieces stands refl)
        by_test true true due more = rw (due, more) (idle _ (Some r) pieces (record { agrees = stands.agrees; handed = stands.handed }) refl)
        by_test true false due more = rw (due, more) (too_often r.handed_up)
    by_phase (receiver_cancelling reason timer) = by_test (is_due timer now) (may_repeat policy timer) refl refl
      where
        by_test : (t u : Bool) → is_due timer now ≡ t → may_repeat policy timer ≡ u
            → ByLaw (receiver_due policy r (receiver_cancelling reason timer) now) (Some r) pieces pieces
        by_test false u early more = rw early (idle _ (Some r) pieces stands refl)
        by_test true true due more = rw (due, more) (idle _ (Some r) pieces (record { agrees = stands.agrees; handed = stands.handed }) refl)
        by_test true false due more = rw (due, more) (idle _ (Some r) pieces tt refl)

-- ---- every event

event-law : (policy : PolicyValue) (kept : Option Receiving) (event : Event) (pieces : List RedPiece) → Told kept pieces
    → ByLaw (event_step policy kept event) kept pieces (with_event kept event pieces)
event-law policy kept (a_piece_comes piece now) pieces told = comes-law policy kept piece now pieces told
event-law policy None (a_report_is_acknowledged serial) pieces told = idle _ None pieces tt refl
event-law policy (Some r) (a_report_is_acknowledged serial) pieces told = ack-law r serial pieces told
event-law policy None the_cancel_is_acknowledged pieces told = idle _ None pieces tt refl
event-law policy (Some r) the_cancel_is_acknowledged pieces told = by_test (is_cancelling r.phase) refl
  where
    by_test : (t : Bool) → is_cancelling r.phase ≡ t → ByLaw (on_receiver_cancel_ack (Some r)) (Some r) pieces pieces
    by_test true is = rw is (idle _ (Some r) pieces tt refl)
    by_test false is = rw is (idle _ (Some r) pieces told refl)
event-law policy None (time_passes now) pieces told = idle _ None pieces tt refl
event-law policy (Some r) (time_passes now) pieces told = tick-law policy r now pieces told

pub nothing-stands : (session : ℕ) → Stands (fresh session) []
nothing-stands session = record {
  agrees = nothing-agrees;
  handed = refl;
}

told-after : (policy : PolicyValue) (session : ℕ) (events : List Event) → Told (kept_after policy session events) (taken policy session events)
unfolding kept_after taken
told-after policy session [] = nothing-stands session
told-after policy session (event ∷ earlier) =
    (event-law policy (kept_after policy session earlier) event (taken policy session earlier) (told-after policy session earlier)).told

pub hands_up_once : HandsUpOnce
unfolding taken
hands_up_once policy session earlier event body = (
  λ up. let law = (by_law.hands body up) in record { not_before = law.0; part = law.1 },
  λ becomes. by_law.handed body becomes.not_before becomes.part,
)
  where
    by_law : ByLaw (event_step policy (kept_after policy session earlier) event) (kept_after policy session earlier) (taken policy session earlier)
        (with_event (kept_after policy session earlier) event (taken policy session earlier))
    by_law = event-law policy (kept_after policy session earlier) event (taken policy session earlier) (told-after policy session earlier)
