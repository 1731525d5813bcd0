-- A receiver keeps to the block whose pieces it is told.

use Rattle.std.proofs.Common.{◌≡◌, ℕ, ◌+◌, ◌-◌, ◌<◌, ◌≤◌, Bool, true, false, not, ◌==◌, ◌&&◌}
use Rattle.std.proofs.Common.{◌||◌, List, [], length, Option, None, Some, refl, sym, ◌∙◌, ap}
use Rattle.std.proofs.Common.{arith, nat_lt, nat_le, if◌then◌else◌}
use Rattle.std.specs.Prelude.{slice_index}
use Rattle.std.proofs.lemmas.Bool.{leb-true, ltb-true}
use Rattle.ltp_segment.specs.Kinds.{is_red, is_checkpoint, ends_red_part}
use Rattle.ltp_segment.specs.Policy.{PolicyValue}
use Rattle.ltp_segment.specs.Values.{PieceValue, ContentValue, a_piece, a_report, a_report_ack}
use Rattle.ltp_segment.specs.Values.{a_sender_cancel, a_sender_cancel_ack, a_receiver_cancel}
use Rattle.ltp_segment.specs.Values.{a_receiver_cancel_ack}
use Rattle.ltp_session.specs.Cells.{filled, cell, octet_in, length_after}
use Rattle.ltp_session.specs.Claims.{is_whole_claim}
use Rattle.ltp_session.specs.Receiver.{Receiving, ReceivingPhase, receiver_open}
use Rattle.ltp_session.specs.Receiver.{receiver_cancelling, Admission, fresh, piece_stop, is_outside}
use Rattle.ltp_session.specs.Receiver.{is_miscoloured, rejects, lowest, with_red, with_handed_up}
use Rattle.ltp_session.specs.Receiver.{takes_red, piece_step, acknowledged_in, acknowledged}
use Rattle.ltp_session.specs.Receiver.{receiver_due, receiver_tick, is_cancelling, piece_for}
use Rattle.ltp_session.specs.Receiver.{on_piece, receiver_answers}
use Rattle.ltp_session.specs.Step.{StepValue}
use Rattle.ltp_session.specs.Timer.{is_past_serials}
use Rattle.ltp_laws.specs.Blocks.{IsAt, IsOf, IsInPart, IsPieceOf, IsContentOf, IsReceiverOf}
use Rattle.ltp_laws.specs.Blocks.{IfKnown, IfGreen}
use Rattle.ltp_laws.specs.Kept.{IfKept}
use Rattle.ltp_laws.specs.Runs.{KeepsTo}
use Rattle.cells.specs.Cells.{or_else}
use Rattle.cells.proofs.CellLemmas.{cell-filled, length-filled}
use Rattle.ltp_laws.proofs.ListLemmas.{both_arms, by_arms, answered}

-- ---- what a red piece adds

pub octet-at : (block : List ℕ) (offset : ℕ) (body : List ℕ) → IsOf block offset body
    → (k octet : ℕ)
    → octet_in offset body k ≡ Some octet → IsAt block k octet
octet-at block offset body of k octet is =
    by_test (nat_le offset k) refl (nat_lt k (offset + length body)) refl is
  where
    by_test : (low : Bool) → nat_le offset k ≡ low → (high : Bool)
        → nat_lt k (offset + length body) ≡ high
        → (if low && high then Some (slice_index body (k - offset)) else None) ≡ Some octet
        → IsAt block k octet
    by_test true low true high is =
        let from : offset ≤ k = leb-true offset k low in
        let to : k < offset + length body = ltb-true k (offset + length body) high in
        let here = of (k - offset) (omega (arith, from, to)) in
        let place : offset + (k - offset) ≡ k = omega (arith, from) in
        let same : slice_index body (k - offset) ≡ octet = cc (is) in
        (omega (arith, here.0, place), ap (slice_index block) (sym place) ∙ here.1 ∙ same)
    by_test true low false high is = absurd (cc)
    by_test false low high high_is is = absurd (cc)

cell-at : (block : List ℕ) (cells : List (Option ℕ)) (offset : ℕ) (body : List ℕ)
    → IsOf block offset body
    → ((k octet : ℕ) → cell cells k ≡ Some octet → IsAt block k octet)
    → (k octet : ℕ) → cell (filled cells offset body) k ≡ Some octet → IsAt block k octet
cell-at block cells offset body of before k octet is =
    by_first (cell cells k) refl (sym (cell-filled cells offset body k) ∙ is)
  where
    by_first : (first : Option ℕ) → cell cells k ≡ first → or_else first (octet_in offset body k)
        ≡ Some octet → IsAt block k octet
    by_first None none now = octet-at block offset body of k octet now
    by_first (Some x) some now = before k octet (some ∙ now)

known-after : (red : ℕ) (known : Option ℕ) (p : PieceValue) → IfKnown red known
    → IsInPart red true (ends_red_part p.kind) p.offset (piece_stop p)
    → IfKnown red (length_after known (ends_red_part p.kind) (piece_stop p))
known-after red (Some end) p is part = is
known-after red None p is part = by_end (ends_red_part p.kind) part
  where
    by_end : (last : Bool) → IsInPart red true last p.offset (piece_stop p)
        → IfKnown red (if last then Some (piece_stop p) else None)
    by_end true part = part
    by_end false part = tt

pub end-within : (red : ℕ) (last : Bool) (from to : ℕ) → IsInPart red true last from to → to ≤ red
end-within red true from to is = omega (arith, is)
end-within red false from to is = is

pub with_red-is : (block : List ℕ) (red : ℕ) (r : Receiving) (p : PieceValue)
    → IsReceiverOf block red r → IsPieceOf block red p → is_red p.kind ≡ true
    → IsReceiverOf block red (with_red r p)
with_red-is block red r p is of red_kind =
    let part : IsInPart red true (ends_red_part p.kind) p.offset (piece_stop p) =
    rw red_kind at of.part in
    record {
      cells = cell-at block r.cells p.offset p.body of.octets is.cells;
      reach = omega (
        arith,
        length-filled r.cells p.offset p.body,
        is.reach,
        end-within red
            (ends_red_part p.kind) p.offset (piece_stop p) part,
      );
      known = known-after red r.length p is.known part;
      green = is.green;
    }

lowest-is : (red offset : ℕ) (low : Option ℕ) → red ≤ offset → IfGreen red low
    → IfGreen red (lowest low offset)
lowest-is red offset None above is = above
lowest-is red offset (Some low) above is = omega (arith, above, is)

-- ---- steps

-- a receiver that has the same cells and bounds
same-red : (block : List ℕ) (red : ℕ) (r r' : Receiving) → IsReceiverOf block red r
    → r'.cells ≡ r.cells → r'.length ≡ r.length → r'.green ≡ r.green → IsReceiverOf block red r'
same-red block red r r' is cells known green = record {
  cells = λ k octet h. is.cells k octet (ap (λ (cs : List (Option ℕ)). cell cs k) (sym cells) ∙ h);
  reach = rw cells is.reach;
  known = rw known is.known;
  green = rw green is.green;
}

rejects-keeps : (block : List ℕ) (red : ℕ) (policy : PolicyValue) (r : Receiving) (reason now : ℕ)
    (up : Option (List ℕ)) → IsReceiverOf block red r
    → KeepsTo block red (IsReceiverOf block red) (rejects policy r reason now up)
rejects-keeps block red policy r reason now up is =
    record { next = same-red block red r _ is refl refl refl; out = (tt, tt) }

takes_red-keeps : (block : List ℕ) (red : ℕ) (policy : PolicyValue) (r : Receiving)
    (p : PieceValue) (now : ℕ) → IsReceiverOf block red r
    → KeepsTo block red (IsReceiverOf block red) (takes_red policy r p now)
takes_red-keeps block red policy r p now is =
    both_arms (KeepsTo block red (IsReceiverOf block red)) (is_checkpoint p.kind) _ _
    (both_arms (KeepsTo block red (IsReceiverOf block red)) (is_past_serials r.serial) _ _
    (rejects-keeps block red policy (with_handed_up r) 4 now _
    (same-red block red r _ is refl refl refl))
    (record { next = same-red block red r _ is refl refl refl; out = (tt, tt) }))
    (record { next = same-red block red r _ is refl refl refl; out = tt })

piece-keeps : (block : List ℕ) (red : ℕ) (policy : PolicyValue) (r : Receiving) (p : PieceValue)
    (now : ℕ) → IsReceiverOf block red r → IsPieceOf block red p
    → KeepsTo block red (IsReceiverOf block red) (piece_step policy r p now)
unfolding piece_step
piece-keeps block red policy r p now is of =
    both_arms Keeps (is_outside r p) _ _ (record { next = tt; out = tt })
    (both_arms Keeps (is_miscoloured r p) _ _ (rejects-keeps block red policy r 3 now None is)
    (by_arms Keeps (is_red p.kind) _ _
    (λ red_kind. takes_red-keeps block red policy (with_red r p) p now
    (with_red-is block red r p is of red_kind))
    (λ green_kind. record { next = greener green_kind; out = tt })))
  where
    Keeps : StepValue Receiving → Type 0
    Keeps = KeepsTo block red (IsReceiverOf block red)

    greener : is_red p.kind ≡ false
        → IsReceiverOf block red (record r { green = lowest r.green p.offset })
    greener green_kind =
        let part : IsInPart red false (ends_red_part p.kind) p.offset (piece_stop p) =
        rw green_kind at of.part in
        record {
          cells = is.cells;
          reach = is.reach;
          known = is.known;
          green = lowest-is red p.offset r.green part is.green;
        }

pub fresh-is : (block : List ℕ) (red session : ℕ) → IsReceiverOf block red (fresh session)
fresh-is block red session =
    record {
      cells = λ k octet h. absurd (no_cell k h);
      reach = omega arith;
      known = tt;
      green = tt;
    }
  where
    no_cell : (k : ℕ) {octet : ℕ} → cell [] k ≡ Some octet → ⊥
    no_cell k h = cc

on_piece-keeps : (block : List ℕ) (red : ℕ) (policy : PolicyValue) (place : Admission)
    (kept : Option Receiving) (p : PieceValue) (now : ℕ)
    → IfKept (IsReceiverOf block red) kept → IsPieceOf block red p
    → KeepsTo block red (IsReceiverOf block red) (on_piece policy place kept p now)
on_piece-keeps block red policy place kept p now is of =
    both_arms Keeps (not (p.service == 1)) _ _ (record { next = tt; out = (tt, tt) })
    (both_arms Keeps ((length p.body == 0) || nat_lt place.most (piece_stop p)) _ _
    (record { next = tt; out = tt }) (by_kept kept is))
  where
    Keeps : StepValue Receiving → Type 0
    Keeps = KeepsTo block red (IsReceiverOf block red)

    by_kept : (kept : Option Receiving) → IfKept (IsReceiverOf block red) kept
        → Keeps (piece_for policy place kept p now)
    by_kept None is =
        both_arms Keeps (not (is_red p.kind)) _ _ (record { next = tt; out = tt })
        (both_arms Keeps place.closed _ _ (record { next = tt; out = tt })
        (both_arms Keeps place.full _ _ (record { next = tt; out = tt })
        (piece-keeps block red policy (fresh place.session) p now
        (fresh-is block red place.session) of)))
    by_kept (Some r) is =
        both_arms Keeps (is_cancelling r.phase) _ _ (record { next = tt; out = tt })
        (piece-keeps block red policy r p now is of)

acknowledged-keeps : (block : List ℕ) (red : ℕ) (r : Receiving) (serial : ℕ)
    → IsReceiverOf block red r
    → KeepsTo block red (IsReceiverOf block red) (acknowledged r serial)
unfolding acknowledged
acknowledged-keeps block red r serial is = by_phase r.phase
  where
    Keeps : StepValue Receiving → Type 0
    Keeps = KeepsTo block red (IsReceiverOf block red)

    by_phase : (phase : ReceivingPhase) → Keeps (acknowledged_in r phase serial)
    by_phase (receiver_open None) = record { next = is; out = tt }
    by_phase (receiver_open (Some pending)) =
        both_arms Keeps (pending.report.serial == serial) _ _
        (both_arms Keeps (is_whole_claim r.length pending.report.claims) _ _
        (record { next = tt; out = tt })
        (record { next = same-red block red r _ is refl refl refl; out = tt }))
        (record { next = is; out = tt })
    by_phase (receiver_cancelling reason timer) = record { next = is; out = tt }

pub receiver_tick-keeps : (block : List ℕ) (red : ℕ) (policy : PolicyValue) (now : ℕ)
    (r : Receiving) → IsReceiverOf block red r
    → KeepsTo block red (IsReceiverOf block red) (receiver_tick policy r now)
unfolding receiver_tick
receiver_tick-keeps block red policy now r is = by_phase r.phase
  where
    Keeps : StepValue Receiving → Type 0
    Keeps = KeepsTo block red (IsReceiverOf block red)

    by_phase : (phase : ReceivingPhase) → Keeps (receiver_due policy r phase now)
    by_phase (receiver_open None) = record { next = tt; out = tt }
    by_phase (receiver_open (Some pending)) =
        both_arms Keeps (nat_le pending.timer.deadline now) _ _
        (both_arms Keeps (nat_lt pending.timer.times policy.limit) _ _
        (record { next = same-red block red r _ is refl refl refl; out = (tt, tt) })
        (both_arms Keeps r.handed_up _ _ (record { next = tt; out = tt })
        (rejects-keeps block red policy r 2 now None is)))
        (record { next = tt; out = tt })
    by_phase (receiver_cancelling reason timer) =
        both_arms Keeps (nat_le timer.deadline now) _ _
        (both_arms Keeps (nat_lt timer.times policy.limit) _ _
        (record { next = same-red block red r _ is refl refl refl; out = (tt, tt) })
        (record { next = tt; out = tt }))
        (record { next = tt; out = tt })

-- whatever it is told
pub receiver-keeps : (block : List ℕ) (red : ℕ) (policy : PolicyValue) (place : Admission)
    (kept : Option Receiving) (content : ContentValue) (now : ℕ) (t : StepValue Receiving)
    → IfKept (IsReceiverOf block red) kept → IsContentOf block red content
    → receiver_answers policy place kept content now ≡ Some t
    → KeepsTo block red (IsReceiverOf block red) t
unfolding receiver_answers
receiver-keeps block red policy place kept (a_piece p) now t is of hears =
    answered (KeepsTo block red (IsReceiverOf block red)) _ t hears
    (on_piece-keeps block red policy place kept p now is of)
receiver-keeps block red policy place None (a_report_ack serial) now t is of hears =
    answered (KeepsTo block red (IsReceiverOf block red)) _ t hears
    (record { next = tt; out = tt })
receiver-keeps block red policy place (Some r) (a_report_ack serial) now t is of hears =
    answered (KeepsTo block red (IsReceiverOf block red)) _ t hears
    (acknowledged-keeps block red r serial is)
receiver-keeps block red policy place None (a_sender_cancel reason) now t is of hears =
    answered (KeepsTo block red (IsReceiverOf block red)) _ t hears
    (record { next = tt; out = (tt, tt) })
receiver-keeps block red policy place (Some r) (a_sender_cancel reason) now t is of hears =
    answered (KeepsTo block red (IsReceiverOf block red)) _ t hears
    (record { next = tt; out = (tt, tt) })
receiver-keeps block red policy place None a_receiver_cancel_ack now t is of hears =
    answered (KeepsTo block red (IsReceiverOf block red)) _ t hears
    (record { next = tt; out = tt })
receiver-keeps block red policy place (Some r) a_receiver_cancel_ack now t is of hears =
    answered (KeepsTo block red (IsReceiverOf block red)) _ t hears
    (both_arms (KeepsTo block red (IsReceiverOf block red)) (is_cancelling r.phase) _ _
    (record { next = tt; out = tt }) (record { next = tt; out = tt }))
receiver-keeps block red policy place kept (a_report r) now t is of hears = absurd (cc)
receiver-keeps block red policy place kept (a_receiver_cancel reason) now t is of hears =
    absurd (cc)
receiver-keeps block red policy place kept a_sender_cancel_ack now t is of hears = absurd (cc)
