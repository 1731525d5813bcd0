-- The rules of an exchange (RFC 5326): what a segment says must have come before it.

use Rattle.std.specs.Prelude.{ℕ, Bool, false, not, ◌==◌, ◌&&◌, List, [], ◌∷◌, Option, Some}
use Rattle.std.specs.Prelude.{Result, Ok, Err}
use Rattle.std.specs.List.{list_any, list_all, find}
use Rattle.std.specs.Option.{option_map}
use Rattle.ltp_segment.specs.declared.fault.SegmentCause.{SegmentCause}
use Rattle.ltp_segment.specs.Kinds.{is_red}
use Rattle.ltp_segment.specs.Values.{ContentValue, a_piece, a_report, a_report_ack}
use Rattle.ltp_segment.specs.Values.{a_sender_cancel, a_sender_cancel_ack, a_receiver_cancel}
use Rattle.ltp_segment.specs.Values.{a_receiver_cancel_ack, SegmentValue}
use Rattle.ltp_segment.specs.Reading.{segment_of}
use Rattle.ltp_session.specs.RedPart.{first_octet}
use Rattle.ltp_audit.specs.declared.entry.Entry.{Entry}
use Rattle.ltp_audit.specs.declared.fault.Rule.{Rule}
use Rattle.ltp_audit.specs.declared.fault.Rule.TheVariants as rules
use Rattle.ltp_audit.specs.declared.fault.AuditFault.{AuditFault}
use Rattle.ltp_audit.specs.declared.fault.AuditFault.TheVariants as faults
use Rattle.ltp_audit.specs.Sides.{is_on_its_side}
use Rattle.ltp_audit.specs.Recorded.{said_in, red_pieces, red_piece, are_claims_held, are_alike}
use Rattle.ltp_audit.specs.Recorded.{is_checkpoint_of, is_report_of, is_sender_cancel}
use Rattle.ltp_audit.specs.Recorded.{is_receiver_cancel}

-- a report claims an octet that no earlier red piece holds
abbrev pub claims_unseen : List ContentValue → ContentValue → Bool
claims_unseen earlier (a_piece piece) = false
claims_unseen earlier (a_report report) =
    not (are_claims_held (first_octet (red_pieces earlier)) report.lower report.claims)
claims_unseen earlier (a_report_ack serial) = false
claims_unseen earlier (a_sender_cancel reason) = false
claims_unseen earlier a_sender_cancel_ack = false
claims_unseen earlier (a_receiver_cancel reason) = false
claims_unseen earlier a_receiver_cancel_ack = false

-- a report names a checkpoint other than 0 that no earlier piece is
abbrev pub answers_unseen : List ContentValue → ContentValue → Bool
answers_unseen earlier (a_piece piece) = false
answers_unseen earlier (a_report report) =
    not (report.checkpoint == 0) && not (list_any (is_checkpoint_of report.checkpoint) earlier)
answers_unseen earlier (a_report_ack serial) = false
answers_unseen earlier (a_sender_cancel reason) = false
answers_unseen earlier a_sender_cancel_ack = false
answers_unseen earlier (a_receiver_cancel reason) = false
answers_unseen earlier a_receiver_cancel_ack = false

-- a report acknowledgement names a report that no earlier segment is
abbrev pub acknowledges_unseen : List ContentValue → ContentValue → Bool
acknowledges_unseen earlier (a_piece piece) = false
acknowledges_unseen earlier (a_report report) = false
acknowledges_unseen earlier (a_report_ack serial) = not (list_any (is_report_of serial) earlier)
acknowledges_unseen earlier (a_sender_cancel reason) = false
acknowledges_unseen earlier a_sender_cancel_ack = false
acknowledges_unseen earlier (a_receiver_cancel reason) = false
acknowledges_unseen earlier a_receiver_cancel_ack = false

-- a red piece has another octet than an earlier one at the same place
abbrev pub differs : List ContentValue → ContentValue → Bool
differs earlier (a_piece piece) =
    is_red piece.kind && not (list_all (are_alike (red_piece piece)) (red_pieces earlier))
differs earlier (a_report report) = false
differs earlier (a_report_ack serial) = false
differs earlier (a_sender_cancel reason) = false
differs earlier a_sender_cancel_ack = false
differs earlier (a_receiver_cancel reason) = false
differs earlier a_receiver_cancel_ack = false

-- the acknowledgement of a cancel that no earlier segment is
abbrev pub cancel_unseen : List ContentValue → ContentValue → Bool
cancel_unseen earlier (a_piece piece) = false
cancel_unseen earlier (a_report report) = false
cancel_unseen earlier (a_report_ack serial) = false
cancel_unseen earlier (a_sender_cancel reason) = false
cancel_unseen earlier a_sender_cancel_ack = not (list_any is_sender_cancel earlier)
cancel_unseen earlier (a_receiver_cancel reason) = false
cancel_unseen earlier a_receiver_cancel_ack = not (list_any is_receiver_cancel earlier)

-- ---- all rules

-- a segment breaks a rule: whether it stands on its side, and what was said earlier in its session
abbrev pub breaks : Bool → List ContentValue → ContentValue → Rule → Bool
breaks on_side earlier content rules.Side = not on_side
breaks on_side earlier content rules.ClaimUnseen = claims_unseen earlier content
breaks on_side earlier content rules.CheckpointUnseen = answers_unseen earlier content
breaks on_side earlier content rules.AckUnseen = acknowledges_unseen earlier content
breaks on_side earlier content rules.OctetsDiffer = differs earlier content
breaks on_side earlier content rules.CancelUnseen = cancel_unseen earlier content

-- the rules in the order in which they are tested
abbrev pub all_rules : List Rule
all_rules =
    rules.Side ∷ rules.ClaimUnseen ∷ rules.CheckpointUnseen ∷ rules.AckUnseen
    ∷ rules.OctetsDiffer ∷ rules.CancelUnseen ∷ []

-- the first rule that a segment breaks
unfoldable pub broken_by : Bool → List ContentValue → ContentValue → Option Rule
broken_by on_side earlier content = find (breaks on_side earlier content) all_rules

abbrev pub fault_in : ℕ → ℕ → List Entry → Bool
    → Result SegmentValue (ℕ × SegmentCause) → Option AuditFault
fault_in own peer history out (Err refusal) = Some (faults.Form refusal.0 refusal.1)
fault_in own peer history out (Ok s) = option_map faults.Broken
    (broken_by (is_on_its_side own peer out s) (said_in own peer history s.originator s.session)
    s.content)

-- why an entry isn't accepted after these: it isn't a segment, or the first rule that it breaks
unfoldable pub fault_of : ℕ → ℕ → List Entry → Entry → Option AuditFault
fault_of own peer history entry =
    fault_in own peer history entry.out (segment_of entry.datagram)
