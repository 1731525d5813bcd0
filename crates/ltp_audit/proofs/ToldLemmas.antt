-- What a datagram that is read can tell: its numbers fit 64 bits.

use Rattle.std.proofs.Common.{◌≡◌, ℕ, zero, suc, ◌<◌, ◌^◌, ◌%◌, Bool, true, false, List, [], ◌∷◌, ◌++◌, None}
use Rattle.std.proofs.Common.{Result, Ok, Err, sym, arith, subst, slice_index_or}
use Rattle.std.specs.List.{AllByRecursion}
use Rattle.wire_fields.specs.Format.{Spells}
use Rattle.wire_fields.specs.Reading.{IsOctets}
use Rattle.wire_fields.specs.Refusal.{Stop}
use Rattle.wire_fields.specs.Whole.{read_whole}
use Rattle.wire_fields.proofs.WholeLemmas.{whole-found}
use Rattle.ltp_segment.specs.declared.fault.SegmentCause.{SegmentCause}
use Rattle.ltp_segment.specs.declared.fault.SegmentCause.TheVariants as causes
use Rattle.ltp_segment.specs.declared.segment.PieceKind.{PieceKind}
use Rattle.ltp_segment.specs.declared.segment.PieceKind.TheVariants as kinds
use Rattle.ltp_segment.specs.Kinds.{is_checkpoint}
use Rattle.ltp_segment.specs.Types.{segment_types, type_at}
use Rattle.ltp_segment.specs.Values.{ContentValue, a_piece, a_report, a_report_ack, SegmentValue}
use Rattle.ltp_segment.specs.Values.{a_sender_cancel, a_sender_cancel_ack, a_receiver_cancel, a_receiver_cancel_ack}
use Rattle.ltp_segment.specs.Pieces.{piece_of, serials}
use Rattle.ltp_segment.specs.Reports.{report_fields}
use Rattle.ltp_segment.specs.Table.{segment, content_of, report_ack_fields, sender_cancel_fields, receiver_cancel_fields, unused, control}
use Rattle.ltp_segment.specs.Reading.{SpellsSegment, segment_of, told}
use Rattle.ltp_engine.specs.Sides.{IsFit}
use Rattle.ltp_engine.proofs.LegalLemmas.{segment-fit}
use Rattle.ltp_audit.proofs.SenderSays.{IsTold}

-- the serial number of a checkpoint fits 64 bits
abbrev IsNumbered : ContentValue → Type 0
IsNumbered (a_piece piece) = piece.checkpoint < 2 ^ 64
IsNumbered (a_report report) = Unit {0}
IsNumbered (a_report_ack serial) = Unit {0}
IsNumbered (a_sender_cancel reason) = Unit {0}
IsNumbered a_sender_cancel_ack = Unit {0}
IsNumbered (a_receiver_cancel reason) = Unit {0}
IsNumbered a_receiver_cancel_ack = Unit {0}

marks-numbered : (asks : Bool) (front w : List ℕ) (marks : ℕ × ℕ) → Spells (serials asks) front w marks → marks.0 < 2 ^ 64
unfolding serials
marks-numbered true front w marks spells =
    let (u1, v1, checkpoint, is1, at_checkpoint, r1) = spells in
    let (u2, v2, report, is2, at_report, last) = r1 in
    subst (λ (m : ℕ × ℕ). m.0 < 2 ^ 64) (sym last.1) at_checkpoint.0.small
marks-numbered false front w marks spells = subst (λ (m : ℕ × ℕ). m.0 < 2 ^ 64) (sym spells.1) (omega arith)

piece-numbered : (kind : PieceKind) (front w : List ℕ) (content : ContentValue) → Spells (piece_of kind) front w content → IsNumbered content
unfolding piece_of
piece-numbered kind front w content spells =
    let (u1, v1, service, is1, at_service, r1) = spells in
    let (u2, v2, offset, is2, at_offset, r2) = r1 in
    let (u3, v3, size, is3, at_size, r3) = r2 in
    let (u4, v4, marks, is4, at_marks, r4) = r3 in
    let (u5, v5, body, is5, at_body, last) = r4 in
    subst IsNumbered (sym last.1) (marks-numbered (is_checkpoint kind) _ _ marks at_marks)

report-numbered : (front w : List ℕ) (content : ContentValue) → Spells report_fields front w content → IsNumbered content
unfolding report_fields
report-numbered front w content spells =
    let (u1, v1, serial, is1, at_serial, r1) = spells in
    let (u2, v2, checkpoint, is2, at_checkpoint, r2) = r1 in
    let (u3, v3, upper, is3, at_upper, r3) = r2 in
    let (u4, v4, lower, is4, at_lower, r4) = r3 in
    let (u5, v5, count, is5, at_count, r5) = r4 in
    let (u6, v6, claims, is6, at_claims, last) = r5 in
    subst IsNumbered (sym last.1) tt

ack-numbered : (front w : List ℕ) (content : ContentValue) → Spells report_ack_fields front w content → IsNumbered content
unfolding report_ack_fields
ack-numbered front w content spells = let (u, v, n, is, at_n, last) = spells in subst IsNumbered (sym last.1) tt

sender-numbered : (front w : List ℕ) (content : ContentValue) → Spells sender_cancel_fields front w content → IsNumbered content
unfolding sender_cancel_fields
sender-numbered front w content spells = let (u, v, n, is, at_n, last) = spells in subst IsNumbered (sym last.1) tt

receiver-numbered : (front w : List ℕ) (content : ContentValue) → Spells receiver_cancel_fields front w content → IsNumbered content
unfolding receiver_cancel_fields
receiver-numbered front w content spells = let (u, v, n, is, at_n, last) = spells in subst IsNumbered (sym last.1) tt

unused-numbered : (front w : List ℕ) (content : ContentValue) → Spells unused front w content → IsNumbered content
unfolding unused
unused-numbered front w content spells = subst IsNumbered (sym spells.0.1) tt

pick : {X : Type 0} (P : X → Type 0) (xs : List X) (d : X) (n : ℕ) → AllByRecursion P xs → P d → P (slice_index_or xs n d)
pick P [] d n all at_d = at_d
pick P (x ∷ xs) d zero all at_d = all.0
pick P (x ∷ xs) d (suc n) all at_d = pick P xs d n all.1 at_d

content-numbered : (number : ℕ) (front w : List ℕ) (content : ContentValue) → Spells (content_of (type_at number)) front w content → IsNumbered content
unfolding type_at
content-numbered number = pick (λ kind. (front w : List ℕ) (content : ContentValue) → Spells (content_of kind) front w content → IsNumbered content) segment_types None number (piece-numbered kinds.Red, (piece-numbered kinds.RedCheckpoint, (piece-numbered kinds.RedEnd, (piece-numbered kinds.RedEndBlock, (piece-numbered kinds.Green, (unused-numbered, (unused-numbered, (piece-numbered kinds.GreenEndBlock, (report-numbered, (ack-numbered, (unused-numbered, (unused-numbered, (sender-numbered, ((λ front w content spells. subst IsNumbered (sym spells.1) tt), (receiver-numbered, ((λ front w content spells. subst IsNumbered (sym spells.1) tt), tt))))))))))))))))
    unused-numbered

told-by : (content : ContentValue) → IsFit content → IsNumbered content → IsTold content
told-by (a_piece piece) fit numbered = (fit, numbered)
told-by (a_report report) fit numbered = fit.serial
told-by (a_report_ack serial) fit numbered = tt
told-by (a_sender_cancel reason) fit numbered = tt
told-by a_sender_cancel_ack fit numbered = tt
told-by (a_receiver_cancel reason) fit numbered = tt
told-by a_receiver_cancel_ack fit numbered = tt

spelled-told : (s : SegmentValue) (w : List ℕ) → SpellsSegment s w → (s.session < 2 ^ 64) × IsNumbered s.content
unfolding segment control
spelled-told s w spells =
    let (u1, v1, kind, is1, at_control, r1) = spells in
    let (u0, v0, octet, is0, at_octet, made) = at_control in
    let (u2, v2, originator, is2, at_originator, r2) = r1 in
    let (u3, v3, session, is3, at_session, r3) = r2 in
    let (u4, v4, counts, is4, at_counts, r4) = r3 in
    let (u5, v5, heads, is5, at_heads, r5) = r4 in
    let (u6, v6, content, is6, at_content, r6) = r5 in
    let (u7, v7, tails, is7, at_tails, last) = r6 in
    subst (λ (x : SegmentValue). (x.session < 2 ^ 64) × IsNumbered x.content) (sym last.1) (
      at_session.small,
      content-numbered (octet % 16) ((((([] ++ u1) ++ u2) ++ u3) ++ u4) ++ u5) u6 content
          (subst (λ k. Spells (content_of k) ((((([] ++ u1) ++ u2) ++ u3) ++ u4) ++ u5) u6 content) made.1 at_content),
    )

read-as : (r : Result SegmentValue (ℕ × Stop SegmentCause)) (s : SegmentValue) → told r ≡ Ok s → r ≡ Ok s
read-as (Ok x) s is = cc
read-as (Err refusal) s is = absurd (cc)

pub segment-told : (datagram : List ℕ) (s : SegmentValue) → IsOctets datagram → segment_of datagram ≡ Ok s
    → (s.session < 2 ^ 64) × IsTold s.content
unfolding segment_of
segment-told datagram s fits is =
    let spells : SpellsSegment s datagram =
    whole-found segment causes.Trailing datagram s fits (read-as (read_whole segment causes.Trailing datagram) s is) in
    let numbers = spelled-told s datagram spells in
    (numbers.0, told-by s.content (segment-fit s datagram spells) numbers.1)
