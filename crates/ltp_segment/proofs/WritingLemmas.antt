-- What is written spells the segment.

use Rattle.std.proofs.Common.{◌≡◌, ℕ, ◌+◌, ◌-◌, ◌%◌, ◌/◌, ◌^◌, ◌<◌, ◌≤◌, Bool, true, false, List, [], ◌∷◌, ◌++◌, length, Option, None, Ok, refl, sym, ap, ◌∙◌, arith, append_assoc, not, ◌==◌, ltb, is_some}
use Rattle.std.proofs.lemmas.List.{append-nil}
use Rattle.std.proofs.lemmas.Bool.{lt-ltb, le-leb, ne_eqb}
use Rattle.std.specs.List.{flat_map}
use Rattle.sdnv.specs.Shortest.{spelling}
use Rattle.sdnv.proofs.ShortestLemmas.{spelling-spells}
use Rattle.wire_fields.specs.Format.{Spells}
use Rattle.wire_fields.specs.Words.{needs, ◌also◌, repeated}
use Rattle.wire_fields.proofs.WholeLemmas.{whole-only}
use Rattle.ltp_segment.specs.declared.fault.SegmentCause.{SegmentCause}
use Rattle.ltp_segment.specs.declared.fault.SegmentCause.TheVariants as causes
use Rattle.ltp_segment.specs.declared.segment.PieceKind.{PieceKind}
use Rattle.ltp_segment.specs.declared.segment.PieceKind.TheVariants as kinds
use Rattle.ltp_segment.specs.declared.segment.Claim.{Claim}
use Rattle.ltp_segment.specs.Kinds.{is_checkpoint}
use Rattle.ltp_segment.specs.Values.{PieceValue, ReportValue, ContentValue, a_piece, a_report, a_report_ack, a_sender_cancel, a_sender_cancel_ack, a_receiver_cancel, a_receiver_cancel_ack, SegmentValue}
use Rattle.ltp_segment.specs.Pieces.{serial, serials, piece_of}
use Rattle.ltp_segment.specs.Reports.{is_claim, end_from, claim_after, next_claim, claims_of, report_fields}
use Rattle.ltp_segment.specs.Types.{type_at}
use Rattle.ltp_segment.specs.Table.{control, report_ack_fields, sender_cancel_fields, receiver_cancel_fields, extensions, content_of, segment}
use Rattle.ltp_segment.specs.Reading.{SpellsSegment, segment_of}
use Rattle.ltp_segment.specs.Legal.{AreSerials, IsPiece, IsClaim, AreClaims, IsReport, IsContent, IsSegment}
use Rattle.ltp_segment.specs.Spelling.{piece_type, type_of, serial_octets, piece_octets, claim_octets, report_octets, content_octets, header_octets, segment_octets, by_side, IsWritten}
use Rattle.ltp_segment.specs.Ties.{cancel_type, cancel_ack_type}
use Rattle.ltp_segment.proofs.ReportLemmas.{end_from-push}

-- ---- conditions that hold

not_zero : (n : ℕ) → 0 < n → not (n == 0) ≡ true
not_zero n some = rw (ne_eqb n 0 (λ none. omega arith)) refl

serial-spells : (front : List ℕ) (n : ℕ) → 0 < n → n < 2 ^ 64 → Spells serial front (spelling n) n
serial-spells front n some fits = (spelling-spells n fits, rw (ne_eqb n 0 (λ none. omega arith)) refl)

serials-spell : (here : Bool) (front : List ℕ) (checkpoint report : ℕ) → AreSerials here checkpoint report
    → Spells (serials here) front (serial_octets here checkpoint report) (checkpoint, report)
unfolding serials
serials-spell true front checkpoint report are = (
  spelling checkpoint,
  spelling report,
  checkpoint,
  refl,
  serial-spells front checkpoint are.0 are.1,
  (spelling report, [], report, sym (append-nil (spelling report)), spelling-spells report are.2, (refl, refl)),
)
serials-spell false front checkpoint report are = (refl, rw (are.0, are.1) refl)

-- ---- pieces

piece-spells : (front : List ℕ) (piece : PieceValue) → IsPiece piece → Spells (piece_of piece.kind) front (piece_octets piece) (a_piece piece)
unfolding piece_of piece_octets
piece-spells front piece is =
    let range : needs (ltb (piece.offset + length piece.body) (2 ^ 64)) causes.Range ≡ None = rw (lt-ltb (piece.offset + length piece.body) (2 ^ 64) is.range) refl in (
      spelling piece.service,
      _,
      piece.service,
      refl,
      spelling-spells piece.service is.service,
      (
        spelling piece.offset,
        _,
        piece.offset,
        refl,
        spelling-spells piece.offset (omega (arith, is.range)),
        (
          spelling (length piece.body),
          _,
          length piece.body,
          refl,
          (spelling-spells (length piece.body) (omega (arith, is.range)), range),
          (
            serial_octets (is_checkpoint piece.kind) piece.checkpoint piece.report,
            _,
            (piece.checkpoint, piece.report),
            refl,
            serials-spell (is_checkpoint piece.kind) _ piece.checkpoint piece.report is.serials,
            (piece.body, [], piece.body, sym (append-nil piece.body), (refl, refl), (refl, refl)),
          ),
        ),
      ),
    )

-- ---- reports

claim-spells : (front : List ℕ) (most end : ℕ) (claim : Claim) → most < 2 ^ 64 → IsClaim most end claim
    → Spells (claim_after most end) front (claim_octets claim) claim
unfolding claim_after
claim-spells front most end claim small is =
    let some = ne_eqb claim.length 0 (λ none. omega (arith, is.some)) in
    let begins = le-leb end claim.offset is.begins in
    let ends = le-leb (claim.offset + claim.length) most is.ends in
    let fits : needs (is_claim most end claim.offset claim.length) causes.Claim ≡ None = rw (some, begins, ends) refl in (
      spelling claim.offset,
      spelling claim.length,
      claim.offset,
      refl,
      spelling-spells claim.offset (omega (arith, is.ends)),
      (
        spelling claim.length,
        [],
        claim.length,
        sym (append-nil (spelling claim.length)),
        (spelling-spells claim.length (omega (arith, is.ends)), fits),
        (refl, refl),
      ),
    )

claims-spell : (front : List ℕ) (most : ℕ) (earlier claims : List Claim) → most < 2 ^ 64 → AreClaims most (end_from 0 earlier) claims
    → Spells (repeated (length claims) (next_claim most) earlier) front (flat_map claim_octets claims) (earlier ++ claims)
unfolding next_claim
claims-spell front most earlier [] small are = (refl, append-nil earlier)
claims-spell front most earlier (claim ∷ claims) small are =
    let ends = end_from-push 0 earlier claim in
    let others : AreClaims most (end_from 0 (earlier ++ claim ∷ [])) claims = rw ends are.1 in
    let rest = claims-spell (front ++ claim_octets claim) most (earlier ++ claim ∷ []) claims small others in
    let whole = append_assoc earlier (claim ∷ []) claims in (
      claim_octets claim,
      flat_map claim_octets claims,
      earlier ++ claim ∷ [],
      refl,
      (
        claim_octets claim,
        [],
        claim,
        sym (append-nil (claim_octets claim)),
        claim-spells front most (end_from 0 earlier) claim small are.0,
        (refl, refl),
      ),
      rw whole at rest,
    )

-- each claim takes an octet at least
claims-few : (most end : ℕ) (claims : List Claim) → end ≤ most → AreClaims most end claims → end + length claims ≤ most
claims-few most end [] within are = omega arith
claims-few most end (claim ∷ claims) within are =
    let rest = claims-few most (claim.offset + claim.length) claims are.0.ends are.1 in
    omega (arith, are.0.some, are.0.begins, rest)

report-spells : (front : List ℕ) (report : ReportValue) → IsReport report → Spells report_fields front (report_octets report) (a_report report)
unfolding report_fields report_octets claims_of
report-spells front report is =
    let below : needs (ltb report.lower report.upper) causes.Bounds ≡ None = rw (lt-ltb report.lower report.upper is.bounds) refl in
    let few = claims-few (report.upper - report.lower) 0 report.claims (omega arith) is.claims in (
      spelling report.serial,
      _,
      report.serial,
      refl,
      serial-spells front report.serial is.named is.serial,
      (
        spelling report.checkpoint,
        _,
        report.checkpoint,
        refl,
        spelling-spells report.checkpoint is.checkpoint,
        (
          spelling report.upper,
          _,
          report.upper,
          refl,
          spelling-spells report.upper is.upper,
          (
            spelling report.lower,
            _,
            report.lower,
            refl,
            (spelling-spells report.lower (omega (arith, is.upper, is.bounds)), below),
            (
              spelling (length report.claims),
              _,
              length report.claims,
              refl,
              spelling-spells (length report.claims) (omega (arith, few, is.upper)),
              (
                flat_map claim_octets report.claims,
                [],
                report.claims,
                sym (append-nil (flat_map claim_octets report.claims)),
                claims-spell _ (report.upper - report.lower) [] report.claims (omega (arith, is.upper)) is.claims,
                (refl, refl),
              ),
            ),
          ),
        ),
      ),
    )

-- ---- segments

piece-content : (kind : PieceKind) (front octets : List ℕ) (content : ContentValue) → Spells (piece_of kind) front octets content
    → Spells (content_of (type_at (piece_type kind % 16))) front octets content
unfolding type_at
piece-content kinds.Red front octets content spells = spells
piece-content kinds.RedCheckpoint front octets content spells = spells
piece-content kinds.RedEnd front octets content spells = spells
piece-content kinds.RedEndBlock front octets content spells = spells
piece-content kinds.Green front octets content spells = spells
piece-content kinds.GreenEndBlock front octets content spells = spells

content-spells : (front : List ℕ) (content : ContentValue) → IsContent content
    → Spells (content_of (type_at (type_of content % 16))) front (content_octets content) content
unfolding type_at report_ack_fields sender_cancel_fields receiver_cancel_fields
content-spells front (a_piece piece) is =
    piece-content piece.kind front (piece_octets piece) (a_piece piece) (piece-spells front piece is)
content-spells front (a_report report) is = report-spells front report is
content-spells front (a_report_ack number) is = (spelling number, [], number, sym (append-nil (spelling number)), spelling-spells number is, (refl, refl))
content-spells front (a_sender_cancel reason) is = (reason ∷ [], [], reason, refl, refl, (refl, refl))
content-spells front a_sender_cancel_ack is = (refl, refl)
content-spells front (a_receiver_cancel reason) is = (reason ∷ [], [], reason, refl, refl, (refl, refl))
content-spells front a_receiver_cancel_ack is = (refl, refl)

-- the control octet of each type is one
abbrev control_fault : ℕ → Option SegmentCause
control_fault octet = needs (octet / 16 == 0) causes.Version also needs (is_some (type_at (octet % 16))) causes.Kind

piece-control : (kind : PieceKind) → control_fault (piece_type kind) ≡ None
unfolding type_at
piece-control kinds.Red = refl
piece-control kinds.RedCheckpoint = refl
piece-control kinds.RedEnd = refl
piece-control kinds.RedEndBlock = refl
piece-control kinds.Green = refl
piece-control kinds.GreenEndBlock = refl

content-control : (content : ContentValue) → control_fault (type_of content) ≡ None
unfolding type_at
content-control (a_piece piece) = piece-control piece.kind
content-control (a_report report) = refl
content-control (a_report_ack number) = refl
content-control (a_sender_cancel reason) = refl
content-control a_sender_cancel_ack = refl
content-control (a_receiver_cancel reason) = refl
content-control a_receiver_cancel_ack = refl

-- the header and the content, field by field
in_fields : (kind : ℕ) (originator session content : List ℕ)
    → (kind ∷ (originator ++ (session ++ 0 ∷ []))) ++ content ≡ kind ∷ (originator ++ (session ++ 0 ∷ content))
in_fields kind originator session content =
    ap (λ rest. kind ∷ rest) (append_assoc originator (session ++ 0 ∷ []) content
    ∙ ap (λ rest. originator ++ rest) (append_assoc session (0 ∷ []) content))

pub segment-spells : (s : SegmentValue) → IsSegment s → SpellsSegment s (segment_octets s)
unfolding segment control extensions segment_octets
segment-spells s is =
    let kind = type_of s.content in
    rw (in_fields kind (spelling s.originator) (spelling s.session) (content_octets s.content)) (
      kind ∷ [],
      _,
      type_at (kind % 16),
      refl,
      (kind ∷ [], [], kind, refl, (refl, content-control s.content), (refl, refl)),
      (
        spelling s.originator,
        _,
        s.originator,
        refl,
        spelling-spells s.originator is.originator,
        (
          spelling s.session,
          _,
          s.session,
          refl,
          spelling-spells s.session is.session,
          (
            0 ∷ [],
            _,
            0,
            refl,
            refl,
            (
              [],
              _,
              tt,
              refl,
              (refl, refl),
              (
                content_octets s.content,
                [],
                s.content,
                sym (append-nil (content_octets s.content)),
                content-spells _ s.content is.content,
                ([], [], tt, refl, (refl, refl), (refl, refl)),
              ),
            ),
          ),
        ),
      ),
    )

pub segment-again : (s : SegmentValue) → IsSegment s → segment_of (segment_octets s) ≡ Ok s
unfolding segment_of
segment-again s is = rw (whole-only segment causes.Trailing (segment_octets s) s (segment-spells s is)) refl

-- ---- the writers

pub written : (s : SegmentValue) (octets : List ℕ) → IsSegment s → octets ≡ segment_octets s → IsWritten s octets
written s octets is made = record {
  made = made;
  spells = rw made (segment-spells s is);
  again = rw made (segment-again s is);
}

pub written-cancel : (by_sender : Bool) (originator session reason : ℕ) (octets : List ℕ) → originator < 2 ^ 64 → session < 2 ^ 64 → reason < 256
    → octets ≡ header_octets (cancel_type by_sender) originator session ++ reason ∷ []
    → IsWritten (record { originator = originator; session = session; content = by_side by_sender (a_sender_cancel reason) (a_receiver_cancel reason) }) octets
unfolding segment_octets
written-cancel true originator session reason octets ho hs hr is =
    written (record { originator = originator; session = session; content = a_sender_cancel reason }) octets
    (record { originator = ho; session = hs; content = hr }) is
written-cancel false originator session reason octets ho hs hr is =
    written (record { originator = originator; session = session; content = a_receiver_cancel reason }) octets
    (record { originator = ho; session = hs; content = hr }) is

pub written-cancel_ack : (to_sender : Bool) (originator session : ℕ) (octets : List ℕ) → originator < 2 ^ 64 → session < 2 ^ 64
    → octets ≡ header_octets (cancel_ack_type to_sender) originator session
    → IsWritten (record { originator = originator; session = session; content = by_side to_sender a_sender_cancel_ack a_receiver_cancel_ack }) octets
unfolding segment_octets
written-cancel_ack true originator session octets ho hs is =
    written (record { originator = originator; session = session; content = a_sender_cancel_ack }) octets
    (record { originator = ho; session = hs; content = tt }) (is ∙ sym (append-nil (header_octets 13 originator session)))
written-cancel_ack false originator session octets ho hs is =
    written (record { originator = originator; session = session; content = a_receiver_cancel_ack }) octets
    (record { originator = ho; session = hs; content = tt }) (is ∙ sym (append-nil (header_octets 15 originator session)))

-- what was appended piece by piece, as a whole
pub five_appended : (h a b c d e o1 o2 o3 o4 o5 : List ℕ) → o1 ≡ h ++ a → o2 ≡ o1 ++ b → o3 ≡ o2 ++ c → o4 ≡ o3 ++ d → o5 ≡ o4 ++ e
    → o5 ≡ h ++ (a ++ (b ++ (c ++ (d ++ e))))
five_appended h a b c d e o1 o2 o3 o4 o5 e1 e2 e3 e4 e5 = rw (e5, e4, e3, e2, e1) (simp append_assoc)

pub six_appended : (h a b c d e f o1 o2 o3 o4 o5 o6 : List ℕ) → o1 ≡ h ++ a → o2 ≡ o1 ++ b → o3 ≡ o2 ++ c → o4 ≡ o3 ++ d → o5 ≡ o4 ++ e → o6 ≡ o5 ++ f
    → o6 ≡ h ++ (a ++ (b ++ (c ++ (d ++ (e ++ f)))))
six_appended h a b c d e f o1 o2 o3 o4 o5 o6 e1 e2 e3 e4 e5 e6 = rw (e6, e5, e4, e3, e2, e1) (simp append_assoc)
