-- The octets in which a segment is written: shortest numbers and no extensions.

use Rattle.std.specs.Prelude.{◌≡◌, ℕ, Bool, true, false, List, [], ◌∷◌, ◌++◌, length, Ok}
use Rattle.std.specs.List.{flat_map}
use Rattle.sdnv.specs.Shortest.{spelling}
use Rattle.ltp_segment.specs.declared.segment.PieceKind.{PieceKind}
use Rattle.ltp_segment.specs.declared.segment.PieceKind.TheVariants as kinds
use Rattle.ltp_segment.specs.declared.segment.Claim.{Claim}
use Rattle.ltp_segment.specs.Kinds.{is_checkpoint}
use Rattle.ltp_segment.specs.Values.{PieceValue, ReportValue, ContentValue, a_piece, a_report}
use Rattle.ltp_segment.specs.Values.{a_report_ack, a_sender_cancel, a_sender_cancel_ack}
use Rattle.ltp_segment.specs.Values.{a_receiver_cancel, a_receiver_cancel_ack, SegmentValue}
use Rattle.ltp_segment.specs.Reading.{SpellsSegment, segment_of}

abbrev pub piece_type : PieceKind → ℕ
piece_type kinds.Red = 0
piece_type kinds.RedCheckpoint = 1
piece_type kinds.RedEnd = 2
piece_type kinds.RedEndBlock = 3
piece_type kinds.Green = 4
piece_type kinds.GreenEndBlock = 7

-- the control octet: version 0 and the segment type
abbrev pub type_of : ContentValue → ℕ
type_of (a_piece piece) = piece_type piece.kind
type_of (a_report report) = 8
type_of (a_report_ack serial) = 9
type_of (a_sender_cancel reason) = 12
type_of a_sender_cancel_ack = 13
type_of (a_receiver_cancel reason) = 14
type_of a_receiver_cancel_ack = 15

abbrev pub serial_octets : Bool → ℕ → ℕ → List ℕ
serial_octets true checkpoint report = spelling checkpoint ++ spelling report
serial_octets false checkpoint report = []

unfoldable pub piece_octets : PieceValue → List ℕ
piece_octets piece =
    spelling piece.service ++ (spelling piece.offset ++ (spelling (length piece.body)
    ++ (serial_octets (is_checkpoint piece.kind) piece.checkpoint piece.report ++ piece.body)))

abbrev pub claim_octets : Claim → List ℕ
claim_octets claim = spelling claim.offset ++ spelling claim.length

unfoldable pub report_octets : ReportValue → List ℕ
report_octets report =
    spelling report.serial ++ (spelling report.checkpoint ++ (spelling report.upper
    ++ (spelling report.lower ++ (spelling (length report.claims)
    ++ flat_map claim_octets report.claims))))

abbrev pub content_octets : ContentValue → List ℕ
content_octets (a_piece piece) = piece_octets piece
content_octets (a_report report) = report_octets report
content_octets (a_report_ack serial) = spelling serial
content_octets (a_sender_cancel reason) = reason ∷ []
content_octets a_sender_cancel_ack = []
content_octets (a_receiver_cancel reason) = reason ∷ []
content_octets a_receiver_cancel_ack = []

-- the type, the session, and that there are no extensions
abbrev pub header_octets : ℕ → ℕ → ℕ → List ℕ
header_octets kind originator session = kind ∷ (spelling originator ++ (spelling session ++ 0 ∷ []))

unfoldable pub segment_octets : SegmentValue → List ℕ
segment_octets s =
    header_octets (type_of s.content) s.originator s.session ++ content_octets s.content

-- ---- segments of which the sender and the receiver have one each

abbrev pub by_side : Bool → ContentValue → ContentValue → ContentValue
by_side true sender receiver = sender
by_side false sender receiver = receiver

-- ---- what a writer promises: these octets, that they spell the segment by the table of its
-- fields, and that they are read back as it
pub record IsWritten (s : SegmentValue) (octets : List ℕ) : Type 0 where
  pub made : octets ≡ segment_octets s
  pub spells : SpellsSegment s octets
  pub again : segment_of octets ≡ Ok s

-- the octets are those of this content in this session
abbrev pub Writes : ℕ → ℕ → ContentValue → List ℕ → Type 0
Writes originator session content octets =
    IsWritten (record { originator = originator; session = session; content = content }) octets
