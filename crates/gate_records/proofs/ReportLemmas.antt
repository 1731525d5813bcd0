-- Which session a datagram reports on, by the segment that it is of.

use Rattle.std.proofs.Common.{◌≡◌, ℕ, ◌+◌, ◌<◌, ◌≤◌, ◌^◌, Bool, true, false, ◌==◌, List, [], ◌∷◌, ◌++◌, length, take, drop, Option, None, Some, Result, Ok, Err, if◌then◌else◌, refl, ap, ◌∙◌, sym, subst, arith, append_assoc, unwrap_or}
use Rattle.std.proofs.Math.Seq.{drop-append_seam}
use Rattle.sdnv.specs.declared.fault.SdnvFault.{SdnvFault}
use Rattle.sdnv.specs.declared.fault.SdnvFault.TheVariants as faults
use Rattle.sdnv.specs.Reading.{read_of}
use Rattle.sdnv.specs.Spelling.{Spells}
use Rattle.sdnv.specs.Shortest.{spelling}
use Rattle.sdnv.proofs.ReadingLemmas.{read_of-found}
use Rattle.sdnv.proofs.ShortestLemmas.{spelling-again}
use Rattle.std.specs.Prelude.{IfOk}
use Rattle.wire_fields.specs.Format.{Format, give, ◌>>=◌}
use Rattle.wire_fields.specs.Words.{any_number}
use Rattle.wire_fields.specs.Refusal.{Stop}
use Rattle.wire_fields.specs.Reading.{ahead, go_on, look_number, named, read}
use Rattle.wire_fields.specs.Whole.{ended}
use Rattle.ltp_segment.specs.declared.fault.SegmentCause.{SegmentCause}
use Rattle.ltp_segment.specs.declared.fault.SegmentCause.TheVariants as causes
use Rattle.ltp_segment.specs.declared.segment.PieceKind.{PieceKind}
use Rattle.ltp_segment.specs.declared.segment.PieceKind.TheVariants as kinds
use Rattle.ltp_segment.specs.Pieces.{piece_of}
use Rattle.ltp_segment.specs.Reading.{segment_of, told}
use Rattle.ltp_segment.specs.Spelling.{content_octets, piece_type, segment_octets}
use Rattle.ltp_segment.specs.Table.{content_of, control, receiver_cancel_fields, report_ack_fields, segment, sender_cancel_fields}
use Rattle.ltp_segment.specs.Types.{type_at}
use Rattle.ltp_segment.specs.Values.{ContentValue, ReportValue, SegmentValue, a_piece, a_report, a_report_ack, a_sender_cancel, a_sender_cancel_ack, a_receiver_cancel, a_receiver_cancel_ack}
use Rattle.gate_records.specs.Happened.{content_reports, reports_on, segment_reports}

-- ---- what is read by a format, whatever the text

record Gives {C A : Type 0} (f : Format C A) (P : A → Type 0) : Type 0 where
  each : (text : List ℕ) (at : ℕ) (x : A × ℕ) → read f text at ≡ Ok x → P x.0

abbrev ok_or : {T E : Type 0} → T → Result T E → T
ok_or d (Ok x) = x
ok_or d (Err e) = d

then-read : {C A B : Type 0} (f : Format C A) (g : A → Format C B) (P : B → Type 0) (text : List ℕ) (x : B × ℕ) (r : Result (A × ℕ) (ℕ × Stop C))
    → ((y : A × ℕ) → r ≡ Ok y → Gives (g y.0) P) → go_on r (λ y. read (g y.0) text y.1) ≡ Ok x → P x.0
then-read f g P text x (Ok y) rest is = (rest y refl).each text y.1 x is
then-read f g P text x (Err e) rest is = absurd (cc)

gives-then : {C A B : Type 0} (f : Format C A) (g : A → Format C B) (Q : A → Type 0) (P : B → Type 0) → Gives f Q → ((a : A) → Q a → Gives (g a) P) → Gives (f >>= g) P
gives-then f g Q P first rest = record { each = λ text at x is. then-read f g P text x (read f text at) (λ y was. rest y.0 (first.each text at y was)) is }

gives-after : {C A B : Type 0} (f : Format C A) (g : A → Format C B) (P : B → Type 0) → ((a : A) → Gives (g a) P) → Gives (f >>= g) P
gives-after f g P rest = record { each = λ text at x is. then-read f g P text x (read f text at) (λ y was. rest y.0) is }

-- at a place of a text
record GivesAt {C A : Type 0} (f : Format C A) (text : List ℕ) (at : ℕ) (P : A → Type 0) : Type 0 where
  value : (x : A × ℕ) → read f text at ≡ Ok x → P x.0

gives-at : {C A : Type 0} (f : Format C A) (text : List ℕ) (at : ℕ) (P : A → Type 0) → Gives f P → GivesAt f text at P
gives-at f text at P gives = record { value = λ x is. gives.each text at x is }

-- where the first value is known
gives-known : {C A B : Type 0} (f : Format C A) (g : A → Format C B) (text : List ℕ) (at : ℕ) (P : B → Type 0) (y : A × ℕ) → read f text at ≡ Ok y
    → GivesAt (g y.0) text y.1 P → GivesAt (f >>= g) text at P
gives-known f g text at P y known rest = record { value = λ x is. rest.value x (sym (ap (λ r. go_on r (λ z. read (g z.0) text z.1)) known) ∙ is) }

gives-given : {C A : Type 0} (P : A → Type 0) (a : A) → P a → Gives {C = C} (give a) P
gives-given P a holds = record { each = λ text at x is. subst P (ap (λ y. y.0) (ap (ok_or x) is)) holds }

found-small : (cause : SegmentCause) (at : ℕ) (x : ℕ × ℕ) (r : Result (ℕ × ℕ) SdnvFault) → ((y : ℕ × ℕ) → r ≡ Ok y → y.0 < 2 ^ 64) → named at cause (ahead at (look_number r)) ≡ Ok x → x.0 < 2 ^ 64
found-small cause at x (Ok y) small is = subst (λ (z : ℕ × ℕ). z.0 < 2 ^ 64) (ap (ok_or x) is) (small y refl)
found-small cause at x (Err faults.Short) small is = absurd (cc)
found-small cause at x (Err faults.TooLong) small is = absurd (cc)
found-small cause at x (Err faults.TooLarge) small is = absurd (cc)

small-of : (w : List ℕ) (y : ℕ × ℕ) → read_of w ≡ Ok y → y.0 < 2 ^ 64
small-of w y is = (subst (λ (r : Result (ℕ × ℕ) SdnvFault). IfOk r (λ x. (x.1 ≤ length w) × Spells (take x.1 w) x.0)) is (read_of-found w)).1.small

gives-number : (cause : SegmentCause) → Gives (any_number cause) (λ n. n < 2 ^ 64)
gives-number cause = record { each = λ text at x is. found-small cause at x (read_of (drop at text)) (small-of (drop at text)) is }

-- ---- the numbers of a segment that is read

pub record AreSmall (s : SegmentValue) : Type 0 where
  pub originator : s.originator < 2 ^ 64
  pub session : s.session < 2 ^ 64

gives-small : Gives segment AreSmall
unfolding segment
gives-small =
    gives-after _ _ AreSmall (λ kind. gives-then _ _ (λ n. n < 2 ^ 64) AreSmall (gives-number causes.Number) (λ originator one.
    gives-then _ _ (λ n. n < 2 ^ 64) AreSmall (gives-number causes.Number) (λ session two.
    gives-after _ _ AreSmall (λ counts. gives-after _ _ AreSmall (λ headers. gives-after _ _ AreSmall (λ content. gives-after _ _ AreSmall (λ trailers.
    gives-given AreSmall _ (record { originator = one; session = two }))))))))

-- what is true of each segment that a datagram is
abbrev pub IfRead : (SegmentValue → Type 0) → Result SegmentValue (ℕ × SegmentCause) → Type 0
IfRead P (Ok s) = P s
IfRead P (Err refusal) = Unit {0}

if-read : (P : SegmentValue → Type 0) (datagram : List ℕ) → GivesAt segment datagram 0 P → IfRead P (segment_of datagram)
unfolding segment_of
if-read P datagram gives = by_read (read segment datagram 0) refl where
  by_end : (x : SegmentValue × ℕ) (t : Bool) → P x.0 → IfRead P (told (if t then Ok x.0 else Err (x.1, Rattle.wire_fields.specs.Refusal.because causes.Trailing)))
  by_end x true holds = holds
  by_end x false holds = tt

  by_read : (r : Result (SegmentValue × ℕ) (ℕ × Stop SegmentCause)) → read segment datagram 0 ≡ r → IfRead P (told (go_on r (ended causes.Trailing datagram)))
  by_read (Ok x) is = by_end x (x.1 == length datagram) (gives.value x is)
  by_read (Err refusal) is = tt

pub small-read : (datagram : List ℕ) → IfRead AreSmall (segment_of datagram)
small-read datagram = if-read AreSmall datagram (gives-at segment datagram 0 AreSmall gives-small)

-- ---- what is no report

abbrev pub IsOther : ContentValue → Type 0
IsOther (a_piece piece) = Unit {0}
IsOther (a_report report) = ⊥
IsOther (a_report_ack serial) = Unit {0}
IsOther (a_sender_cancel reason) = Unit {0}
IsOther a_sender_cancel_ack = Unit {0}
IsOther (a_receiver_cancel reason) = Unit {0}
IsOther a_receiver_cancel_ack = Unit {0}

gives-piece : (kind : PieceKind) → Gives (piece_of kind) IsOther
unfolding piece_of
gives-piece kind =
    gives-after _ _ IsOther (λ service. gives-after _ _ IsOther (λ offset. gives-after _ _ IsOther (λ size. gives-after _ _ IsOther (λ marks. gives-after _ _ IsOther (λ body. gives-given IsOther _ tt)))))

gives-ack : Gives report_ack_fields IsOther
unfolding report_ack_fields
gives-ack = gives-after _ _ IsOther (λ number. gives-given IsOther _ tt)

gives-sender_cancel : Gives sender_cancel_fields IsOther
unfolding sender_cancel_fields
gives-sender_cancel = gives-after _ _ IsOther (λ reason. gives-given IsOther _ tt)

gives-receiver_cancel : Gives receiver_cancel_fields IsOther
unfolding receiver_cancel_fields
gives-receiver_cancel = gives-after _ _ IsOther (λ reason. gives-given IsOther _ tt)

abbrev OtherSegment : SegmentValue → Type 0
OtherSegment s = IsOther s.content

-- the control octet says what kind of content is read
other-kind : (text : List ℕ) (kind : ℕ) → read control text 0 ≡ Ok (type_at kind, 1) → Gives (content_of (type_at kind)) IsOther → GivesAt segment text 0 OtherSegment
unfolding segment
other-kind text kind known gives =
    gives-known _ _ text 0 OtherSegment (type_at kind, 1) known (gives-at _ text 1 OtherSegment
    (gives-after _ _ OtherSegment (λ originator. gives-after _ _ OtherSegment (λ session. gives-after _ _ OtherSegment (λ counts. gives-after _ _ OtherSegment (λ headers.
    gives-then _ _ IsOther OtherSegment gives (λ content other. gives-after _ _ OtherSegment (λ trailers. gives-given OtherSegment _ other))))))))

other-none : (n : ℕ) (content : ContentValue) → IsOther content → content_reports n content ≡ None
other-none n (a_piece piece) other = refl
other-none n (a_report report) other = absurd other
other-none n (a_report_ack serial) other = refl
other-none n (a_sender_cancel reason) other = refl
other-none n a_sender_cancel_ack other = refl
other-none n (a_receiver_cancel reason) other = refl
other-none n a_receiver_cancel_ack other = refl

none-read : (r : Result SegmentValue (ℕ × SegmentCause)) → IfRead OtherSegment r → segment_reports r ≡ None
none-read (Ok s) other = other-none s.session s.content other
none-read (Err refusal) other = refl

piece-control : (kind : PieceKind) (w : List ℕ) → read control (piece_type kind ∷ w) 0 ≡ Ok (type_at (piece_type kind), 1)
unfolding control type_at
piece-control kinds.Red w = refl
piece-control kinds.RedCheckpoint w = refl
piece-control kinds.RedEnd w = refl
piece-control kinds.RedEndBlock w = refl
piece-control kinds.Green w = refl
piece-control kinds.GreenEndBlock w = refl

gives-kind : (kind : PieceKind) → Gives (content_of (type_at (piece_type kind))) IsOther
unfolding type_at
gives-kind kinds.Red = gives-piece kinds.Red
gives-kind kinds.RedCheckpoint = gives-piece kinds.RedCheckpoint
gives-kind kinds.RedEnd = gives-piece kinds.RedEnd
gives-kind kinds.RedEndBlock = gives-piece kinds.RedEndBlock
gives-kind kinds.Green = gives-piece kinds.Green
gives-kind kinds.GreenEndBlock = gives-piece kinds.GreenEndBlock

-- what is no report isn't read as one
pub other-reports : (originator session : ℕ) (content : ContentValue) → IsOther content
    → reports_on (segment_octets (record { originator = originator; session = session; content = content })) ≡ None
unfolding segment_octets control type_at
other-reports originator session (a_piece piece) other =
    none-read _ (if-read OtherSegment (segment_octets (record { originator = originator; session = session; content = a_piece piece }))
    (other-kind _ (piece_type piece.kind) (piece-control piece.kind ((spelling originator ++ (spelling session ++ 0 ∷ [])) ++ content_octets (a_piece piece))) (gives-kind piece.kind)))
other-reports originator session (a_report report) other = absurd other
other-reports originator session (a_report_ack serial) other =
    none-read _ (if-read OtherSegment (segment_octets (record { originator = originator; session = session; content = a_report_ack serial })) (other-kind _ 9 refl gives-ack))
other-reports originator session (a_sender_cancel reason) other =
    none-read _ (if-read OtherSegment (segment_octets (record { originator = originator; session = session; content = a_sender_cancel reason })) (other-kind _ 12 refl gives-sender_cancel))
other-reports originator session a_sender_cancel_ack other =
    none-read _ (if-read OtherSegment (segment_octets (record { originator = originator; session = session; content = a_sender_cancel_ack })) (other-kind _ 13 refl (gives-given IsOther a_sender_cancel_ack tt)))
other-reports originator session (a_receiver_cancel reason) other =
    none-read _ (if-read OtherSegment (segment_octets (record { originator = originator; session = session; content = a_receiver_cancel reason })) (other-kind _ 14 refl gives-receiver_cancel))
other-reports originator session a_receiver_cancel_ack other =
    none-read _ (if-read OtherSegment (segment_octets (record { originator = originator; session = session; content = a_receiver_cancel_ack })) (other-kind _ 15 refl (gives-given IsOther a_receiver_cancel_ack tt)))

-- ---- a report names its session

number-known : (cause : SegmentCause) (front : List ℕ) (n : ℕ) (rest text : List ℕ) → n < 2 ^ 64 → text ≡ front ++ (spelling n ++ rest)
    → read (any_number cause) text (length front) ≡ Ok (n, length front + length (spelling n))
number-known cause front n rest text small is =
    ap (λ (w : List ℕ). named (length front) cause (ahead (length front) (look_number (read_of w)))) (ap (drop (length front)) is ∙ drop-append_seam front (spelling n ++ rest))
    ∙ ap (λ r. named (length front) cause (ahead (length front) (look_number r))) (spelling-again n small rest)

abbrev SessionIs : ℕ → SegmentValue → Type 0
SessionIs m s = s.session ≡ m

session-read : (text : List ℕ) (o m : ℕ) (w : List ℕ) → o < 2 ^ 64 → m < 2 ^ 64 → text ≡ 8 ∷ (spelling o ++ (spelling m ++ w)) → GivesAt segment text 0 (SessionIs m)
unfolding segment control type_at
session-read text o m w o_small m_small spelled =
    gives-known _ _ text 0 (SessionIs m) (type_at 8, 1) (ap (λ (u : List ℕ). read control u 0) spelled)
    (gives-known _ _ text 1 (SessionIs m) (o, 1 + length (spelling o)) (number-known causes.Number (8 ∷ []) o (spelling m ++ w) text o_small spelled)
    (gives-known _ _ text (1 + length (spelling o)) (SessionIs m) (m, 1 + length (spelling o) + length (spelling m)) second
    (gives-at _ text (1 + length (spelling o) + length (spelling m)) (SessionIs m)
    (gives-after _ _ (SessionIs m) (λ counts. gives-after _ _ (SessionIs m) (λ headers. gives-after _ _ (SessionIs m) (λ content. gives-after _ _ (SessionIs m) (λ trailers.
    gives-given (SessionIs m) _ refl))))))))
  where
    long : length (8 ∷ spelling o) ≡ 1 + length (spelling o)
    long = omega arith

    second : read (any_number causes.Number) text (1 + length (spelling o)) ≡ Ok (m, 1 + length (spelling o) + length (spelling m))
    second = subst (λ (k : ℕ). read (any_number causes.Number) text k ≡ Ok (m, k + length (spelling m))) long
        (number-known causes.Number (8 ∷ spelling o) m w text m_small spelled)

session-of : (s n : ℕ) (content : ContentValue) → content_reports s content ≡ Some n → n ≡ s
session-of s n (a_report report) is = ap (λ (o : Option ℕ). unwrap_or o n) (sym is)
session-of s n (a_piece piece) is = absurd (cc)
session-of s n (a_report_ack serial) is = absurd (cc)
session-of s n (a_sender_cancel reason) is = absurd (cc)
session-of s n a_sender_cancel_ack is = absurd (cc)
session-of s n (a_receiver_cancel reason) is = absurd (cc)
session-of s n a_receiver_cancel_ack is = absurd (cc)

named-read : (m n : ℕ) (r : Result SegmentValue (ℕ × SegmentCause)) → IfRead (SessionIs m) r → segment_reports r ≡ Some n → n ≡ m
named-read m n (Ok s) names is = session-of s.session n s.content is ∙ names
named-read m n (Err refusal) names is = absurd (cc)

-- what is a report is read as one on its session, if it is read at all
pub report-names : (originator session : ℕ) (report : ReportValue) → originator < 2 ^ 64 → session < 2 ^ 64 → (n : ℕ)
    → reports_on (segment_octets (record { originator = originator; session = session; content = a_report report })) ≡ Some n → n ≡ session
unfolding segment_octets
report-names o m report o_small m_small n is =
    let content = content_octets (a_report report) in
    named-read m n (segment_of (segment_octets (record { originator = o; session = m; content = a_report report })))
    (if-read (SessionIs m) (segment_octets (record { originator = o; session = m; content = a_report report }))
    (session-read _ o m ((0 ∷ []) ++ content) o_small m_small
    (ap (λ (u : List ℕ). 8 ∷ u) (append_assoc (spelling o) (spelling m ++ 0 ∷ []) content ∙ ap (λ (u : List ℕ). spelling o ++ u) (append_assoc (spelling m) (0 ∷ []) content))))) is
