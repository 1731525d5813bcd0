-- What is decided about a record on its way to a face.

use Rattle.std.proofs.Common.{◌≡◌, ℕ, Bool, true, false, not, if◌then◌else◌, List, [], ◌∷◌, map, Option, Some, None, Result, Ok, Err, IfOk, refl, sym, ap, ◌∙◌}
use Rattle.std.specs.List.{list_all}
use Rattle.std.specs.Option.{option_map}
use Rattle.std.specs.Result.{result_ok}
use Rattle.wire_fields.specs.Reading.{read}
use Rattle.bundle6.specs.declared.bundle.Bundle6.{Bundle6}
use Rattle.bundle6.specs.Table as table6
use Rattle.bundle7.specs.declared.bundle.Bundle7.{Bundle7}
use Rattle.bundle7.specs.Table as table7
use Rattle.bundle_meaning.specs.declared.full.Full.{Full}
use Rattle.translate.specs.declared.refused.Refused.{Refused}
use Rattle.translate.specs.declared.refused.Refused.TheVariants.{TooManyBlocks}
use Rattle.translate.specs.Refusals.{first_that_holds}
use Rattle.block_types.specs.declared.losing.LeftOut.{LeftOut}
use Rattle.gate_cases.specs.declared.case.GateCase.{GateCase}
use Rattle.gate_cases.specs.declared.case.GateCase.TheVariants.{Untranslated, Storage, Passed}
use Rattle.gate_cases.specs.declared.face.Face.{Face}
use Rattle.gate_cases.specs.declared.face.Face.TheVariants.{Old, New}
use Rattle.gate_cases.specs.declared.report.AskedReport.{AskedReport}
use Rattle.gate_cases.specs.Faces.{other_of, fits_at}
use Rattle.gate_cases.specs.Passage.{pieces_on}
use Rattle.gate_cases.specs.Reports.{asked}
use Rattle.gate_cases.specs.Cases.{or_passed, records_of}
use Rattle.gate_cases.specs.Sending.{Reads}
use Rattle.gate_cases.proofs.PieceLemmas.{fits-pieces}
use Rattle.gate_cases.proofs.CaseLemmas.{first-after, first-refused}
use Rattle.face_room.specs.Loads.{has_room}
use Rattle.peer_cases.specs.declared.decision.Decision.{Decision}
use Rattle.peer_cases.specs.declared.pieces.SizedPiece.{SizedPiece}
use Rattle.peer_cases.specs.declared.room.FaceRoom.{FaceRoom}
use Rattle.peer_cases.specs.declared.sending.Sent.{Sent}
use Rattle.peer_cases.specs.declared.settings.PeerSettings.{PeerSettings}
use Rattle.peer_cases.specs.Arrivals.{Came, came6, came7}
use Rattle.peer_cases.specs.Pieces.{greatest_size, piece_of}
use Rattle.peer_cases.specs.Cases.{case_of, decided}
use Rattle.peer_cases.specs.Rows.{came_in, decided_in}
use Rattle.peer_cases.specs.Sending.{sent_in, sent_records, sent_full, sent_came, if_room}

-- ---- the two last cases

-- the two tests decide
abbrev sent_by : PeerSettings → Face → List Full → Option LeftOut → Bool → Bool → Sent
sent_by s to records left fits has =
    sent_in s to records left (or_passed (first_that_holds ((Untranslated TooManyBlocks, not fits) ∷ (Storage, not has) ∷ [])))

tests : (s : PeerSettings) (to : Face) (records : List Full) (left : Option LeftOut) (room : FaceRoom) (fits has : Bool)
    → list_all (fits_at to) records ≡ fits → has_room room.bounds room.load (map (greatest_size s to) records) ≡ has
    → sent_records s to records left room ≡ sent_by s to records left fits has
tests s to records left room fits has all room_is =
    ap (λ (f : Bool). sent_by s to records left f (has_room room.bounds room.load (map (greatest_size s to) records))) all
    ∙ ap (λ (h : Bool). sent_by s to records left fits h) room_is

abbrev nothing_sent : GateCase → Sent
nothing_sent case = record { case = case; pieces = []; left = None }

-- too many blocks
pub unfit-sent : (s : PeerSettings) (to : Face) (full : Full) (cut : ℕ) (left : Option LeftOut) (room : FaceRoom) (sent : Sent)
    → fits_at to full ≡ false → sent ≡ record { case = Untranslated TooManyBlocks; pieces = []; left = None }
    → sent ≡ sent_records s to (pieces_on full cut) left room
unfit-sent s to full cut left room sent fits is =
    is ∙ sym (tests s to (pieces_on full cut) left room false _ (fits-pieces to full cut ∙ fits) refl)

-- no room
pub short-sent : (s : PeerSettings) (to : Face) (full : Full) (cut : ℕ) (left : Option LeftOut) (room : FaceRoom) (sent : Sent)
    → fits_at to full ≡ true → None ≡ if_room s to room (pieces_on full cut) → sent ≡ record { case = Storage; pieces = []; left = None }
    → sent ≡ sent_records s to (pieces_on full cut) left room
short-sent s to full cut left room sent fits none is =
    is ∙ sym (tests s to (pieces_on full cut) left room true false (fits-pieces to full cut ∙ fits) (by _ refl none))
  where
    by : (has : Bool) → has_room room.bounds room.load (map (greatest_size s to) (pieces_on full cut)) ≡ has
        → None ≡ (if has then Some (map (piece_of s to) (pieces_on full cut)) else None)
        → has_room room.bounds room.load (map (greatest_size s to) (pieces_on full cut)) ≡ false
    by true is none = absurd (cc)
    by false is none = is

-- all goes on
pub passed-sent : (s : PeerSettings) (to : Face) (full : Full) (cut : ℕ) (left : Option LeftOut) (room : FaceRoom) (pieces : List SizedPiece)
    → fits_at to full ≡ true → Some pieces ≡ if_room s to room (pieces_on full cut)
    → record { case = Passed; pieces = pieces; left = left } ≡ sent_records s to (pieces_on full cut) left room
passed-sent s to full cut left room pieces fits some = by _ refl some
  where
    all : List Full
    all = pieces_on full cut

    so : List SizedPiece → Sent
    so ps = record { case = Passed; pieces = ps; left = left }

    same : (a b : List SizedPiece) → Some a ≡ Some b → a ≡ b
    same a b is = cc

    by : (has : Bool) → has_room room.bounds room.load (map (greatest_size s to) all) ≡ has
        → Some pieces ≡ (if has then Some (map (piece_of s to) all) else None)
        → so pieces ≡ sent_records s to all left room
    by true is some =
        ap so (same pieces (map (piece_of s to) all) some)
        ∙ sym (tests s to all left room true true (fits-pieces to full cut ∙ fits) is)
    by false is some = absurd (cc)

-- ---- the bundle

pub sent-read : (s : PeerSettings) (to : Face) (came : Came) (full : Full) (left : Option LeftOut) (now cut : ℕ) (room : FaceRoom) (sent : Sent)
    → first_that_holds (came.arrival).refusals ≡ None → full ≡ came.onward → left ≡ came.left → sent ≡ sent_full s to full left now cut room
    → sent ≡ sent_came s to came now cut room
unfolding case_of
sent-read s to came full left now cut room sent none same lacks is =
    is ∙ (ap (λ (f : Full). sent_full s to f left now cut room) same
    ∙ (ap (λ (l : Option LeftOut). sent_full s to came.onward l now cut room) lacks
    ∙ ap (λ (c : Option GateCase). sent_in s to (records_of came.onward cut) came.left (or_passed c))
    (sym (first-after (came.arrival).refusals _ none))))

pub read-ok : {E : Type 0} (s : PeerSettings) (to : Face) (came : Came) (full onward : Full) (left : Option LeftOut) (now cut : ℕ) (room : FaceRoom)
    (result : Result Sent E) → Reads (first_that_holds (came.arrival).refusals) (came.arrival).full (Ok full)
    → (full ≡ (came.arrival).full → onward ≡ came.onward) → (full ≡ (came.arrival).full → left ≡ came.left)
    → IfOk result (λ sent. sent ≡ sent_full s to onward left now cut room)
    → IfOk result (λ sent. sent ≡ sent_came s to came now cut room)
read-ok s to came full onward left now cut room (Ok sent) (none, same) goes lacks is =
    sent-read s to came onward left now cut room sent none (goes same) (lacks same) is
read-ok s to came full onward left now cut room (Err e) reads goes lacks is = tt

pub sent-refused : (s : PeerSettings) (to : Face) (came : Came) (now cut : ℕ) (room : FaceRoom) (cause : Refused)
    → first_that_holds (came.arrival).refusals ≡ Some cause
    → sent_came s to came now cut room ≡ record { case = Untranslated cause; pieces = []; left = None }
unfolding case_of
sent-refused s to came now cut room cause is =
    ap (λ (c : Option GateCase). sent_in s to (records_of came.onward cut) came.left (or_passed c)) (first-refused (came.arrival).refusals _ cause is)

-- ---- what is decided

pub decided-came : (s : PeerSettings) (face : Face) (came : Came) (now cut : ℕ) (room : FaceRoom) (sent : Sent) (report : Option AskedReport)
    → sent ≡ sent_came s (other_of face) came now cut room → report ≡ asked (came.arrival).subject sent.case
    → record { case = sent.case; pieces = sent.pieces; report = report; left = sent.left } ≡ decided s face came now cut room
unfolding decided
decided-came s face came now cut room sent report is told = rw (told, is) refl

pub decided-old : {E : Type 0} (s : PeerSettings) (w : List ℕ) (b : Bundle6) (k now cut : ℕ) (room : FaceRoom) (result : Result Decision E)
    → read (table6.bundle 64) w 0 ≡ Ok (b, k) → IfOk result (λ d. d ≡ decided s Old (came6 s b) now cut room)
    → IfOk result (λ d. decided_in s Old w now cut room ≡ Some d)
unfolding decided_in came_in
decided-old s w b k now cut room (Ok d) is decided_is =
    ap (λ (r : Result (Bundle6 × ℕ) _). option_map (λ (came : Came). decided s Old came now cut room)
    (option_map (λ (x : Bundle6 × ℕ). came6 s x.0) (result_ok r))) is
    ∙ ap Some (sym decided_is)
decided-old s w b k now cut room (Err e) is decided_is = tt

pub decided-new : {E : Type 0} (s : PeerSettings) (w : List ℕ) (b : Bundle7) (k now cut : ℕ) (room : FaceRoom) (result : Result Decision E)
    → read (table7.bundle 64) w 0 ≡ Ok (b, k) → IfOk result (λ d. d ≡ decided s New (came7 s b) now cut room)
    → IfOk result (λ d. decided_in s New w now cut room ≡ Some d)
unfolding decided_in came_in
decided-new s w b k now cut room (Ok d) is decided_is =
    ap (λ (r : Result (Bundle7 × ℕ) _). option_map (λ (came : Came). decided s New came now cut room)
    (option_map (λ (x : Bundle7 × ℕ). came7 s x.0) (result_ok r))) is
    ∙ ap Some (sym decided_is)
decided-new s w b k now cut room (Err e) is decided_is = tt
