-- What is decided about records that would go on.
use Rattle.std.proofs.Common.{◌≡◌, ℕ, ◌+◌, Bool, true, false, not, ◌||◌, nat_lt, if◌then◌else◌, List, [], ◌∷◌, map, length, Option, Some, None, Result, Ok, Err, IfOk, refl, sym, ap, ◌∙◌}
use Rattle.std.specs.List.{list_all, list_any}
use Rattle.std.proofs.lemmas.List.{length-map}
use Rattle.bundle_meaning.specs.declared.full.Full.{Full}
use Rattle.translate.specs.declared.refused.Refused.{Refused}
use Rattle.translate.specs.declared.refused.Refused.TheVariants.{TooManyBlocks}
use Rattle.translate.specs.Refusals.{first_that_holds}
use Rattle.gate_cases.specs.declared.case.TheConstants.{BLOCK_MAX, SENDING_MAX, NUMBERS}
use Rattle.gate_cases.specs.declared.case.GateCase.{GateCase}
use Rattle.gate_cases.specs.declared.case.GateCase.TheVariants.{Untranslated, Storage}
use Rattle.gate_cases.specs.declared.case.Room.{Room}
use Rattle.gate_cases.specs.declared.face.Face.{Face}
use Rattle.gate_cases.specs.declared.sending.Sent.{Sent}
use Rattle.gate_cases.specs.Faces.{octets_at, fits_at}
use Rattle.gate_cases.specs.Blocks.{Arrival}
use Rattle.gate_cases.specs.Passage.{pieces_on}
use Rattle.gate_cases.specs.Cases.{is_short, or_passed, records_of}
use Rattle.gate_cases.specs.Sending.{has_sessions, sent_in, sent_records, sent_full, sent_arrival, Reads}
use Rattle.gate_cases.specs.Names.{over_at}
use Rattle.gate_cases.proofs.OverLemmas.{pieces-over}
use Rattle.gate_cases.proofs.PieceLemmas.{fits-pieces}
use Rattle.gate_cases.proofs.CaseLemmas.{first-after, first-refused}

-- of the tests of a piece's length and of the sessions
short-by : (a b c : Bool) → (a || c) ≡ true → (a || b || c) ≡ true
short-by true b c is = refl
short-by false true c is = refl
short-by false false c is = is

not-false : (b : Bool) → not b ≡ false → b ≡ true
not-false true is = refl
not-false false is = absurd (cc)

abbrev long_one : Face → List Full → Bool
long_one to records = list_any (λ piece. nat_lt BLOCK_MAX (length piece)) (map (octets_at to) records)

short-sessions : (to : Face) (records : List Full) (room : Room) → has_sessions room (length records) ≡ false
    → is_short room (map (octets_at to) records) ≡ true
short-sessions to records room few =
    rw (length-map records (octets_at to))
    (short-by (nat_lt SENDING_MAX (room.sending + length records)) (long_one to records) (nat_lt NUMBERS (room.next_session + length records))
    (not-false _ few))

short-long : (to : Face) (records : List Full) (room : Room) → long_one to records ≡ true
    → is_short room (map (octets_at to) records) ≡ true
short-long to records room long =
    by (nat_lt SENDING_MAX (room.sending + length (map (octets_at to) records))) _ _ long
  where
    by : (a b c : Bool) → b ≡ true → (a || b || c) ≡ true
    by true b c is = refl
    by false true c is = refl
    by false false c is = absurd (cc)

-- ---- the two last cases

-- the two tests decide
abbrev sent_by : Face → List Full → Bool → Bool → Sent
sent_by to records fits short =
    sent_in to records (or_passed (first_that_holds ((Untranslated TooManyBlocks, not fits) ∷ (Storage, short) ∷ [])))

-- where there is no room
sent-short : (to : Face) (records : List Full) (room : Room) (fits : Bool) → is_short room (map (octets_at to) records) ≡ true
    → list_all (fits_at to) records ≡ fits
    → sent_records to records room ≡ record { case = if fits then Storage else Untranslated TooManyBlocks; pieces = [] }
sent-short to records room fits short all =
    ap (λ (f : Bool). sent_by to records f (is_short room (map (octets_at to) records))) all
    ∙ ap (λ (s : Bool). sent_by to records fits s) short ∙ by fits
  where
    by : (f : Bool) → sent_by to records f true ≡ record { case = if f then Storage else Untranslated TooManyBlocks; pieces = [] }
    by true = refl
    by false = refl

-- where one has too many blocks
sent-unfit : (to : Face) (records : List Full) (room : Room) → list_all (fits_at to) records ≡ false
    → sent_records to records room ≡ record { case = Untranslated TooManyBlocks; pieces = [] }
sent-unfit to records room unfit = ap (λ (f : Bool). sent_by to records f (is_short room (map (octets_at to) records))) unfit

-- where there are too few sessions
pub sent-few : (to : Face) (records : List Full) (room : Room) (fits : Bool) → has_sessions room (length records) ≡ false
    → list_all (fits_at to) records ≡ fits
    → sent_records to records room ≡ record { case = if fits then Storage else Untranslated TooManyBlocks; pieces = [] }
sent-few to records room fits few all = sent-short to records room fits (short-sessions to records room few) all

-- where one piece is too long
pub sent-long : (to : Face) (records : List Full) (room : Room) (fits : Bool) → long_one to records ≡ true
    → list_all (fits_at to) records ≡ fits
    → sent_records to records room ≡ record { case = if fits then Storage else Untranslated TooManyBlocks; pieces = [] }
sent-long to records room fits long all = sent-short to records room fits (short-long to records room long) all

-- ---- the bundle

pub sent-read : (to : Face) (arrival : Arrival) (full : Full) (now cut : ℕ) (room : Room) (sent : Sent)
    → first_that_holds arrival.refusals ≡ None → full ≡ arrival.full → sent ≡ sent_full to full now cut room
    → sent ≡ sent_arrival to arrival now cut room
sent-read to arrival full now cut room sent none same is =
    is ∙ ap (λ (f : Full). sent_full to f now cut room) same
    ∙ ap (λ (c : Option GateCase). sent_in to (records_of arrival.full cut) (or_passed c)) (sym (first-after arrival.refusals _ none))

pub sent-refused : (to : Face) (arrival : Arrival) (now cut : ℕ) (room : Room) (cause : Refused) → first_that_holds arrival.refusals ≡ Some cause
    → sent_arrival to arrival now cut room ≡ record { case = Untranslated cause; pieces = [] }
sent-refused to arrival now cut room cause is =
    ap (λ (c : Option GateCase). sent_in to (records_of arrival.full cut) (or_passed c)) (first-refused arrival.refusals _ cause is)

-- ---- what code answered

pub few-sent : (to : Face) (passed : Full) (size : ℕ) (room : Room) (sent : Sent) → fits_at to passed ≡ true
    → has_sessions room (length (pieces_on passed size)) ≡ false → sent ≡ record { case = Storage; pieces = [] }
    → sent ≡ sent_records to (pieces_on passed size) room
few-sent to passed size room sent fit few is =
    is ∙ sym (sent-few to (pieces_on passed size) room true few (fits-pieces to passed size ∙ fit))

pub unfit-sent : (to : Face) (passed : Full) (size : ℕ) (room : Room) (sent : Sent) → fits_at to passed ≡ false
    → sent ≡ record { case = Untranslated TooManyBlocks; pieces = [] } → sent ≡ sent_records to (pieces_on passed size) room
unfit-sent to passed size room sent unfit is =
    is ∙ sym (sent-unfit to (pieces_on passed size) room (fits-pieces to passed size ∙ unfit))

pub long-sent : (to : Face) (records : List Full) (room : Room) (sent : Sent) (fit : Bool) → list_any (over_at to) records ≡ true
    → fit ≡ list_all (fits_at to) records
    → sent ≡ record { case = if fit then Storage else Untranslated TooManyBlocks; pieces = [] }
    → sent ≡ sent_records to records room
long-sent to records room sent fit over fits is =
    is ∙ sym (sent-long to records room fit (pieces-over to records over) (sym fits))

pub read-ok : {E : Type 0} (to : Face) (arrival : Arrival) (full : Full) (now cut : ℕ) (room : Room) (result : Result Sent E)
    → Reads (first_that_holds arrival.refusals) arrival.full (Ok full) → IfOk result (λ s. s ≡ sent_full to full now cut room)
    → IfOk result (λ s. s ≡ sent_arrival to arrival now cut room)
read-ok to arrival full now cut room (Ok s) (none, same) is = sent-read to arrival full now cut room s none same is
read-ok to arrival full now cut room (Err e) reads is = tt
