-- What is decided about a block: which of seven cases it is, the pieces that go on, and the report that is
-- asked for.
use Rattle.std.specs.Prelude.{ℕ, ◌+◌, Bool, true, not, ◌||◌, nat_lt, List, [], ◌∷◌, ◌++◌, map, length, Option, Some, None}
use Rattle.std.specs.List.{list_all, list_any}
use Rattle.bundle_meaning.specs.declared.full.Full.{Full}
use Rattle.translate.specs.declared.refused.Refused.{Refused}
use Rattle.translate.specs.declared.refused.Refused.TheVariants.{TooManyBlocks}
use Rattle.translate.specs.Refusals.{first_that_holds}
use Rattle.gate_cases.specs.declared.case.TheConstants.{BLOCK_MAX, SENDING_MAX, NUMBERS}
use Rattle.gate_cases.specs.declared.case.GateCase.{GateCase}
use Rattle.gate_cases.specs.declared.case.GateCase.TheVariants.{BadBundle, Untranslated, Expired, HopLimit, Storage, Passed}
use Rattle.gate_cases.specs.declared.case.Room.{Room}
use Rattle.gate_cases.specs.declared.face.Face.{Face}
use Rattle.gate_cases.specs.declared.judged.Judged.{Judged as Decision}
use Rattle.gate_cases.specs.Faces.{other_of, octets_at, fits_at}
use Rattle.gate_cases.specs.Blocks.{Arrival, Found, one, bad, found_at}
use Rattle.gate_cases.specs.Passage.{has_no_hop_left, passage, pieces_on}
use Rattle.gate_cases.specs.Reports.{asked}

-- ---- the cases

-- Too many sessions would be open for so many pieces, or a piece is longer than a session carries, or the
-- session numbers don't suffice.
abbrev pub is_short : Room → List (List ℕ) → Bool
is_short room pieces =
    nat_lt SENDING_MAX (room.sending + length pieces)
    || list_any (λ piece. nat_lt BLOCK_MAX (length piece)) pieces
    || nat_lt NUMBERS (room.next_session + length pieces)

abbrev pub untranslated : Refused × Bool → GateCase × Bool
untranslated refusal = (Untranslated refusal.0, refusal.1)

-- the records that would go on, each a piece
abbrev pub records_of : Full → ℕ → List Full
records_of full cut = pieces_on (passage full) cut

-- what may stop records on their way to a face: one has too many blocks for its version, or there is no
-- room for them
abbrev pub lacks : Face → List Full → Room → List (GateCase × Bool)
lacks to records room =
    (Untranslated TooManyBlocks, not (list_all (fits_at to) records))
    ∷ (Storage, is_short room (map (octets_at to) records))
    ∷ []

-- what may stop a bundle on its way to a face, in order, each with its condition
abbrev pub stops : Face → Arrival → ℕ → ℕ → Room → List (GateCase × Bool)
stops to arrival now cut room =
    map untranslated arrival.refusals
    ++ (Expired, nat_lt arrival.full.shared.expiry now)
    ∷ (HopLimit, has_no_hop_left arrival.full.exts)
    ∷ lacks to (records_of arrival.full cut) room

-- the cases of what was found in a block that came at a face: a block that isn't exactly one bundle has
-- one alone
abbrev pub cases_of : Face → Found → ℕ → ℕ → Room → List (GateCase × Bool)
cases_of face (bad at cause) now cut room = (BadBundle at cause, true) ∷ []
cases_of face (one arrival) now cut room = stops (other_of face) arrival now cut room

-- where nothing stops the bundle, it goes on
abbrev pub or_passed : Option GateCase → GateCase
or_passed None = Passed
or_passed (Some case) = case

-- the first case that holds decides
unfoldable pub case_of : Face → Found → ℕ → ℕ → Room → GateCase
case_of face found now cut room = or_passed (first_that_holds (cases_of face found now cut room))

-- ---- what is decided

abbrev pub Judgement : Type 0
Judgement = Decision

-- the pieces go on if and only if the bundle does
abbrev pub pieces_if : GateCase → List (List ℕ) → List (List ℕ)
pieces_if (BadBundle at cause) pieces = []
pieces_if (Untranslated cause) pieces = []
pieces_if Expired pieces = []
pieces_if HopLimit pieces = []
pieces_if Storage pieces = []
pieces_if Passed pieces = pieces

-- a bundle that came at a face, in a case
abbrev pub judgement_in : Face → Arrival → ℕ → GateCase → Judgement
judgement_in face arrival cut case = record {
  case = case;
  pieces = pieces_if case (map (octets_at (other_of face)) (records_of arrival.full cut));
  report = asked arrival.subject case;
}

-- on what is no bundle there is no report
abbrev pub judgement_of : Face → Found → ℕ → GateCase → Judgement
judgement_of face (bad at cause) cut case = record { case = case; pieces = []; report = None }
judgement_of face (one arrival) cut case = judgement_in face arrival cut case

-- What is decided about a block that came at a face at a moment, where a bundle is cut into pieces of so
-- many octets, and this is the room at the other face.
unfoldable pub judged : Face → List ℕ → ℕ → ℕ → Room → Judgement
judged face block now cut room =
    judgement_of face (found_at face block) cut (case_of face (found_at face block) now cut room)
