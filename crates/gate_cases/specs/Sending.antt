-- What only ties code to the definitions: the case of a record that was read, and what goes on.
use Rattle.std.specs.Prelude.{◌≡◌, ℕ, ◌+◌, Bool, true, not, ◌||◌, nat_lt, List, [], ◌∷◌, map, length, Option, Some, None, Result, Ok, Err}
use Rattle.std.specs.List.{list_all}
use Rattle.bundle_meaning.specs.declared.full.Full.{Full}
use Rattle.translate.specs.declared.refused.Refused.{Refused}
use Rattle.translate.specs.Refusals.{first_that_holds}
use Rattle.gate_cases.specs.declared.case.TheConstants.{SENDING_MAX, NUMBERS}
use Rattle.gate_cases.specs.declared.case.GateCase.{GateCase}
use Rattle.gate_cases.specs.declared.case.GateCase.TheVariants.{Expired, HopLimit}
use Rattle.gate_cases.specs.declared.case.Room.{Room}
use Rattle.gate_cases.specs.declared.face.Face.{Face}
use Rattle.gate_cases.specs.declared.sending.Sent.{Sent}
use Rattle.gate_cases.specs.Faces.{octets_at, fits_at}
use Rattle.gate_cases.specs.Blocks.{Arrival}
use Rattle.gate_cases.specs.Passage.{has_no_hop_left}
use Rattle.gate_cases.specs.Cases.{lacks, stops, or_passed, pieces_if, records_of}

-- there is a session for each of so many pieces
abbrev pub has_sessions : Room → ℕ → Bool
has_sessions room n = not (nat_lt SENDING_MAX (room.sending + n) || nat_lt NUMBERS (room.next_session + n))

-- in a case, records that would go on to a face
abbrev pub sent_in : Face → List Full → GateCase → Sent
sent_in to records case = record { case = case; pieces = pieces_if case (map (octets_at to) records) }

-- records that made their hop
abbrev pub sent_records : Face → List Full → Room → Sent
sent_records to records room = sent_in to records (or_passed (first_that_holds (lacks to records room)))

-- for these records there is room but for their octets: each fits its blocks, and has a session
pub record HaveSessions (to : Face) (records : List Full) (room : Room) : Type 0 where
  pub fit : list_all (fits_at to) records ≡ true
  pub sessions : has_sessions room (length records) ≡ true

-- what ends the way of a record, whatever there is at the other face
abbrev pub ends : Full → ℕ → List (GateCase × Bool)
ends full now = (Expired, nat_lt full.shared.expiry now) ∷ (HopLimit, has_no_hop_left full.exts) ∷ []

-- a record that was read
abbrev pub sent_full : Face → Full → ℕ → ℕ → Room → Sent
sent_full to full now cut room = sent_in to (records_of full cut) (or_passed (first_that_holds
    ((Expired, nat_lt full.shared.expiry now) ∷ (HopLimit, has_no_hop_left full.exts)
    ∷ lacks to (records_of full cut) room)))

-- a bundle
abbrev pub sent_arrival : Face → Arrival → ℕ → ℕ → Room → Sent
sent_arrival to arrival now cut room =
    sent_in to (records_of arrival.full cut) (or_passed (first_that_holds (stops to arrival now cut room)))

-- the record that a bundle reads as, or why it isn't translated
abbrev pub Reads : Option Refused → Full → Result Full Refused → Type 0
Reads first value (Ok full) = (first ≡ None) × (full ≡ value)
Reads first value (Err cause) = first ≡ Some cause
