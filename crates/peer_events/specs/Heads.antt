-- What stands in the lines: which event each is, where it happened, and its numbers.

use Rattle.std.specs.Prelude.{ℕ, List, [], ◌∷◌, codes, length, Option, None, Some, if◌then◌else◌}
use Rattle.std.specs.Option.{option_map}
use Rattle.std.specs.Str.{bytes_eq}
use Rattle.serde_json.specs.Data.{Data, string}
use Rattle.ltp_segment.specs.declared.session.Note.{Note}
use Rattle.ltp_segment.specs.declared.session.Note.TheVariants as engine
use Rattle.gate_cases.specs.declared.case.GateCase.{GateCase}
use Rattle.gate_cases.specs.declared.case.GateCase.TheVariants as cases
use Rattle.gate_log.specs.declared.event.Event.{Event}
use Rattle.gate_log.specs.Values.{Entry, count}
use Rattle.gate_log.specs.Lines.{event_entries, face_word}
use Rattle.peer_gateway.specs.Gate.{Told, FaceTold, told_engine, told_forgotten, told_green, told_began, told_bundle, told_case, told_left, told_reported, told_unreported, told_end}

-- ---- in a line

-- what stands under a key, if it is there
unfoldable pub under : List ℕ → List Entry → Option Data
under key [] = None
under key (entry ∷ entries) = if bytes_eq entry.0 key then Some entry.1 else under key entries

abbrev pub in_line : List ℕ → Event → Option Data
in_line key event = under key (event_entries event)

-- which event it is; at which face; in which session; and at which place in a row
pub record Heads : Type 0 where
  pub event : Option Data
  pub face : Option Data
  pub session : Option Data
  pub index : Option Data

abbrev pub heads_of : Event → Heads
heads_of event = record {
  event = in_line (codes "event") event;
  face = in_line (codes "face") event;
  session = in_line (codes "session") event;
  index = in_line (codes "index") event;
}

-- ---- of what is told

abbrev pub word_of_note : Note → List ℕ
word_of_note (engine.Sent session) = codes "sent"
word_of_note (engine.Failed session reason) = codes "failed"
word_of_note (engine.Refused session service) = codes "refused"
word_of_note (engine.Cancelled session reason) = codes "cancelled"
word_of_note (engine.Evicted session) = codes "evicted"
word_of_note engine.Stranger = codes "stranger"
word_of_note (engine.BadSegment at cause) = codes "bad_segment"
word_of_note (engine.BadBounds session) = codes "bad_bounds"
word_of_note (engine.Closed session) = codes "closed"
word_of_note (engine.HistoryFull session) = codes "history_full"

abbrev pub session_of_note : Note → Option ℕ
session_of_note (engine.Sent session) = Some session
session_of_note (engine.Failed session reason) = Some session
session_of_note (engine.Refused session service) = Some session
session_of_note (engine.Cancelled session reason) = Some session
session_of_note (engine.Evicted session) = Some session
session_of_note engine.Stranger = None
session_of_note (engine.BadSegment at cause) = None
session_of_note (engine.BadBounds session) = Some session
session_of_note (engine.Closed session) = Some session
session_of_note (engine.HistoryFull session) = Some session

abbrev pub word_of_case : GateCase → List ℕ
word_of_case (cases.BadBundle at cause) = codes "bad_bundle"
word_of_case (cases.Untranslated cause) = codes "untranslated"
word_of_case cases.Expired = codes "expired"
word_of_case cases.HopLimit = codes "hop_limit"
word_of_case cases.Storage = codes "storage"
word_of_case cases.Passed = codes "passed"

-- with a name alone no line is written
abbrev pub word_of : Told → Option (List ℕ)
word_of (told_engine note) = Some (word_of_note note)
word_of (told_forgotten runs) = Some (codes "forgotten")
word_of (told_green green) = Some (codes "green")
word_of (told_began pieces octets session) = Some (codes "began")
word_of (told_bundle subject) = None
word_of (told_case index session case pieces first) = Some (word_of_case case)
word_of (told_left index session left) = Some (codes "left_out")
word_of (told_reported index session report) = Some (codes "reported")
word_of (told_unreported index session) = Some (codes "unreported")
word_of (told_end index session end) = Some (codes "bad_bundle")

abbrev pub session_of : Told → Option ℕ
session_of (told_engine note) = session_of_note note
session_of (told_forgotten runs) = None
session_of (told_green green) = Some green.session
session_of (told_began pieces octets session) = Some session
session_of (told_bundle subject) = None
session_of (told_case index session case pieces first) = Some session
session_of (told_left index session left) = Some session
session_of (told_reported index session report) = Some session
session_of (told_unreported index session) = Some session
session_of (told_end index session end) = Some session

abbrev pub index_of : Told → Option ℕ
index_of (told_engine note) = None
index_of (told_forgotten runs) = None
index_of (told_green green) = None
index_of (told_began pieces octets session) = None
index_of (told_bundle subject) = None
index_of (told_case index session case pieces first) = index
index_of (told_left index session left) = index
index_of (told_reported index session report) = index
index_of (told_unreported index session) = index
index_of (told_end index session end) = index

abbrev pub heads_with : FaceTold → List ℕ → Heads
heads_with t word = record {
  event = Some (string word);
  face = Some (string (face_word t.face));
  session = option_map count (session_of t.told);
  index = option_map count (index_of t.told);
}

-- ---- numbers, but for how many bundles a session of the gateway's own carried

-- how many octets they are, and from which place on; how many pieces go on, and the session of the first;
-- the session of a report; and how many runs were forgotten
pub record Numbers : Type 0 where
  pub octets : Option Data
  pub offset : Option Data
  pub pieces : Option Data
  pub first : Option Data
  pub report : Option Data
  pub runs : Option Data

abbrev pub numbers_of : Event → Numbers
numbers_of event = record {
  octets = in_line (codes "octets") event;
  offset = in_line (codes "offset") event;
  pieces = in_line (codes "pieces") event;
  first = in_line (codes "first") event;
  report = in_line (codes "report") event;
  runs = in_line (codes "runs") event;
}

abbrev pub no_numbers : Numbers
no_numbers = record {
  octets = None;
  offset = None;
  pieces = None;
  first = None;
  report = None;
  runs = None;
}

abbrev pub numbers_passed : ℕ → Option ℕ → Numbers
numbers_passed pieces first =
    record no_numbers { pieces = Some (count pieces); first = option_map count first }

abbrev pub numbers_in_case : GateCase → ℕ → Option ℕ → Numbers
numbers_in_case (cases.BadBundle at cause) pieces first = no_numbers
numbers_in_case (cases.Untranslated cause) pieces first = no_numbers
numbers_in_case cases.Expired pieces first = no_numbers
numbers_in_case cases.HopLimit pieces first = no_numbers
numbers_in_case cases.Storage pieces first = no_numbers
numbers_in_case cases.Passed pieces first = numbers_passed pieces first

abbrev pub numbers_told : Told → Numbers
numbers_told (told_engine note) = no_numbers
numbers_told (told_forgotten runs) = record no_numbers { runs = Some (count runs) }
numbers_told (told_green green) = record no_numbers {
  octets = Some (count (length green.body));
  offset = Some (count green.offset);
}
numbers_told (told_began pieces octets session) =
    record no_numbers { octets = Some (count octets) }
numbers_told (told_bundle subject) = no_numbers
numbers_told (told_case index session case pieces first) = numbers_in_case case pieces first
numbers_told (told_left index session left) = no_numbers
numbers_told (told_reported index session report) =
    record no_numbers { report = option_map count report }
numbers_told (told_unreported index session) = no_numbers
numbers_told (told_end index session end) = no_numbers

-- ---- both

pub record Line : Type 0 where
  pub heads : Heads
  pub numbers : Numbers

abbrev pub line_of : Event → Line
line_of event = record { heads = heads_of event; numbers = numbers_of event }

abbrev pub line_with : FaceTold → List ℕ → Line
line_with t word = record { heads = heads_with t word; numbers = numbers_told t.told }

-- what is told has this line, if it has one
abbrev pub line_told : FaceTold → Option Line
line_told t = option_map (line_with t) (word_of t.told)
