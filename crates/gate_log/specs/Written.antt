-- An object as it is written: member by member.

use Rattle.std.specs.Prelude.{◌≡◌, ℕ, true, nat_lt, List, [], ◌++◌, drop, flat_map, codes, Option, None, Some}
use Rattle.std.specs.Fmt.{decimal}
use Rattle.std.specs.List.{list_all}
use Rattle.json.specs.Print.{escape, quoted}
use Rattle.serde_json.specs.Written.{compact_text}
use Rattle.gate_log.specs.declared.event.Event.{Event}
use Rattle.gate_log.specs.declared.subject.Subject.{Subject}
use Rattle.gate_log.specs.Values.{Entry, count, moment, created, subject_entries}
use Rattle.gate_log.specs.Lines.{event_entries}

-- a text that stands in a string as it is
abbrev pub IsPlain : List ℕ → Type 0
IsPlain text = escape text ≡ text

-- in quotes, without escapes
abbrev pub in_quotes : List ℕ → List ℕ
in_quotes text = codes "\"" ++ (text ++ codes "\"")

-- a name by numbers
abbrev pub ipn_text : (node service : ℕ) → List ℕ
ipn_text node service = codes "ipn:" ++ (decimal node ++ (codes "." ++ decimal service))

-- octets below 128 are text
abbrev pub AreLow : List ℕ → Type 0
AreLow octets = list_all (λ octet. nat_lt octet 128) octets ≡ true

-- a member after another one
unfoldable pub later_text : Entry → List ℕ
later_text entry = codes "," ++ (quoted entry.0 ++ (codes ":" ++ compact_text entry.1))

abbrev pub later_texts : List Entry → List ℕ
later_texts = flat_map later_text

-- a member that is a number, where there is one
abbrev pub later_if : List ℕ → Option ℕ → List ℕ
later_if key None = []
later_if key (Some n) = later_text (key, count n)

-- a line, and a subject, as they are written
abbrev pub written_line : ℕ → Event → List ℕ
written_line at event =
    codes "{\"at\":" ++ (compact_text (moment at) ++ (later_texts (event_entries event)
    ++ codes "}\n"))

abbrev pub subject_rest : Subject → List Entry
subject_rest s = drop 1 (subject_entries s)

abbrev pub written_bundle : Subject → List ℕ
written_bundle s =
    codes "{\"creation\":" ++ (compact_text (created s.creation) ++ (later_texts (subject_rest s)
    ++ codes "}"))
