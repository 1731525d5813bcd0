-- What stands under the keys of a line.

use Rattle.std.specs.Prelude.{ℕ, List, [], ◌∷◌, codes, Option, Some, None}
use Rattle.serde_json.specs.Data.{Data, null, number, string, array, object, unsigned}
use Rattle.serde_json.specs.Data.{Items, no_items, item, Members, no_members, member}
use Rattle.endpoint.specs.declared.extent.Fragment.{Fragment}
use Rattle.endpoint.specs.declared.name.Endpoint.{Endpoint}
use Rattle.endpoint.specs.Endpoints.{text_of}
use Rattle.moment_text.specs.Text.{moment_text}
use Rattle.gate_cases.specs.declared.report.Creation.{Creation}
use Rattle.gate_cases.specs.declared.report.Creation.TheVariants as creations
use Rattle.gate_log.specs.declared.subject.Subject.{Subject}

-- ---- JSON

-- a key, and what stands under it
abbrev pub Entry : Type 0
Entry = List ℕ × Data

abbrev pub keys_of : List Entry → Members
keys_of [] = no_members
keys_of (entry ∷ entries) = member entry.0 entry.1 (keys_of entries)

abbrev pub object_of : List Entry → Data
object_of entries = object (keys_of entries)

abbrev pub count : ℕ → Data
count n = number (unsigned n)

-- numbers of a list, in order
abbrev pub count_items : List ℕ → Items
count_items [] = no_items
count_items (n ∷ more) = item (count n) (count_items more)

abbrev pub counts : List ℕ → Data
counts numbers = array (count_items numbers)

abbrev pub two : ℕ → ℕ → Data
two first second = array (item (count first) (item (count second) no_items))

abbrev pub or_null : {A : Type 0} → (A → Data) → Option A → Data
or_null data_of None = null
or_null data_of (Some x) = data_of x

-- ---- what a line speaks of

abbrev pub moment : ℕ → Data
moment at = string (moment_text at)

abbrev pub name : Endpoint → Data
name endpoint = string (text_of endpoint)

-- a fragment is its offset and the total
abbrev pub part : Fragment → Data
part fragment = two fragment.offset fragment.total

-- in seconds or in milliseconds, as the version has it, and the sequence number
abbrev pub created : Creation → Data
created (creations.Six id) = two id.seconds id.sequence
created (creations.Seven id) = two id.millis id.sequence

abbrev pub version_of : Creation → ℕ
version_of (creations.Six id) = 6
version_of (creations.Seven id) = 7

abbrev pub subject_entries : Subject → List Entry
subject_entries s =
    (codes "creation", created s.creation)
    ∷ (codes "destination", name s.destination)
    ∷ (codes "fragment", or_null part s.fragment)
    ∷ (codes "payload", count s.payload)
    ∷ (codes "source", name s.source)
    ∷ (codes "version", count (version_of s.creation))
    ∷ []

abbrev pub bundle : Subject → Data
bundle s = object_of (subject_entries s)
