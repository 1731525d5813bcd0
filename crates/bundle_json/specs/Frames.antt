-- What is handed to serde_json: a bundle without its blocks or with the last of them alone, a block
-- without its octets and references, and a name. What stays out goes in between.
use Rattle.std.specs.Prelude.{ℕ, List, [], ◌∷◌, ◌++◌, Option, Some, None, codes}
use Rattle.std.specs.Fmt.{decimal}
use Rattle.std.specs.String.{string_bytes}
use Rattle.serde_json.specs.Data.{Data, string, array, object, item, no_items, Members, member}
use Rattle.bundle6.specs.declared.primary.Primary6.{Primary6}
use Rattle.bundle7.specs.declared.bundle.Bundle7.{Bundle7}
use Rattle.bundle_json.specs.declared.name.Spelled.{Spelled}
use Rattle.bundle_json.specs.declared.name.Spelled.TheVariants as names
use Rattle.bundle_json.specs.declared.shown.Frame6.{Frame6}
use Rattle.bundle_json.specs.declared.shown.Rest.{Rest}
use Rattle.bundle_json.specs.declared.shown.Head6.{Head6}
use Rattle.bundle_json.specs.declared.shown.Head7.{Head7}
use Rattle.bundle_json.specs.Json.{count, two, part, keys_of, fields6, fields7}

-- an array without items, and of one
abbrev pub empty : Data
empty = array no_items

abbrev pub one : Data → Data
one value = array (item value no_items)

-- ---- names

-- the text of two numbers
abbrev pub ipn_text : ℕ → ℕ → List ℕ
ipn_text node service = codes "ipn:" ++ (decimal node ++ (codes "." ++ decimal service))

-- the text that a name is sent as
abbrev pub said : Spelled → List ℕ
said names.Null = codes "dtn:none"
said (names.Ipn node service) = ipn_text node service
said (names.Text text) = string_bytes text

-- ---- blocks

abbrev pub frame6 : (flags kind : ℕ) → Data
frame6 flags kind = object (keys_of (
    (codes "body", string [])
    ∷ (codes "flags", count flags)
    ∷ (codes "kind", count kind)
    ∷ (codes "refs", empty)
    ∷ []))

abbrev pub frame7 : (crc flags kind number : ℕ) → Data
frame7 crc flags kind number = object (keys_of (
    (codes "body", string [])
    ∷ (codes "crc", count crc)
    ∷ (codes "flags", count flags)
    ∷ (codes "kind", count kind)
    ∷ (codes "number", count number)
    ∷ []))

-- the last block of version 6, or none
abbrev pub last_block : Option Frame6 → Data
last_block None = empty
last_block (Some frame) = one (frame6 frame.flags frame.kind)

-- ---- bundles

abbrev pub head6 : Data → Primary6 → Data
head6 blocks primary = object (keys_of ((codes "blocks", blocks) ∷ fields6 primary))

abbrev pub head7 : Bundle7 → Data
head7 bundle = object (keys_of (
    (codes "blocks", one (frame7 bundle.payload.crc bundle.payload.flags bundle.payload.kind bundle.payload.number))
    ∷ fields7 bundle.primary))

-- ---- what they are sent as

abbrev pub rest_members : Rest → Members
rest_members rest = keys_of (
    (codes "destination", string (said rest.destination))
    ∷ (codes "flags", count rest.flags)
    ∷ (codes "fragment", part rest.fragment)
    ∷ (codes "lifetime", count rest.lifetime)
    ∷ (codes "report_to", string (said rest.report_to))
    ∷ (codes "source", string (said rest.source))
    ∷ (codes "version", count rest.version)
    ∷ [])

abbrev pub head6_shown : Head6 → Data
head6_shown head = object (
    member (codes "blocks") (last_block head.last)
    (member (codes "creation") (two head.creation.0 head.creation.1)
    (member (codes "custodian") (string (said head.custodian)) (rest_members head.rest))))

abbrev pub head7_shown : Head7 → Data
head7_shown head = object (
    member (codes "blocks") (one (frame7 head.last.crc head.last.flags head.last.kind head.last.number))
    (member (codes "crc") (count head.crc)
    (member (codes "creation") (two head.creation.0 head.creation.1) (rest_members head.rest))))
