-- What stands at a key of a table, and whether it is of the key's kind.

use Rattle.std.specs.Prelude.{ℕ, ◌+◌, Bool, true, false, not, ◌&&◌, ◌||◌, ◌==◌, nat_le, pos, codes}
use Rattle.std.specs.Prelude.{List, length, Option, Some, None, option_and_then, unwrap_or, is_some}
use Rattle.std.specs.Prelude.{Result, Ok, Err}
use Rattle.std.specs.List.{list_any}
use Rattle.std.specs.Str.{bytes_eq}
use Rattle.endpoint.specs.declared.name.Endpoint.{Endpoint}
use Rattle.endpoint.specs.declared.name.Endpoint.TheVariants as names
use Rattle.endpoint.specs.declared.fault.EndpointFault.{EndpointFault}
use Rattle.endpoint.specs.Reading.{read_text}
use Rattle.moment_text.specs.Moments.{moment_of}
use Rattle.toml.specs.Data.{Data, Items, no_items, item, table, integer, datetime, get}
use Rattle.toml.specs.Data.{as_str, as_array}
use Rattle.gate_config.specs.declared.keys.Key.{Key}
use Rattle.gate_config.specs.declared.keys.Key.TheVariants as keys
use Rattle.gate_config.specs.declared.keys.Kind.{Kind}
use Rattle.gate_config.specs.declared.keys.Kind.TheVariants as kinds
use Rattle.gate_config.specs.Keys.{name_of}

-- what stands at a key of a table, if there is the table and the key
abbrev pub at : Key → Option Data → Option Data
at key place = option_and_then (get (name_of key)) place

-- the whole number that a value is; a float is none
abbrev pub whole_of : Data → Option ℕ
whole_of (integer (pos number)) = Some number
whole_of _ = None

-- the moment that a value is
abbrev pub moment_in : Data → Option ℕ
moment_in (datetime when) = moment_of when
moment_in _ = None

-- ---- kinds

abbrev pub is_within : ℕ → ℕ → ℕ → Bool
is_within low high number = nat_le low number && nat_le number high

abbrev pub is_whole : ℕ → ℕ → Option ℕ → Bool
is_whole low high None = false
is_whole low high (Some number) = is_within low high number

-- a text of 1 octet to this many, none of them zero
abbrev pub is_text : ℕ → Option (List ℕ) → Bool
is_text most None = false
is_text most (Some text) =
    is_within 1 most (length text) && not (list_any (λ octet. octet == 0) text)

-- an endpoint was read, and it isn't the null endpoint
abbrev pub is_named : Result Endpoint EndpointFault → Bool
is_named (Ok names.Null) = false
is_named (Ok endpoint) = true
is_named (Err fault) = false

abbrev pub is_endpoint : Option (List ℕ) → Bool
is_endpoint None = false
is_endpoint (Some text) = is_named (read_text text)

-- one of two words
abbrev pub is_either : List ℕ → List ℕ → Option (List ℕ) → Bool
is_either one other None = false
is_either one other (Some text) = bytes_eq text one || bytes_eq text other

abbrev pub is_table : Data → Bool
is_table (table rows) = true
is_table _ = false

abbrev pub item_count : Items → ℕ
item_count no_items = 0
item_count (item value values) = item_count values + 1

abbrev pub all_tables : Items → Bool
all_tables no_items = true
all_tables (item value values) = is_table value && all_tables values

abbrev pub is_contacts : Option Items → Bool
is_contacts None = false
is_contacts (Some values) = is_within 1 4096 (item_count values) && all_tables values

-- a value is of this kind
unfoldable pub is_of : Kind → Data → Bool
is_of kinds.Table value = is_table value
is_of kinds.Endpoint value = is_endpoint (as_str value)
is_of kinds.Address value = is_text 64 (as_str value)
is_of kinds.Path value = is_text 4096 (as_str value)
is_of (kinds.Whole low high) value = is_whole low high (whole_of value)
is_of kinds.Accept value = is_either (codes "address") (codes "port") (as_str value)
is_of kinds.Age value = is_either (codes "raise") (codes "keep") (as_str value)
is_of kinds.ForeignBlocks value = is_either (codes "wrap") (codes "drop") (as_str value)
is_of kinds.Contacts value = is_contacts (as_array value)
is_of kinds.Moment value = is_some (moment_in value)

-- a key of this kind may be left out
abbrev pub may_lack : Kind → Bool
may_lack kinds.Table = false
may_lack kinds.Endpoint = false
may_lack kinds.Address = false
may_lack kinds.Path = true
may_lack (kinds.Whole low high) = true
may_lack kinds.Accept = true
may_lack kinds.Age = true
may_lack kinds.ForeignBlocks = true
may_lack kinds.Contacts = true
may_lack kinds.Moment = false

-- what stands at a key, or nothing, is as the kind wants it
unfoldable pub fits : Kind → Option Data → Bool
fits kind None = may_lack kind
fits kind (Some value) = is_of kind value

-- ---- values

abbrev pub number_at : Key → Option Data → Option ℕ
number_at key place = option_and_then whole_of (at key place)

abbrev pub text_at : Key → Option Data → Option (List ℕ)
text_at key place = option_and_then as_str (at key place)

abbrev pub moment_at : Key → Option Data → ℕ
moment_at key place = unwrap_or (option_and_then moment_in (at key place)) 0

-- the contacts of a face
abbrev pub contacts_at : Option Data → Items
contacts_at place = unwrap_or (option_and_then as_array (at keys.Contact place)) no_items
