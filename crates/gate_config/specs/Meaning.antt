-- What a document means: the first reason to refuse it, or the values with the defaults filled in.

use Rattle.std.specs.Prelude.{ℕ, ◌+◌, max, Bool, false, not, ◌||◌, ◌==◌, nat_lt}
use Rattle.std.specs.Prelude.{List, [], ◌∷◌, Option, Some, None, option_map, option_and_then}
use Rattle.std.specs.Prelude.{unwrap_or, Result, Ok, Err, codes, if◌then◌else◌}
use Rattle.std.specs.List.{list_any}
use Rattle.std.specs.Str.{bytes_eq}
use Rattle.endpoint.specs.declared.name.Endpoint.{Endpoint}
use Rattle.endpoint.specs.declared.name.Endpoint.TheVariants as names
use Rattle.endpoint.specs.declared.fault.EndpointFault.{EndpointFault}
use Rattle.endpoint.specs.Reading.{read_text}
use Rattle.toml.specs.Data.{Data, Items, no_items, item, Members, no_members, member, as_table}
use Rattle.gate_config.specs.declared.keys.Key.{Key}
use Rattle.gate_config.specs.declared.keys.Key.TheVariants as keys
use Rattle.gate_config.specs.declared.keys.Section.{Section}
use Rattle.gate_config.specs.declared.keys.Section.TheVariants as sections
use Rattle.gate_config.specs.declared.fault.Within.{Within}
use Rattle.gate_config.specs.declared.fault.Within.TheVariants as places
use Rattle.gate_config.specs.declared.fault.Wanted.TheVariants as wants
use Rattle.gate_config.specs.declared.fault.Refusal.{Refusal}
use Rattle.gate_config.specs.declared.fault.Refusal.TheVariants as refusals
use Rattle.gate_config.specs.declared.file.GateFile.{GateFile}
use Rattle.gate_config.specs.declared.file.GatewayConfig.{GatewayConfig}
use Rattle.gate_config.specs.declared.file.FaceConfig.{FaceConfig}
use Rattle.gate_config.specs.declared.file.Accept.{Accept}
use Rattle.gate_config.specs.declared.file.Accept.TheVariants as accepts
use Rattle.gate_config.specs.declared.file.Age.{Age}
use Rattle.gate_config.specs.declared.file.Age.TheVariants as ages
use Rattle.gate_config.specs.declared.file.ForeignBlocks.{ForeignBlocks}
use Rattle.gate_config.specs.declared.file.ForeignBlocks.TheVariants as foreigns
use Rattle.gate_config.specs.declared.file.BlocksConfig.{BlocksConfig}
use Rattle.gate_config.specs.declared.file.Contact.{Contact}
use Rattle.gate_config.specs.Keys.{name_of, kind_of, default_of, key_of}
use Rattle.gate_config.specs.Keys.{file_keys, keys_of, contact_keys}
use Rattle.gate_config.specs.Refusals.{wanted_of, first_of}
use Rattle.gate_config.specs.Values.{at, fits, number_at, text_at, moment_at, contacts_at}

-- ---- why a table is refused

abbrev pub is_known : List Key → List ℕ → Bool
is_known known name = list_any (λ key. bytes_eq (name_of key) name) known

-- the first key, by its octets, that isn't known; the keys of a table stand in that order
unfoldable pub first_unknown : List Key → Members → Option (List ℕ)
first_unknown known no_members = None
first_unknown known (member name value more) =
    if is_known known name then first_unknown known more else Some name

abbrev pub unknown_in : Within → List Key → Option Data → Option Refusal
unknown_in within known place =
    option_map (refusals.NoKey within)
    (option_and_then (first_unknown known) (option_and_then as_table place))

-- the first of these keys at which not stands what its kind wants
unfoldable pub first_misfit : Within → List Key → Option Data → Option Refusal
first_misfit within [] place = None
first_misfit within (key ∷ more) place =
    if fits (kind_of key) (at key place) then first_misfit within more place
    else Some (refusals.Wrong within key (wanted_of (kind_of key)))

unfoldable pub table_refusal : Within → List Key → Option Data → Option Refusal
table_refusal within known place =
    first_of (unknown_in within known place) (first_misfit within known place)

abbrev pub refuse_if : Bool → Refusal → Option Refusal
refuse_if test refusal = if test then Some refusal else None

-- ---- why a contact is refused: where it stands in the list, and when the one before ends

abbrev pub order_refusal : Within → ℕ → ℕ → ℕ → Option Refusal
order_refusal within before from to =
    first_of (refuse_if (not (nat_lt from to)) (refusals.Wrong within keys.To wants.AfterFrom))
    (refuse_if (nat_lt from before) (refusals.Wrong within keys.From wants.NotBeforeEnd))

unfoldable pub contact_refusal : Within → ℕ → Data → Option Refusal
contact_refusal within before value =
    first_of (table_refusal within contact_keys (Some value))
    (order_refusal within before (moment_at keys.From (Some value))
    (moment_at keys.To (Some value)))

unfoldable pub contacts_refusal : Section → ℕ → ℕ → Items → Option Refusal
contacts_refusal face index before no_items = None
contacts_refusal face index before (item value more) =
    first_of (contact_refusal (places.Contact face index) before value)
    (contacts_refusal face (index + 1) (moment_at keys.To (Some value)) more)

-- ---- why a face is refused

-- a number with its default
abbrev pub number_in : Section → Key → Option Data → ℕ
number_in section key place = unwrap_or (number_at key place) (default_of section key)

-- the greatest timeout: left out, it isn't below the first
abbrev pub cap_in : Section → Option Data → ℕ
cap_in section place =
    unwrap_or (number_at keys.CapMs place)
    (max (default_of section keys.CapMs) (number_in section keys.TimeoutMs place))

unfoldable pub face_refusal : Section → Option Data → Option Refusal
face_refusal face place =
    first_of (table_refusal (places.Table face) (keys_of face) place)
    (first_of (refuse_if (nat_lt (cap_in face place) (number_in face keys.TimeoutMs place))
    (refusals.Wrong (places.Table face) keys.CapMs wants.NotBelowTimeout))
    (first_of (contacts_refusal face 0 0 (contacts_at place))
    (refuse_if (number_in face keys.Engine place == number_in face keys.PeerEngine place)
    (refusals.Wrong (places.Table face) keys.PeerEngine wants.OtherNumber))))

-- ---- why the types of blocks are refused

-- a residue and a wrap have types of their own, of which neither is the other's on the other side
unfoldable pub blocks_refusal : Option Data → Option Refusal
blocks_refusal place =
    first_of (refuse_if (number_in sections.New keys.ResidueBlock place == 193)
    (refusals.Wrong (places.Table sections.New) keys.ResidueBlock wants.NotWrap))
    (refuse_if (number_in sections.New keys.WrapBlock place == 192
    || number_in sections.New keys.WrapBlock place
    == number_in sections.New keys.ResidueBlock place)
    (refusals.Wrong (places.Table sections.New) keys.WrapBlock wants.NotResidue))

-- ---- why a document is refused

abbrev pub same_text : Option (List ℕ) → Option (List ℕ) → Bool
same_text (Some one) (Some other) = bytes_eq one other
same_text (Some one) None = false
same_text None other = false

abbrev pub section_of : Section → Option Data → Option Data
section_of section document = at (key_of section) document

unfoldable pub refusal_of : Option Data → Option Refusal
refusal_of document =
    first_of (table_refusal places.File file_keys document)
    (first_of (table_refusal (places.Table sections.Gateway) (keys_of sections.Gateway)
    (section_of sections.Gateway document))
    (first_of (face_refusal sections.Old (section_of sections.Old document))
    (first_of (face_refusal sections.New (section_of sections.New document))
    (first_of (blocks_refusal (section_of sections.New document))
    (refuse_if (same_text (text_at keys.Journal (section_of sections.Gateway document))
    (text_at keys.Metrics (section_of sections.Gateway document)))
    (refusals.Wrong (places.Table sections.Gateway) keys.Metrics wants.OtherPath))))))

-- ---- the values of a document that isn't refused

abbrev pub contact_of : Data → Contact
contact_of value = record {
  from = moment_at keys.From (Some value);
  to = moment_at keys.To (Some value);
  rate = number_at keys.Rate (Some value);
}

unfoldable pub contacts_of : Items → List Contact
contacts_of no_items = []
contacts_of (item value more) = contact_of value ∷ contacts_of more

-- from where datagrams are taken; left out, from any port of the peer's address
abbrev pub accept_of : Option (List ℕ) → Accept
accept_of None = accepts.Address
accept_of (Some text) = if bytes_eq text (codes "port") then accepts.Port else accepts.Address

abbrev pub face_of : Section → Option Data → FaceConfig
face_of face place = record {
  bind = unwrap_or (text_at keys.Bind place) [];
  peer = unwrap_or (text_at keys.Peer place) [];
  engine = number_in face keys.Engine place;
  peer_engine = number_in face keys.PeerEngine place;
  segment = number_in face keys.Segment place;
  timeout_ms = number_in face keys.TimeoutMs place;
  limit = number_in face keys.Limit place;
  cap_ms = cap_in face place;
  first_session = number_at keys.FirstSession place;
  rate = number_at keys.Rate place;
  outbox = number_in face keys.Outbox place;
  accept = accept_of (text_at keys.Accept place);
  sessions = number_in face keys.Sessions place;
  memory = number_in face keys.Memory place;
  aggregate = number_in face keys.Aggregate place;
  aggregate_ms = number_in face keys.AggregateMs place;
  remember = number_in face keys.Remember place;
  remember_ms = number_in face keys.RememberMs place;
  contacts = contacts_of (contacts_at place);
}

-- whether there are private blocks; left out, there are
abbrev pub foreign_of : Option (List ℕ) → ForeignBlocks
foreign_of None = foreigns.Wrap
foreign_of (Some text) = if bytes_eq text (codes "drop") then foreigns.Drop else foreigns.Wrap

abbrev pub blocks_of : Option Data → BlocksConfig
blocks_of place = record {
  residue_block = number_in sections.New keys.ResidueBlock place;
  wrap_block = number_in sections.New keys.WrapBlock place;
  foreign_blocks = foreign_of (text_at keys.ForeignBlocks place);
}

-- what becomes of an age; left out, it is raised
abbrev pub age_of : Option (List ℕ) → Age
age_of None = ages.Raise
age_of (Some text) = if bytes_eq text (codes "keep") then ages.Keep else ages.Raise

abbrev pub endpoint_or_null : Result Endpoint EndpointFault → Endpoint
endpoint_or_null (Ok endpoint) = endpoint
endpoint_or_null (Err fault) = names.Null

abbrev pub gateway_of : Option Data → GatewayConfig
gateway_of place = record {
  endpoint = endpoint_or_null (read_text (unwrap_or (text_at keys.Endpoint place) []));
  cut = number_in sections.Gateway keys.Cut place;
  age = age_of (text_at keys.Age place);
  journal = text_at keys.Journal place;
  metrics = text_at keys.Metrics place;
}

abbrev pub file_of : Option Data → GateFile
file_of document = record {
  gateway = gateway_of (section_of sections.Gateway document);
  old = face_of sections.Old (section_of sections.Old document);
  new = face_of sections.New (section_of sections.New document);
  blocks = blocks_of (section_of sections.New document);
}
