-- The text that shows what a file means: every number that it has, defaults too, in the order of
-- the keys, but none that is left out for good.

use Rattle.std.specs.Prelude.{ℕ, List, [], ◌∷◌, ◌++◌, codes, Option, Some, None}
use Rattle.std.specs.Fmt.{decimal}
use Rattle.endpoint.specs.Endpoints.{text_of}
use Rattle.moment_text.specs.Text.{moment_text}
use Rattle.toml_writer.specs.Text.{encoded, basic}
use Rattle.gate_config.specs.declared.keys.Key.{Key}
use Rattle.gate_config.specs.declared.keys.Key.TheVariants as keys
use Rattle.gate_config.specs.declared.keys.Section.{Section}
use Rattle.gate_config.specs.declared.keys.Section.TheVariants as sections
use Rattle.gate_config.specs.declared.file.GateFile.{GateFile}
use Rattle.gate_config.specs.declared.file.GatewayConfig.{GatewayConfig}
use Rattle.gate_config.specs.declared.file.FaceConfig.{FaceConfig}
use Rattle.gate_config.specs.declared.file.Accept.{Accept}
use Rattle.gate_config.specs.declared.file.Accept.TheVariants as accepts
use Rattle.gate_config.specs.declared.file.Age.{Age}
use Rattle.gate_config.specs.declared.file.Age.TheVariants as ages
use Rattle.gate_config.specs.declared.file.ForeignBlocks.{ForeignBlocks}
use Rattle.gate_config.specs.declared.file.ForeignBlocks.TheVariants as foreigns
use Rattle.gate_config.specs.declared.file.BlocksConfig.{BlocksConfig}
use Rattle.gate_config.specs.declared.file.Contact.{Contact}
use Rattle.gate_config.specs.Keys.{name_of, key_of}

-- a text as a TOML basic string: quoted, with escapes where one is needed
unfoldable pub basic_string : List ℕ → List ℕ
basic_string text = encoded basic text

-- key and value, a line
unfoldable pub value_line : Key → List ℕ → List ℕ
value_line key value = name_of key ++ (codes " = " ++ (value ++ codes "\n"))

abbrev pub text_line : Key → List ℕ → List ℕ
text_line key text = value_line key (basic_string text)

abbrev pub number_line : Key → ℕ → List ℕ
number_line key number = value_line key (decimal number)

abbrev pub text_if : Key → Option (List ℕ) → List ℕ
text_if key None = []
text_if key (Some text) = text_line key text

abbrev pub number_if : Key → Option ℕ → List ℕ
number_if key None = []
number_if key (Some number) = number_line key number

abbrev pub age_word : Age → List ℕ
age_word ages.Raise = codes "raise"
age_word ages.Keep = codes "keep"

unfoldable pub gateway_shown : GatewayConfig → List ℕ
gateway_shown gateway =
    codes "[gateway]\n" ++ (text_line keys.Endpoint (text_of gateway.endpoint)
    ++ (number_line keys.Cut gateway.cut ++ (text_line keys.Age (age_word gateway.age)
    ++ (text_if keys.Journal gateway.journal ++ text_if keys.Metrics gateway.metrics))))

-- each header but the first stands after an empty line
unfoldable pub face_header : Section → List ℕ
face_header face = codes "\n[" ++ (name_of (key_of face) ++ codes "]\n")

unfoldable pub contact_header : Section → List ℕ
contact_header face = codes "\n[[" ++ (name_of (key_of face) ++ codes ".contact]]\n")

unfoldable pub contact_shown : Section → Contact → List ℕ
contact_shown face contact =
    contact_header face ++ (value_line keys.From (moment_text contact.from)
    ++ (value_line keys.To (moment_text contact.to) ++ number_if keys.Rate contact.rate))

unfoldable pub contacts_shown : Section → List Contact → List ℕ
contacts_shown face [] = []
contacts_shown face (contact ∷ more) = contact_shown face contact ++ contacts_shown face more

-- what of a face stands before the numbers that may be left out, from them on, and after them what
-- bounds its sessions
unfoldable pub timers_shown : FaceConfig → List ℕ
timers_shown config =
    number_line keys.Engine config.engine ++ (number_line keys.PeerEngine config.peer_engine
    ++ (number_line keys.Segment config.segment ++ (number_line keys.TimeoutMs config.timeout_ms
    ++ (number_line keys.Limit config.limit ++ number_line keys.CapMs config.cap_ms))))

abbrev pub accept_word : Accept → List ℕ
accept_word accepts.Address = codes "address"
accept_word accepts.Port = codes "port"

unfoldable pub rates_shown : FaceConfig → List ℕ
rates_shown config =
    number_if keys.FirstSession config.first_session ++ (number_if keys.Rate config.rate
    ++ (number_line keys.Outbox config.outbox ++ text_line keys.Accept (accept_word config.accept)))

unfoldable pub bounds_shown : FaceConfig → List ℕ
bounds_shown config =
    number_line keys.Sessions config.sessions ++ (number_line keys.Memory config.memory
    ++ (number_line keys.Aggregate config.aggregate
    ++ (number_line keys.AggregateMs config.aggregate_ms
    ++ (number_line keys.Remember config.remember
    ++ number_line keys.RememberMs config.remember_ms))))

abbrev pub foreign_word : ForeignBlocks → List ℕ
foreign_word foreigns.Wrap = codes "wrap"
foreign_word foreigns.Drop = codes "drop"

-- what the face towards version 7 alone says
unfoldable pub blocks_shown : BlocksConfig → List ℕ
blocks_shown blocks =
    number_line keys.ResidueBlock blocks.residue_block
    ++ (number_line keys.WrapBlock blocks.wrap_block
    ++ text_line keys.ForeignBlocks (foreign_word blocks.foreign_blocks))

abbrev pub blocks_if : Option BlocksConfig → List ℕ
blocks_if None = []
blocks_if (Some blocks) = blocks_shown blocks

unfoldable pub settings_shown : FaceConfig → Option BlocksConfig → List ℕ
settings_shown config blocks =
    timers_shown config ++ (rates_shown config ++ (bounds_shown config ++ blocks_if blocks))

unfoldable pub face_shown : Section → FaceConfig → Option BlocksConfig → List ℕ
face_shown face config blocks =
    face_header face ++ (text_line keys.Bind config.bind ++ (text_line keys.Peer config.peer
    ++ (settings_shown config blocks ++ contacts_shown face config.contacts)))

unfoldable pub shown : GateFile → List ℕ
shown file =
    gateway_shown file.gateway ++ (face_shown sections.Old file.old None
    ++ face_shown sections.New file.new (Some file.blocks))
