-- The keys of a configuration file: their names, their kinds and ranges, their defaults, and in
-- which tables they may stand.

use Rattle.std.specs.Prelude.{ℕ, List, [], ◌∷◌, ◌++◌, codes}
use Rattle.gate_config.specs.declared.keys.Key.{Key}
use Rattle.gate_config.specs.declared.keys.Key.TheVariants as keys
use Rattle.gate_config.specs.declared.keys.Kind.{Kind}
use Rattle.gate_config.specs.declared.keys.Kind.TheVariants as kinds
use Rattle.gate_config.specs.declared.keys.Section.{Section}
use Rattle.gate_config.specs.declared.keys.Section.TheVariants as sections

abbrev pub name_of : Key → List ℕ
name_of keys.Gateway = codes "gateway"
name_of keys.Old = codes "old"
name_of keys.New = codes "new"
name_of keys.Endpoint = codes "endpoint"
name_of keys.Cut = codes "cut"
name_of keys.Age = codes "age"
name_of keys.Journal = codes "journal"
name_of keys.Metrics = codes "metrics"
name_of keys.Bind = codes "bind"
name_of keys.Peer = codes "peer"
name_of keys.Engine = codes "engine"
name_of keys.PeerEngine = codes "peer_engine"
name_of keys.Segment = codes "segment"
name_of keys.TimeoutMs = codes "timeout_ms"
name_of keys.Limit = codes "limit"
name_of keys.CapMs = codes "cap_ms"
name_of keys.FirstSession = codes "first_session"
name_of keys.Rate = codes "rate"
name_of keys.Outbox = codes "outbox"
name_of keys.Accept = codes "accept"
name_of keys.Sessions = codes "sessions"
name_of keys.Memory = codes "memory"
name_of keys.Aggregate = codes "aggregate"
name_of keys.AggregateMs = codes "aggregate_ms"
name_of keys.Remember = codes "remember"
name_of keys.RememberMs = codes "remember_ms"
name_of keys.ResidueBlock = codes "residue_block"
name_of keys.WrapBlock = codes "wrap_block"
name_of keys.ForeignBlocks = codes "foreign_blocks"
name_of keys.Contact = codes "contact"
name_of keys.From = codes "from"
name_of keys.To = codes "to"

-- what may stand at a key: of a number its least and its greatest value
abbrev pub kind_of : Key → Kind
kind_of keys.Gateway = kinds.Table
kind_of keys.Old = kinds.Table
kind_of keys.New = kinds.Table
kind_of keys.Endpoint = kinds.Endpoint
kind_of keys.Cut = kinds.Whole 1 4_000_000
kind_of keys.Age = kinds.Age
kind_of keys.Journal = kinds.Path
kind_of keys.Metrics = kinds.Path
kind_of keys.Bind = kinds.Address
kind_of keys.Peer = kinds.Address
kind_of keys.Engine = kinds.Whole 1 4_294_967_295
kind_of keys.PeerEngine = kinds.Whole 1 4_294_967_295
kind_of keys.Segment = kinds.Whole 512 8192
kind_of keys.TimeoutMs = kinds.Whole 1 3_600_000
kind_of keys.Limit = kinds.Whole 1 100
kind_of keys.CapMs = kinds.Whole 1 3_600_000
kind_of keys.FirstSession = kinds.Whole 1 4_294_967_295
kind_of keys.Rate = kinds.Whole 1 10_000_000_000
kind_of keys.Outbox = kinds.Whole 65_507 4_294_967_295
kind_of keys.Accept = kinds.Accept
kind_of keys.Sessions = kinds.Whole 1 1024
kind_of keys.Memory = kinds.Whole 33_554_432 1_099_511_627_776
kind_of keys.Aggregate = kinds.Whole 0 4_194_304
kind_of keys.AggregateMs = kinds.Whole 1 60_000
kind_of keys.Remember = kinds.Whole 4096 16_777_216
kind_of keys.RememberMs = kinds.Whole 1000 604_800_000
kind_of keys.ResidueBlock = kinds.Whole 192 255
kind_of keys.WrapBlock = kinds.Whole 192 255
kind_of keys.ForeignBlocks = kinds.ForeignBlocks
kind_of keys.Contact = kinds.Contacts
kind_of keys.From = kinds.Moment
kind_of keys.To = kinds.Moment

-- the number of a key that is left out, of those that have one whatever else is said
abbrev pub default_of : Section → Key → ℕ
default_of section keys.Cut = 65_536
default_of sections.Old keys.Engine = 2
default_of sections.Old keys.PeerEngine = 1
default_of sections.New keys.Engine = 3
default_of sections.New keys.PeerEngine = 4
default_of section keys.Segment = 1024
default_of section keys.TimeoutMs = 10_000
default_of section keys.Limit = 10
default_of section keys.CapMs = 160_000
default_of section keys.Outbox = 536_870_912
default_of section keys.Sessions = 64
default_of section keys.Memory = 268_435_456
default_of section keys.Aggregate = 0
default_of section keys.AggregateMs = 1000
default_of section keys.Remember = 1_048_576
default_of section keys.RememberMs = 3_600_000
default_of section keys.ResidueBlock = 192
default_of section keys.WrapBlock = 193
default_of section key = 0

-- the keys of each kind of table, in the order in which they are looked at and shown
abbrev pub file_keys : List Key
file_keys = keys.Gateway ∷ keys.Old ∷ keys.New ∷ []

abbrev pub gateway_keys : List Key
gateway_keys = keys.Endpoint ∷ keys.Cut ∷ keys.Age ∷ keys.Journal ∷ keys.Metrics ∷ []

-- those of both faces, but for the contacts
abbrev pub face_keys : List Key
face_keys =
    keys.Bind ∷ keys.Peer ∷ keys.Engine ∷ keys.PeerEngine ∷ keys.Segment ∷ keys.TimeoutMs
    ∷ keys.Limit ∷ keys.CapMs ∷ keys.FirstSession ∷ keys.Rate ∷ keys.Outbox ∷ keys.Accept
    ∷ keys.Sessions ∷ keys.Memory ∷ keys.Aggregate ∷ keys.AggregateMs ∷ keys.Remember
    ∷ keys.RememberMs ∷ []

-- the face towards version 7 says besides what stands for what version 7 has no field for
abbrev pub blocks_keys : List Key
blocks_keys = keys.ResidueBlock ∷ keys.WrapBlock ∷ keys.ForeignBlocks ∷ []

abbrev pub contact_keys : List Key
contact_keys = keys.From ∷ keys.To ∷ keys.Rate ∷ []

-- the key at which the table of a section stands
abbrev pub key_of : Section → Key
key_of sections.Gateway = keys.Gateway
key_of sections.Old = keys.Old
key_of sections.New = keys.New

-- the keys of the table of a section
abbrev pub keys_of : Section → List Key
keys_of sections.Gateway = gateway_keys
keys_of sections.Old = face_keys ++ (keys.Contact ∷ [])
keys_of sections.New = face_keys ++ (blocks_keys ++ (keys.Contact ∷ []))
