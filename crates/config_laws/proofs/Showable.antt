-- What a file has that some text means: each value is of its key's kind, contacts are in order, and no two values are
-- the same that may not be.

use Rattle.std.proofs.Common.{◌≡◌, ℕ, ◌<◌, true, false, ◌||◌, ◌==◌, nat_lt, List, [], ◌∷◌, Option, Some, option_map, Ok}
use Rattle.toml.specs.Data.{Data, string}
use Rattle.endpoint.specs.Endpoints.{IsEndpoint}
use Rattle.moment_text.specs.Moments.{year_10000}
use Rattle.gate_config.specs.declared.keys.Key.{Key}
use Rattle.gate_config.specs.declared.keys.Key.TheVariants as keys
use Rattle.gate_config.specs.declared.file.GateFile.{GateFile}
use Rattle.gate_config.specs.declared.file.GatewayConfig.{GatewayConfig}
use Rattle.gate_config.specs.declared.file.FaceConfig.{FaceConfig}
use Rattle.gate_config.specs.declared.file.BlocksConfig.{BlocksConfig}
use Rattle.gate_config.specs.declared.file.Contact.{Contact}
use Rattle.gate_config.specs.Keys.{kind_of}
use Rattle.gate_config.specs.Values.{fits, is_named}
use Rattle.gate_config.specs.Meaning.{same_text}
use Rattle.config_laws.proofs.FaceLemmas.{whole, contacts_data}

-- what stands at the key, or nothing, is of its kind
abbrev pub Fits : Key → Option Data → Type 0
Fits key value = fits (kind_of key) value ≡ true

pub record IsContact (before : ℕ) (c : Contact) : Type 0 where
  pub from : c.from < year_10000
  pub to : c.to < year_10000
  pub rate : Fits keys.Rate (option_map whole c.rate)
  pub rises : nat_lt c.from c.to ≡ true
  pub after : nat_lt c.from before ≡ false

abbrev pub AreContacts : ℕ → List Contact → Type 0
AreContacts before [] = Unit {0}
AreContacts before (c ∷ cs) = IsContact before c × AreContacts c.to cs

pub record IsFace (c : FaceConfig) : Type 0 where
  pub bind : Fits keys.Bind (Some (string c.bind))
  pub peer : Fits keys.Peer (Some (string c.peer))
  pub engine : Fits keys.Engine (Some (whole c.engine))
  pub peer_engine : Fits keys.PeerEngine (Some (whole c.peer_engine))
  pub segment : Fits keys.Segment (Some (whole c.segment))
  pub timeout_ms : Fits keys.TimeoutMs (Some (whole c.timeout_ms))
  pub limit : Fits keys.Limit (Some (whole c.limit))
  pub cap_ms : Fits keys.CapMs (Some (whole c.cap_ms))
  pub first_session : Fits keys.FirstSession (option_map whole c.first_session)
  pub rate : Fits keys.Rate (option_map whole c.rate)
  pub outbox : Fits keys.Outbox (Some (whole c.outbox))
  pub sessions : Fits keys.Sessions (Some (whole c.sessions))
  pub memory : Fits keys.Memory (Some (whole c.memory))
  pub aggregate : Fits keys.Aggregate (Some (whole c.aggregate))
  pub aggregate_ms : Fits keys.AggregateMs (Some (whole c.aggregate_ms))
  pub remember : Fits keys.Remember (Some (whole c.remember))
  pub remember_ms : Fits keys.RememberMs (Some (whole c.remember_ms))
  pub contact : Fits keys.Contact (contacts_data c.contacts)
  pub cap : nat_lt c.cap_ms c.timeout_ms ≡ false
  pub contacts : AreContacts 0 c.contacts
  pub apart : (c.engine == c.peer_engine) ≡ false

pub record AreBlocks (b : BlocksConfig) : Type 0 where
  pub residue : Fits keys.ResidueBlock (Some (whole b.residue_block))
  pub wrap : Fits keys.WrapBlock (Some (whole b.wrap_block))
  pub residue_apart : (b.residue_block == 193) ≡ false
  pub wrap_apart : (b.wrap_block == 192 || b.wrap_block == b.residue_block) ≡ false

pub record IsGateway (g : GatewayConfig) : Type 0 where
  pub legal : IsEndpoint g.endpoint
  pub named : is_named (Ok g.endpoint) ≡ true
  pub cut : Fits keys.Cut (Some (whole g.cut))
  pub journal : Fits keys.Journal (option_map string g.journal)
  pub metrics : Fits keys.Metrics (option_map string g.metrics)
  pub apart : same_text g.journal g.metrics ≡ false

pub record IsFile (file : GateFile) : Type 0 where
  pub gateway : IsGateway file.gateway
  pub old : IsFace file.old
  pub new : IsFace file.new
  pub blocks : AreBlocks file.blocks
