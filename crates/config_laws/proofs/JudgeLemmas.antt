-- Nothing is refused of the document that a file is shown as, and its values are the file's.

use Rattle.std.proofs.Common.{◌≡◌, ℕ, ◌+◌, ◌<◌, List, [], ◌∷◌, ◌++◌, codes, Option, Some, None, IfSome, option_map, option_and_then, unwrap_or, Ok, refl}
use Rattle.toml.specs.Data.{Data, string, table, no_items, Members, no_members, member, as_array, as_str}
use Rattle.endpoint.specs.Endpoints.{text_of}
use Rattle.endpoint.specs.Reading.{read_text}
use Rattle.endpoint.proofs.ReadingLemmas.{read_text-only}
use Rattle.gate_config.specs.declared.keys.Key.{Key}
use Rattle.gate_config.specs.declared.keys.Key.TheVariants as keys
use Rattle.gate_config.specs.declared.keys.Section.{Section}
use Rattle.gate_config.specs.declared.keys.Section.TheVariants as sections
use Rattle.gate_config.specs.declared.fault.Within.{Within}
use Rattle.gate_config.specs.declared.fault.Within.TheVariants as places
use Rattle.gate_config.specs.declared.file.GateFile.{GateFile}
use Rattle.gate_config.specs.declared.file.GatewayConfig.{GatewayConfig}
use Rattle.gate_config.specs.declared.file.FaceConfig.{FaceConfig}
use Rattle.gate_config.specs.declared.file.Accept.{Accept}
use Rattle.gate_config.specs.declared.file.Accept.TheVariants as accepts
use Rattle.gate_config.specs.declared.file.Age.{Age}
use Rattle.gate_config.specs.declared.file.Age.TheVariants as ages
use Rattle.gate_config.specs.declared.file.ForeignBlocks.{ForeignBlocks}
use Rattle.gate_config.specs.declared.file.ForeignBlocks.TheVariants as foreigns
use Rattle.gate_config.specs.declared.file.BlocksConfig.{BlocksConfig}
use Rattle.gate_config.specs.declared.file.Contact.{Contact}
use Rattle.gate_config.specs.declared.keys.Kind.TheVariants as kinds
use Rattle.moment_text.specs.Moments.{year_10000}
use Rattle.gate_config.specs.Keys.{kind_of, file_keys, gateway_keys, face_keys, contact_keys, keys_of}
use Rattle.gate_config.specs.Values.{at, whole_of, fits, is_of, moment_at, number_at}
use Rattle.gate_config.specs.Meaning.{first_unknown, first_misfit, table_refusal, contact_refusal, contacts_refusal, face_refusal, blocks_refusal, refusal_of, contacts_of, accept_of, face_of, age_of, foreign_of, blocks_of, gateway_of, file_of}
use Rattle.gate_config.specs.Shown.{accept_word, age_word, foreign_word}
use Rattle.config_laws.proofs.MomentLemmas.{moment_of-when_of}
use Rattle.config_laws.proofs.FaceLemmas.{whole, moment, contact_members, contact_items, contacts_data, residue_data, wrap_data, foreign_data, members_of, face_members}
use Rattle.config_laws.proofs.DocumentLemmas.{gateway_members_of, gateway_members, file_members}
use Rattle.config_laws.proofs.Showable.{Fits, IsContact, AreContacts, IsFace, AreBlocks, IsGateway, IsFile}

-- a number that may be left out, and a text
whole_back : (o : Option ℕ) → option_and_then whole_of (option_map whole o) ≡ o
whole_back None = refl
whole_back (Some n) = refl

string_back : (o : Option (List ℕ)) → option_and_then as_str (option_map string o) ≡ o
string_back None = refl
string_back (Some text) = refl

-- ---- contacts

-- what stands in a contact's table
record ContactHas (ms : Members) (c : Contact) : Type 0 where
  known : first_unknown contact_keys ms ≡ None
  from : at keys.From (Some (table ms)) ≡ Some (moment c.from)
  to : at keys.To (Some (table ms)) ≡ Some (moment c.to)
  rate : at keys.Rate (Some (table ms)) ≡ option_map whole c.rate

contact_has : (from to : ℕ) (rate : Option ℕ) → let c : Contact = record { from = from; to = to; rate = rate } in ContactHas (contact_members c) c
unfolding first_unknown
contact_has from to None = record { known = refl; from = refl; to = refl; rate = refl }
contact_has from to (Some n) = record { known = refl; from = refl; to = refl; rate = refl }

-- what its values are
record ContactIs (d : Data) (c : Contact) : Type 0 where
  from : moment_at keys.From (Some d) ≡ c.from
  to : moment_at keys.To (Some d) ≡ c.to
  rate : number_at keys.Rate (Some d) ≡ c.rate

contact_is : (before : ℕ) (ms : Members) (c : Contact) → ContactHas ms c → IsContact before c → ContactIs (table ms) c
contact_is before ms c has is =
    record {
      from = rw (has.from, moment_of-when_of c.from is.from) refl;
      to = rw (has.to, moment_of-when_of c.to is.to) refl;
      rate = rw has.rate (whole_back c.rate);
    }

moment_fits : (key : Key) (m : ℕ) → kind_of key ≡ kinds.Moment → m < year_10000 → Fits key (Some (moment m))
unfolding fits is_of
moment_fits key m kind room = rw (kind, moment_of-when_of m room) refl

contact_fits : (within : Within) (before : ℕ) (ms : Members) (c : Contact) → ContactHas ms c → IsContact before c → table_refusal within contact_keys (Some (table ms)) ≡ None
unfolding table_refusal first_misfit
contact_fits within before ms c has is =
    rw (has.known, has.from, moment_fits keys.From c.from refl is.from, has.to, moment_fits keys.To c.to refl is.to, has.rate, is.rate) refl

contact_passes : (within : Within) (before : ℕ) (ms : Members) (c : Contact) → ContactHas ms c → IsContact before c → contact_refusal within before (table ms) ≡ None
unfolding contact_refusal
contact_passes within before ms c has is =
    let values = contact_is before ms c has is in
    rw (contact_fits within before ms c has is, values.from, values.to, is.rises, is.after) refl

contacts_pass : (face : Section) (index before : ℕ) (cs : List Contact) → AreContacts before cs → contacts_refusal face index before (contact_items cs) ≡ None
unfolding contacts_refusal
contacts_pass face index before [] are = refl
contacts_pass face index before (c ∷ cs) are =
    let has = contact_has c.from c.to c.rate in
    let values = contact_is before (contact_members c) c has are.0 in
    rw (contact_passes (places.Contact face index) before (contact_members c) c has are.0, values.to) (contacts_pass face (index + 1) c.to cs are.1)

contacts_back : (before : ℕ) (cs : List Contact) → AreContacts before cs → contacts_of (contact_items cs) ≡ cs
unfolding contacts_of
contacts_back before [] are = refl
contacts_back before (c ∷ cs) are =
    let values = contact_is before (contact_members c) c (contact_has c.from c.to c.rate) are.0 in
    rw (values.from, values.to, values.rate, contacts_back c.to cs are.1) refl

contacts_items : (cs : List Contact) → unwrap_or (option_and_then as_array (contacts_data cs)) no_items ≡ contact_items cs
contacts_items [] = refl
contacts_items (c ∷ cs) = refl

-- ---- a face

-- the keys of a face, by what it alone has
abbrev keys_with : Option BlocksConfig → List Key
keys_with None = keys_of sections.Old
keys_with (Some b) = keys_of sections.New

-- what stands in a face's table
record FaceHas (ms : Members) (c : FaceConfig) (fs pace : Option ℕ) (own : Option BlocksConfig) (contacts : Option Data) : Type 0 where
  known : first_unknown (keys_with own) ms ≡ None
  bind : at keys.Bind (Some (table ms)) ≡ Some (string c.bind)
  peer : at keys.Peer (Some (table ms)) ≡ Some (string c.peer)
  engine : at keys.Engine (Some (table ms)) ≡ Some (whole c.engine)
  peer_engine : at keys.PeerEngine (Some (table ms)) ≡ Some (whole c.peer_engine)
  segment : at keys.Segment (Some (table ms)) ≡ Some (whole c.segment)
  timeout_ms : at keys.TimeoutMs (Some (table ms)) ≡ Some (whole c.timeout_ms)
  limit : at keys.Limit (Some (table ms)) ≡ Some (whole c.limit)
  cap_ms : at keys.CapMs (Some (table ms)) ≡ Some (whole c.cap_ms)
  first_session : at keys.FirstSession (Some (table ms)) ≡ option_map whole fs
  rate : at keys.Rate (Some (table ms)) ≡ option_map whole pace
  outbox : at keys.Outbox (Some (table ms)) ≡ Some (whole c.outbox)
  accept : at keys.Accept (Some (table ms)) ≡ Some (string (accept_word c.accept))
  sessions : at keys.Sessions (Some (table ms)) ≡ Some (whole c.sessions)
  memory : at keys.Memory (Some (table ms)) ≡ Some (whole c.memory)
  aggregate : at keys.Aggregate (Some (table ms)) ≡ Some (whole c.aggregate)
  aggregate_ms : at keys.AggregateMs (Some (table ms)) ≡ Some (whole c.aggregate_ms)
  remember : at keys.Remember (Some (table ms)) ≡ Some (whole c.remember)
  remember_ms : at keys.RememberMs (Some (table ms)) ≡ Some (whole c.remember_ms)
  residue : at keys.ResidueBlock (Some (table ms)) ≡ residue_data own
  wrap : at keys.WrapBlock (Some (table ms)) ≡ wrap_data own
  foreign : at keys.ForeignBlocks (Some (table ms)) ≡ foreign_data own
  contact : at keys.Contact (Some (table ms)) ≡ contacts

face_has : (c : FaceConfig) (fs rate : Option ℕ) (own : Option BlocksConfig) (contacts : Option Data)
    → FaceHas (members_of c fs rate own contacts) c fs rate own contacts
unfolding first_unknown
face_has c None None None None = record { known = refl; bind = refl; peer = refl; engine = refl; peer_engine = refl; segment = refl; timeout_ms = refl; limit = refl; cap_ms = refl; first_session = refl; rate = refl; outbox = refl; accept = refl; sessions = refl; memory = refl; aggregate = refl; aggregate_ms = refl; remember = refl; remember_ms = refl; residue = refl; wrap = refl; foreign = refl; contact = refl }
face_has c None None None (Some d) = record { known = refl; bind = refl; peer = refl; engine = refl; peer_engine = refl; segment = refl; timeout_ms = refl; limit = refl; cap_ms = refl; first_session = refl; rate = refl; outbox = refl; accept = refl; sessions = refl; memory = refl; aggregate = refl; aggregate_ms = refl; remember = refl; remember_ms = refl; residue = refl; wrap = refl; foreign = refl; contact = refl }
face_has c None None (Some b) None = record { known = refl; bind = refl; peer = refl; engine = refl; peer_engine = refl; segment = refl; timeout_ms = refl; limit = refl; cap_ms = refl; first_session = refl; rate = refl; outbox = refl; accept = refl; sessions = refl; memory = refl; aggregate = refl; aggregate_ms = refl; remember = refl; remember_ms = refl; residue = refl; wrap = refl; foreign = refl; contact = refl }
face_has c None None (Some b) (Some d) = record { known = refl; bind = refl; peer = refl; engine = refl; peer_engine = refl; segment = refl; timeout_ms = refl; limit = refl; cap_ms = refl; first_session = refl; rate = refl; outbox = refl; accept = refl; sessions = refl; memory = refl; aggregate = refl; aggregate_ms = refl; remember = refl; remember_ms = refl; residue = refl; wrap = refl; foreign = refl; contact = refl }
face_has c None (Some r) None None = record { known = refl; bind = refl; peer = refl; engine = refl; peer_engine = refl; segment = refl; timeout_ms = refl; limit = refl; cap_ms = refl; first_session = refl; rate = refl; outbox = refl; accept = refl; sessions = refl; memory = refl; aggregate = refl; aggregate_ms = refl; remember = refl; remember_ms = refl; residue = refl; wrap = refl; foreign = refl; contact = refl }
face_has c None (Some r) None (Some d) = record { known = refl; bind = refl; peer = refl; engine = refl; peer_engine = refl; segment = refl; timeout_ms = refl; limit = refl; cap_ms = refl; first_session = refl; rate = refl; outbox = refl; accept = refl; sessions = refl; memory = refl; aggregate = refl; aggregate_ms = refl; remember = refl; remember_ms = refl; residue = refl; wrap = refl; foreign = refl; contact = refl }
face_has c None (Some r) (Some b) None = record { known = refl; bind = refl; peer = refl; engine = refl; peer_engine = refl; segment = refl; timeout_ms = refl; limit = refl; cap_ms = refl; first_session = refl; rate = refl; outbox = refl; accept = refl; sessions = refl; memory = refl; aggregate = refl; aggregate_ms = refl; remember = refl; remember_ms = refl; residue = refl; wrap = refl; foreign = refl; contact = refl }
face_has c None (Some r) (Some b) (Some d) = record { known = refl; bind = refl; peer = refl; engine = refl; peer_engine = refl; segment = refl; timeout_ms = refl; limit = refl; cap_ms = refl; first_session = refl; rate = refl; outbox = refl; accept = refl; sessions = refl; memory = refl; aggregate = refl; aggregate_ms = refl; remember = refl; remember_ms = refl; residue = refl; wrap = refl; foreign = refl; contact = refl }
face_has c (Some f) None None None = record { known = refl; bind = refl; peer = refl; engine = refl; peer_engine = refl; segment = refl; timeout_ms = refl; limit = refl; cap_ms = refl; first_session = refl; rate = refl; outbox = refl; accept = refl; sessions = refl; memory = refl; aggregate = refl; aggregate_ms = refl; remember = refl; remember_ms = refl; residue = refl; wrap = refl; foreign = refl; contact = refl }
face_has c (Some f) None None (Some d) = record { known = refl; bind = refl; peer = refl; engine = refl; peer_engine = refl; segment = refl; timeout_ms = refl; limit = refl; cap_ms = refl; first_session = refl; rate = refl; outbox = refl; accept = refl; sessions = refl; memory = refl; aggregate = refl; aggregate_ms = refl; remember = refl; remember_ms = refl; residue = refl; wrap = refl; foreign = refl; contact = refl }
face_has c (Some f) None (Some b) None = record { known = refl; bind = refl; peer = refl; engine = refl; peer_engine = refl; segment = refl; timeout_ms = refl; limit = refl; cap_ms = refl; first_session = refl; rate = refl; outbox = refl; accept = refl; sessions = refl; memory = refl; aggregate = refl; aggregate_ms = refl; remember = refl; remember_ms = refl; residue = refl; wrap = refl; foreign = refl; contact = refl }
face_has c (Some f) None (Some b) (Some d) = record { known = refl; bind = refl; peer = refl; engine = refl; peer_engine = refl; segment = refl; timeout_ms = refl; limit = refl; cap_ms = refl; first_session = refl; rate = refl; outbox = refl; accept = refl; sessions = refl; memory = refl; aggregate = refl; aggregate_ms = refl; remember = refl; remember_ms = refl; residue = refl; wrap = refl; foreign = refl; contact = refl }
face_has c (Some f) (Some r) None None = record { known = refl; bind = refl; peer = refl; engine = refl; peer_engine = refl; segment = refl; timeout_ms = refl; limit = refl; cap_ms = refl; first_session = refl; rate = refl; outbox = refl; accept = refl; sessions = refl; memory = refl; aggregate = refl; aggregate_ms = refl; remember = refl; remember_ms = refl; residue = refl; wrap = refl; foreign = refl; contact = refl }
face_has c (Some f) (Some r) None (Some d) = record { known = refl; bind = refl; peer = refl; engine = refl; peer_engine = refl; segment = refl; timeout_ms = refl; limit = refl; cap_ms = refl; first_session = refl; rate = refl; outbox = refl; accept = refl; sessions = refl; memory = refl; aggregate = refl; aggregate_ms = refl; remember = refl; remember_ms = refl; residue = refl; wrap = refl; foreign = refl; contact = refl }
face_has c (Some f) (Some r) (Some b) None = record { known = refl; bind = refl; peer = refl; engine = refl; peer_engine = refl; segment = refl; timeout_ms = refl; limit = refl; cap_ms = refl; first_session = refl; rate = refl; outbox = refl; accept = refl; sessions = refl; memory = refl; aggregate = refl; aggregate_ms = refl; remember = refl; remember_ms = refl; residue = refl; wrap = refl; foreign = refl; contact = refl }
face_has c (Some f) (Some r) (Some b) (Some d) = record { known = refl; bind = refl; peer = refl; engine = refl; peer_engine = refl; segment = refl; timeout_ms = refl; limit = refl; cap_ms = refl; first_session = refl; rate = refl; outbox = refl; accept = refl; sessions = refl; memory = refl; aggregate = refl; aggregate_ms = refl; remember = refl; remember_ms = refl; residue = refl; wrap = refl; foreign = refl; contact = refl }

-- the word of each way to accept is one of the two
accept_fits : (accept : Accept) → Fits keys.Accept (Some (string (accept_word accept)))
unfolding fits is_of
accept_fits accepts.Address = refl
accept_fits accepts.Port = refl

accept_back : (accept : Accept) → accept_of (Some (accept_word accept)) ≡ accept
accept_back accepts.Address = refl
accept_back accepts.Port = refl

-- and so of ages, and of private blocks
age_fits : (age : Age) → Fits keys.Age (Some (string (age_word age)))
unfolding fits is_of
age_fits ages.Raise = refl
age_fits ages.Keep = refl

age_back : (age : Age) → age_of (Some (age_word age)) ≡ age
age_back ages.Raise = refl
age_back ages.Keep = refl

foreign_fits : (foreign : ForeignBlocks) → Fits keys.ForeignBlocks (Some (string (foreign_word foreign)))
unfolding fits is_of
foreign_fits foreigns.Wrap = refl
foreign_fits foreigns.Drop = refl

foreign_back : (foreign : ForeignBlocks) → foreign_of (Some (foreign_word foreign)) ≡ foreign
foreign_back foreigns.Wrap = refl
foreign_back foreigns.Drop = refl

-- the table has what the face is
abbrev Holds : Members → FaceConfig → Option BlocksConfig → Type 0
Holds ms c own = FaceHas ms c c.first_session c.rate own (contacts_data c.contacts)

-- what stands at the keys of both faces fits
common_fit : (within : Within) (rest : List Key) (ms : Members) (c : FaceConfig) (own : Option BlocksConfig) → Holds ms c own → IsFace c
    → first_misfit within (face_keys ++ rest) (Some (table ms)) ≡ first_misfit within rest (Some (table ms))
unfolding first_misfit
common_fit within rest ms c own has is =
    rw (
      has.bind,
      is.bind,
      has.peer,
      is.peer,
      has.engine,
      is.engine,
      has.peer_engine,
      is.peer_engine,
      has.segment,
      is.segment,
      has.timeout_ms,
      is.timeout_ms,
      has.limit,
      is.limit,
      has.cap_ms,
      is.cap_ms,
      has.first_session,
      is.first_session,
      has.rate,
      is.rate,
      has.outbox,
      is.outbox,
      has.accept,
      accept_fits c.accept,
      has.sessions,
      is.sessions,
      has.memory,
      is.memory,
      has.aggregate,
      is.aggregate,
      has.aggregate_ms,
      is.aggregate_ms,
      has.remember,
      is.remember,
      has.remember_ms,
      is.remember_ms,
    ) refl

rest_fits : (within : Within) (ms : Members) (c : FaceConfig) (own : Option BlocksConfig) → Holds ms c own → IsFace c → IfSome own AreBlocks
    → table_refusal within (keys_with own) (Some (table ms)) ≡ None
unfolding table_refusal first_misfit
rest_fits within ms c None has is blocks =
    rw (has.known, common_fit within (keys.Contact ∷ []) ms c None has is, has.contact, is.contact) refl
rest_fits within ms c (Some b) has is blocks =
    rw (
      has.known,
      common_fit within (keys.ResidueBlock ∷ keys.WrapBlock ∷ keys.ForeignBlocks ∷ keys.Contact ∷ []) ms c (Some b) has is,
      has.residue,
      blocks.residue,
      has.wrap,
      blocks.wrap,
      has.foreign,
      foreign_fits b.foreign_blocks,
      has.contact,
      is.contact,
    ) refl

face_passes : (face : Section) (ms : Members) (c : FaceConfig) (own : Option BlocksConfig) → keys_of face ≡ keys_with own → Holds ms c own → IsFace c
    → IfSome own AreBlocks → face_refusal face (Some (table ms)) ≡ None
unfolding face_refusal
face_passes face ms c own known has is blocks =
    rw (
      known,
      rest_fits (places.Table face) ms c own has is blocks,
      has.cap_ms,
      has.timeout_ms,
      is.cap,
      has.contact,
      contacts_items c.contacts,
      contacts_pass face 0 0 c.contacts is.contacts,
      has.engine,
      has.peer_engine,
      is.apart,
    ) refl

face_back : (face : Section) (ms : Members) (c : FaceConfig) (own : Option BlocksConfig) → Holds ms c own → IsFace c → face_of face (Some (table ms)) ≡ c
face_back face ms c own has is =
    rw (
      has.bind,
      has.peer,
      has.engine,
      has.peer_engine,
      has.segment,
      has.timeout_ms,
      has.limit,
      has.cap_ms,
      has.first_session,
      whole_back c.first_session,
      has.rate,
      whole_back c.rate,
      has.outbox,
      has.accept,
      accept_back c.accept,
      has.sessions,
      has.memory,
      has.aggregate,
      has.aggregate_ms,
      has.remember,
      has.remember_ms,
      has.contact,
      contacts_items c.contacts,
      contacts_back 0 c.contacts is.contacts,
    ) refl

-- ---- the types of blocks

blocks_pass : (ms : Members) (c : FaceConfig) (b : BlocksConfig) → Holds ms c (Some b) → AreBlocks b → blocks_refusal (Some (table ms)) ≡ None
unfolding blocks_refusal
blocks_pass ms c b has are = rw (has.residue, has.wrap, are.residue_apart, are.wrap_apart) refl

blocks_back : (ms : Members) (c : FaceConfig) (b : BlocksConfig) → Holds ms c (Some b) → blocks_of (Some (table ms)) ≡ b
blocks_back ms c b has = rw (has.residue, has.wrap, has.foreign, foreign_back b.foreign_blocks) refl

-- ---- the gateway

record GatewayHas (ms : Members) (g : GatewayConfig) (journal_path metrics_path : Option (List ℕ)) : Type 0 where
  known : first_unknown gateway_keys ms ≡ None
  endpoint : at keys.Endpoint (Some (table ms)) ≡ Some (string (text_of g.endpoint))
  cut : at keys.Cut (Some (table ms)) ≡ Some (whole g.cut)
  age : at keys.Age (Some (table ms)) ≡ Some (string (age_word g.age))
  journal : at keys.Journal (Some (table ms)) ≡ option_map string journal_path
  metrics : at keys.Metrics (Some (table ms)) ≡ option_map string metrics_path

gateway_has : (g : GatewayConfig) (journal metrics : Option (List ℕ)) → GatewayHas (gateway_members_of g journal metrics) g journal metrics
unfolding first_unknown
gateway_has g None None = record { known = refl; endpoint = refl; cut = refl; age = refl; journal = refl; metrics = refl }
gateway_has g None (Some m) = record { known = refl; endpoint = refl; cut = refl; age = refl; journal = refl; metrics = refl }
gateway_has g (Some j) None = record { known = refl; endpoint = refl; cut = refl; age = refl; journal = refl; metrics = refl }
gateway_has g (Some j) (Some m) = record { known = refl; endpoint = refl; cut = refl; age = refl; journal = refl; metrics = refl }

endpoint_read : (g : GatewayConfig) → IsGateway g → read_text (text_of g.endpoint) ≡ Ok g.endpoint
endpoint_read g is = read_text-only (text_of g.endpoint) g.endpoint (record { legal = is.legal; spelled = refl })

endpoint_fits : (g : GatewayConfig) → IsGateway g → Fits keys.Endpoint (Some (string (text_of g.endpoint)))
unfolding fits is_of
endpoint_fits g is = rw (endpoint_read g is) is.named

gateway_fits : (within : Within) (ms : Members) (g : GatewayConfig) → GatewayHas ms g g.journal g.metrics → IsGateway g
    → table_refusal within gateway_keys (Some (table ms)) ≡ None
unfolding table_refusal first_misfit
gateway_fits within ms g has is =
    rw (has.known, has.endpoint, endpoint_fits g is, has.cut, is.cut, has.age, age_fits g.age, has.journal, is.journal, has.metrics, is.metrics) refl

gateway_back : (ms : Members) (g : GatewayConfig) → GatewayHas ms g g.journal g.metrics → IsGateway g → gateway_of (Some (table ms)) ≡ g
gateway_back ms g has is =
    rw (has.endpoint, endpoint_read g is, has.cut, has.age, age_back g.age, has.journal, string_back g.journal, has.metrics, string_back g.metrics) refl

-- ---- the file

abbrev root_members : Members → Members → Members → Members
root_members gateway old new = member (codes "gateway") (table gateway) (member (codes "new") (table new) (member (codes "old") (table old) no_members))

sections_fit : (gateway old new : Members) → table_refusal places.File file_keys (Some (table (root_members gateway old new))) ≡ None
unfolding table_refusal first_unknown first_misfit fits is_of
sections_fit gateway old new = refl

root_passes : (gateway old new : Members) (file : GateFile) → GatewayHas gateway file.gateway file.gateway.journal file.gateway.metrics
    → Holds old file.old None → Holds new file.new (Some file.blocks) → IsFile file → refusal_of (Some (table (root_members gateway old new))) ≡ None
unfolding refusal_of
root_passes gateway old new file has old_has new_has is =
    rw (
      sections_fit gateway old new,
      gateway_fits (places.Table sections.Gateway) gateway file.gateway has is.gateway,
      face_passes sections.Old old file.old None refl old_has is.old tt,
      face_passes sections.New new file.new (Some file.blocks) refl new_has is.new is.blocks,
      blocks_pass new file.new file.blocks new_has is.blocks,
      has.journal,
      string_back file.gateway.journal,
      has.metrics,
      string_back file.gateway.metrics,
      is.gateway.apart,
    ) refl

root_back : (gateway old new : Members) (file : GateFile) → GatewayHas gateway file.gateway file.gateway.journal file.gateway.metrics
    → Holds old file.old None → Holds new file.new (Some file.blocks) → IsFile file → file_of (Some (table (root_members gateway old new))) ≡ file
root_back gateway old new file has old_has new_has is =
    rw (
      gateway_back gateway file.gateway has is.gateway,
      face_back sections.Old old file.old None old_has is.old,
      face_back sections.New new file.new (Some file.blocks) new_has is.new,
      blocks_back new file.new file.blocks new_has,
    ) refl

holds : (c : FaceConfig) (own : Option BlocksConfig) → Holds (face_members c own) c own
holds c own = face_has c c.first_session c.rate own (contacts_data c.contacts)

pub file_passes : (file : GateFile) → IsFile file → refusal_of (Some (table (file_members file))) ≡ None
file_passes file is =
    root_passes (gateway_members file.gateway) (face_members file.old None) (face_members file.new (Some file.blocks)) file
    (gateway_has file.gateway file.gateway.journal file.gateway.metrics) (holds file.old None) (holds file.new (Some file.blocks)) is

pub file_back : (file : GateFile) → IsFile file → file_of (Some (table (file_members file))) ≡ file
file_back file is =
    root_back (gateway_members file.gateway) (face_members file.old None) (face_members file.new (Some file.blocks)) file
    (gateway_has file.gateway file.gateway.journal file.gateway.metrics) (holds file.old None) (holds file.new (Some file.blocks)) is
