-- The text that is shown of a file is UTF-8, and no longer than a file may be.

use Rattle.std.proofs.Common.{◌≡◌, ℕ, ◌+◌, ◌*◌, ◌^◌, ◌<◌, ◌≤◌, true, List, [], ◌∷◌, ◌++◌, length, codes, Option, Some, None, option_map, IfSome, IsUtf8, refl, arith}
use Rattle.std.proofs.lemmas.Bool.Decides.{nat_tests}
use Rattle.std.specs.List.{list_all}
use Rattle.std.specs.Fmt.{decimal}
use Rattle.toml_writer.specs.Text.{basic, encoded}
use Rattle.toml.specs.Data.{string}
use Rattle.endpoint.specs.Endpoints.{text_of}
use Rattle.moment_text.specs.Text.{moment_text}
use Rattle.moment_text.specs.Moments.{year_10000}
use Rattle.gate_config.specs.declared.keys.Key.{Key}
use Rattle.gate_config.specs.declared.keys.Key.TheVariants as keys
use Rattle.gate_config.specs.declared.keys.Kind.TheVariants as kinds
use Rattle.gate_config.specs.declared.keys.Section.{Section}
use Rattle.gate_config.specs.declared.keys.Section.TheVariants as sections
use Rattle.gate_config.specs.declared.file.GateFile.{GateFile}
use Rattle.gate_config.specs.declared.file.GatewayConfig.{GatewayConfig}
use Rattle.gate_config.specs.declared.file.FaceConfig.{FaceConfig}
use Rattle.gate_config.specs.declared.file.Accept.{Accept}
use Rattle.gate_config.specs.declared.file.Accept.TheVariants as accepts
use Rattle.gate_config.specs.declared.file.Age.{Age}
use Rattle.gate_config.specs.declared.file.Age.TheVariants as ages
use Rattle.gate_config.specs.declared.file.ForeignBlocks.{ForeignBlocks}
use Rattle.gate_config.specs.declared.file.ForeignBlocks.TheVariants as foreigns
use Rattle.gate_config.specs.declared.file.BlocksConfig.{BlocksConfig}
use Rattle.gate_config.specs.declared.file.Contact.{Contact}
use Rattle.gate_config.specs.Keys.{name_of}
use Rattle.gate_config.specs.Values.{fits, is_of, item_count}
use Rattle.gate_config.specs.Shown.{basic_string, value_line, text_line, number_line, text_if, number_if, gateway_shown, face_header, contact_header, contact_shown, contacts_shown, timers_shown, rates_shown, bounds_shown, blocks_shown, blocks_if, settings_shown, accept_word, age_word, foreign_word, face_shown, shown}
use Rattle.config_laws.proofs.MomentLemmas.{word_of_moment, length-moment_text}
use Rattle.config_laws.proofs.FaceLemmas.{contact_items, contacts_data}
use Rattle.config_laws.proofs.ShownLemmas.{most_is, IfSmall, if_small}
use Rattle.config_laws.proofs.TextLemmas.{is_low, Part, no_part, joined, longer, word_part, string_part, number_part, word_utf8, endpoint_part}
use Rattle.config_laws.proofs.Showable.{IsContact, AreContacts, IsFace, AreBlocks, IsGateway, IsFile}
use Rattle.config_laws.proofs.StringLemmas.{FaceUtf8, FileUtf8}

-- ---- lines

-- the key's name has no octet from 128 on
abbrev IsPlain : Key → Type 0
IsPlain key = list_all is_low (name_of key) ≡ true

line_part : (key : Key) (n : ℕ) (text : List ℕ) → IsPlain key → Part text n → Part (value_line key text) (length (name_of key) + (3 + (n + 1)))
unfolding value_line
line_part key n text plain part =
    joined (name_of key) (codes " = " ++ (text ++ codes "\n")) (word_part (name_of key) plain)
    (joined (codes " = ") (text ++ codes "\n") (word_part (codes " = ") refl) (joined text (codes "\n") part (word_part (codes "\n") refl)))

text_part : (key : Key) (text : List ℕ) → IsPlain key → IsUtf8 text → Part (text_line key text) (length (name_of key) + (3 + (2 + 6 * length text + 1)))
unfolding basic_string
text_part key text plain utf8 = line_part key (2 + 6 * length text) (encoded basic text) plain (string_part text utf8)

number_line_part : (key : Key) (n : ℕ) → IsPlain key → n < 2 ^ 63 → Part (number_line key n) (length (name_of key) + 24)
number_line_part key n plain small = line_part key 20 (decimal n) plain (number_part n (omega arith))

moment_part : (key : Key) (m : ℕ) → IsPlain key → m < year_10000 → Part (value_line key (moment_text m)) (length (name_of key) + 28)
moment_part key m plain room =
    line_part key 24 (moment_text m) plain (record { utf8 = word_utf8 (moment_text m) (word_of_moment m room).all; short = omega (arith, length-moment_text m room) })

number_if_part : (key : Key) (o : Option ℕ) → IsPlain key → IfSmall o → Part (number_if key o) (length (name_of key) + 24)
number_if_part key None plain small = longer (length (name_of key) + 24) [] no_part (omega arith)
number_if_part key (Some n) plain small = number_line_part key n plain small

-- a path and an address are short
path_short : (text : List ℕ) → fits kinds.Path (Some (string text)) ≡ true → length text ≤ 4096
unfolding fits is_of
path_short text h = grind (arith, nat_tests)

address_short : (text : List ℕ) → fits kinds.Address (Some (string text)) ≡ true → length text ≤ 64
unfolding fits is_of
address_short text h = grind (arith, nat_tests)

path_part : (key : Key) (o : Option (List ℕ)) → IsPlain key → fits kinds.Path (option_map string o) ≡ true → IfSome o IsUtf8 → Part (text_if key o) (length (name_of key) + 24_600)
path_part key None plain fit utf8 = longer (length (name_of key) + 24_600) [] no_part (omega arith)
path_part key (Some text) plain fit utf8 = longer (length (name_of key) + 24_600) (text_line key text) (text_part key text plain utf8) (omega (arith, path_short text fit))

address_part : (key : Key) (text : List ℕ) → IsPlain key → fits kinds.Address (Some (string text)) ≡ true → IsUtf8 text → Part (text_line key text) (length (name_of key) + 400)
address_part key text plain fit utf8 = longer (length (name_of key) + 400) (text_line key text) (text_part key text plain utf8) (omega (arith, address_short text fit))

-- ---- tables

age_part : (age : Age) → Part (text_line keys.Age (age_word age)) 100
age_part ages.Raise = longer 100 _ (text_part keys.Age (codes "raise") refl (word_part (codes "raise") refl).utf8) (omega arith)
age_part ages.Keep = longer 100 _ (text_part keys.Age (codes "keep") refl (word_part (codes "keep") refl).utf8) (omega arith)

gateway_part : (g : GatewayConfig) → IsGateway g → IfSome g.journal IsUtf8 → IfSome g.metrics IsUtf8 → Part (gateway_shown g) 60_000
unfolding gateway_shown
gateway_part g is journal metrics =
    let endpoint = endpoint_part g.endpoint is.legal in
    let cut : g.cut < 2 ^ 63 = omega (arith, most_is 1 4_000_000 g.cut is.cut) in
    longer 60_000 _
    (joined (codes "[gateway]\n") _ (word_part (codes "[gateway]\n") refl)
    (joined (text_line keys.Endpoint (text_of g.endpoint)) _ (longer 6_200 _ (text_part keys.Endpoint (text_of g.endpoint) refl endpoint.utf8) (omega (arith, endpoint.short)))
    (joined (number_line keys.Cut g.cut) _ (number_line_part keys.Cut g.cut refl cut)
    (joined (text_line keys.Age (age_word g.age)) _ (age_part g.age)
    (joined (text_if keys.Journal g.journal) (text_if keys.Metrics g.metrics) (path_part keys.Journal g.journal refl is.journal journal) (path_part keys.Metrics g.metrics refl is.metrics metrics))))))
    (omega arith)

-- the headers of a face are short
record HasHeaders (face : Section) : Type 0 where
  header : Part (face_header face) 10
  contact : Part (contact_header face) 20

old_headers : HasHeaders sections.Old
unfolding face_header contact_header
old_headers = record {
  header = longer 10 _ (word_part (codes "\n[old]\n") refl) (omega arith);
  contact = longer 20 _ (word_part (codes "\n[[old.contact]]\n") refl) (omega arith);
}

new_headers : HasHeaders sections.New
unfolding face_header contact_header
new_headers = record {
  header = longer 10 _ (word_part (codes "\n[new]\n") refl) (omega arith);
  contact = longer 20 _ (word_part (codes "\n[[new.contact]]\n") refl) (omega arith);
}

contact_part : (face : Section) (before : ℕ) (c : Contact) → HasHeaders face → IsContact before c → Part (contact_shown face c) 112
unfolding contact_shown
contact_part face before c headers is =
    longer 112 _
    (joined (contact_header face) _ headers.contact
    (joined (value_line keys.From (moment_text c.from)) _ (moment_part keys.From c.from refl is.from)
    (joined (value_line keys.To (moment_text c.to)) (number_if keys.Rate c.rate) (moment_part keys.To c.to refl is.to)
    (number_if_part keys.Rate c.rate refl (if_small 1 10_000_000_000 c.rate is.rate (omega arith))))))
    (omega arith)

contacts_part : (face : Section) (before : ℕ) (cs : List Contact) → HasHeaders face → AreContacts before cs → Part (contacts_shown face cs) (112 * length cs)
unfolding contacts_shown
contacts_part face before [] headers are = longer (112 * length {A = Contact} []) [] no_part (omega arith)
contacts_part face before (c ∷ cs) headers are =
    longer (112 * length (c ∷ cs)) _ (joined (contact_shown face c) (contacts_shown face cs) (contact_part face before c headers are.0) (contacts_part face c.to cs headers are.1)) (omega arith)

item_count-contacts : (cs : List Contact) → item_count (contact_items cs) ≡ length cs
item_count-contacts [] = refl
item_count-contacts (c ∷ cs) = omega (arith, item_count-contacts cs)

contacts_few : (cs : List Contact) → fits kinds.Contacts (contacts_data cs) ≡ true → length cs ≤ 4096
unfolding fits is_of
contacts_few [] fit = omega arith
contacts_few (c ∷ cs) fit =
    let count = item_count-contacts cs in
    let few : item_count (contact_items cs) + 1 ≤ 4096 = grind (arith, nat_tests) in
    omega (arith, few, count)

accept_part : (accept : Accept) → Part (text_line keys.Accept (accept_word accept)) 100
accept_part accepts.Address = longer 100 _ (text_part keys.Accept (codes "address") refl (word_part (codes "address") refl).utf8) (omega arith)
accept_part accepts.Port = longer 100 _ (text_part keys.Accept (codes "port") refl (word_part (codes "port") refl).utf8) (omega arith)

rates_part : (c : FaceConfig) → IsFace c → Part (rates_shown c) 300
unfolding rates_shown
rates_part c is =
    longer 300 _
    (joined (number_if keys.FirstSession c.first_session) _ (number_if_part keys.FirstSession c.first_session refl (if_small 1 4_294_967_295 c.first_session is.first_session (omega arith)))
    (joined (number_if keys.Rate c.rate) _ (number_if_part keys.Rate c.rate refl (if_small 1 10_000_000_000 c.rate is.rate (omega arith)))
    (joined (number_line keys.Outbox c.outbox) _ (number_line_part keys.Outbox c.outbox refl (omega (arith, most_is 65_507 4_294_967_295 c.outbox is.outbox)))
    (accept_part c.accept))))
    (omega arith)

bounds_part : (c : FaceConfig) → IsFace c → Part (bounds_shown c) 300
unfolding bounds_shown
bounds_part c is =
    longer 300 _
    (joined (number_line keys.Sessions c.sessions) _ (number_line_part keys.Sessions c.sessions refl (omega (arith, most_is 1 1024 c.sessions is.sessions)))
    (joined (number_line keys.Memory c.memory) _ (number_line_part keys.Memory c.memory refl (omega (arith, most_is 33_554_432 1_099_511_627_776 c.memory is.memory)))
    (joined (number_line keys.Aggregate c.aggregate) _ (number_line_part keys.Aggregate c.aggregate refl (omega (arith, most_is 0 4_194_304 c.aggregate is.aggregate)))
    (joined (number_line keys.AggregateMs c.aggregate_ms) _ (number_line_part keys.AggregateMs c.aggregate_ms refl (omega (arith, most_is 1 60_000 c.aggregate_ms is.aggregate_ms)))
    (joined (number_line keys.Remember c.remember) (number_line keys.RememberMs c.remember_ms) (number_line_part keys.Remember c.remember refl (omega (arith, most_is 4096 16_777_216 c.remember is.remember)))
    (number_line_part keys.RememberMs c.remember_ms refl (omega (arith, most_is 1000 604_800_000 c.remember_ms is.remember_ms))))))))
    (omega arith)

foreign_part : (foreign : ForeignBlocks) → Part (text_line keys.ForeignBlocks (foreign_word foreign)) 100
foreign_part foreigns.Wrap = longer 100 _ (text_part keys.ForeignBlocks (codes "wrap") refl (word_part (codes "wrap") refl).utf8) (omega arith)
foreign_part foreigns.Drop = longer 100 _ (text_part keys.ForeignBlocks (codes "drop") refl (word_part (codes "drop") refl).utf8) (omega arith)

blocks_part : (own : Option BlocksConfig) → IfSome own AreBlocks → Part (blocks_if own) 300
unfolding blocks_shown
blocks_part None are = longer 300 [] no_part (omega arith)
blocks_part (Some b) are =
    longer 300 _
    (joined (number_line keys.ResidueBlock b.residue_block) _ (number_line_part keys.ResidueBlock b.residue_block refl (omega (arith, most_is 192 255 b.residue_block are.residue)))
    (joined (number_line keys.WrapBlock b.wrap_block) _ (number_line_part keys.WrapBlock b.wrap_block refl (omega (arith, most_is 192 255 b.wrap_block are.wrap)))
    (foreign_part b.foreign_blocks)))
    (omega arith)

timers_part : (c : FaceConfig) → IsFace c → Part (timers_shown c) 300
unfolding timers_shown
timers_part c is =
    longer 300 _
    (joined (number_line keys.Engine c.engine) _ (number_line_part keys.Engine c.engine refl (omega (arith, most_is 1 4_294_967_295 c.engine is.engine)))
    (joined (number_line keys.PeerEngine c.peer_engine) _ (number_line_part keys.PeerEngine c.peer_engine refl (omega (arith, most_is 1 4_294_967_295 c.peer_engine is.peer_engine)))
    (joined (number_line keys.Segment c.segment) _ (number_line_part keys.Segment c.segment refl (omega (arith, most_is 512 8192 c.segment is.segment)))
    (joined (number_line keys.TimeoutMs c.timeout_ms) _ (number_line_part keys.TimeoutMs c.timeout_ms refl (omega (arith, most_is 1 3_600_000 c.timeout_ms is.timeout_ms)))
    (joined (number_line keys.Limit c.limit) (number_line keys.CapMs c.cap_ms) (number_line_part keys.Limit c.limit refl (omega (arith, most_is 1 100 c.limit is.limit)))
    (number_line_part keys.CapMs c.cap_ms refl (omega (arith, most_is 1 3_600_000 c.cap_ms is.cap_ms))))))))
    (omega arith)

settings_part : (c : FaceConfig) (own : Option BlocksConfig) → IsFace c → IfSome own AreBlocks → Part (settings_shown c own) 1200
unfolding settings_shown
settings_part c own is blocks =
    longer 1200 _
    (joined (timers_shown c) _ (timers_part c is)
    (joined (rates_shown c) _ (rates_part c is) (joined (bounds_shown c) (blocks_if own) (bounds_part c is) (blocks_part own blocks))))
    (omega arith)

face_part : (face : Section) (c : FaceConfig) (own : Option BlocksConfig) → HasHeaders face → IsFace c → FaceUtf8 c → IfSome own AreBlocks
    → Part (face_shown face c own) 470_000
unfolding face_shown
face_part face c own headers is utf8 blocks =
    let few = contacts_few c.contacts is.contact in
    longer 470_000 _
    (joined (face_header face) _ headers.header
    (joined (text_line keys.Bind c.bind) _ (address_part keys.Bind c.bind refl is.bind utf8.bind)
    (joined (text_line keys.Peer c.peer) _ (address_part keys.Peer c.peer refl is.peer utf8.peer)
    (joined (settings_shown c own) (contacts_shown face c.contacts) (settings_part c own is blocks) (contacts_part face 0 c.contacts headers is.contacts)))))
    (omega (arith, few))

pub shown_part : (file : GateFile) → IsFile file → FileUtf8 file → Part (shown file) 1_048_576
unfolding shown
shown_part file is utf8 =
    longer 1_048_576 _
    (joined (gateway_shown file.gateway) _ (gateway_part file.gateway is.gateway utf8.journal utf8.metrics)
    (joined (face_shown sections.Old file.old None) (face_shown sections.New file.new (Some file.blocks))
    (face_part sections.Old file.old None old_headers is.old utf8.old tt) (face_part sections.New file.new (Some file.blocks) new_headers is.new utf8.new is.blocks)))
    (omega arith)
