-- What is shown of a file is a text of its lines.

use Rattle.std.proofs.Common.{◌≡◌, ℕ, ◌^◌, ◌<◌, ◌≤◌, true, false, List, [], ◌∷◌, ◌++◌, codes, Option, Some, None, IfSome, option_map, refl, sym, arith, append-nil}
use Rattle.std.proofs.lemmas.Bool.Decides.{nat_tests}
use Rattle.std.specs.Fmt.{decimal}
use Rattle.toml_parser.specs.declared.scalar.Scalar.TheVariants.{Datetime as DatetimeScalar}
use Rattle.toml_writer.specs.Text.{basic, encoded, key_text}
use Rattle.toml.specs.Data.{Data, string}
use Rattle.toml.specs.Tables.{Expression, key_value, std_table, array_table}
use Rattle.toml.proofs.ReadLines.{line_turn}
use Rattle.endpoint.specs.Endpoints.{text_of}
use Rattle.moment_text.specs.Text.{moment_text}
use Rattle.moment_text.specs.Moments.{year_10000}
use Rattle.gate_config.specs.declared.keys.Key.{Key}
use Rattle.gate_config.specs.declared.keys.Key.TheVariants as keys
use Rattle.gate_config.specs.declared.keys.Kind.TheVariants as kinds
use Rattle.gate_config.specs.declared.keys.Section.{Section}
use Rattle.gate_config.specs.declared.keys.Section.TheVariants as sections
use Rattle.gate_config.specs.declared.file.GateFile.{GateFile}
use Rattle.gate_config.specs.declared.file.GatewayConfig.{GatewayConfig}
use Rattle.gate_config.specs.declared.file.FaceConfig.{FaceConfig}
use Rattle.gate_config.specs.declared.file.BlocksConfig.{BlocksConfig}
use Rattle.gate_config.specs.declared.file.Contact.{Contact}
use Rattle.gate_config.specs.Keys.{name_of}
use Rattle.gate_config.specs.Values.{fits, is_of}
use Rattle.gate_config.specs.Shown.{basic_string, value_line, text_line, number_line, text_if, number_if, gateway_shown, face_header, contact_header, contact_shown, contacts_shown, timers_shown, rates_shown, bounds_shown, blocks_shown, blocks_if, settings_shown, accept_word, age_word, foreign_word, face_shown, shown}
use Rattle.config_laws.proofs.LineLemmas.{IsLine, IsValue, pair_turn, AreLines, AreLines-append}
use Rattle.config_laws.proofs.ValueLemmas.{string_value, number_value, word_value}
use Rattle.config_laws.proofs.MomentLemmas.{when_of, word_of_moment}
use Rattle.config_laws.proofs.TableLemmas.{Pairs, pairs_in, are_pairs-append, element_lines}
use Rattle.config_laws.proofs.FaceLemmas.{whole, moment, pair_if, contact_pairs, rates_pairs, bounds_pairs, blocks_pairs, late_pairs, contact_lines, face_lines}
use Rattle.config_laws.proofs.DocumentLemmas.{gateway_lines, file_lines}
use Rattle.config_laws.proofs.Showable.{IsContact, AreContacts, IsFace, AreBlocks, IsGateway, IsFile}

-- ---- lines of a text

-- the text spells these expressions, and these keys with their values
record Spelled (es : List Expression) (text : List ℕ) : Type 0 where
  are : AreLines es text

record PairsSpelled (ps : Pairs) (text : List ℕ) : Type 0 where
  are : AreLines (pairs_in ps) text

one_pair : (k text : List ℕ) (d : Data) → IsLine (([], k), key_value d) text → PairsSpelled ((k, d) ∷ []) text
one_pair k text d line = record { are = (text, [], sym (append-nil text), line, refl) }

no_pair : PairsSpelled [] []
no_pair = record { are = refl }

both : {ps qs : Pairs} {t u : List ℕ} → PairsSpelled ps t → PairsSpelled qs u → PairsSpelled (ps ++ qs) (t ++ u)
both {ps} {qs} {t} {u} one other = record { are = are_pairs-append ps qs t u one.are other.are }

-- pairs before other lines, and a header before both
before : {ps : Pairs} {es : List Expression} {t u : List ℕ} → PairsSpelled ps t → Spelled es u → Spelled (pairs_in ps ++ es) (t ++ u)
before {ps} {es} {t} {u} one other = record { are = AreLines-append (pairs_in ps) es t u one.are other.are }

alone : {ps : Pairs} {t : List ℕ} → PairsSpelled ps t → Spelled (pairs_in ps) t
alone one = record { are = one.are }

under : {es : List Expression} {u : List ℕ} (e : Expression) (t : List ℕ) → IsLine e t → Spelled es u → Spelled (e ∷ es) (t ++ u)
under {es} {u} e t line more = record { are = (t, u, refl, line, more.are) }

-- ---- lines of keys

-- the key is written as it is
abbrev IsBare : Key → Type 0
IsBare key = key_text (name_of key) ≡ name_of key

value_is : (key : Key) (text : List ℕ) (d : Data) → IsBare key → IsValue text d → PairsSpelled ((name_of key, d) ∷ []) (value_line key text)
unfolding value_line
value_is key text d bare value =
    one_pair (name_of key) (value_line key text) d (λ rest. rw bare at (pair_turn (name_of key) text d value rest))

text_is : (key : Key) (text : List ℕ) → IsBare key → PairsSpelled ((name_of key, string text) ∷ []) (text_line key text)
unfolding basic_string
text_is key text bare = value_is key (encoded basic text) (string text) bare (string_value text)

number_is : (key : Key) (n : ℕ) → IsBare key → n < 2 ^ 63 → PairsSpelled ((name_of key, whole n) ∷ []) (number_line key n)
number_is key n bare small = value_is key (decimal n) (whole n) bare (number_value n small)

moment_is : (key : Key) (m : ℕ) → IsBare key → m < year_10000 → PairsSpelled ((name_of key, moment m) ∷ []) (value_line key (moment_text m))
moment_is key m bare room = value_is key (moment_text m) (moment m) bare (word_value (moment_text m) (DatetimeScalar (when_of m)) (word_of_moment m room))

text_if_is : (key : Key) (o : Option (List ℕ)) → IsBare key → PairsSpelled (pair_if (name_of key) (option_map string o)) (text_if key o)
text_if_is key None bare = no_pair
text_if_is key (Some text) bare = text_is key text bare

-- a whole number of a kind isn't above its greatest
pub most_is : (low high n : ℕ) → fits (kinds.Whole low high) (Some (whole n)) ≡ true → n ≤ high
unfolding fits is_of
most_is low high n h = grind (arith, nat_tests)

abbrev pub IfSmall : Option ℕ → Type 0
IfSmall None = Unit {0}
IfSmall (Some n) = n < 2 ^ 63

pub if_small : (low high : ℕ) (o : Option ℕ) → fits (kinds.Whole low high) (option_map whole o) ≡ true → high < 2 ^ 63 → IfSmall o
if_small low high None h room = tt
if_small low high (Some n) h room = omega (arith, most_is low high n h)

number_if_is : (key : Key) (o : Option ℕ) → IsBare key → IfSmall o → PairsSpelled (pair_if (name_of key) (option_map whole o)) (number_if key o)
number_if_is key None bare small = no_pair
number_if_is key (Some n) bare small = number_is key n bare small

-- ---- the gateway

gateway_header : IsLine (([], codes "gateway"), std_table) (codes "[gateway]\n")
unfolding key_text
gateway_header rest = line_turn false false ([], codes "gateway") std_table (codes "[gateway]\n") rest refl (omega arith)

gateway_lines_are : (g : GatewayConfig) → IsGateway g → Spelled (gateway_lines g) (gateway_shown g)
unfolding gateway_shown key_text
gateway_lines_are g is =
    let cut : g.cut < 2 ^ 63 = omega (arith, most_is 1 4_000_000 g.cut is.cut) in
    let paths = both (text_if_is keys.Journal g.journal refl) (text_if_is keys.Metrics g.metrics refl) in
    under (([], codes "gateway"), std_table) (codes "[gateway]\n") gateway_header
    (before (text_is keys.Endpoint (text_of g.endpoint) refl) (before (number_is keys.Cut g.cut refl cut) (before (text_is keys.Age (age_word g.age) refl) (alone paths))))

-- ---- a face

-- the section's headers are lines of its key
record IsNamed (face : Section) (k : List ℕ) : Type 0 where
  header : IsLine (([], k), std_table) (face_header face)
  contact : IsLine ((k ∷ [], codes "contact"), array_table) (contact_header face)

old_named : IsNamed sections.Old (codes "old")
unfolding key_text face_header contact_header
old_named = record {
  header = λ rest. line_turn false true ([], codes "old") std_table (face_header sections.Old) rest refl (omega arith);
  contact = λ rest. line_turn false true (codes "old" ∷ [], codes "contact") array_table (contact_header sections.Old) rest refl (omega arith);
}

new_named : IsNamed sections.New (codes "new")
unfolding key_text face_header contact_header
new_named = record {
  header = λ rest. line_turn false true ([], codes "new") std_table (face_header sections.New) rest refl (omega arith);
  contact = λ rest. line_turn false true (codes "new" ∷ [], codes "contact") array_table (contact_header sections.New) rest refl (omega arith);
}

contact_is : (face : Section) (k : List ℕ) (earlier : ℕ) (c : Contact) → IsNamed face k → IsContact earlier c
    → Spelled (element_lines (k ∷ []) (codes "contact") (contact_pairs c)) (contact_shown face c)
unfolding contact_shown key_text
contact_is face k earlier c named is =
    under ((k ∷ [], codes "contact"), array_table) (contact_header face) named.contact
    (before (moment_is keys.From c.from refl is.from)
    (before (moment_is keys.To c.to refl is.to)
    (alone (number_if_is keys.Rate c.rate refl (if_small 1 10_000_000_000 c.rate is.rate (omega arith))))))

contacts_are : (face : Section) (k : List ℕ) (earlier : ℕ) (cs : List Contact) → IsNamed face k → AreContacts earlier cs
    → Spelled (contact_lines k cs) (contacts_shown face cs)
unfolding contacts_shown
contacts_are face k earlier [] named are = record { are = refl }
contacts_are face k earlier (c ∷ cs) named are =
    let here = contact_is face k earlier c named are.0 in
    let more = contacts_are face k c.to cs named are.1 in
    record { are = AreLines-append (element_lines (k ∷ []) (codes "contact") (contact_pairs c)) (contact_lines k cs) (contact_shown face c) (contacts_shown face cs) here.are more.are }

rates_are : (c : FaceConfig) → IsFace c → PairsSpelled (rates_pairs c c.first_session c.rate) (rates_shown c)
unfolding rates_shown key_text
rates_are c is =
    both (number_if_is keys.FirstSession c.first_session refl (if_small 1 4_294_967_295 c.first_session is.first_session (omega arith)))
    (both (number_if_is keys.Rate c.rate refl (if_small 1 10_000_000_000 c.rate is.rate (omega arith)))
    (both (number_is keys.Outbox c.outbox refl (omega (arith, most_is 65_507 4_294_967_295 c.outbox is.outbox)))
    (text_is keys.Accept (accept_word c.accept) refl)))

bounds_are : (c : FaceConfig) → IsFace c → PairsSpelled (bounds_pairs c) (bounds_shown c)
unfolding bounds_shown key_text
bounds_are c is =
    both (number_is keys.Sessions c.sessions refl (omega (arith, most_is 1 1024 c.sessions is.sessions)))
    (both (number_is keys.Memory c.memory refl (omega (arith, most_is 33_554_432 1_099_511_627_776 c.memory is.memory)))
    (both (number_is keys.Aggregate c.aggregate refl (omega (arith, most_is 0 4_194_304 c.aggregate is.aggregate)))
    (both (number_is keys.AggregateMs c.aggregate_ms refl (omega (arith, most_is 1 60_000 c.aggregate_ms is.aggregate_ms)))
    (both (number_is keys.Remember c.remember refl (omega (arith, most_is 4096 16_777_216 c.remember is.remember)))
    (number_is keys.RememberMs c.remember_ms refl (omega (arith, most_is 1000 604_800_000 c.remember_ms is.remember_ms)))))))

blocks_are : (own : Option BlocksConfig) → IfSome own AreBlocks → PairsSpelled (blocks_pairs own) (blocks_if own)
unfolding blocks_shown key_text
blocks_are None are = no_pair
blocks_are (Some b) are =
    both (number_is keys.ResidueBlock b.residue_block refl (omega (arith, most_is 192 255 b.residue_block are.residue)))
    (both (number_is keys.WrapBlock b.wrap_block refl (omega (arith, most_is 192 255 b.wrap_block are.wrap)))
    (text_is keys.ForeignBlocks (foreign_word b.foreign_blocks) refl))

abbrev timer_pairs : FaceConfig → Pairs
timer_pairs c =
    (codes "engine", whole c.engine) ∷ (codes "peer_engine", whole c.peer_engine) ∷ (codes "segment", whole c.segment)
    ∷ (codes "timeout_ms", whole c.timeout_ms) ∷ (codes "limit", whole c.limit) ∷ (codes "cap_ms", whole c.cap_ms) ∷ []

timers_are : (c : FaceConfig) → IsFace c → PairsSpelled (timer_pairs c) (timers_shown c)
unfolding timers_shown key_text
timers_are c is =
    both (number_is keys.Engine c.engine refl (omega (arith, most_is 1 4_294_967_295 c.engine is.engine)))
    (both (number_is keys.PeerEngine c.peer_engine refl (omega (arith, most_is 1 4_294_967_295 c.peer_engine is.peer_engine)))
    (both (number_is keys.Segment c.segment refl (omega (arith, most_is 512 8192 c.segment is.segment)))
    (both (number_is keys.TimeoutMs c.timeout_ms refl (omega (arith, most_is 1 3_600_000 c.timeout_ms is.timeout_ms)))
    (both (number_is keys.Limit c.limit refl (omega (arith, most_is 1 100 c.limit is.limit)))
    (number_is keys.CapMs c.cap_ms refl (omega (arith, most_is 1 3_600_000 c.cap_ms is.cap_ms)))))))

settings_are : (c : FaceConfig) (own : Option BlocksConfig) → IsFace c → IfSome own AreBlocks
    → PairsSpelled (timer_pairs c ++ late_pairs c c.first_session c.rate own) (settings_shown c own)
unfolding settings_shown
settings_are c own is blocks = both (timers_are c is) (both (rates_are c is) (both (bounds_are c is) (blocks_are own blocks)))

face_lines_are : (face : Section) (k : List ℕ) (c : FaceConfig) (own : Option BlocksConfig) → IsNamed face k → IsFace c → IfSome own AreBlocks
    → Spelled (face_lines k c own) (face_shown face c own)
unfolding face_shown key_text
face_lines_are face k c own named is blocks =
    under (([], k), std_table) (face_header face) named.header
    (before (text_is keys.Bind c.bind refl)
    (before (text_is keys.Peer c.peer refl)
    (before (settings_are c own is blocks) (contacts_are face k 0 c.contacts named is.contacts))))

-- ---- the file

pub shown_lines : (file : GateFile) → IsFile file → AreLines (file_lines file) (shown file)
unfolding shown
shown_lines file is =
    let own : Option BlocksConfig = Some file.blocks in
    let old = face_lines_are sections.Old (codes "old") file.old None old_named is.old tt in
    let new = face_lines_are sections.New (codes "new") file.new own new_named is.new is.blocks in
    AreLines-append (gateway_lines file.gateway) (face_lines (codes "old") file.old None ++ face_lines (codes "new") file.new own)
    (gateway_shown file.gateway) (face_shown sections.Old file.old None ++ face_shown sections.New file.new own)
    (gateway_lines_are file.gateway is.gateway).are
    (AreLines-append (face_lines (codes "old") file.old None) (face_lines (codes "new") file.new own) (face_shown sections.Old file.old None) (face_shown sections.New file.new own) old.are new.are)
