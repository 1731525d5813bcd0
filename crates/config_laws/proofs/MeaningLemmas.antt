-- A file that some text means has what a file is to have that is shown.

use Rattle.std.proofs.Common.{◌≡◌, ℕ, ◌+◌, ◌<◌, max, Bool, true, false, not, ◌&&◌, nat_lt, if◌then◌else◌, pos, negsuc, ℤ, List, [], ◌∷◌, ◌++◌, Option, Some, None, option_map, option_and_then, unwrap_or, Result, Ok, Err, refl, sym, ap, ◌∙◌, arith}
use Rattle.std.proofs.lemmas.Bool.{false≢true}
use Rattle.std.proofs.lemmas.Bool.Decides.{nat_tests}
use Rattle.toml.specs.Data.{Data, string, integer, float, boolean, datetime, array, table, Items, no_items, item, as_array, as_str}
use Rattle.toml_datetime.specs.declared.datetime.Datetime.{Datetime}
use Rattle.toml_datetime.specs.declared.datetime.Date.{Date}
use Rattle.toml_datetime.specs.declared.datetime.Time.{Time}
use Rattle.toml_datetime.specs.declared.datetime.Offset.{Offset}
use Rattle.toml_datetime.specs.Valid.{is_valid}
use Rattle.endpoint.specs.declared.name.Endpoint.{Endpoint}
use Rattle.endpoint.specs.declared.fault.EndpointFault.{EndpointFault}
use Rattle.endpoint.specs.Endpoints.{IsEndpoint}
use Rattle.endpoint.specs.Reading.{read_text}
use Rattle.endpoint.proofs.ReadingLemmas.{read_text-found}
use Rattle.moment_text.specs.Moments.{moment_of, moment_of_parts, seconds_ms, in_utc, in_years, year_10000}
use Rattle.gate_config.specs.declared.keys.Key.{Key}
use Rattle.gate_config.specs.declared.keys.Key.TheVariants as keys
use Rattle.gate_config.specs.declared.keys.Kind.TheVariants as kinds
use Rattle.gate_config.specs.declared.keys.Section.{Section}
use Rattle.gate_config.specs.declared.keys.Section.TheVariants as sections
use Rattle.gate_config.specs.declared.fault.Within.{Within}
use Rattle.gate_config.specs.declared.fault.Within.TheVariants as places
use Rattle.gate_config.specs.declared.fault.Wanted.TheVariants as wants
use Rattle.gate_config.specs.declared.fault.Refusal.{Refusal}
use Rattle.gate_config.specs.declared.fault.Refusal.TheVariants as refusals
use Rattle.gate_config.specs.declared.file.GateFile.{GateFile}
use Rattle.gate_config.specs.Keys.{kind_of, default_of, file_keys, gateway_keys, face_keys, blocks_keys, contact_keys, keys_of}
use Rattle.gate_config.specs.Refusals.{first_of}
use Rattle.gate_config.specs.Values.{at, whole_of, moment_in, is_within, item_count, all_tables, fits, is_of, is_named, moment_at, text_at, contacts_at}
use Rattle.gate_config.specs.Meaning.{first_misfit, table_refusal, refuse_if, same_text, contact_refusal, contacts_refusal, number_in, face_refusal, blocks_refusal, section_of, refusal_of, contact_of, contacts_of, face_of, blocks_of, endpoint_or_null, gateway_of, file_of}
use Rattle.gate_config.specs.Reading.{MeansText}
use Rattle.config_laws.proofs.FaceLemmas.{whole, contact_items, contacts_data}
use Rattle.config_laws.proofs.Showable.{Fits, IsContact, AreContacts, IsFace, AreBlocks, IsGateway, IsFile}

-- ---- what isn't refused

first_none : (one other : Option Refusal) → first_of one other ≡ None → (one ≡ None) × (other ≡ None)
first_none None other none = (refl, none)
first_none (Some refusal) other none = absurd (cc)

passed : (test : Bool) (refusal : Refusal) → refuse_if test refusal ≡ None → test ≡ false
passed true refusal none = absurd (cc)
passed false refusal none = refl

not_passed : (test : Bool) → not test ≡ false → test ≡ true
not_passed true h = refl
not_passed false h = absurd (cc)

misfit_step : (test : Bool) (more : Option Refusal) (refusal : Refusal) → (if test then more else Some refusal) ≡ None → (test ≡ true) × (more ≡ None)
misfit_step true more refusal none = (refl, none)
misfit_step false more refusal none = absurd (cc)

misfit_none : (within : Within) (key : Key) (more : List Key) (place : Option Data) → first_misfit within (key ∷ more) place ≡ None
    → (Fits key (at key place)) × (first_misfit within more place ≡ None)
unfolding first_misfit
misfit_none within key more place none = misfit_step (fits (kind_of key) (at key place)) (first_misfit within more place) _ none

table_none : (within : Within) (known : List Key) (place : Option Data) → table_refusal within known place ≡ None → first_misfit within known place ≡ None
unfolding table_refusal
table_none within known place none = (first_none _ _ none).1

-- ---- values of each kind

address_fits : (o : Option Data) → fits kinds.Address o ≡ true → fits kinds.Address (Some (string (unwrap_or (option_and_then as_str o) []))) ≡ true
unfolding fits is_of
address_fits None h = absurd (false≢true h)
address_fits (Some (string s)) h = h
address_fits (Some (integer z)) h = absurd (false≢true h)
address_fits (Some (float x)) h = absurd (false≢true h)
address_fits (Some (boolean b)) h = absurd (false≢true h)
address_fits (Some (datetime when)) h = absurd (false≢true h)
address_fits (Some (array ds)) h = absurd (false≢true h)
address_fits (Some (table ms)) h = absurd (false≢true h)

path_fits : (o : Option Data) → fits kinds.Path o ≡ true → fits kinds.Path (option_map string (option_and_then as_str o)) ≡ true
unfolding fits is_of
path_fits None h = refl
path_fits (Some (string s)) h = h
path_fits (Some (integer z)) h = absurd (false≢true h)
path_fits (Some (float x)) h = absurd (false≢true h)
path_fits (Some (boolean b)) h = absurd (false≢true h)
path_fits (Some (datetime when)) h = absurd (false≢true h)
path_fits (Some (array ds)) h = absurd (false≢true h)
path_fits (Some (table ms)) h = absurd (false≢true h)

number_fits : (low high default : ℕ) (o : Option Data) → fits (kinds.Whole low high) o ≡ true → is_within low high default ≡ true
    → fits (kinds.Whole low high) (Some (whole (unwrap_or (option_and_then whole_of o) default))) ≡ true
unfolding fits is_of
number_fits low high default None h within = within
number_fits low high default (Some (integer (pos n))) h within = h
number_fits low high default (Some (integer (negsuc n))) h within = absurd (false≢true h)
number_fits low high default (Some (string s)) h within = absurd (false≢true h)
number_fits low high default (Some (float x)) h within = absurd (false≢true h)
number_fits low high default (Some (boolean b)) h within = absurd (false≢true h)
number_fits low high default (Some (datetime when)) h within = absurd (false≢true h)
number_fits low high default (Some (array ds)) h within = absurd (false≢true h)
number_fits low high default (Some (table ms)) h within = absurd (false≢true h)

number_if_fits : (low high : ℕ) (o : Option Data) → fits (kinds.Whole low high) o ≡ true → fits (kinds.Whole low high) (option_map whole (option_and_then whole_of o)) ≡ true
unfolding fits is_of
number_if_fits low high None h = refl
number_if_fits low high (Some (integer (pos n))) h = h
number_if_fits low high (Some (integer (negsuc n))) h = absurd (false≢true h)
number_if_fits low high (Some (string s)) h = absurd (false≢true h)
number_if_fits low high (Some (float x)) h = absurd (false≢true h)
number_if_fits low high (Some (boolean b)) h = absurd (false≢true h)
number_if_fits low high (Some (datetime when)) h = absurd (false≢true h)
number_if_fits low high (Some (array ds)) h = absurd (false≢true h)
number_if_fits low high (Some (table ms)) h = absurd (false≢true h)

-- a number that fits lies in the range
within_is : (low high n : ℕ) → fits (kinds.Whole low high) (Some (whole n)) ≡ true → is_within low high n ≡ true
unfolding fits is_of
within_is low high n h = h

-- the greater of two numbers of a range lies in it
max_within : (low high a b : ℕ) → is_within low high a ≡ true → is_within low high b ≡ true → is_within low high (max a b) ≡ true
max_within low high a b one other = grind (arith, nat_tests)

-- ---- moments

year_small : (z : ℤ) → unwrap_or (in_years z) 0 < year_10000
year_small (pos ms) = by (nat_lt ms year_10000) refl
  where
    by : (b : Bool) → nat_lt ms year_10000 ≡ b → unwrap_or (if b then Some ms else None) 0 < year_10000
    by true low = grind (arith, nat_tests)
    by false low = omega arith
year_small (negsuc ms) = omega arith

parts_small : (o : Option ℕ) (utc : ℕ → ℤ) → unwrap_or (option_and_then (λ ms. in_years (utc ms)) o) 0 < year_10000
parts_small None utc = omega arith
parts_small (Some ms) utc = year_small (utc ms)

when_small : (date : Option Date) (time : Option Time) (offset : Option Offset) → unwrap_or (moment_of_parts date time offset) 0 < year_10000
when_small (Some date) (Some time) (Some offset) = parts_small (seconds_ms time.second time.nanosecond) (λ ms. in_utc date time ms offset)
when_small (Some date) (Some time) None = omega arith
when_small (Some date) None offset = omega arith
when_small None time offset = omega arith

valid_small : (valid : Bool) (o : Option ℕ) → unwrap_or o 0 < year_10000 → unwrap_or (if valid then o else None) 0 < year_10000
valid_small true o small = small
valid_small false o small = omega arith

moment_of-small : (when : Datetime) → unwrap_or (moment_of when) 0 < year_10000
unfolding moment_of
moment_of-small when = valid_small (is_valid when) (moment_of_parts when.date when.time when.offset) (when_small when.date when.time when.offset)

moment_small : (o : Option Data) → unwrap_or (option_and_then moment_in o) 0 < year_10000
moment_small None = omega arith
moment_small (Some (string s)) = omega arith
moment_small (Some (integer z)) = omega arith
moment_small (Some (float x)) = omega arith
moment_small (Some (boolean b)) = omega arith
moment_small (Some (datetime when)) = moment_of-small when
moment_small (Some (array ds)) = omega arith
moment_small (Some (table ms)) = omega arith

-- ---- contacts

contact_means : (within : Within) (before : ℕ) (d : Data) → contact_refusal within before d ≡ None → IsContact before (contact_of d)
unfolding contact_refusal
contact_means within before d none =
    let (in_table, in_order) = first_none _ _ none in
    let from = misfit_none within keys.From (keys.To ∷ keys.Rate ∷ []) (Some d) (table_none within contact_keys (Some d) in_table) in
    let to = misfit_none within keys.To (keys.Rate ∷ []) (Some d) from.1 in
    let rate = misfit_none within keys.Rate [] (Some d) to.1 in
    let order = first_none _ _ in_order in
    record {
      from = moment_small (at keys.From (Some d));
      to = moment_small (at keys.To (Some d));
      rate = number_if_fits 1 10_000_000_000 (at keys.Rate (Some d)) rate.0;
      rises = not_passed _ (passed _ _ order.0);
      after = passed _ _ order.1;
    }

contacts_mean : (face : Section) (index before : ℕ) (ds : Items) → contacts_refusal face index before ds ≡ None → AreContacts before (contacts_of ds)
unfolding contacts_refusal contacts_of
contacts_mean face index before no_items none = tt
contacts_mean face index before (item d ds) none =
    let (here, more) = first_none _ _ none in
    (contact_means _ before d here, contacts_mean face (index + 1) (moment_at keys.To (Some d)) ds more)

counted : (ds : Items) → item_count (contact_items (contacts_of ds)) ≡ item_count ds
unfolding contacts_of
counted no_items = refl
counted (item d ds) = ap (λ n. n + 1) (counted ds)

all_are_tables : (ds : Items) → all_tables (contact_items (contacts_of ds)) ≡ true
unfolding contacts_of
all_are_tables no_items = refl
all_are_tables (item d ds) = all_are_tables ds

few_step : (few all : Bool) → (few && all) ≡ true → few ≡ true
few_step true all h = refl
few_step false all h = absurd (false≢true h)

contacts_fit : (o : Option Data) → fits kinds.Contacts o ≡ true → fits kinds.Contacts (contacts_data (contacts_of (unwrap_or (option_and_then as_array o) no_items))) ≡ true
unfolding fits is_of contacts_of
contacts_fit None h = refl
contacts_fit (Some (array no_items)) h = absurd (false≢true h)
contacts_fit (Some (array (item d ds))) h =
    let few = few_step (is_within 1 4096 (item_count (item d ds))) (all_tables (item d ds)) h in
    rw (counted ds, few, all_are_tables ds) refl
contacts_fit (Some (string s)) h = absurd (false≢true h)
contacts_fit (Some (integer z)) h = absurd (false≢true h)
contacts_fit (Some (float x)) h = absurd (false≢true h)
contacts_fit (Some (boolean b)) h = absurd (false≢true h)
contacts_fit (Some (datetime when)) h = absurd (false≢true h)
contacts_fit (Some (table ms)) h = absurd (false≢true h)

-- ---- a face

-- the defaults of a face's numbers are in their ranges
record HasDefaults (face : Section) : Type 0 where
  engine : is_within 1 4_294_967_295 (default_of face keys.Engine) ≡ true
  peer_engine : is_within 1 4_294_967_295 (default_of face keys.PeerEngine) ≡ true
  segment : is_within 512 8192 (default_of face keys.Segment) ≡ true
  timeout_ms : is_within 1 3_600_000 (default_of face keys.TimeoutMs) ≡ true
  limit : is_within 1 100 (default_of face keys.Limit) ≡ true
  cap_ms : is_within 1 3_600_000 (default_of face keys.CapMs) ≡ true
  outbox : is_within 65_507 4_294_967_295 (default_of face keys.Outbox) ≡ true
  sessions : is_within 1 1024 (default_of face keys.Sessions) ≡ true
  memory : is_within 33_554_432 1_099_511_627_776 (default_of face keys.Memory) ≡ true
  aggregate : is_within 0 4_194_304 (default_of face keys.Aggregate) ≡ true
  aggregate_ms : is_within 1 60_000 (default_of face keys.AggregateMs) ≡ true
  remember : is_within 4096 16_777_216 (default_of face keys.Remember) ≡ true
  remember_ms : is_within 1000 604_800_000 (default_of face keys.RememberMs) ≡ true

old_defaults : HasDefaults sections.Old
old_defaults = record { engine = refl; peer_engine = refl; segment = refl; timeout_ms = refl; limit = refl; cap_ms = refl; outbox = refl; sessions = refl; memory = refl; aggregate = refl; aggregate_ms = refl; remember = refl; remember_ms = refl }

new_defaults : HasDefaults sections.New
new_defaults = record { engine = refl; peer_engine = refl; segment = refl; timeout_ms = refl; limit = refl; cap_ms = refl; outbox = refl; sessions = refl; memory = refl; aggregate = refl; aggregate_ms = refl; remember = refl; remember_ms = refl }

-- what the keys of both faces hold is of their kinds
record FaceFits (place : Option Data) : Type 0 where
  bind : Fits keys.Bind (at keys.Bind place)
  peer : Fits keys.Peer (at keys.Peer place)
  engine : Fits keys.Engine (at keys.Engine place)
  peer_engine : Fits keys.PeerEngine (at keys.PeerEngine place)
  segment : Fits keys.Segment (at keys.Segment place)
  timeout_ms : Fits keys.TimeoutMs (at keys.TimeoutMs place)
  limit : Fits keys.Limit (at keys.Limit place)
  cap_ms : Fits keys.CapMs (at keys.CapMs place)
  first_session : Fits keys.FirstSession (at keys.FirstSession place)
  rate : Fits keys.Rate (at keys.Rate place)
  outbox : Fits keys.Outbox (at keys.Outbox place)
  sessions : Fits keys.Sessions (at keys.Sessions place)
  memory : Fits keys.Memory (at keys.Memory place)
  aggregate : Fits keys.Aggregate (at keys.Aggregate place)
  aggregate_ms : Fits keys.AggregateMs (at keys.AggregateMs place)
  remember : Fits keys.Remember (at keys.Remember place)
  remember_ms : Fits keys.RememberMs (at keys.RememberMs place)

face_fits : (within : Within) (rest : List Key) (place : Option Data) → first_misfit within (face_keys ++ rest) place ≡ None
    → FaceFits place × (first_misfit within rest place ≡ None)
face_fits within rest place none =
    let bind = misfit_none within keys.Bind _ place none in
    let peer = misfit_none within keys.Peer _ place bind.1 in
    let engine = misfit_none within keys.Engine _ place peer.1 in
    let peer_engine = misfit_none within keys.PeerEngine _ place engine.1 in
    let segment = misfit_none within keys.Segment _ place peer_engine.1 in
    let timeout_ms = misfit_none within keys.TimeoutMs _ place segment.1 in
    let limit = misfit_none within keys.Limit _ place timeout_ms.1 in
    let cap_ms = misfit_none within keys.CapMs _ place limit.1 in
    let first_session = misfit_none within keys.FirstSession _ place cap_ms.1 in
    let rate = misfit_none within keys.Rate _ place first_session.1 in
    let outbox = misfit_none within keys.Outbox _ place rate.1 in
    let accept = misfit_none within keys.Accept _ place outbox.1 in
    let sessions = misfit_none within keys.Sessions _ place accept.1 in
    let memory = misfit_none within keys.Memory _ place sessions.1 in
    let aggregate = misfit_none within keys.Aggregate _ place memory.1 in
    let aggregate_ms = misfit_none within keys.AggregateMs _ place aggregate.1 in
    let remember = misfit_none within keys.Remember _ place aggregate_ms.1 in
    let remember_ms = misfit_none within keys.RememberMs rest place remember.1 in (
      record {
        bind = bind.0;
        peer = peer.0;
        engine = engine.0;
        peer_engine = peer_engine.0;
        segment = segment.0;
        timeout_ms = timeout_ms.0;
        limit = limit.0;
        cap_ms = cap_ms.0;
        first_session = first_session.0;
        rate = rate.0;
        outbox = outbox.0;
        sessions = sessions.0;
        memory = memory.0;
        aggregate = aggregate.0;
        aggregate_ms = aggregate_ms.0;
        remember = remember.0;
        remember_ms = remember_ms.0;
      },
      remember_ms.1,
    )

-- what the keys hold that the face towards version 7 alone has, and its contacts
record NewFits (place : Option Data) : Type 0 where
  residue : Fits keys.ResidueBlock (at keys.ResidueBlock place)
  wrap : Fits keys.WrapBlock (at keys.WrapBlock place)
  contact : Fits keys.Contact (at keys.Contact place)

new_fits : (within : Within) (place : Option Data) → first_misfit within (blocks_keys ++ (keys.Contact ∷ [])) place ≡ None → NewFits place
new_fits within place none =
    let residue = misfit_none within keys.ResidueBlock _ place none in
    let wrap = misfit_none within keys.WrapBlock _ place residue.1 in
    let foreign = misfit_none within keys.ForeignBlocks _ place wrap.1 in
    let contact = misfit_none within keys.Contact [] place foreign.1 in
    record { residue = residue.0; wrap = wrap.0; contact = contact.0 }

-- the keys of a face are those of both, and more, of which the contacts are one
record HasKeys (face : Section) : Type 0 where
  rest : List Key
  all : keys_of face ≡ face_keys ++ rest
  contact : (within : Within) (place : Option Data) → first_misfit within rest place ≡ None → Fits keys.Contact (at keys.Contact place)

old_keys : HasKeys sections.Old
old_keys = record {
  rest = keys.Contact ∷ [];
  all = refl;
  contact = λ within place none. (misfit_none within keys.Contact [] place none).0;
}

new_keys : HasKeys sections.New
new_keys = record {
  rest = blocks_keys ++ (keys.Contact ∷ []);
  all = refl;
  contact = λ within place none. (new_fits within place none).contact;
}

keys_fit : (within : Within) (face : Section) (place : Option Data) (known : HasKeys face) → table_refusal within (keys_of face) place ≡ None
    → FaceFits place × (first_misfit within known.rest place ≡ None)
keys_fit within face place known none = face_fits within known.rest place (rw known.all at (table_none within (keys_of face) place none))

face_table : (face : Section) (place : Option Data) → face_refusal face place ≡ None → table_refusal (places.Table face) (keys_of face) place ≡ None
unfolding face_refusal
face_table face place none = (first_none _ _ none).0

face_means : (face : Section) (place : Option Data) → HasDefaults face → HasKeys face → face_refusal face place ≡ None → IsFace (face_of face place)
unfolding face_refusal
face_means face place defaults known none =
    let (in_table, after_table) = first_none _ _ none in
    let (cap, after_cap) = first_none _ _ after_table in
    let (contacts, numbers) = first_none _ _ after_cap in
    let (fit, more) = keys_fit (places.Table face) face place known in_table in
    let wait = number_in face keys.TimeoutMs place in
    let timeout = number_fits 1 3_600_000 (default_of face keys.TimeoutMs) (at keys.TimeoutMs place) fit.timeout_ms defaults.timeout_ms in
    record {
      bind = address_fits (at keys.Bind place) fit.bind;
      peer = address_fits (at keys.Peer place) fit.peer;
      engine = number_fits 1 4_294_967_295 (default_of face keys.Engine) (at keys.Engine place) fit.engine defaults.engine;
      peer_engine = number_fits 1 4_294_967_295 (default_of face keys.PeerEngine) (at keys.PeerEngine place) fit.peer_engine defaults.peer_engine;
      segment = number_fits 512 8192 (default_of face keys.Segment) (at keys.Segment place) fit.segment defaults.segment;
      timeout_ms = timeout;
      limit = number_fits 1 100 (default_of face keys.Limit) (at keys.Limit place) fit.limit defaults.limit;
      cap_ms = number_fits 1 3_600_000 (max (default_of face keys.CapMs) wait) (at keys.CapMs place) fit.cap_ms (max_within 1 3_600_000 (default_of face keys.CapMs) wait defaults.cap_ms (within_is 1 3_600_000 wait timeout));
      first_session = number_if_fits 1 4_294_967_295 (at keys.FirstSession place) fit.first_session;
      rate = number_if_fits 1 10_000_000_000 (at keys.Rate place) fit.rate;
      outbox = number_fits 65_507 4_294_967_295 (default_of face keys.Outbox) (at keys.Outbox place) fit.outbox defaults.outbox;
      sessions = number_fits 1 1024 (default_of face keys.Sessions) (at keys.Sessions place) fit.sessions defaults.sessions;
      memory = number_fits 33_554_432 1_099_511_627_776 (default_of face keys.Memory) (at keys.Memory place) fit.memory defaults.memory;
      aggregate = number_fits 0 4_194_304 (default_of face keys.Aggregate) (at keys.Aggregate place) fit.aggregate defaults.aggregate;
      aggregate_ms = number_fits 1 60_000 (default_of face keys.AggregateMs) (at keys.AggregateMs place) fit.aggregate_ms defaults.aggregate_ms;
      remember = number_fits 4096 16_777_216 (default_of face keys.Remember) (at keys.Remember place) fit.remember defaults.remember;
      remember_ms = number_fits 1000 604_800_000 (default_of face keys.RememberMs) (at keys.RememberMs place) fit.remember_ms defaults.remember_ms;
      contact = contacts_fit (at keys.Contact place) (known.contact (places.Table face) place more);
      cap = passed _ _ cap;
      contacts = contacts_mean face 0 0 (contacts_at place) contacts;
      apart = passed _ _ numbers;
    }

-- ---- the types of blocks

blocks_mean : (place : Option Data) → table_refusal (places.Table sections.New) (keys_of sections.New) place ≡ None → blocks_refusal place ≡ None
    → AreBlocks (blocks_of place)
unfolding blocks_refusal new_keys
blocks_mean place in_table none =
    let (residue, wrap) = first_none _ _ none in
    let fit = new_fits (places.Table sections.New) place (keys_fit (places.Table sections.New) sections.New place new_keys in_table).1 in
    record {
      residue = number_fits 192 255 192 (at keys.ResidueBlock place) fit.residue refl;
      wrap = number_fits 192 255 193 (at keys.WrapBlock place) fit.wrap refl;
      residue_apart = passed _ _ residue;
      wrap_apart = passed _ _ wrap;
    }

-- ---- the gateway

legal_of : (text : List ℕ) (r : Result Endpoint EndpointFault) → read_text text ≡ r → is_named r ≡ true
    → IsEndpoint (endpoint_or_null r) × (is_named (Ok (endpoint_or_null r)) ≡ true)
legal_of text (Ok e) is named = ((read_text-found text e is).legal, named)
legal_of text (Err fault) is named = absurd (false≢true named)

endpoint_fits : (o : Option Data) → fits kinds.Endpoint o ≡ true
    → let e = endpoint_or_null (read_text (unwrap_or (option_and_then as_str o) [])) in IsEndpoint e × (is_named (Ok e) ≡ true)
unfolding fits is_of
endpoint_fits None h = absurd (false≢true h)
endpoint_fits (Some (string s)) h = legal_of s (read_text s) refl h
endpoint_fits (Some (integer z)) h = absurd (false≢true h)
endpoint_fits (Some (float x)) h = absurd (false≢true h)
endpoint_fits (Some (boolean b)) h = absurd (false≢true h)
endpoint_fits (Some (datetime when)) h = absurd (false≢true h)
endpoint_fits (Some (array ds)) h = absurd (false≢true h)
endpoint_fits (Some (table ms)) h = absurd (false≢true h)

gateway_means : (within : Within) (place : Option Data) (same : Bool) → table_refusal within gateway_keys place ≡ None → same ≡ false
    → same ≡ same_text (text_at keys.Journal place) (text_at keys.Metrics place) → IsGateway (gateway_of place)
gateway_means within place same none apart is =
    let endpoint = misfit_none within keys.Endpoint _ place (table_none within gateway_keys place none) in
    let cut = misfit_none within keys.Cut _ place endpoint.1 in
    let age = misfit_none within keys.Age _ place cut.1 in
    let journal = misfit_none within keys.Journal _ place age.1 in
    let metrics = misfit_none within keys.Metrics [] place journal.1 in
    let legal = endpoint_fits (at keys.Endpoint place) endpoint.0 in
    record {
      legal = legal.0;
      named = legal.1;
      cut = number_fits 1 4_000_000 65_536 (at keys.Cut place) cut.0 refl;
      journal = path_fits (at keys.Journal place) journal.0;
      metrics = path_fits (at keys.Metrics place) metrics.0;
      apart = sym is ∙ apart;
    }

-- ---- the file

file_means : (document : Option Data) → refusal_of document ≡ None → IsFile (file_of document)
unfolding refusal_of
file_means document none =
    let place = section_of sections.Gateway document in
    let old_place = section_of sections.Old document in
    let new_place = section_of sections.New document in
    let same = same_text (text_at keys.Journal place) (text_at keys.Metrics place) in
    let wrong = refusals.Wrong (places.Table sections.Gateway) keys.Metrics wants.OtherPath in
    let of_paths = refuse_if same wrong in
    let of_blocks = blocks_refusal new_place in
    let of_new = face_refusal sections.New new_place in
    let of_old = face_refusal sections.Old old_place in
    let of_gateway = table_refusal (places.Table sections.Gateway) gateway_keys place in
    let after_root = (first_none (table_refusal places.File file_keys document) (first_of of_gateway (first_of of_old (first_of of_new (first_of of_blocks of_paths)))) none).1 in
    let (gateway, after_gateway) = first_none of_gateway (first_of of_old (first_of of_new (first_of of_blocks of_paths))) after_root in
    let (old, after_old) = first_none of_old (first_of of_new (first_of of_blocks of_paths)) after_gateway in
    let (new, after_new) = first_none of_new (first_of of_blocks of_paths) after_old in
    let (blocks, paths) = first_none of_blocks of_paths after_new in
    record {
      gateway = gateway_means (places.Table sections.Gateway) place same gateway (passed same wrong paths) refl;
      old = face_means sections.Old old_place old_defaults old_keys old;
      new = face_means sections.New new_place new_defaults new_keys new;
      blocks = blocks_mean new_place (face_table sections.New new_place new) blocks;
    }

pub means_file : (text : List ℕ) (file : GateFile) → MeansText text file → IsFile file
means_file text file means = rw means.values (file_means (Some (table means.document)) means.kept)
