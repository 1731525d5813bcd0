-- A file that is read has all that a gateway wants of it.

use Rattle.std.proofs.Common.{◌≡◌, ◌≢◌, ℕ, suc, ◌+◌, ◌^◌, ◌<◌, ◌≤◌, max, Bool, true, false, not, ◌==◌, nat_lt, List, [], ◌∷◌, ◌++◌, length, Option, None, Some, IfSome, Result, Ok, Err, refl, arith, ℤ, pos, negsuc, if◌then◌else◌}
use Rattle.std.specs.Prelude.{option_and_then, unwrap_or}
use Rattle.std.proofs.lemmas.Bool.{eqb-false, ltb-false, le-leb, and_parts, or_parts, leb-true, ltb-true}
use Rattle.endpoint.specs.declared.name.Endpoint.{Endpoint}
use Rattle.endpoint.specs.declared.name.Endpoint.TheVariants as names
use Rattle.endpoint.specs.declared.fault.EndpointFault.{EndpointFault}
use Rattle.endpoint.specs.Endpoints.{IsEndpoint}
use Rattle.endpoint.specs.Reading.{read_text}
use Rattle.endpoint.proofs.ReadingLemmas.{read_text-found}
use Rattle.toml_datetime.specs.declared.datetime.Date.{Date}
use Rattle.toml_datetime.specs.declared.datetime.Time.{Time}
use Rattle.toml_datetime.specs.declared.datetime.Offset.{Offset}
use Rattle.toml_datetime.specs.declared.datetime.Datetime.{Datetime}
use Rattle.toml_datetime.specs.Valid.{is_valid}
use Rattle.moment_text.specs.Moments.{moment_of, moment_of_parts, in_years, in_utc, seconds_ms}
use Rattle.toml.specs.Data.{Data, Items, no_items, item, string, integer, float, boolean, datetime, array, table, as_str, as_array}
use Rattle.contact_plan.specs.Fault.{plan_fault, first_misplaced, may_follow}
use Rattle.gate_config.specs.declared.keys.Key.{Key}
use Rattle.gate_config.specs.declared.keys.Key.TheVariants as keys
use Rattle.gate_config.specs.declared.keys.Kind.TheVariants as kinds
use Rattle.gate_config.specs.declared.keys.Section.{Section}
use Rattle.gate_config.specs.declared.keys.Section.TheVariants as sections
use Rattle.gate_config.specs.declared.fault.Within.{Within}
use Rattle.gate_config.specs.declared.fault.Within.TheVariants as places
use Rattle.gate_config.specs.declared.fault.Wanted.TheVariants as wants
use Rattle.gate_config.specs.declared.fault.Refusal.{Refusal}
use Rattle.gate_config.specs.declared.fault.Refusal.TheVariants as refusals
use Rattle.gate_config.specs.Keys.{kind_of, default_of, face_keys, blocks_keys, file_keys, keys_of}
use Rattle.gate_config.specs.Refusals.{first_of}
use Rattle.gate_config.specs.Values.{at, fits, is_of, whole_of, is_whole, number_at, text_at, moment_at, moment_in, contacts_at, is_contacts, item_count, is_endpoint, is_named}
use Rattle.gate_config.specs.Meaning.{first_misfit, table_refusal, refuse_if, contact_refusal, contacts_refusal, number_in, cap_in, face_refusal, blocks_refusal, refusal_of, contacts_of, face_of, gateway_of, blocks_of, file_of, endpoint_or_null, section_of, same_text}
use Rattle.block_types.specs.Pair.{IsPair}
use Rattle.gateway_core.specs.Config.{IsGateConfig}
use Rattle.gate_face.specs.Schedules.{HasPlan, windows_of}
use Rattle.peer_half.specs.Setup.{IsFace, IsRunnable}
use Rattle.gate_run.specs.Laws.{IsRunnableAsRead}

-- ---- what isn't refused

firsts : (one later : Option Refusal) → first_of one later ≡ None → (one ≡ None) × (later ≡ None)
firsts None later is = (refl, is)
firsts (Some refusal) later is = absurd (cc)

pub record Four (one two three four : Option Refusal) : Type 0 where
  pub first : one ≡ None
  pub second : two ≡ None
  pub third : three ≡ None
  pub fourth : four ≡ None

fours : (one two three four : Option Refusal)
    → first_of one (first_of two (first_of three four)) ≡ None → Four one two three four
fours one two three four is =
    let a = firsts one (first_of two (first_of three four)) is in
    let b = firsts two (first_of three four) a.1 in
    let c = firsts three four b.1 in
    record { first = a.0; second = b.0; third = c.0; fourth = c.1 }

not-refused : (test : Bool) (refusal : Refusal) → refuse_if test refusal ≡ None → test ≡ false
not-refused true refusal is = absurd (cc)
not-refused false refusal is = refl

not-misfit : (test : Bool) (more : Option Refusal) (refusal : Refusal)
    → (if test then more else Some refusal) ≡ None → (test ≡ true) × (more ≡ None)
not-misfit true more refusal is = (refl, is)
not-misfit false more refusal is = absurd (cc)

-- what stands at each of these keys is of its kind
abbrev pub AllFit : List Key → Option Data → Type 0
AllFit [] place = Unit {0}
AllFit (key ∷ more) place = (fits (kind_of key) (at key place) ≡ true) × AllFit more place

all-fit : (within : Within) (known : List Key) (place : Option Data)
    → first_misfit within known place ≡ None → AllFit known place
unfolding first_misfit
all-fit within [] place is = tt
all-fit within (key ∷ more) place is =
    let both = not-misfit (fits (kind_of key) (at key place)) _ _ is in
    (both.0, all-fit within more place both.1)

table-fits : (within : Within) (known : List Key) (place : Option Data)
    → table_refusal within known place ≡ None → AllFit known place
unfolding table_refusal
table-fits within known place is = all-fit within known place (firsts _ _ is).1

-- ---- numbers

abbrev pub InRange : ℕ → ℕ → Option ℕ → Type 0
InRange low high number = IfSome number (λ n. (low ≤ n) × (n ≤ high))

whole-in : (low high : ℕ) (number : Option ℕ) → is_whole low high number ≡ true → InRange low high number
whole-in low high None is = absurd (cc)
whole-in low high (Some n) is =
    let both = and_parts _ _ is in (leb-true low n both.0, leb-true n high both.1)

whole-fits : (low high : ℕ) (value : Option Data)
    → fits (kinds.Whole low high) value ≡ true → InRange low high (option_and_then whole_of value)
unfolding fits is_of
whole-fits low high None is = tt
whole-fits low high (Some value) is = whole-in low high (whole_of value) is

or-default : (low high default : ℕ) (number : Option ℕ) → InRange low high number
    → low ≤ default → default ≤ high → (low ≤ unwrap_or number default) × (unwrap_or number default ≤ high)
or-default low high default None within least most = (least, most)
or-default low high default (Some n) within least most = within

-- ---- moments

abbrev pub IsEarly : ℕ → Type 0
IsEarly moment = moment < 252_455_616_000_000

in_years-early : (ms : ℤ) → IfSome (in_years ms) IsEarly
in_years-early (pos ms) = by (nat_lt ms 252_455_616_000_000) refl
  where
    by : (b : Bool) → nat_lt ms 252_455_616_000_000 ≡ b → IfSome (if b then Some ms else None) IsEarly
    by true is = ltb-true ms 252_455_616_000_000 is
    by false is = tt
in_years-early (negsuc ms) = tt

and-then-early : {X : Type 0} (value : Option X) (f : X → Option ℕ) → ((x : X) → IfSome (f x) IsEarly)
    → IfSome (option_and_then f value) IsEarly
and-then-early None f early = tt
and-then-early (Some x) f early = early x

parts-early : (date : Option Date) (time : Option Time) (offset : Option Offset)
    → IfSome (moment_of_parts date time offset) IsEarly
parts-early None time offset = tt
parts-early (Some date) None offset = tt
parts-early (Some date) (Some time) None = tt
parts-early (Some date) (Some time) (Some offset) =
    and-then-early (seconds_ms time.second time.nanosecond) (λ ms. in_years (in_utc date time ms offset))
    (λ ms. in_years-early (in_utc date time ms offset))

moment_of-early : (when : Datetime) → IfSome (moment_of when) IsEarly
unfolding moment_of
moment_of-early when = by (is_valid when)
  where
    by : (b : Bool) → IfSome (if b then moment_of_parts when.date when.time when.offset else None) IsEarly
    by true = parts-early when.date when.time when.offset
    by false = tt

moment_in-early : (value : Data) → IfSome (moment_in value) IsEarly
moment_in-early (string text) = tt
moment_in-early (integer number) = tt
moment_in-early (float number) = tt
moment_in-early (boolean flag) = tt
moment_in-early (datetime when) = moment_of-early when
moment_in-early (array items) = tt
moment_in-early (table rows) = tt

or-zero : (moment : Option ℕ) → IfSome moment IsEarly → IsEarly (unwrap_or moment 0)
or-zero None early = omega arith
or-zero (Some moment) early = early

moment_at-early : (key : Key) (place : Option Data) → IsEarly (moment_at key place)
moment_at-early key place =
    or-zero (option_and_then moment_in (at key place))
    (and-then-early (at key place) moment_in moment_in-early)

-- ---- contacts

not-true : (b : Bool) → not b ≡ false → b ≡ true
not-true true is = refl
not-true false is = absurd (cc)

follows : (before from to : ℕ) → nat_lt from to ≡ true → nat_lt from before ≡ false → IsEarly to
    → may_follow before record { from = from; to = to } ≡ true
follows before from to rises after early =
    rw (le-leb before from (ltb-false from before after), rises, le-leb to (2 ^ 62) (omega arith)) refl

placed-more : (b : Bool) (rest : Option ℕ) (k : ℕ) → b ≡ true → rest ≡ None → (if b then rest else Some k) ≡ None
placed-more true rest k is none = none
placed-more false rest k is none = absurd (cc)

placed : (face : Section) (index k before : ℕ) (items : Items)
    → contacts_refusal face index before items ≡ None
    → first_misplaced k before (windows_of (contacts_of items)) ≡ None
unfolding contacts_refusal contact_refusal contacts_of
placed face index k before no_items is = refl
placed face index k before (item value more) is =
    let both = firsts _ _ is in
    let order = firsts _ _ (firsts _ _ both.0).1 in
    placed-more _ _ k
    (follows before (moment_at keys.From (Some value)) (moment_at keys.To (Some value))
    (not-true _ (not-refused _ _ order.0)) (not-refused _ _ order.1)
    (moment_at-early keys.To (Some value)))
    (placed face (index + 1) (k + 1) (moment_at keys.To (Some value)) more both.1)

few : (items : Option Items) → is_contacts items ≡ true → item_count (unwrap_or items no_items) ≤ 4096
few None is = absurd (cc)
few (Some items) is = leb-true _ _ (and_parts _ _ (and_parts _ _ is).0).1

few-at : (value : Option Data) → fits kinds.Contacts value ≡ true
    → item_count (unwrap_or (option_and_then as_array value) no_items) ≤ 4096
unfolding fits is_of
few-at None is = omega arith
few-at (Some value) is = few (as_array value) is

one-more : (few many : ℕ) → few ≡ many → suc few ≡ many + 1
one-more few many is = rw is (omega arith)

as-many : (items : Items) → length (windows_of (contacts_of items)) ≡ item_count items
unfolding contacts_of
as-many no_items = refl
as-many (item value more) = one-more _ _ (as-many more)

has-plan : (face : Section) (place : Option Data) → fits kinds.Contacts (at keys.Contact place) ≡ true
    → contacts_refusal face 0 0 (contacts_at place) ≡ None → HasPlan (face_of face place)
has-plan face place fit is = by (nat_lt 4096 (length (windows_of (contacts_of (contacts_at place))))) refl
  where
    by : (b : Bool) → nat_lt 4096 (length (windows_of (contacts_of (contacts_at place)))) ≡ b
        → plan_fault (windows_of (contacts_of (contacts_at place))) ≡ None
    by true many =
        let more = ltb-true 4096 (length (windows_of (contacts_of (contacts_at place)))) many in
        let most = few-at (at keys.Contact place) fit in
        absurd (omega (arith, more, most, as-many (contacts_at place)))
    by false many = rw (many, placed face 0 0 0 (contacts_at place) is) refl

-- ---- a face

cap-within : (cap : Option ℕ) (timeout : ℕ) → InRange 1 3_600_000 cap → timeout ≤ 3_600_000
    → unwrap_or cap (max 160_000 timeout) ≤ 3_600_000
cap-within None timeout within most = omega arith
cap-within (Some cap) timeout within most = within.1

first-within : (first : Option ℕ) → InRange 1 4_294_967_295 first
    → IfSome first (λ number. (1 ≤ number) × (number < 2 ^ 32))
first-within None within = tt
first-within (Some number) within = (within.0, omega (arith, within.1))

-- what a face leaves out; and its keys are those of both faces, and more, of which the contacts are one
pub record HasDefaults (face : Section) : Type 0 where
  pub segment : default_of face keys.Segment ≡ 1024
  pub timeout : default_of face keys.TimeoutMs ≡ 10_000
  pub limit : default_of face keys.Limit ≡ 10
  pub cap : default_of face keys.CapMs ≡ 160_000
  pub sessions : default_of face keys.Sessions ≡ 64
  pub memory : default_of face keys.Memory ≡ 268_435_456
  pub aggregate : default_of face keys.Aggregate ≡ 0
  pub aggregate_ms : default_of face keys.AggregateMs ≡ 1000
  pub remember : default_of face keys.Remember ≡ 1_048_576
  pub remember_ms : default_of face keys.RememberMs ≡ 3_600_000
  pub rest : List Key
  pub all : keys_of face ≡ face_keys ++ rest
  pub contact : (place : Option Data) → AllFit rest place → fits kinds.Contacts (at keys.Contact place) ≡ true

old-defaults : HasDefaults sections.Old
old-defaults = record {
  segment = refl;
  timeout = refl;
  limit = refl;
  cap = refl;
  sessions = refl;
  memory = refl;
  aggregate = refl;
  aggregate_ms = refl;
  remember = refl;
  remember_ms = refl;
  rest = keys.Contact ∷ [];
  all = refl;
  contact = λ place fit. fit.0;
}

new-defaults : HasDefaults sections.New
new-defaults = record {
  segment = refl;
  timeout = refl;
  limit = refl;
  cap = refl;
  sessions = refl;
  memory = refl;
  aggregate = refl;
  aggregate_ms = refl;
  remember = refl;
  remember_ms = refl;
  rest = blocks_keys ++ (keys.Contact ∷ []);
  all = refl;
  contact = λ place fit. let (residue, (wrap, (foreign, (contact, end)))) = fit in contact;
}

runnable-face : (face : Section) (place : Option Data) → HasDefaults face
    → face_refusal face place ≡ None → IsFace (face_of face place)
unfolding face_refusal
runnable-face face place defaults is =
    let parts = fours (table_refusal (places.Table face) (keys_of face) place)
    (refuse_if (nat_lt (cap_in face place) (number_in face keys.TimeoutMs place))
    (refusals.Wrong (places.Table face) keys.CapMs wants.NotBelowTimeout))
    (contacts_refusal face 0 0 (contacts_at place))
    (refuse_if (number_in face keys.Engine place == number_in face keys.PeerEngine place)
    (refusals.Wrong (places.Table face) keys.PeerEngine wants.OtherNumber)) is in
    let fit = rw defaults.all at (table-fits (places.Table face) (keys_of face) place parts.first) in
    let (bind, (peer, (engine, (peer_engine, (segment, (timeout, (limit, (cap, (first, (rate, more)))))))))) = fit in
    let (outbox, (accept, (sessions, (memory, (aggregate, (aggregate_ms, (remember, (remember_ms, others)))))))) = more in
    let contact = defaults.contact place others in
    let sizes = or-default 512 8192 (default_of face keys.Segment) (number_at keys.Segment place)
    (whole-fits 512 8192 (at keys.Segment place) segment) (rw defaults.segment (omega arith)) (rw defaults.segment (omega arith)) in
    let times = or-default 1 3_600_000 (default_of face keys.TimeoutMs) (number_at keys.TimeoutMs place)
    (whole-fits 1 3_600_000 (at keys.TimeoutMs place) timeout) (rw defaults.timeout (omega arith)) (rw defaults.timeout (omega arith)) in
    let often = or-default 1 100 (default_of face keys.Limit) (number_at keys.Limit place)
    (whole-fits 1 100 (at keys.Limit place) limit) (rw defaults.limit (omega arith)) (rw defaults.limit (omega arith)) in
    let many = or-default 1 1024 (default_of face keys.Sessions) (number_at keys.Sessions place)
    (whole-fits 1 1024 (at keys.Sessions place) sessions) (rw defaults.sessions (omega arith)) (rw defaults.sessions (omega arith)) in
    let room = or-default 33_554_432 1_099_511_627_776 (default_of face keys.Memory) (number_at keys.Memory place)
    (whole-fits 33_554_432 1_099_511_627_776 (at keys.Memory place) memory) (rw defaults.memory (omega arith)) (rw defaults.memory (omega arith)) in
    let together = or-default 0 4_194_304 (default_of face keys.Aggregate) (number_at keys.Aggregate place)
    (whole-fits 0 4_194_304 (at keys.Aggregate place) aggregate) (rw defaults.aggregate (omega arith)) (rw defaults.aggregate (omega arith)) in
    let waits = or-default 1 60_000 (default_of face keys.AggregateMs) (number_at keys.AggregateMs place)
    (whole-fits 1 60_000 (at keys.AggregateMs place) aggregate_ms) (rw defaults.aggregate_ms (omega arith)) (rw defaults.aggregate_ms (omega arith)) in
    let closed = or-default 4096 16_777_216 (default_of face keys.Remember) (number_at keys.Remember place)
    (whole-fits 4096 16_777_216 (at keys.Remember place) remember) (rw defaults.remember (omega arith)) (rw defaults.remember (omega arith)) in
    let long = or-default 1000 604_800_000 (default_of face keys.RememberMs) (number_at keys.RememberMs place)
    (whole-fits 1000 604_800_000 (at keys.RememberMs place) remember_ms) (rw defaults.remember_ms (omega arith)) (rw defaults.remember_ms (omega arith)) in
    record {
      apart = eqb-false _ _ (not-refused _ _ parts.fourth);
      segment_least = sizes.0;
      segment_most = sizes.1;
      timeout_least = times.0;
      limit_least = often.0;
      limit_most = often.1;
      cap_least = ltb-false _ _ (not-refused _ _ parts.second);
      cap_most = rw defaults.cap (cap-within (number_at keys.CapMs place) _ (whole-fits 1 3_600_000 (at keys.CapMs place) cap) times.1);
      first = first-within (number_at keys.FirstSession place) (whole-fits 1 4_294_967_295 (at keys.FirstSession place) first);
      sessions_least = many.0;
      sessions_most = many.1;
      memory_least = room.0;
      memory_most = room.1;
      aggregate_most = together.1;
      aggregate_ms_least = waits.0;
      aggregate_ms_most = waits.1;
      remember_least = closed.0;
      remember_most = closed.1;
      remember_ms_least = long.0;
      remember_ms_most = long.1;
      plan = has-plan face place contact parts.third;
    }

-- ---- the gateway

named-legal : (read : Result Endpoint EndpointFault) (text : List ℕ) → read_text text ≡ read → is_named read ≡ true
    → (endpoint_or_null read ≢ names.Null) × IsEndpoint (endpoint_or_null read)
named-legal (Err fault) text is named = absurd (cc)
named-legal (Ok names.Null) text is named = absurd (cc)
named-legal (Ok (names.Ipn node service)) text is named = (λ same. absurd (cc), (read_text-found text (names.Ipn node service) is).legal)
named-legal (Ok (names.Dtn ssp)) text is named = (λ same. absurd (cc), (read_text-found text (names.Dtn ssp) is).legal)

endpoint-legal : (text : Option (List ℕ)) → is_endpoint text ≡ true
    → (endpoint_or_null (read_text (unwrap_or text [])) ≢ names.Null) × IsEndpoint (endpoint_or_null (read_text (unwrap_or text [])))
endpoint-legal None is = absurd (cc)
endpoint-legal (Some text) is = named-legal (read_text text) text refl is

endpoint-at : (value : Option Data) → fits kinds.Endpoint value ≡ true → is_endpoint (option_and_then as_str value) ≡ true
unfolding fits is_of
endpoint-at None is = absurd (cc)
endpoint-at (Some value) is = is

runnable-gateway : (within : Within) (place : Option Data) → table_refusal within (keys_of sections.Gateway) place ≡ None
    → IsGateConfig (gateway_of place).endpoint (gateway_of place).cut
runnable-gateway within place is =
    let (endpoint, (cut, (age, (journal, (metrics, end))))) = table-fits within (keys_of sections.Gateway) place is in
    let name = endpoint-legal (text_at keys.Endpoint place) (endpoint-at (at keys.Endpoint place) endpoint) in
    let cuts = or-default 1 4_000_000 65_536 (number_at keys.Cut place)
    (whole-fits 1 4_000_000 (at keys.Cut place) cut) (omega arith) (omega arith) in
    record { named = name.0; legal = name.1; cut_least = cuts.0; cut_most = cuts.1 }

-- ---- the types of residues and wraps

-- what stands there is of its kind
pub record BlocksFit (place : Option Data) : Type 0 where
  pub residue : fits (kinds.Whole 192 255) (at keys.ResidueBlock place) ≡ true
  pub wrap : fits (kinds.Whole 192 255) (at keys.WrapBlock place) ≡ true

blocks-fit : (place : Option Data) → face_refusal sections.New place ≡ None → BlocksFit place
unfolding face_refusal
blocks-fit place is =
    let tables = firsts (table_refusal (places.Table sections.New) (keys_of sections.New) place) _ is in
    let fit = table-fits (places.Table sections.New) (keys_of sections.New) place tables.0 in
    let (bind, (peer, (engine, (peer_engine, (segment, (timeout, (limit, (cap, (first, (rate, more)))))))))) = fit in
    let (outbox, (accept, (sessions, (memory, (aggregate, (aggregate_ms, (remember, (remember_ms, others)))))))) = more in
    record { residue = others.0; wrap = (others.1).0 }

runnable-blocks : (place : Option Data) → BlocksFit place → blocks_refusal place ≡ None
    → IsPair (blocks_of place).residue_block (blocks_of place).wrap_block
unfolding blocks_refusal
runnable-blocks place fit is =
    let residue = or-default 192 255 192 (number_at keys.ResidueBlock place)
    (whole-fits 192 255 (at keys.ResidueBlock place) fit.residue) (omega arith) (omega arith) in
    let wrap = or-default 192 255 193 (number_at keys.WrapBlock place)
    (whole-fits 192 255 (at keys.WrapBlock place) fit.wrap) (omega arith) (omega arith) in
    let both = firsts _ _ is in
    let others = or_parts _ _ (not-refused _ _ both.1) in
    record {
      residue_low = residue.0;
      residue_high = omega (arith, residue.1);
      residue_other = eqb-false _ _ (not-refused _ _ both.0);
      wrap_low = wrap.0;
      wrap_high = omega (arith, wrap.1);
      wrap_other = eqb-false _ _ others.0;
      apart = eqb-false _ _ others.1;
    }

-- ---- a file

runnable-document : (document : Option Data) → refusal_of document ≡ None → IsRunnable (file_of document)
unfolding refusal_of
runnable-document document is =
    let rest = firsts (table_refusal places.File file_keys document)
    (first_of (table_refusal (places.Table sections.Gateway) (keys_of sections.Gateway) (section_of sections.Gateway document))
    (first_of (face_refusal sections.Old (section_of sections.Old document))
    (first_of (face_refusal sections.New (section_of sections.New document))
    (first_of (blocks_refusal (section_of sections.New document))
    (refuse_if (same_text (text_at keys.Journal (section_of sections.Gateway document))
    (text_at keys.Metrics (section_of sections.Gateway document)))
    (refusals.Wrong (places.Table sections.Gateway) keys.Metrics wants.OtherPath)))))) is in
    let parts = fours (table_refusal (places.Table sections.Gateway) (keys_of sections.Gateway) (section_of sections.Gateway document))
    (face_refusal sections.Old (section_of sections.Old document))
    (face_refusal sections.New (section_of sections.New document))
    (first_of (blocks_refusal (section_of sections.New document))
    (refuse_if (same_text (text_at keys.Journal (section_of sections.Gateway document))
    (text_at keys.Metrics (section_of sections.Gateway document)))
    (refusals.Wrong (places.Table sections.Gateway) keys.Metrics wants.OtherPath))) rest.1 in
    let blocks = firsts (blocks_refusal (section_of sections.New document)) _ parts.fourth in
    record {
      gateway = runnable-gateway (places.Table sections.Gateway) (section_of sections.Gateway document) parts.first;
      old = runnable-face sections.Old (section_of sections.Old document) old-defaults parts.second;
      new = runnable-face sections.New (section_of sections.New document) new-defaults parts.third;
      blocks = runnable-blocks (section_of sections.New document)
          (blocks-fit (section_of sections.New document) parts.third) blocks.0;
    }

pub runnable-read : IsRunnableAsRead
runnable-read octets file means =
    rw ((means.means).values) (runnable-document _ (means.means).kept)
