-- Names as two offsets into a dictionary (RFC 5050, section 4.5), or as two numbers (RFC 6260).

use Rattle.std.specs.Prelude.{ℕ, Bool, true, false, Result, Ok, Err, ◌==◌, ◌&&◌, List, take, drop, length, Option, Some, None, if◌then◌else◌, is_some, unwrap_or, ◌≡◌, ◌<◌, IfSome}
use Rattle.std.specs.Borrow.{Bor}
use Rattle.std.specs.List.{position}
use Rattle.std.specs.Option.{option_map}
use Rattle.endpoint.specs.declared.name.Endpoint.{Endpoint}
use Rattle.endpoint.specs.declared.name.Endpoint.TheVariants.{Null, Ipn, Dtn}
use Rattle.endpoint.specs.declared.place.Place.{Place}
use Rattle.endpoint.specs.declared.place.Place.TheVariants as places
use Rattle.endpoint.specs.Reading.{named}
use Rattle.bundle6.specs.declared.names.Offsets.{Offsets}
use Rattle.bundle6.specs.declared.names.Pairs.{Pairs}
use Rattle.bundle6.specs.declared.names.Named.{Named}
use Rattle.bundle6.specs.declared.names.Unresolved.{Unresolved}
use Rattle.bundle6.specs.declared.names.Unresolved.TheVariants.{Unknown, Memory}

abbrev pub is_nul : ℕ → Bool
is_nul octet = octet == 0

-- the octets before the first NUL, which must exist
unfoldable pub up_to_nul : List ℕ → Option (List ℕ)
up_to_nul text = option_map (λ end. take end text) (position is_nul text)

-- the text of the dictionary at an offset; none stands at or past its end
unfoldable pub text_at : List ℕ → ℕ → Option (List ℕ)
text_at dictionary offset = up_to_nul (drop offset dictionary)

-- a text that was found; one past 1,023 octets, which names nothing, may be missed
abbrev pub Shows : Option (Bor (List ℕ)) → Option (List ℕ) → Type 0
Shows None given = IfSome given (λ text. 1023 < length text)
Shows (Some lent) given = given ≡ Some lent.now

-- the endpoint of two texts, if both are there and name one
abbrev pub named_by : Option (List ℕ) → Option (List ℕ) → Option Endpoint
named_by (Some scheme) (Some ssp) = named scheme ssp
named_by (Some scheme) None = None
named_by None ssp = None

-- the endpoint of two numbers, without a dictionary
abbrev pub numbered : Offsets → Endpoint
numbered pair = if pair.scheme == 0 && pair.ssp == 0 then Null else Ipn pair.scheme pair.ssp

-- the endpoint that two numbers name
unfoldable pub resolve : List ℕ → Offsets → Option Endpoint
resolve dictionary pair =
    if length dictionary == 0 then Some (numbered pair)
    else named_by (text_at dictionary pair.scheme) (text_at dictionary pair.ssp)

-- whether they name one
abbrev pub resolves : List ℕ → Offsets → Bool
resolves dictionary pair = is_some (resolve dictionary pair)

-- the endpoint that they name, where they do
abbrev pub name_of : List ℕ → Offsets → Endpoint
name_of dictionary pair = unwrap_or (resolve dictionary pair) Null

-- ---- the four names of a primary block

-- each of the four resolves
abbrev pub all_resolve : List ℕ → Pairs → Bool
all_resolve dictionary pairs =
    resolves dictionary pairs.destination && resolves dictionary pairs.source
    && resolves dictionary pairs.report_to && resolves dictionary pairs.custodian

-- what they name, where they do
abbrev pub names_of : List ℕ → Pairs → Named
names_of dictionary pairs = record {
  destination = name_of dictionary pairs.destination;
  source = name_of dictionary pairs.source;
  report_to = name_of dictionary pairs.report_to;
  custodian = name_of dictionary pairs.custodian;
}

-- ---- what code answers

-- the place of an endpoint whose scheme-specific part has so many octets from there on
abbrev pub place_named : Endpoint → ℕ → ℕ → Place
place_named Null from size = places.Null
place_named (Ipn node service) from size = places.Written from size
place_named (Dtn ssp) from size = places.Dtn from size

-- the endpoint that two numbers name, or that they name none
abbrev pub Resolves : List ℕ → Offsets → Result Endpoint Unresolved → Type 0
Resolves dictionary pair (Ok name) = resolve dictionary pair ≡ Some name
Resolves dictionary pair (Err Unknown) = resolve dictionary pair ≡ None
Resolves dictionary pair (Err Memory) = Unit {0}

-- the four endpoints, or that one of them names none
abbrev pub ResolvesAll : List ℕ → Pairs → Result Named Unresolved → Type 0
ResolvesAll dictionary pairs (Ok names) =
    (all_resolve dictionary pairs ≡ true) × (names ≡ names_of dictionary pairs)
ResolvesAll dictionary pairs (Err Unknown) = all_resolve dictionary pairs ≡ false
ResolvesAll dictionary pairs (Err Memory) = Unit {0}
