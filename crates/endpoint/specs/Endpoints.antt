-- Endpoints: which values are legal, and the one text of each.

use Rattle.std.specs.Prelude.{◌≡◌, ℕ, ◌^◌, ◌<◌, Bool, true, false, ◌&&◌, ◌||◌, not, nat_le}
use Rattle.std.specs.Prelude.{List, [], ◌∷◌, ◌++◌, length, take, codes}
use Rattle.std.specs.List.{list_all}
use Rattle.std.specs.Str.{bytes_eq}
use Rattle.std.specs.Fmt.{decimal}
use Rattle.endpoint.specs.declared.name.Endpoint.{Endpoint}
use Rattle.endpoint.specs.declared.name.Endpoint.TheVariants.{Null, Ipn, Dtn}

-- an octet from ! to ~
abbrev pub is_visible : ℕ → Bool
is_visible octet = nat_le 33 octet && nat_le octet 126

-- a scheme-specific part that a dtn name may have; the part none is the null endpoint's
unfoldable pub is_ssp : List ℕ → Bool
is_ssp ssp =
    nat_le 1 (length ssp) && nat_le (length ssp) 1023
    && list_all is_visible ssp && not (bytes_eq ssp (codes "none"))

-- a legal endpoint: one that has a text
abbrev pub IsEndpoint : Endpoint → Type 0
IsEndpoint Null = Unit {0}
IsEndpoint (Ipn node service) = (node < 2 ^ 64) × (service < 2 ^ 64)
IsEndpoint (Dtn ssp) = is_ssp ssp ≡ true

-- a dtn name other than the null endpoint: the one kind whose value takes memory
abbrev pub IsDtn : Endpoint → Type 0
IsDtn Null = ⊥
IsDtn (Ipn node service) = ⊥
IsDtn (Dtn ssp) = Unit {0}

-- nobody
abbrev pub is_null : Endpoint → Bool
is_null Null = true
is_null (Ipn node service) = false
is_null (Dtn ssp) = false

abbrev pub scheme_of : Endpoint → List ℕ
scheme_of Null = codes "dtn"
scheme_of (Ipn node service) = codes "ipn"
scheme_of (Dtn ssp) = codes "dtn"

abbrev pub ssp_of : Endpoint → List ℕ
ssp_of Null = codes "none"
ssp_of (Ipn node service) = decimal node ++ (codes "." ++ decimal service)
ssp_of (Dtn ssp) = ssp

-- its text: scheme, colon and scheme-specific part
abbrev pub text_of : Endpoint → List ℕ
text_of endpoint = scheme_of endpoint ++ (codes ":" ++ ssp_of endpoint)

-- the front stands at the text's front
abbrev pub begins : List ℕ → List ℕ → Bool
begins front text = bytes_eq (take (length front) text) front

-- the octets /~ stand somewhere in the text: it names a group
unfoldable pub names_group : List ℕ → Bool
names_group [] = false
names_group (octet ∷ more) = begins (codes "/~") (octet ∷ more) || names_group more

-- the endpoint is one receiver and no group of them
abbrev pub is_singleton : Endpoint → Bool
is_singleton Null = false
is_singleton (Ipn node service) = true
is_singleton (Dtn ssp) = not (names_group ssp)
