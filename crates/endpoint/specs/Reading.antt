-- Reading an endpoint: from its text, and from the two texts of scheme and scheme-specific part.

use Rattle.std.specs.Prelude.{◌≡◌, ◌≢◌, ℕ, ◌⊎◌, List, ◌++◌, drop, codes}
use Rattle.std.specs.Prelude.{Option, None, Some, Result, Err, if◌then◌else◌}
use Rattle.std.specs.Option.{ok_or}
use Rattle.std.specs.Str.{bytes_eq}
use Rattle.endpoint.specs.declared.name.Endpoint.{Endpoint}
use Rattle.endpoint.specs.declared.name.Endpoint.TheVariants.{Null, Ipn, Dtn}
use Rattle.endpoint.specs.declared.fault.EndpointFault.{EndpointFault}
use Rattle.endpoint.specs.declared.fault.EndpointFault.TheVariants.{Scheme, Ssp, Number, Memory}
use Rattle.endpoint.specs.Numeral.{pair_of}
use Rattle.endpoint.specs.Endpoints.{IsEndpoint, text_of, is_ssp, begins}

-- the text is that of this endpoint
pub record Spells (endpoint : Endpoint) (text : List ℕ) : Type 0 where
  pub legal : IsEndpoint endpoint
  pub spelled : text ≡ text_of endpoint

-- no two endpoints have the same text
abbrev pub HaveOneText : Type 0
HaveOneText = (one other : Endpoint) (text : List ℕ) → Spells one text → Spells other text → one ≡ other

-- the text spells no endpoint
abbrev pub SpellsNone : List ℕ → Type 0
SpellsNone text = (endpoint : Endpoint) → Spells endpoint text → ⊥

-- the text spells a dtn name
abbrev pub SpellsDtn : List ℕ → Type 0
SpellsDtn text = (ssp : List ℕ) × Spells (Dtn ssp) text

-- no text follows the scheme's, since the scheme doesn't stand at the front
abbrev pub Lacks : List ℕ → List ℕ → Type 0
Lacks scheme text = (ssp : List ℕ) → text ≢ scheme ++ ssp

-- when each fault comes
abbrev pub Misses : EndpointFault → List ℕ → Type 0
Misses Scheme text = Lacks (codes "dtn:") text × Lacks (codes "ipn:") text
Misses Ssp text = ((ssp : List ℕ) × (text ≡ codes "dtn:" ++ ssp)) × SpellsNone text
Misses Number text = ((ssp : List ℕ) × (text ≡ codes "ipn:" ++ ssp)) × SpellsNone text
Misses Memory text = Unit {0}

-- ---- as functions

-- the endpoint of the scheme dtn with this scheme-specific part
abbrev pub dtn_named : List ℕ → Option Endpoint
dtn_named ssp =
    if bytes_eq ssp (codes "none") then Some Null
    else if is_ssp ssp then Some (Dtn ssp)
    else None

abbrev pub ipn_of : Option (ℕ × ℕ) → Option Endpoint
ipn_of None = None
ipn_of (Some pair) = Some (Ipn pair.0 pair.1)

-- the endpoint of the scheme ipn with this scheme-specific part
abbrev pub ipn_named : List ℕ → Option Endpoint
ipn_named ssp = ipn_of (pair_of ssp)

-- the endpoint with this scheme and this scheme-specific part
unfoldable pub named : List ℕ → List ℕ → Option Endpoint
named scheme ssp =
    if bytes_eq scheme (codes "dtn") then dtn_named ssp
    else if bytes_eq scheme (codes "ipn") then ipn_named ssp
    else None

-- what a text reads as
unfoldable pub read_text : List ℕ → Result Endpoint EndpointFault
read_text text =
    if begins (codes "dtn:") text then ok_or (dtn_named (drop 4 text)) Ssp
    else if begins (codes "ipn:") text then ok_or (ipn_named (drop 4 text)) Number
    else Err Scheme

-- a result is what reading gives, unless memory ran out
abbrev pub Reads : Result Endpoint EndpointFault → List ℕ → Type 0
Reads result text = (result ≡ read_text text) ⊎ (result ≡ Err Memory)
