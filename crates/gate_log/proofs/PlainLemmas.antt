-- The texts of endpoints.
use Rattle.std.proofs.Common.{◌≡◌, ℕ, zero, suc, ◌≤◌, true, ◌&&◌, not, leb, ltb, List, [], ◌∷◌, ◌++◌, length, codes, decimal, refl, ap, arith}
use Rattle.std.specs.List.{list_all}
use Rattle.std.specs.Str.{IsUtf8, IsAscii, bytes_eq}
use Rattle.std.proofs.lemmas.Bool.{and_parts, leb-true, lt-ltb, ltb-true}
use Rattle.std.proofs.lemmas.Str.{IsUtf8-from_ascii}
use Rattle.std.proofs.lemmas.Str.Ascii.{IsAscii-nil}
use Rattle.json.specs.Print.{quoted}
use Rattle.endpoint.specs.Endpoints.{is_visible, is_ssp}
use Rattle.gate_log.specs.Written.{AreLow, in_quotes, ipn_text}
use Rattle.gate_log.proofs.TextLemmas.{is_plain, ArePlain, both, plain-escape, plain-decimal}

-- ---- text

low-ascii : (octets : List ℕ) → AreLow octets → IsAscii octets
low-ascii [] low i = IsAscii-nil i
low-ascii (octet ∷ octets) low zero = ltb-true octet 128 (and_parts (ltb octet 128) (list_all (λ o. ltb o 128) octets) low).0
low-ascii (octet ∷ octets) low (suc i) = low-ascii octets (and_parts (ltb octet 128) (list_all (λ o. ltb o 128) octets) low).1 i

pub low-utf8 : (octets : List ℕ) → AreLow octets → IsUtf8 octets
low-utf8 octets low = IsUtf8-from_ascii octets (low-ascii octets low)

-- ---- dtn names

visible-low : (octets : List ℕ) → list_all is_visible octets ≡ true → AreLow octets
visible-low [] visible = refl
visible-low (octet ∷ octets) visible =
    let parts = and_parts (is_visible octet) (list_all is_visible octets) visible in
    let low : octet ≤ 126 = leb-true octet 126 (and_parts (leb 33 octet) (leb octet 126) parts.0).1 in
    rw (lt-ltb octet 128 (omega arith)) (visible-low octets parts.1)

pub ssp-low : (ssp : List ℕ) → is_ssp ssp ≡ true → AreLow ssp
unfolding is_ssp
ssp-low ssp legal =
    let most = (and_parts (leb 1 (length ssp) && leb (length ssp) 1023 && list_all is_visible ssp) (not (bytes_eq ssp (codes "none"))) legal).0 in
    visible-low ssp (and_parts (leb 1 (length ssp) && leb (length ssp) 1023) (list_all is_visible ssp) most).1

-- ---- names by numbers

plain-ipn : (node service : ℕ) → ArePlain (ipn_text node service)
plain-ipn node service =
    both is_plain (decimal node) (codes "." ++ decimal service) (plain-decimal node) (plain-decimal service)

pub quoted-ipn : (node service : ℕ) → quoted (ipn_text node service) ≡ in_quotes (ipn_text node service)
quoted-ipn node service = ap in_quotes (plain-escape (ipn_text node service) (plain-ipn node service))
