-- The texts of strings: hex digits stand as they are, and visible octets are text.
use Rattle.std.proofs.Common.{◌≡◌, ◌≢◌, ℕ, zero, suc, ◌+◌, ◌/◌, ◌%◌, ◌^◌, ◌<◌, ◌≤◌, Bool, true, ◌&&◌, not, leb, eqb, List, [], ◌∷◌, ◌++◌, length, slice_index, codes, decimal, refl, ap, ap₂, subst, ◌∙◌, arith}
use Rattle.std.proofs.lemmas.List.Folds.{list_all-append}
use Rattle.std.proofs.lemmas.Bool.{ne_eqb, le-leb, le-ltb, lt-ltb, leb-true, eqb-false, not-true, and_parts}
use Rattle.std.specs.List.{list_all}
use Rattle.std.proofs.lemmas.Fmt.{decimal_by_steps}
use Rattle.std.proofs.lemmas.Str.{IsUtf8-from_ascii}
use Rattle.std.specs.Str.{IsUtf8, bytes_eq}
use Rattle.endpoint.specs.declared.name.Endpoint.{Endpoint}
use Rattle.endpoint.specs.declared.name.Endpoint.TheVariants.{Null, Ipn, Dtn}
use Rattle.endpoint.specs.Endpoints.{IsEndpoint, is_visible, is_ssp, scheme_of, ssp_of}
use Rattle.hex_text.specs.Hex.{encode_with, encode_lower, lower_digits, IsBytes}
use Rattle.hex_text.proofs.DigitLemmas.{is_low, low-ascii}
use Rattle.json.specs.Print.{escape_byte, escape, quoted}

-- ---- escapes

-- an octet from the space on, but a quote and a backslash
pub escape_byte-plain : (x : ℕ) → 32 ≤ x → x ≢ 34 → x ≢ 92 → escape_byte x ≡ x ∷ []
unfolding escape_byte
escape_byte-plain x high quote backslash =
    rw (ne_eqb x 34 quote, ne_eqb x 92 backslash, ne_eqb x 8 (λ e. omega arith), ne_eqb x 12 (λ e. omega arith), ne_eqb x 10 (λ e. omega arith), ne_eqb x 13 (λ e. omega arith), ne_eqb x 9 (λ e. omega arith), le-ltb x 32 high) refl

-- ---- names that are legal

ssp-visible : (ssp : List ℕ) → is_ssp ssp ≡ true → list_all is_visible ssp ≡ true
unfolding is_ssp
ssp-visible ssp legal =
    let most = (and_parts (leb 1 (length ssp) && leb (length ssp) 1023 && list_all is_visible ssp) (not (bytes_eq ssp (codes "none"))) legal).0 in
    (and_parts (leb 1 (length ssp) && leb (length ssp) 1023) (list_all is_visible ssp) most).1

pub dtn-visible : (endpoint : Endpoint) (ssp : List ℕ) → endpoint ≡ Dtn ssp → IsEndpoint endpoint → list_all is_visible ssp ≡ true
dtn-visible endpoint ssp is legal = ssp-visible ssp (subst IsEndpoint is legal)

decimal-visible : (n : ℕ) → n < 2 ^ 64 → list_all is_visible (decimal n) ≡ true
decimal-visible = decimal_by_steps (λ n ds. list_all is_visible ds ≡ true) one more
  where
    one : (n : ℕ) → n < 10 → list_all is_visible ((48 + n) ∷ []) ≡ true
    one n low = rw (le-leb 33 (48 + n) (omega arith), le-leb (48 + n) 126 (omega arith)) refl

    more : (n : ℕ) (ds : List ℕ) → 10 ≤ n → list_all is_visible ds ≡ true → list_all is_visible (ds ++ ((48 + n % 10) ∷ [])) ≡ true
    more n ds high is = list_all-append is_visible ds ((48 + n % 10) ∷ []) ∙ ap₂ (λ (s t : Bool). s && t) is (one (n % 10) (omega arith))

-- the two texts of a legal endpoint
pub scheme-visible : (endpoint : Endpoint) → list_all is_visible (scheme_of endpoint) ≡ true
scheme-visible Null = refl
scheme-visible (Ipn node service) = refl
scheme-visible (Dtn ssp) = refl

pub part-visible : (endpoint : Endpoint) → IsEndpoint endpoint → list_all is_visible (ssp_of endpoint) ≡ true
part-visible Null legal = refl
part-visible (Ipn node service) legal =
    list_all-append is_visible (decimal node) (codes "." ++ decimal service)
    ∙ ap₂ (λ (s t : Bool). s && t) (decimal-visible node legal.0) (decimal-visible service legal.1)
part-visible (Dtn ssp) legal = ssp-visible ssp legal

-- ---- text

-- visible octets are text
visible-low : (octets : List ℕ) → list_all is_visible octets ≡ true → list_all is_low octets ≡ true
visible-low [] visible = refl
visible-low (octet ∷ octets) visible =
    let parts = and_parts (is_visible octet) (list_all is_visible octets) visible in
    let low : octet ≤ 126 = leb-true octet 126 (and_parts (leb 33 octet) (leb octet 126) parts.0).1 in
    rw (lt-ltb octet 128 (omega arith)) (visible-low octets parts.1)

pub visible-utf8 : (octets : List ℕ) → list_all is_visible octets ≡ true → IsUtf8 octets
visible-utf8 octets visible = IsUtf8-from_ascii octets (low-ascii octets (visible-low octets visible))

-- ---- hex

-- each digit stands as it is
abbrev is_plain : ℕ → Bool
is_plain octet = leb 32 octet && (not (eqb octet 34) && not (eqb octet 92))

plain-at : (octets : List ℕ) (n : ℕ) → list_all is_plain octets ≡ true → n < length octets → escape_byte (slice_index octets n) ≡ slice_index octets n ∷ []
plain-at [] n plain within = absurd (omega arith)
plain-at (octet ∷ octets) zero plain within =
    let here = (and_parts (is_plain octet) (list_all is_plain octets) plain).0 in
    let parts = and_parts (leb 32 octet) (not (eqb octet 34) && not (eqb octet 92)) here in
    let apart = and_parts (not (eqb octet 34)) (not (eqb octet 92)) parts.1 in
    escape_byte-plain octet (leb-true 32 octet parts.0) (eqb-false octet 34 (not-true (eqb octet 34) apart.0)) (eqb-false octet 92 (not-true (eqb octet 92) apart.1))
plain-at (octet ∷ octets) (suc n) plain within =
    plain-at octets n (and_parts (is_plain octet) (list_all is_plain octets) plain).1 (omega arith)

escape-hex : (octets : List ℕ) → IsBytes octets → escape (encode_lower octets) ≡ encode_lower octets
unfolding encode_with
escape-hex [] small = refl
escape-hex (x ∷ xs) small =
    let fits : x < 256 = small 0 in
    rw (plain-at lower_digits (x / 16) refl (omega arith), plain-at lower_digits (x % 16) refl (omega arith), escape-hex xs (λ i. small (suc i))) refl

pub quoted-hex : (octets : List ℕ) → IsBytes octets → quoted (encode_lower octets) ≡ codes "\"" ++ (encode_lower octets ++ codes "\"")
quoted-hex octets small = ap (λ s. codes "\"" ++ (s ++ codes "\"")) (escape-hex octets small)
