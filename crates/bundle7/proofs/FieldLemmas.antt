-- Heads and numbers of one octet.
use Rattle.std.proofs.Common.{◌≡◌, ℕ, ◌+◌, ◌*◌, ◌<◌, ◌≤◌, ◌==◌, List, ◌∷◌, length, drop, get_or, Ok, refl, ◌∙◌, subst, arith}
use Rattle.std.proofs.lemmas.Bool.{lt-ltb, eq-eqb}
use Rattle.std.proofs.lemmas.List.{drop_more}
use Rattle.cbor_lite.specs.Head.{number_at, head_at}
use Rattle.cbor_lite.proofs.HeadLemmas.{head_at-first}
use Rattle.wire_fields.specs.Kind.{head}
use Rattle.wire_fields.specs.Format.{field, such_that}
use Rattle.wire_fields.specs.Reading.{read}
use Rattle.wire_fields.specs.Words.{needs, any_unsigned, exact_array}
use Rattle.endpoint.specs.declared.name.Endpoint.TheVariants.{Ipn}
use Rattle.bundle7.specs.declared.fault.Cause7.{Cause7}
use Rattle.bundle7.specs.declared.fault.Cause7.TheVariants.{Eid}
use Rattle.bundle7.specs.Eid.{eid, ipn_name}
use Rattle.bundle7.specs.Calls.{IsShortIpn}

-- it is found where its octet stands
pub short-head : (text : List ℕ) (at major value : ℕ) (cause : Cause7) → at < length text → value < 24
    → get_or text at 0 ≡ 32 * major + value
    → read (such_that (field (head major) cause) (λ n. needs (n == value) cause)) text at ≡ Ok (value, at + 1)
short-head text at major value cause there small octet =
    let here : drop at text ≡ get_or text at 0 ∷ drop (at + 1) text = drop_more text at 0 there in
    let first = head_at-first major value (drop (at + 1) text) (omega arith) in
    let found : head_at major (drop at text) ≡ Ok (value, 1) = rw (here, octet) (first ∙ rw (lt-ltb value 24 small) refl) in
    rw (found, eq-eqb value value refl) refl

-- a number of one octet
short-number : (text : List ℕ) (at after : ℕ) (cause : Cause7) → at < length text → get_or text at 0 < 24
    → after ≡ at + 1 → read (any_unsigned cause) text at ≡ Ok (get_or text at 0, after)
short-number text at after cause there small is =
    let here : drop at text ≡ get_or text at 0 ∷ drop (at + 1) text = drop_more text at 0 there in
    let octet : 32 * 0 + get_or text at 0 ≡ get_or text at 0 = omega arith in
    let first : head_at 0 (get_or text at 0 ∷ drop (at + 1) text) ≡ number_at (get_or text at 0) (drop (at + 1) text) =
    subst (λ o. head_at 0 (o ∷ drop (at + 1) text) ≡ number_at (get_or text at 0) (drop (at + 1) text)) octet
    (head_at-first 0 (get_or text at 0) (drop (at + 1) text) (omega arith)) in
    let found : head_at 0 (drop at text) ≡ Ok (get_or text at 0, 1) =
    rw here (first ∙ rw (lt-ltb (get_or text at 0) 24 small) refl) in
    rw (is, found) refl

-- the head of an array of two items
short-pair : (text : List ℕ) (at after : ℕ) → at < length text → get_or text at 0 ≡ 0x82 → after ≡ at + 1
    → read (exact_array 2 Eid) text at ≡ Ok (2, after)
short-pair text at after there octet is = rw is (short-head text at 4 2 Eid there (omega arith) octet)

-- an endpoint of five octets
pub short-ipn : (text : List ℕ) (at : ℕ) → IsShortIpn text at
    → read eid text at ≡ Ok (Ipn (get_or text (at + 3) 0) (get_or text (at + 4) 0), at + 5)
unfolding eid ipn_name
short-ipn text at short =
    let there : at + 5 ≤ length text = short.there in
    let items = short-pair text at (at + 1) (omega (arith, there)) short.items refl in
    let number = short-number text (at + 1) (at + 2) Eid (omega (arith, there)) (omega (arith, short.scheme)) (omega arith) in
    let pair = short-pair text (at + 2) (at + 3) (omega (arith, there)) short.pair (omega arith) in
    let node = short-number text (at + 3) (at + 4) Eid (omega (arith, there)) short.node (omega arith) in
    let service = short-number text (at + 4) (at + 5) Eid (omega (arith, there)) short.service (omega arith) in
    rw (items, number, short.scheme, pair, node, service) refl
