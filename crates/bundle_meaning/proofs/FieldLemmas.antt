-- The fields of bodies, spelled.

use Rattle.std.proofs.Common.{◌≡◌, ℕ, suc, ◌+◌, ◌-◌, ◌^◌, ◌<◌, ◌≤◌, true, List, [], ◌∷◌, ◌++◌, length, None, Ok, refl, sym, arith, append_assoc, ◌==◌, codes}
use Rattle.std.proofs.lemmas.List.{append-nil, length-append}
use Rattle.std.proofs.lemmas.Bool.{lt-ltb, eq-eqb, leb-true, and_parts}
use Rattle.std.proofs.lemmas.Fmt.{length-decimal-le}
use Rattle.std.specs.Fmt.{decimal}
use Rattle.std.specs.List.{flat_map, All}
use Rattle.sdnv.specs.Shortest.{spelling}
use Rattle.sdnv.proofs.ShortestLemmas.{spelling-spells}
use Rattle.endpoint.specs.declared.name.Endpoint.{Endpoint}
use Rattle.endpoint.specs.declared.name.Endpoint.TheVariants.{Null, Ipn, Dtn}
use Rattle.endpoint.specs.Endpoints.{IsEndpoint, is_ssp, text_of}
use Rattle.endpoint.specs.Reading.{read_text}
use Rattle.endpoint.proofs.ReadingLemmas.{read_text-only}
use Rattle.wire_fields.specs.Format.{Spells}
use Rattle.wire_fields.specs.Words.{needs, repeated, one_more}
use Rattle.bundle_meaning.specs.declared.fault.BlockFault.TheVariants.{Bad}
use Rattle.bundle_meaning.specs.Bits.{is_within, is_without}
use Rattle.bundle_meaning.specs.Blocks.{mark}
use Rattle.bundle_meaning.specs.Body.{the_mark, shortest, below, flags_within, flags_without, is_name, name_of, name, name_octets, all_left}
use Rattle.bundle_meaning.proofs.NamesLemmas.{a_name}

pub mark-spells : (front : List ℕ) → Spells the_mark front mark mark
mark-spells front = ((refl, refl), refl)

-- ---- numbers

-- so many octets more
more_octets : (front octets : List ℕ) → length ((front ++ []) ++ octets) - length front ≡ length octets
more_octets front octets =
    let long : length ((front ++ []) ++ octets) ≡ length front + length octets =
    rw (append-nil front) (length-append front octets) in
    omega (arith, long)

pub shortest-spells : (front : List ℕ) (n : ℕ) → n < 2 ^ 64 → Spells shortest front (spelling n) n
unfolding shortest
shortest-spells front n fits =
    let short : needs (length ((front ++ []) ++ spelling n) - length front == length (spelling n)) Bad ≡ None =
    rw (more_octets front (spelling n), eq-eqb (length (spelling n)) (length (spelling n)) refl) refl in (
      [],
      spelling n,
      length front,
      refl,
      (refl, refl),
      (
        spelling n,
        [],
        n,
        sym (append-nil (spelling n)),
        spelling-spells n fits,
        ([], [], length ((front ++ []) ++ spelling n), refl, (refl, refl), ([], [], tt, refl, ((refl, refl), short), (refl, refl))),
      ),
    )

pub below-spells : (front : List ℕ) (limit n : ℕ) → n < limit → n < 2 ^ 64 → Spells (below limit) front (spelling n) n
below-spells front limit n small fits = (shortest-spells front n fits, rw (lt-ltb n limit small) refl)

pub within-spells : (front : List ℕ) (mask n : ℕ) → is_within mask n ≡ true → n < 2 ^ 64 → Spells (flags_within mask) front (spelling n) n
within-spells front mask n within fits = (shortest-spells front n fits, rw within refl)

pub without-spells : (front : List ℕ) (mask n : ℕ) → is_without mask n ≡ true → n < 2 ^ 64 → Spells (flags_without mask) front (spelling n) n
without-spells front mask n without fits = (shortest-spells front n fits, rw without refl)

-- ---- endpoints

ssp-short : (ssp : List ℕ) → is_ssp ssp ≡ true → length ssp ≤ 1023
unfolding is_ssp
ssp-short ssp is =
    let a = and_parts _ _ is in
    let b = and_parts _ _ a.0 in
    let c = and_parts _ _ b.0 in
    leb-true (length ssp) 1023 c.1

-- the text of an endpoint is short
pub text-short : (endpoint : Endpoint) → IsEndpoint endpoint → length (text_of endpoint) < 2 ^ 64
text-short Null is = omega arith
text-short (Ipn node service) is =
    let one = length-decimal-le 20 node (omega arith) (omega (arith, is.0)) is.0 in
    let other = length-decimal-le 20 service (omega arith) (omega (arith, is.1)) is.1 in
    let long = length-append (decimal node) (codes "." ++ decimal service) in
    omega (arith, one, other, long)
text-short (Dtn ssp) is = let few = ssp-short ssp is in omega (arith, few)

pub name-spells : (front : List ℕ) (endpoint : Endpoint) → IsEndpoint endpoint → Spells name front (name_octets endpoint) endpoint
unfolding name
name-spells front endpoint is =
    let read : read_text (text_of endpoint) ≡ Ok endpoint = read_text-only (text_of endpoint) endpoint (record { legal = is; spelled = refl }) in
    let found : needs (is_name (text_of endpoint)) Bad ≡ None = rw read refl in
    let named : endpoint ≡ name_of (text_of endpoint) = rw read refl in (
      spelling (length (text_of endpoint)),
      text_of endpoint,
      length (text_of endpoint),
      refl,
      shortest-spells front (length (text_of endpoint)) (text-short endpoint is),
      (text_of endpoint, [], text_of endpoint, sym (append-nil (text_of endpoint)), ((refl, refl), found), (refl, named)),
    )

pub names-spell : (front : List ℕ) (earlier endpoints : List Endpoint) → All IsEndpoint endpoints
    → Spells (repeated (length endpoints) (one_more a_name) earlier) front (flat_map name_octets endpoints) (earlier ++ endpoints)
names-spell front earlier [] are = (refl, append-nil earlier)
names-spell front earlier (endpoint ∷ endpoints) are =
    let rest = names-spell (front ++ name_octets endpoint) (earlier ++ endpoint ∷ []) endpoints (λ k d within. are (suc k) d (omega (arith, within))) in
    let whole = append_assoc earlier (endpoint ∷ []) endpoints in (
      name_octets endpoint,
      flat_map name_octets endpoints,
      earlier ++ endpoint ∷ [],
      refl,
      (name_octets endpoint, [], endpoint, sym (append-nil (name_octets endpoint)), name-spells front endpoint (are 0 endpoint (omega arith)), (refl, refl)),
      rw whole at rest,
    )

-- ---- the rest

pub all_left-spells : (front body : List ℕ) (size : ℕ) → size ≡ length front + length body → Spells (all_left size) front body body
unfolding all_left
all_left-spells front body size whole =
    let left : length body ≡ size - length front = omega (arith, whole) in
    ([], body, length front, refl, (refl, refl), (refl, left))
