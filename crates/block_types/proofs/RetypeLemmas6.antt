-- Wraps in version 6 that say the other type.

use Rattle.std.proofs.Common.{◌≡◌, ℕ, zero, suc, ◌-◌, ◌^◌, ◌<◌, ◌≤◌, ◌==◌, nat_le, nat_lt, Bool, true, false, ◌&&◌, if◌then◌else◌, List, [], ◌∷◌, ◌++◌, length, take, get_or, set, refl, ap, ◌∙◌, arith}
use Rattle.std.proofs.lemmas.Bool.{and_parts, lt-ltb, le-leb, leb-true, ltb-true}
use Rattle.std.proofs.lemmas.List.{get_or-set_same, set-get_or, take-set, length-set}
use Rattle.endpoint.specs.Endpoints.{begins}
use Rattle.bundle6.specs.declared.block.Block6.{Block6}
use Rattle.bundle6.specs.declared.bundle.Bundle6.{Bundle6}
use Rattle.bundle_meaning.specs.Blocks.{mark, wrap_kind}
use Rattle.block_types.specs.declared.types.BlockTypes.{BlockTypes}
use Rattle.block_types.specs.Types.{swapped}
use Rattle.block_types.specs.Relabelled.{says_private_type, said_type, retyped_body, is_retyped, retyped6, relabelled6}
use Rattle.block_types.proofs.TypeLemmas.{swapped-twice, swapped-private}
use Rattle.block_types.proofs.RetypeLemmas7.{map-each, map-twice}

-- the front of a body that says a private type
abbrev pub front : List ℕ
front = mark ++ 0x81 ∷ []

-- ---- what such a body has

pub record Says (body : List ℕ) : Type 0 where
  pub begins : begins front body ≡ true
  pub low : 0x40 ≤ get_or body 5 0
  pub high : get_or body 5 0 < 0x80
  pub long : 5 < length body

within : (body : List ℕ) (i : ℕ) → 0 < get_or body i 0 → i < length body
within [] i some = absurd (omega (arith, some))
within (x ∷ body) zero some = omega arith
within (x ∷ body) (suc i) some = omega (arith, within body i some)

pub says-parts : (body : List ℕ) → says_private_type body ≡ true → Says body
says-parts body is =
    let both = and_parts (begins front body) (nat_le 0x40 (get_or body 5 0) && nat_lt (get_or body 5 0) 0x80) is in
    let bounds = and_parts (nat_le 0x40 (get_or body 5 0)) (nat_lt (get_or body 5 0) 0x80) both.1 in
    let low = leb-true 0x40 (get_or body 5 0) bounds.0 in record {
      begins = both.0;
      low = low;
      high = ltb-true (get_or body 5 0) 0x80 bounds.1;
      long = within body 5 (omega (arith, low));
    }

pub says-so : (body : List ℕ) → begins front body ≡ true → 0x40 ≤ get_or body 5 0 → get_or body 5 0 < 0x80 → says_private_type body ≡ true
says-so body begun low high = rw (begun, le-leb 0x40 (get_or body 5 0) low, lt-ltb (get_or body 5 0) 0x80 high) refl

-- ---- the other type

-- its octet
abbrev pub other : BlockTypes → ℕ → ℕ
other types octet = swapped types (said_type octet) - 0x80

pub other-octet : (types : BlockTypes) (octet : ℕ) → 0x40 ≤ octet → octet < 0x80
    → (0x40 ≤ other types octet) × (other types octet < 0x80) × (said_type (other types octet) ≡ swapped types (said_type octet))
other-octet types octet low high =
    let private = swapped-private types (said_type octet) (omega arith) (omega arith) in
    (omega (arith, private), omega (arith, private), omega (arith, private))

pub other-twice : (types : BlockTypes) (octet : ℕ) → 0x40 ≤ octet → octet < 0x80 → other types (other types octet) ≡ octet
other-twice types octet low high =
    let said = (other-octet types octet low high).2 in
    let back : swapped types (said_type (other types octet)) ≡ said_type octet = ap (swapped types) said ∙ swapped-twice types (said_type octet) in
    omega (arith, back)

-- what code makes of an octet
pub said-octet : (types : BlockTypes) (octet n : ℕ) → 0x40 ≤ octet → octet < 0x80 → n ≡ swapped types (said_type octet) → (0x80 ≤ n) × (n < 2 ^ 8)
said-octet types octet n low high is =
    let private = swapped-private types (said_type octet) (omega arith) (omega arith) in (omega (arith, private, is), omega (arith, private, is))

-- the body with it is one that says a private type
pub retyped-says : (types : BlockTypes) (body : List ℕ) → Says body → says_private_type (retyped_body types body) ≡ true
retyped-says types body says =
    let octet = other-octet types (get_or body 5 0) says.low says.high in
    let at = get_or-set_same body 5 (other types (get_or body 5 0)) 0 says.long in
    let front_is : take 5 (set body 5 (other types (get_or body 5 0))) ≡ take 5 body = take-set body 5 (other types (get_or body 5 0)) in
    says-so (retyped_body types body) (rw front_is says.begins) (omega (arith, at, octet)) (omega (arith, at, octet))

set-set : (body : List ℕ) (i x y : ℕ) → set (set body i x) i y ≡ set body i y
set-set [] i x y = refl
set-set (z ∷ body) zero x y = refl
set-set (z ∷ body) (suc i) x y = ap (λ (more : List ℕ). z ∷ more) (set-set body i x y)

pub retyped_body-twice : (types : BlockTypes) (body : List ℕ) → Says body → retyped_body types (retyped_body types body) ≡ body
retyped_body-twice types body says =
    let at = get_or-set_same body 5 (other types (get_or body 5 0)) 0 says.long in
    ap (λ (octet : ℕ). set (retyped_body types body) 5 (other types octet)) at
    ∙ (set-set body 5 (other types (get_or body 5 0)) (other types (other types (get_or body 5 0)))
    ∙ (ap (set body 5) (other-twice types (get_or body 5 0) says.low says.high) ∙ set-get_or body 5 0))

-- ---- blocks

abbrev with_body : Block6 → List ℕ → Block6
with_body block body = record block { body = body }

pub length-retyped : (types : BlockTypes) (block : Block6) → length (retyped6 types block).body ≡ length block.body
length-retyped types block = by (is_retyped block)
  where
    by : (t : Bool) → length (if t then retyped_body types block.body else block.body) ≡ length block.body
    by true = length-set block.body 5 (other types (get_or block.body 5 0))
    by false = refl

pub retyped6-none : (types : BlockTypes) (block : Block6) → is_retyped block ≡ false → retyped6 types block ≡ block
retyped6-none types block none = rw none refl

pub retyped6-some : (types : BlockTypes) (block : Block6) → is_retyped block ≡ true → retyped6 types block ≡ with_body block (retyped_body types block.body)
retyped6-some types block some = rw some refl

pub retyped6-twice : (types : BlockTypes) (block : Block6) → retyped6 types (retyped6 types block) ≡ block
retyped6-twice types block = by (is_retyped block) refl
  where
    by : (t : Bool) → is_retyped block ≡ t → retyped6 types (retyped6 types block) ≡ block
    by false none = ap (retyped6 types) (retyped6-none types block none) ∙ retyped6-none types block none
    by true some =
        let parts = and_parts (block.kind == wrap_kind) (says_private_type block.body) some in
        let says = says-parts block.body parts.1 in
        let again : is_retyped (with_body block (retyped_body types block.body)) ≡ true =
        rw (parts.0, retyped-says types block.body says) refl in
        ap (retyped6 types) (retyped6-some types block some)
        ∙ (retyped6-some types (with_body block (retyped_body types block.body)) again
        ∙ ap (with_body block) (retyped_body-twice types block.body says))

pub retyped6-same : (types : BlockTypes) → ((kind : ℕ) → swapped types kind ≡ kind) → (block : Block6) → retyped6 types block ≡ block
retyped6-same types same block = by (is_retyped block) refl
  where
    by : (t : Bool) → is_retyped block ≡ t → retyped6 types block ≡ block
    by false none = retyped6-none types block none
    by true some =
        let octet : other types (get_or block.body 5 0) ≡ get_or block.body 5 0 =
        omega (arith, same (said_type (get_or block.body 5 0))) in
        retyped6-some types block some
        ∙ ap (with_body block) (ap (set block.body 5) octet ∙ set-get_or block.body 5 0)

-- ---- bundles

abbrev with_blocks : Bundle6 → List Block6 → Bundle6
with_blocks b blocks = record b { blocks = blocks }

pub relabelled6-twice : (types : BlockTypes) (b : Bundle6) → relabelled6 types (relabelled6 types b) ≡ b
unfolding relabelled6
relabelled6-twice types b = ap (with_blocks b) (map-twice (retyped6 types) (retyped6-twice types) b.blocks)

pub relabelled6-same : (types : BlockTypes) → ((kind : ℕ) → swapped types kind ≡ kind) → (b : Bundle6) → relabelled6 types b ≡ b
unfolding relabelled6
relabelled6-same types same b = ap (with_blocks b) (map-each (retyped6 types) (retyped6-same types same) b.blocks)
