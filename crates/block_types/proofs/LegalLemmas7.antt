-- A relabelled version 7 bundle is legal, and its spelling has as many octets.

use Rattle.std.proofs.Common.{◌≡◌, ℕ, ◌<◌, ◌≤◌, ◌^◌, ◌==◌, Bool, true, false, if◌then◌else◌, List, [], ◌∷◌, ◌++◌, map, length, Option, Some, None, refl, sym, ap, subst, ◌∙◌, arith, length-append, inl, inr}
use Rattle.std.proofs.lemmas.Bool.{cases_lt, lt-ltb, le-ltb}
use Rattle.std.proofs.lemmas.List.{length-map, map-append}
use Rattle.std.proofs.lemmas.List.Elements.{All-map}
use Rattle.cbor_lite.specs.Head.{head}
use Rattle.endpoint.specs.declared.extent.Fragment.{Fragment}
use Rattle.wire_fields.specs.Reading.{IsOctets}
use Rattle.bundle7.specs.declared.block.Block7.{Block7}
use Rattle.bundle7.specs.declared.bundle.Bundle7.{Bundle7}
use Rattle.bundle7.specs.Table.{is_single, seen_of, has, is_number, is_within}
use Rattle.bundle7.specs.Check.{check16, check32}
use Rattle.bundle7.specs.Spelling.{crc_octets, with_check, bare_octets, block_octets, blocks_octets, octets7}
use Rattle.bundle7.specs.Legal.{IsLegalBlock, AreLegal, IsLegal7}
use Rattle.translate.specs.Translation.{HoldsOctets7}
use Rattle.block_types.specs.declared.types.BlockTypes.{BlockTypes}
use Rattle.block_types.specs.Types.{swapped}
use Rattle.block_types.specs.Relabelled.{retyped7, relabelled7}
use Rattle.block_types.proofs.TypeLemmas.{swapped-private, swapped-below, swapped-above, swapped-low, swapped-test, swapped-alike}
use Rattle.block_types.proofs.RetypeLemmas7.{retyped7-same}

-- ---- tests of a type

fits : (types : BlockTypes) (kind : ℕ) → kind < 2 ^ 64 → swapped types kind < 2 ^ 64
fits types kind small =
    elim (cases_lt kind 192) [
      | inl low ↦ rw (swapped-below types kind low) small
      | inr above ↦ elim (cases_lt kind 256) [
        | inl high ↦ let private = swapped-private types kind above high in omega (arith, private)
        | inr far ↦ rw (swapped-above types kind far) small
      ]
    ]

single : (types : BlockTypes) (kind : ℕ) → is_single (swapped types kind) ≡ is_single kind
single types kind =
    rw (swapped-test types kind 6 (omega arith), swapped-test types kind 7 (omega arith), swapped-test types kind 10 (omega arith)) refl

has-kind : (types : BlockTypes) (kind : ℕ) (earlier : List Block7)
    → has (swapped types kind) (seen_of (map (retyped7 types) earlier)).kinds ≡ has kind (seen_of earlier).kinds
has-kind types kind [] = refl
has-kind types kind (b ∷ earlier) = rw (swapped-alike types b.kind kind, has-kind types kind earlier) refl

numbers-same : (types : BlockTypes) (earlier : List Block7)
    → (seen_of (map (retyped7 types) earlier)).numbers ≡ (seen_of earlier).numbers
numbers-same types [] = refl
numbers-same types (b ∷ earlier) = ap (λ (more : List ℕ). b.number ∷ more) (numbers-same types earlier)

number-same : (types : BlockTypes) (kind n : ℕ) (earlier : List Block7)
    → is_number (swapped types kind) (seen_of (map (retyped7 types) earlier)) n ≡ is_number kind (seen_of earlier) n
number-same types kind n earlier = rw (swapped-test types kind 1 (omega arith), numbers-same types earlier) refl

within-same : (types : BlockTypes) (part : Option Fragment) (kind size : ℕ)
    → is_within part (swapped types kind) size ≡ is_within part kind size
within-same types None kind size = refl
within-same types (Some part) kind size = rw (swapped-test types kind 1 (omega arith)) refl

-- ---- legal

legal-block : (types : BlockTypes) (part : Option Fragment) (earlier : List Block7) (b : Block7) → IsLegalBlock part (seen_of earlier) b
    → IsLegalBlock part (seen_of (map (retyped7 types) earlier)) (retyped7 types b)
legal-block types part earlier b legal = record {
  kind = fits types b.kind legal.kind;
  once = rw (single types b.kind, has-kind types b.kind earlier) legal.once;
  number = number-same types b.kind b.number earlier ∙ legal.number;
  number_fits = legal.number_fits;
  flags = legal.flags;
  crc = legal.crc;
  size = legal.size;
  within = within-same types part b.kind (length b.body) ∙ legal.within;
  body = record {
    if_previous_node = λ is. legal.body.if_previous_node (swapped-low types b.kind 6 (omega arith) is);
    if_bundle_age = λ is. legal.body.if_bundle_age (swapped-low types b.kind 7 (omega arith) is);
    if_hop_count = λ is. legal.body.if_hop_count (swapped-low types b.kind 10 (omega arith) is);
  };
}

are-legal : (types : BlockTypes) (part : Option Fragment) (earlier exts : List Block7) → AreLegal part earlier exts
    → AreLegal part (map (retyped7 types) earlier) (map (retyped7 types) exts)
are-legal types part earlier [] legal = tt
are-legal types part earlier (b ∷ exts) legal =
    let rest = are-legal types part (earlier ++ b ∷ []) exts legal.1.1 in (
      legal-block types part earlier b legal.0,
      (
        λ is. legal.1.0 (swapped-low types b.kind 1 (omega arith) is),
        subst (λ (before : List Block7). AreLegal part before (map (retyped7 types) exts))
            (map-append (retyped7 types) earlier (b ∷ [])) rest,
      ),
    )

pub relabelled7-legal : (types : BlockTypes) (b : Bundle7) → IsLegal7 b → IsLegal7 (relabelled7 types b)
unfolding relabelled7
relabelled7-legal types b legal =
    let payload_kind : swapped types b.payload.kind ≡ b.payload.kind =
    swapped-below types b.payload.kind (omega (arith, legal.payload_kind)) in
    let payload = legal-block types b.primary.fragment b.exts b.payload legal.payload in record {
      primary = legal.primary;
      few = rw (length-map b.exts (retyped7 types)) legal.few;
      exts = are-legal types b.primary.fragment [] b.exts legal.exts;
      payload = subst (λ (p : Block7). IsLegalBlock b.primary.fragment (seen_of (map (retyped7 types) b.exts)) p)
          (retyped7-same types b.payload payload_kind) payload;
      payload_kind = legal.payload_kind;
    }

-- ---- octets

pub relabelled7-octets : (types : BlockTypes) (b : Bundle7) → HoldsOctets7 b → HoldsOctets7 (relabelled7 types b)
unfolding relabelled7
relabelled7-octets types b octets = record {
  exts = All-map (λ (block : Block7). IsOctets block.body) (retyped7 types) b.exts octets.exts;
  payload = octets.payload;
}

-- ---- how many octets

length-head : (types : BlockTypes) (kind : ℕ) → length (head 0 (swapped types kind)) ≡ length (head 0 kind)
length-head types kind =
    elim (cases_lt kind 192) [
      | inl low ↦ rw (swapped-below types kind low) refl
      | inr above ↦ elim (cases_lt kind 256) [
        | inl high ↦
            let private = swapped-private types kind above high in
            two (swapped types kind) private.0 private.1 ∙ sym (two kind above high)
        | inr far ↦ rw (swapped-above types kind far) refl
      ]
    ]
  where
    two : (n : ℕ) → 192 ≤ n → n < 256 → length (head 0 n) ≡ 2
    two n low high =
        let large : 24 ≤ n = omega (arith, low) in
        rw (le-ltb n 24 large, lt-ltb n 256 high) refl

length-crc : (crc : ℕ) (one other : List ℕ) → length (crc_octets crc one) ≡ length (crc_octets crc other)
unfolding crc_octets
length-crc crc one other = by (crc == 0) (crc == 1)
  where
    by : (t u : Bool) → length (if t then [] else if u then head 2 2 ++ check16 (one ++ head 2 2) else head 2 4 ++ check32 (one ++ head 2 4))
        ≡ length (if t then [] else if u then head 2 2 ++ check16 (other ++ head 2 2) else head 2 4 ++ check32 (other ++ head 2 4))
    by true u = refl
    by false true = refl
    by false false = refl

length-bare : (types : BlockTypes) (b : Block7) → length (bare_octets (retyped7 types b)) ≡ length (bare_octets b)
unfolding bare_octets
length-bare types b = simp (length-append, length-head) refl

length-block : (types : BlockTypes) (b : Block7) → length (block_octets (retyped7 types b)) ≡ length (block_octets b)
unfolding with_check
length-block types b =
    rw (length-append (bare_octets (retyped7 types b)) (crc_octets b.crc (bare_octets (retyped7 types b))), length-append (bare_octets b) (crc_octets b.crc (bare_octets b)), length-bare types b, length-crc b.crc (bare_octets (retyped7 types b)) (bare_octets b))
    refl

length-blocks : (types : BlockTypes) (exts : List Block7) → length (blocks_octets (map (retyped7 types) exts)) ≡ length (blocks_octets exts)
unfolding blocks_octets
length-blocks types [] = refl
length-blocks types (b ∷ exts) =
    rw (length-append (block_octets (retyped7 types b)) (blocks_octets (map (retyped7 types) exts)), length-append (block_octets b) (blocks_octets exts), length-block types b, length-blocks types exts)
    refl

pub length-relabelled7 : (types : BlockTypes) (b : Bundle7) → length (octets7 (relabelled7 types b)) ≡ length (octets7 b)
unfolding octets7 relabelled7
length-relabelled7 types b = simp (length-append, length-blocks types b.exts) refl
