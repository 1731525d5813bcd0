-- A relabelled version 6 bundle is legal, and its spelling has as many octets.

use Rattle.std.proofs.Common.{◌≡◌, ℕ, zero, suc, ◌<◌, ◌==◌, Bool, true, false, not, cond, if◌then◌else◌, List, [], ◌∷◌, ◌++◌, map, length, get_or, set, Option, Some, None, All, refl, sym, ap, ◌∙◌, arith, length-append}
use Rattle.std.specs.List.{flat_map, count_by}
use Rattle.std.proofs.lemmas.List.{length-map}
use Rattle.std.proofs.lemmas.Bool.{and_parts}
use Rattle.std.proofs.lemmas.List.Elements.{All-map}
use Rattle.std.proofs.lemmas.List.Sums.{sum_by-cons}
use Rattle.bundle_meaning.specs.Blocks.{wrap_kind}
use Rattle.endpoint.specs.declared.extent.Fragment.{Fragment}
use Rattle.endpoint.specs.declared.name.Endpoint.{Endpoint}
use Rattle.wire_fields.specs.Reading.{IsOctets}
use Rattle.bundle6.specs.declared.block.Block6.{Block6}
use Rattle.bundle6.specs.declared.bundle.Bundle6.{Bundle6}
use Rattle.bundle6.specs.Table.{is_payload, others}
use Rattle.bundle6.specs.Spelling.{texts_of, block_octets, blocks_octets, primary_octets, canon6}
use Rattle.bundle6.specs.Legal.{IsLegalBlock, IsWithin, IsLegal}
use Rattle.translate.specs.Translation.{HoldsOctets6}
use Rattle.block_types.specs.declared.types.BlockTypes.{BlockTypes}
use Rattle.block_types.specs.Relabelled.{says_private_type, is_retyped, retyped_body, retyped6, relabelled6}
use Rattle.block_types.proofs.RetypeLemmas6.{says-parts, other, other-octet, length-retyped}

-- what holds of each element holds of what each becomes
pub All-become : {X : Type 0} (P Q : X → Type 0) (f : X → X) → ((x : X) → P x → Q (f x)) → (xs : List X) → All P xs → All Q (map f xs)
All-become P Q f step xs each = All-map Q f xs (λ k d within. step _ (each k d within))

-- ---- what stays

count-more : (p : Block6 → Bool) (types : BlockTypes) (block : Block6) (blocks : List Block6)
    → count_by p (map (retyped6 types) blocks) ≡ count_by p blocks → p (retyped6 types block) ≡ p block
    → count_by p (map (retyped6 types) (block ∷ blocks)) ≡ count_by p (block ∷ blocks)
count-more p types block blocks rest same =
    sum_by-cons (λ (b : Block6). cond (p b) 1 0) (retyped6 types block) (map (retyped6 types) blocks)
    ∙ (rw (same, rest) refl ∙ sym (sum_by-cons (λ (b : Block6). cond (p b) 1 0) block blocks))

payload-same : (types : BlockTypes) (blocks : List Block6) → count_by is_payload (map (retyped6 types) blocks) ≡ count_by is_payload blocks
payload-same types [] = refl
payload-same types (block ∷ blocks) = count-more is_payload types block blocks (payload-same types blocks) refl

others-same : (types : BlockTypes) (blocks : List Block6) → others (map (retyped6 types) blocks) ≡ others blocks
others-same types [] = refl
others-same types (block ∷ blocks) = count-more (λ (b : Block6). not (is_payload b)) types block blocks (others-same types blocks) refl

refs-same : (types : BlockTypes) (blocks : List Block6)
    → flat_map (λ (block : Block6). block.refs) (map (retyped6 types) blocks) ≡ flat_map (λ (block : Block6). block.refs) blocks
refs-same types [] = refl
refs-same types (block ∷ blocks) = ap (λ (more : List Endpoint). block.refs ++ more) (refs-same types blocks)

-- ---- legal

legal-block : (types : BlockTypes) (block : Block6) → IsLegalBlock block → IsLegalBlock (retyped6 types block)
legal-block types block legal = record {
  kind = legal.kind;
  flags = legal.flags;
  last_bit = legal.last_bit;
  refs_bit = legal.refs_bit;
  refs = legal.refs;
  count = legal.count;
  size = rw (length-retyped types block) legal.size;
}

is-within : (types : BlockTypes) (part : Option Fragment) (block : Block6) → IsWithin part block → IsWithin part (retyped6 types block)
is-within types None block within = tt
is-within types (Some part) block within = λ payload. rw (length-retyped types block) (within payload)

pub relabelled6-legal : (types : BlockTypes) (b : Bundle6) → IsLegal b → IsLegal (relabelled6 types b)
unfolding relabelled6
relabelled6-legal types b legal = record {
  primary = legal.primary;
  blocks = All-become IsLegalBlock IsLegalBlock (retyped6 types) (legal-block types) b.blocks legal.blocks;
  one_payload = payload-same types b.blocks ∙ legal.one_payload;
  others_are_few = rw (others-same types b.blocks) legal.others_are_few;
  within = All-become (IsWithin b.primary.fragment) (IsWithin b.primary.fragment) (retyped6 types)
      (is-within types b.primary.fragment) b.blocks legal.within;
}

-- ---- octets

octets-set : (body : List ℕ) (at octet : ℕ) → IsOctets body → octet < 256 → IsOctets (set body at octet)
octets-set [] at octet octets small i = octets i
octets-set (x ∷ body) zero octet octets small zero = small
octets-set (x ∷ body) zero octet octets small (suc i) = octets (suc i)
octets-set (x ∷ body) (suc at) octet octets small zero = octets 0
octets-set (x ∷ body) (suc at) octet octets small (suc i) = octets-set body at octet (λ j. octets (suc j)) small i

octets-retyped : (types : BlockTypes) (block : Block6) → IsOctets block.body → IsOctets (retyped6 types block).body
octets-retyped types block octets = by (is_retyped block) refl
  where
    by : (t : Bool) → is_retyped block ≡ t → IsOctets (if t then retyped_body types block.body else block.body)
    by false none = octets
    by true some =
        let says = says-parts block.body (and_parts (block.kind == wrap_kind) (says_private_type block.body) some).1 in
        let low = (other-octet types (get_or block.body 5 0) says.low says.high).1 in
        octets-set block.body 5 (other types (get_or block.body 5 0)) octets (omega (arith, low))

pub relabelled6-octets : (types : BlockTypes) (b : Bundle6) → HoldsOctets6 b → HoldsOctets6 (relabelled6 types b)
unfolding relabelled6
relabelled6-octets types b octets =
    All-become (λ (block : Block6). IsOctets block.body) (λ (block : Block6). IsOctets block.body) (retyped6 types)
    (octets-retyped types) b.blocks octets

-- ---- how many octets

length-block : (types : BlockTypes) (texts : List (List ℕ)) (last : Bool) (block : Block6)
    → length (block_octets texts last (retyped6 types block)) ≡ length (block_octets texts last block)
unfolding block_octets
length-block types texts last block = simp (length-append, length-retyped) refl

length-blocks : (types : BlockTypes) (texts : List (List ℕ)) (blocks : List Block6)
    → length (blocks_octets texts (map (retyped6 types) blocks)) ≡ length (blocks_octets texts blocks)
unfolding blocks_octets
length-blocks types texts [] = refl
length-blocks types texts (block ∷ blocks) =
    rw (length-map blocks (retyped6 types), length-append (block_octets texts (length blocks == 0) (retyped6 types block)) (blocks_octets texts (map (retyped6 types) blocks)), length-append (block_octets texts (length blocks == 0) block) (blocks_octets texts blocks), length-block types texts (length blocks == 0) block, length-blocks types texts blocks)
    refl

texts-same : (types : BlockTypes) (b : Bundle6) → texts_of (relabelled6 types b) ≡ texts_of b
unfolding texts_of relabelled6
texts-same types b = rw (refs-same types b.blocks) refl

pub length-relabelled6 : (types : BlockTypes) (b : Bundle6) → length (canon6 (relabelled6 types b)) ≡ length (canon6 b)
unfolding canon6 relabelled6
length-relabelled6 types b =
    rw (texts-same types b, length-append (primary_octets (texts_of b) b.primary) (blocks_octets (texts_of b) (map (retyped6 types) b.blocks)), length-append (primary_octets (texts_of b) b.primary) (blocks_octets (texts_of b) b.blocks), length-blocks types (texts_of b) b.blocks)
    refl
