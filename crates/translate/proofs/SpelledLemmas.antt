-- The bodies of a bundle stand among the octets that spell it.
use Rattle.std.proofs.Common.{ℕ, zero, suc, ◌+◌, ◌^◌, ◌<◌, ◌==◌, Bool, true, false, List, [], ◌∷◌, ◌++◌, length, Option, refl, subst, arith, length-append}
use Rattle.std.specs.List.{All}
use Rattle.std.proofs.lemmas.List.Elements.{All-nil, All-cons, All-push}
use Rattle.sdnv.specs.Shortest.{spelling}
use Rattle.cbor_lite.specs.Head.{head}
use Rattle.endpoint.specs.declared.extent.Fragment.{Fragment}
use Rattle.wire_fields.specs.Format.{give, Spells}
use Rattle.wire_fields.specs.Reading.{IsOctets}
use Rattle.wire_fields.specs.Words.{until, choice}
use Rattle.wire_fields.proofs.StayLemmas.{octets-parts}
use Rattle.bundle6.specs.declared.block.Block6.{Block6}
use Rattle.bundle6.specs.declared.bundle.Bundle6.{Bundle6}
use Rattle.bundle6.specs.Spelling as spelling6
use Rattle.bundle6.specs.Table as table6
use Rattle.bundle7.specs.declared.block.Block7.{Block7}
use Rattle.bundle7.specs.declared.bundle.Bundle7.{Bundle7}
use Rattle.bundle7.specs.Spelling as spelling7
use Rattle.bundle7.specs.Table as table7
use Rattle.translate.specs.Legal.{IsSized6, AreSized7}
use Rattle.translate.specs.Translation.{HoldsOctets6, HoldsOctets7}
use Rattle.bundle7.proofs.BlockLaws.{bundle-spelled}

-- ---- version 6, however it is spelled

block-octets : (most : ℕ) (part : Option Fragment) (texts : List ℕ) (paid : Bool) (other : ℕ) (front w : List ℕ) (x : Block6 × Bool)
    → IsOctets w → Spells (table6.block most part texts paid other) front w x → IsOctets x.0.body
unfolding table6.block
block-octets most part texts paid other front w x fits s =
    let flags = s.5 in
    let refs = flags.5 in
    let size = refs.5 in
    let body = size.5 in
    let flags_fit = (octets-parts w s.0 s.1 s.3 fits).1 in
    let refs_fit = (octets-parts s.1 flags.0 flags.1 flags.3 flags_fit).1 in
    let size_fit = (octets-parts flags.1 refs.0 refs.1 refs.3 refs_fit).1 in
    let body_fit = (octets-parts refs.1 size.0 size.1 size.3 size_fit).1 in
    let here = (octets-parts size.1 body.0 body.1 body.3 body_fit).0 in
    rw body.5.1 (subst IsOctets body.4.0 here)

-- each block holds octets
HoldOctets : List Block6 → Type 0
HoldOctets blocks = All (λ (block : Block6). IsOctets block.body) blocks

-- a block was the last, or others follow
ends-octets : (n most : ℕ) (part : Option Fragment) (texts front w : List ℕ) (now all : List Block6) (last : Bool) → HoldOctets now
    → Spells (choice last (give now) (until n (table6.next_block most part texts) now)) front w all
    → (Spells (until n (table6.next_block most part texts) now) front w all → HoldOctets all) → HoldOctets all
ends-octets n most part texts front w now all true hold s again = rw s.1 hold
ends-octets n most part texts front w now all false hold s again = again s

until-octets : (n most : ℕ) (part : Option Fragment) (texts front w : List ℕ) (earlier all : List Block6) → HoldOctets earlier → IsOctets w
    → Spells (until n (table6.next_block most part texts) earlier) front w all → HoldOctets all
unfolding until table6.next_block HoldOctets
until-octets zero most part texts front w earlier all hold fits s =
    let next = s.4 in
    let here = (octets-parts s.0 next.0 next.1 next.3 (octets-parts w s.0 s.1 s.3 fits).0).0 in
    let more = All-push (λ (block : Block6). IsOctets block.body) earlier next.2.0 hold (block-octets most part texts _ _ _ next.0 next.2 here next.4) in
    rw (s.5.1, next.5.1) more
until-octets (suc n) most part texts front w earlier all hold fits s =
    let next = s.4 in
    let x = next.2 in
    let parts = octets-parts w s.0 s.1 s.3 fits in
    let here = (octets-parts s.0 next.0 next.1 next.3 parts.0).0 in
    let more = All-push (λ (block : Block6). IsOctets block.body) earlier x.0 hold (block-octets most part texts _ _ _ next.0 x here next.4) in
    ends-octets n most part texts _ _ (earlier ++ x.0 ∷ []) all x.1 more (rw next.5.1 at s.5)
    (λ rest. until-octets n most part texts _ _ (earlier ++ x.0 ∷ []) all more parts.1 rest)

pub spelled-octets6 : (w : List ℕ) (b : Bundle6) → IsOctets w → Spells (table6.bundle 64) [] w b → HoldsOctets6 b
unfolding table6.bundle HoldOctets
spelled-octets6 w b fits s =
    let rest = (octets-parts w s.0 s.1 s.3 fits).1 in
    let blocks = until-octets 65 64 s.2.0.fragment s.2.1 _ _ [] s.5.2 (All-nil (λ (block : Block6). IsOctets block.body))
    (octets-parts s.1 s.5.0 s.5.1 s.5.3 rest).0 s.5.4 in
    rw s.5.5.1 blocks

-- ---- what a text has its parts have, so the bodies of a bundle have it in its own spelling

module _ (P : List ℕ → Type 0) (parts : (u v : List ℕ) → P (u ++ v) → P u × P v) where
  after-three : (a b c body : List ℕ) → P (a ++ (b ++ (c ++ body))) → P body
  after-three a b c body has = (parts c body (parts b (c ++ body) (parts a (b ++ (c ++ body)) has).1).1).1

  have6 : (texts : List (List ℕ)) (blocks : List Block6) → P (spelling6.blocks_octets texts blocks) → All (λ (block : Block6). P block.body) blocks
  unfolding spelling6.blocks_octets spelling6.block_octets
  have6 texts [] has = All-nil (λ (block : Block6). P block.body)
  have6 texts (block ∷ more) has =
      let both = parts (spelling6.block_octets texts (length more == 0) block) (spelling6.blocks_octets texts more) has in
      let flags = spelling (spelling6.marked (length more == 0) block) in
      let refs = spelling6.refs_octets texts block.refs in
      let inside = spelling (length block.body) ++ block.body in
      let rest = have6 texts more both.1 in
      All-cons (λ (block : Block6). P block.body) block more
      (after-three flags refs (spelling (length block.body)) block.body (parts (block.kind ∷ []) (flags ++ (refs ++ inside)) both.0).1) rest

  pub canon-have : (b : Bundle6) → P (spelling6.canon6 b)
      → All (λ (block : Block6). P block.body) b.blocks × P (spelling6.rest_octets (spelling6.texts_of b) b.primary)
  unfolding spelling6.canon6 spelling6.primary_octets
  canon-have b has =
      let texts = spelling6.texts_of b in
      let rest = spelling6.rest_octets texts b.primary in
      let both = parts (spelling6.primary_octets texts b.primary) (spelling6.blocks_octets texts b.blocks) has in
      (have6 texts b.blocks both.1, after-three (6 ∷ []) (spelling b.primary.flags) (spelling (length rest)) rest both.0)

  body7 : (b : Block7) → P (spelling7.block_octets b) → P b.body
  unfolding spelling7.with_check spelling7.bare_octets
  body7 b has =
      let bare = (parts (spelling7.bare_octets b) (spelling7.crc_octets b.crc (spelling7.bare_octets b)) has).0 in
      let size = head 2 (length b.body) in
      after-three (head 0 b.flags) (head 0 b.crc) size b.body
      (after-three (head 4 (5 + table7.check_items b.crc)) (head 0 b.kind) (head 0 b.number) (head 0 b.flags ++ (head 0 b.crc ++ (size ++ b.body))) bare)

  have7 : (blocks : List Block7) → P (spelling7.blocks_octets blocks) → All (λ (block : Block7). P block.body) blocks
  unfolding spelling7.blocks_octets
  have7 [] has = All-nil (λ (block : Block7). P block.body)
  have7 (block ∷ more) has =
      let both = parts (spelling7.block_octets block) (spelling7.blocks_octets more) has in
      let rest = have7 more both.1 in
      All-cons (λ (block : Block7). P block.body) block more (body7 block both.0) rest

  pub octets7-have : (b : Bundle7) → P (spelling7.octets7 b) → All (λ (block : Block7). P block.body) b.exts × P b.payload.body
  unfolding spelling7.octets7
  octets7-have b has =
      let main = spelling7.primary_octets b.primary in
      let exts = spelling7.blocks_octets b.exts in
      let payload = spelling7.block_octets b.payload in
      let blocks = (parts main (exts ++ (payload ++ 0xFF ∷ [])) (parts (0x9F ∷ []) (main ++ (exts ++ (payload ++ 0xFF ∷ []))) has).1).1 in
      let both = parts exts (payload ++ 0xFF ∷ []) blocks in
      (have7 b.exts both.0, body7 b.payload (parts payload (0xFF ∷ []) both.1).0)

pub spelled-octets7 : (w : List ℕ) (b : Bundle7) → IsOctets w → Spells (table7.bundle 64) [] w b → HoldsOctets7 b
spelled-octets7 w b fits s =
    let have = octets7-have IsOctets (λ u v both. octets-parts (u ++ v) u v refl both) b (subst IsOctets (bundle-spelled 64 w b s).1 fits) in
    record { exts = have.0; payload = have.1 }

-- ---- sizes

small-parts : (u v : List ℕ) → length (u ++ v) < 2 ^ 64 → (length u < 2 ^ 64) × (length v < 2 ^ 64)
small-parts u v small = (omega (arith, length-append u v, small), omega (arith, length-append u v, small))

pub canon-sized : (b : Bundle6) → length (spelling6.canon6 b) < 2 ^ 64 → All IsSized6 b.blocks × spelling6.IsCounted b
canon-sized b small = canon-have (λ (w : List ℕ). length w < 2 ^ 64) small-parts b small

pub octets7-sized : (b : Bundle7) → length (spelling7.octets7 b) < 2 ^ 64 → AreSized7 b
octets7-sized b small =
    let have = octets7-have (λ (w : List ℕ). length w < 2 ^ 64) small-parts b small in
    record { exts = have.0; payload = have.1 }
