-- Bundles of a record whose age is raised have no fewer octets.

use Rattle.std.proofs.Common.{◌≡◌, ℕ, zero, suc, ◌+◌, ◌/◌, ◌^◌, ◌≤◌, ◌==◌, nat_lt, Bool, true, false, if◌then◌else◌, List, [], ◌∷◌, ◌++◌, map, length, take, drop, All, Option, refl, sym, ap, subst, ◌∙◌, arith, eqb-true, length-append, inl, inr}
use Rattle.std.specs.Int.{w8, w16, w32, w64, to_be_bytes}
use Rattle.std.specs.List.{flat_map, take-map, drop-map}
use Rattle.std.proofs.lemmas.Bool.{cases_lt, ltb-true, ltb-false}
use Rattle.std.proofs.lemmas.List.{length-map}
use Rattle.std.proofs.lemmas.List.Elements.{All-head, All-tail}
use Rattle.sdnv.specs.Shortest.{leading, spelling}
use Rattle.sdnv.proofs.ShortestLemmas.{leading-none, leading-suc, length-spelling}
use Rattle.cbor_lite.specs.Head.{first_octet, head}
use Rattle.endpoint.specs.declared.name.Endpoint.{Endpoint}
use Rattle.endpoint.specs.declared.extent.Fragment.{Fragment}
use Rattle.bundle6.specs.declared.block.Block6.{Block6}
use Rattle.bundle6.specs.declared.bundle.Bundle6.{Bundle6}
use Rattle.bundle6.specs.declared.primary.Primary6.{Primary6}
use Rattle.bundle6.specs.Spelling as six
use Rattle.bundle7.specs.declared.block.Block7.{Block7}
use Rattle.bundle7.specs.declared.bundle.Bundle7.{Bundle7}
use Rattle.bundle7.specs.Body.{bundle_age, IsBody}
use Rattle.bundle7.specs.Check.{check16, check32}
use Rattle.bundle7.specs.Legal.{AreLegal, IsLegal7}
use Rattle.bundle7.specs.Spelling as seven
use Rattle.bundle7.specs.Table.{check_items}
use Rattle.bundle_meaning.specs.declared.blocks.Block7Like.{Block7Like}
use Rattle.bundle_meaning.specs.declared.blocks.Ext.{Ext}
use Rattle.bundle_meaning.specs.declared.blocks.Ext.TheVariants.{Six, Seven}
use Rattle.bundle_meaning.specs.declared.full.Full.{Full}
use Rattle.bundle_meaning.specs.Blocks.{mark, sevens}
use Rattle.bundle_meaning.specs.Wrap.{wrap_old_octets}
use Rattle.translate.specs.Legal.{AreSized7}
use Rattle.translate.specs.Sound.{HasBody, IsSound}
use Rattle.translate.specs.View6.{block6_of, payload6_of, residue6, before_payload, view6_of}
use Rattle.translate.specs.View7.{view7_of, fits7}
use Rattle.translate.proofs.Legal7Lemmas.{view7-legal}
use Rattle.bundle_age.specs.Raised.{age_in, age_after, octets_after, body_after, raised_block, raised_ext, raised_by, raised_block7, raised_bundle}
use Rattle.bundle_age.proofs.AgeLemmas.{age-some}
use Rattle.bundle_age.proofs.ViewLemmas.{raised_in_views}

-- ---- numbers

leading-grows : (most few many : ℕ) → few ≤ many → length (leading most few) ≤ length (leading most many)
unfolding leading
leading-grows zero few many less = omega arith
leading-grows (suc most) few many less =
    elim (cases_lt 0 few) [
      | inl some ↦
          let rest = leading-grows most (few / 128) (many / 128) (omega (arith, less)) in
          rw (leading-suc most few some, leading-suc most many (omega (arith, some, less)), length-append, length-append) (omega (arith, rest))
      | inr none ↦ rw (leading-none (suc most) few (omega (arith, none))) (omega arith)
    ]

spelling-grows : (few many : ℕ) → few ≤ many → length (spelling few) ≤ length (spelling many)
spelling-grows few many less =
    let rest = leading-grows 9 (few / 128) (many / 128) (omega (arith, less)) in
    omega (arith, length-spelling few, length-spelling many, rest)

-- how many octets a head has
abbrev pub head_size : ℕ → ℕ
head_size n =
    if nat_lt n 24 then 1 else if nat_lt n (2 ^ 8) then 2 else if nat_lt n (2 ^ 16) then 3
    else if nat_lt n (2 ^ 32) then 5 else 9

pub length-head : (kind n : ℕ) → length (head kind n) ≡ head_size n
length-head kind n = by (nat_lt n 24) (nat_lt n (2 ^ 8)) (nat_lt n (2 ^ 16)) (nat_lt n (2 ^ 32))
  where
    by : (a b c d : Bool) → length (if a then first_octet kind n ∷ []
        else if b then first_octet kind 24 ∷ to_be_bytes w8 n
        else if c then first_octet kind 25 ∷ to_be_bytes w16 n
        else if d then first_octet kind 26 ∷ to_be_bytes w32 n
        else first_octet kind 27 ∷ to_be_bytes w64 n)
        ≡ (if a then 1 else if b then 2 else if c then 3 else if d then 5 else 9)
    by true b c d = refl
    by false true c d = refl
    by false false true d = refl
    by false false false true = refl
    by false false false false = refl

-- a step at a number, to what is no less
step-grows : (at few many low x y : ℕ) → few ≤ many → low ≤ y → x ≤ y
    → (if nat_lt few at then low else x) ≤ (if nat_lt many at then low else y)
step-grows at few many low x y less lows rest = by (nat_lt few at) (nat_lt many at) refl refl
  where
    by : (t u : Bool) → nat_lt few at ≡ t → nat_lt many at ≡ u → (if t then low else x) ≤ (if u then low else y)
    by true true is so = omega arith
    by true false is so = lows
    by false true is so = absurd (omega (arith, less, ltb-false few at is, ltb-true many at so))
    by false false is so = rest

least : (t : Bool) (low p q : ℕ) → low ≤ p → low ≤ q → low ≤ (if t then p else q)
least true low p q one other = one
least false low p q one other = other

head-grows : (kind few many : ℕ) → few ≤ many → length (head kind few) ≤ length (head kind many)
head-grows kind few many less =
    let five = step-grows (2 ^ 32) few many 5 9 9 less (omega arith) (omega arith) in
    let three = step-grows (2 ^ 16) few many 3 _ _ less (least (nat_lt many (2 ^ 32)) 3 5 9 (omega arith) (omega arith)) five in
    let two = step-grows (2 ^ 8) few many 2 _ _ less
    (least (nat_lt many (2 ^ 16)) 2 3 _ (omega arith) (least (nat_lt many (2 ^ 32)) 2 5 9 (omega arith) (omega arith))) three in
    let one = step-grows 24 few many 1 _ _ less
    (least (nat_lt many (2 ^ 8)) 1 2 _ (omega arith)
    (least (nat_lt many (2 ^ 16)) 1 3 _ (omega arith) (least (nat_lt many (2 ^ 32)) 1 5 9 (omega arith) (omega arith)))) two in
    subst (λ (n : ℕ). n ≤ length (head kind many)) (sym (length-head kind few))
    (subst (λ (n : ℕ). head_size few ≤ n) (sym (length-head kind many)) one)

-- ---- lists

after : (front x y : List ℕ) → length x ≤ length y → length (front ++ x) ≤ length (front ++ y)
after front x y less = omega (arith, length-append front x, length-append front y, less)

before : (x y rest : List ℕ) → length x ≤ length y → length (x ++ rest) ≤ length (y ++ rest)
before x y rest less = omega (arith, length-append x rest, length-append y rest, less)

both : (a b x y : List ℕ) → length a ≤ length b → length x ≤ length y → length (a ++ x) ≤ length (b ++ y)
both a b x y one other = omega (arith, length-append a x, length-append b y, one, other)

after-five : (a b c d e x y : List ℕ) → length x ≤ length y
    → length (a ++ (b ++ (c ++ (d ++ (e ++ x))))) ≤ length (a ++ (b ++ (c ++ (d ++ (e ++ y)))))
after-five a b c d e x y less =
    after a (b ++ (c ++ (d ++ (e ++ x)))) (b ++ (c ++ (d ++ (e ++ y))))
    (after b (c ++ (d ++ (e ++ x))) (c ++ (d ++ (e ++ y)))
    (after c (d ++ (e ++ x)) (d ++ (e ++ y)) (after d (e ++ x) (e ++ y) (after e x y less))))

-- ---- an age

body-grows : (stay kind : ℕ) (body : List ℕ) → IsBody kind body → length body ≤ length (body_after stay kind body)
body-grows stay kind body is = by (kind == bundle_age) refl
  where
    by : (t : Bool) → (kind == bundle_age) ≡ t → length body ≤ length (if t then octets_after stay (age_in body) body else body)
    by false other = omega arith
    by true age =
        let (n, spells) = is.if_bundle_age (eqb-true kind bundle_age age) in
        let more = head-grows 0 n (age_after stay n) (omega (arith, spells.small)) in
        let same : length body ≡ length (head 0 n) = ap length spells.spelt in
        rw (← age-some body n spells) (omega (arith, same, more))

-- ---- version 7

length-crc : (crc : ℕ) (one other : List ℕ) → length (seven.crc_octets crc one) ≡ length (seven.crc_octets crc other)
unfolding seven.crc_octets
length-crc crc one other = by (crc == 0) (crc == 1)
  where
    by : (t u : Bool) → length (if t then [] else if u then head 2 2 ++ check16 (one ++ head 2 2) else head 2 4 ++ check32 (one ++ head 2 4))
        ≡ length (if t then [] else if u then head 2 2 ++ check16 (other ++ head 2 2) else head 2 4 ++ check32 (other ++ head 2 4))
    by true u = refl
    by false true = refl
    by false false = refl

bare-grows : (stay : ℕ) (b : Block7) → IsBody b.kind b.body
    → length (seven.bare_octets b) ≤ length (seven.bare_octets (raised_block7 stay b))
unfolding seven.bare_octets
bare-grows stay b is =
    let more = body-grows stay b.kind b.body is in
    let w = body_after stay b.kind b.body in
    after-five (head 4 (5 + check_items b.crc)) (head 0 b.kind) (head 0 b.number) (head 0 b.flags) (head 0 b.crc)
    (head 2 (length b.body) ++ b.body) (head 2 (length w) ++ w)
    (both (head 2 (length b.body)) (head 2 (length w)) b.body w (head-grows 2 (length b.body) (length w) more) more)

block7-grows : (stay : ℕ) (b : Block7) → IsBody b.kind b.body
    → length (seven.block_octets b) ≤ length (seven.block_octets (raised_block7 stay b))
unfolding seven.with_check
block7-grows stay b is =
    let one = seven.bare_octets b in
    let other = seven.bare_octets (raised_block7 stay b) in
    let check = length-crc b.crc one other in
    both one other (seven.crc_octets b.crc one) (seven.crc_octets b.crc other) (bare-grows stay b is) (omega (arith, check))

blocks7-grow : (stay : ℕ) (part : Option Fragment) (earlier exts : List Block7) → AreLegal part earlier exts
    → length (seven.blocks_octets exts) ≤ length (seven.blocks_octets (map (raised_block7 stay) exts))
unfolding seven.blocks_octets
blocks7-grow stay part earlier [] legal = omega arith
blocks7-grow stay part earlier (b ∷ exts) legal =
    both _ _ _ _ (block7-grows stay b legal.0.body) (blocks7-grow stay part (earlier ++ b ∷ []) exts legal.1.1)

bundle7-grows : (stay : ℕ) (b : Bundle7) → IsLegal7 b → length (seven.octets7 b) ≤ length (seven.octets7 (raised_bundle stay b))
unfolding seven.octets7 raised_bundle
bundle7-grows stay b legal =
    let exts = blocks7-grow stay b.primary.fragment [] b.exts legal.exts in
    let rest = seven.block_octets b.payload ++ 0xFF ∷ [] in
    let all = after (seven.primary_octets b.primary) _ _
    (before (seven.blocks_octets b.exts) (seven.blocks_octets (map (raised_block7 stay) b.exts)) rest exts) in
    omega (arith, all)

pub new-grows : (stay : ℕ) (full : Full) → IsSound full → fits7 full ≡ true → AreSized7 (view7_of full)
    → length (seven.octets7 (view7_of full)) ≤ length (seven.octets7 (view7_of (raised_by stay full)))
new-grows stay full sound fits sized =
    let more = bundle7-grows stay (view7_of full) (view7-legal full sound fits sized) in
    let same = (raised_in_views full stay sound).same in
    subst (λ (b : Bundle7). length (seven.octets7 (view7_of full)) ≤ length (seven.octets7 b)) (sym same) more

-- ---- version 6

-- a block with another body, which is no shorter
pub record IsLonger (b c : Block6) : Type 0 where
  pub flags : c.flags ≡ b.flags
  pub refs : c.refs ≡ b.refs
  pub body : length b.body ≤ length c.body

abbrev pub AreLonger : List Block6 → List Block6 → Type 0
AreLonger [] [] = Unit {0}
AreLonger [] (c ∷ cs) = ⊥
AreLonger (b ∷ bs) [] = ⊥
AreLonger (b ∷ bs) (c ∷ cs) = IsLonger b c × AreLonger bs cs

itself : (bs : List Block6) → AreLonger bs bs
itself [] = tt
itself (b ∷ bs) = (record { flags = refl; refs = refl; body = omega arith }, itself bs)

longer-append : (bs cs more most : List Block6) → AreLonger bs cs → AreLonger more most → AreLonger (bs ++ more) (cs ++ most)
longer-append [] [] more most one other = other
longer-append [] (c ∷ cs) more most one other = absurd one
longer-append (b ∷ bs) [] more most one other = absurd one
longer-append (b ∷ bs) (c ∷ cs) more most one other = (one.0, longer-append bs cs more most one.1 other)

longer-take : (n : ℕ) (bs cs : List Block6) → AreLonger bs cs → AreLonger (take n bs) (take n cs)
longer-take zero bs cs are = tt
longer-take (suc n) [] [] are = tt
longer-take (suc n) [] (c ∷ cs) are = absurd are
longer-take (suc n) (b ∷ bs) [] are = absurd are
longer-take (suc n) (b ∷ bs) (c ∷ cs) are = (are.0, longer-take n bs cs are.1)

longer-drop : (n : ℕ) (bs cs : List Block6) → AreLonger bs cs → AreLonger (drop n bs) (drop n cs)
longer-drop zero bs cs are = are
longer-drop (suc n) [] [] are = tt
longer-drop (suc n) [] (c ∷ cs) are = absurd are
longer-drop (suc n) (b ∷ bs) [] are = absurd are
longer-drop (suc n) (b ∷ bs) (c ∷ cs) are = longer-drop n bs cs are.1

longer-count : (bs cs : List Block6) → AreLonger bs cs → length cs ≡ length bs
longer-count [] [] are = refl
longer-count [] (c ∷ cs) are = absurd are
longer-count (b ∷ bs) [] are = absurd are
longer-count (b ∷ bs) (c ∷ cs) are = ap suc (longer-count bs cs are.1)

abbrev pub refs_of : List Block6 → List Endpoint
refs_of bs = flat_map (λ (block : Block6). block.refs) bs

longer-refs : (bs cs : List Block6) → AreLonger bs cs → refs_of cs ≡ refs_of bs
longer-refs [] [] are = refl
longer-refs [] (c ∷ cs) are = absurd are
longer-refs (b ∷ bs) [] are = absurd are
longer-refs (b ∷ bs) (c ∷ cs) are =
    ap (λ (refs : List Endpoint). refs ++ refs_of cs) are.0.refs
    ∙ ap (λ (more : List Endpoint). b.refs ++ more) (longer-refs bs cs are.1)

block6-grows : (texts : List (List ℕ)) (last : Bool) (b c : Block6) → IsLonger b c
    → length (six.block_octets texts last b) ≤ length (six.block_octets texts last c)
unfolding six.block_octets
block6-grows texts last b c is =
    let body = both (spelling (length b.body)) (spelling (length c.body)) b.body c.body
    (spelling-grows (length b.body) (length c.body) is.body) is.body in
    let all = after (spelling (six.marked last b)) _ _ (after (six.refs_octets texts b.refs) _ _ body) in
    rw (is.flags, is.refs) (omega (arith, all))

blocks6-grow : (texts : List (List ℕ)) (bs cs : List Block6) → AreLonger bs cs
    → length (six.blocks_octets texts bs) ≤ length (six.blocks_octets texts cs)
unfolding six.blocks_octets
blocks6-grow texts [] [] are = omega arith
blocks6-grow texts [] (c ∷ cs) are = absurd are
blocks6-grow texts (b ∷ bs) [] are = absurd are
blocks6-grow texts (b ∷ bs) (c ∷ cs) are =
    rw (longer-count bs cs are.1)
    (both _ _ _ _ (block6-grows texts (length bs == 0) b c are.0) (blocks6-grow texts bs cs are.1))

abbrev bundle6_with : Primary6 → List Block6 → Bundle6
bundle6_with primary blocks = record { primary = primary; blocks = blocks }

texts-same : (primary : Primary6) (bs cs : List Block6) → AreLonger bs cs
    → six.texts_of (bundle6_with primary cs) ≡ six.texts_of (bundle6_with primary bs)
unfolding six.texts_of
texts-same primary bs cs are = rw (longer-refs bs cs are) refl

bundle6-grows : (primary : Primary6) (bs cs : List Block6) → AreLonger bs cs
    → length (six.canon6 (bundle6_with primary bs)) ≤ length (six.canon6 (bundle6_with primary cs))
unfolding six.canon6
bundle6-grows primary bs cs are =
    let texts = six.texts_of (bundle6_with primary bs) in
    rw (texts-same primary bs cs are)
    (after (six.primary_octets texts primary) _ _ (blocks6-grow texts bs cs are))

wrap-grows : (stay : ℕ) (block : Block7Like) → HasBody block → length (wrap_old_octets block) ≤ length (wrap_old_octets (raised_block stay block))
unfolding wrap_old_octets
wrap-grows stay block has =
    after-five mark (spelling block.kind) (spelling block.number) (spelling block.flags) (spelling block.crc) block.body
    (body_after stay block.kind block.body) (body-grows stay block.kind block.body has)

exts-longer : (stay : ℕ) (exts : List Ext) → All HasBody (sevens exts)
    → AreLonger (map block6_of exts) (map block6_of (map (raised_ext stay) exts))
exts-longer stay [] have = tt
exts-longer stay (Six block ∷ exts) have =
    (record { flags = refl; refs = refl; body = omega arith }, exts-longer stay exts have)
exts-longer stay (Seven block ∷ exts) have = (
  record { flags = refl; refs = refl; body = wrap-grows stay block (All-head HasBody block (sevens exts) have) },
  exts-longer stay exts (All-tail HasBody block (sevens exts) have),
)

pub old-grows : (stay : ℕ) (full : Full) → IsSound full
    → length (six.canon6 (view6_of full)) ≤ length (six.canon6 (view6_of (raised_by stay full)))
unfolding raised_by
old-grows stay full sound =
    let exts = full.exts in
    let raised = map (raised_ext stay) exts in
    let n = before_payload full in
    let all = exts-longer stay exts sound.bodies in
    let count : length raised ≡ length exts = length-map exts (raised_ext stay) in
    let front : AreLonger (map block6_of (take n exts)) (map block6_of (take n raised)) =
    rw (take-map block6_of n exts, take-map block6_of n raised) at (longer-take n (map block6_of exts) (map block6_of raised) all) in
    let back : AreLonger (map block6_of (drop n exts)) (map block6_of (drop n raised)) =
    rw (drop-map block6_of n exts, drop-map block6_of n raised) at (longer-drop n (map block6_of exts) (map block6_of raised) all) in
    let payload : AreLonger (payload6_of full ∷ map block6_of (drop n exts)) (payload6_of full ∷ map block6_of (drop n raised)) =
    (record { flags = refl; refs = refl; body = omega arith }, back) in
    let blocks = longer-append (residue6 full) (residue6 full) _ _ (itself (residue6 full))
    (longer-append _ _ _ _ front payload) in
    rw count (bundle6-grows (view6_of full).primary _ _ blocks)
