-- The extension blocks of a version 6 view stand for those of its record.

use Rattle.std.proofs.Common.{◌≡◌, ◌+◌, ◌≤◌, Bool, true, false, ◌&&◌, ◌||◌, eqb, List, [], ◌∷◌, ◌++◌, map, length, take, drop, Ok, refl, sym, ap, ◌∙◌, arith, append_assoc, length-drop, take-append-drop}
use Rattle.std.proofs.lemmas.Grind.{flat_map-append}
use Rattle.std.proofs.lemmas.List.Elements.{All-head, All-tail, All-nil, All-cons, All-append, All-take, All-drop}
use Rattle.std.specs.List.{All, after_first, position_or_len}
use Rattle.wire_fields.specs.Whole.{read_whole}
use Rattle.wire_fields.proofs.WholeLemmas.{whole-only}
use Rattle.endpoint.specs.Endpoints.{begins}
use Rattle.bundle6.specs.declared.block.Block6.{Block6}
use Rattle.bundle6.specs.Table.{is_payload}
use Rattle.bundle_meaning.specs.declared.fault.BlockFault.TheVariants.{Bad}
use Rattle.bundle_meaning.specs.declared.blocks.Block7Like.{Block7Like}
use Rattle.bundle_meaning.specs.declared.blocks.Ext.{Ext}
use Rattle.bundle_meaning.specs.declared.blocks.Ext.TheVariants.{Six, Seven}
use Rattle.bundle_meaning.specs.declared.full.Full.{Full}
use Rattle.bundle_meaning.specs.Blocks.{mark, IsExt, IsBlock7}
use Rattle.bundle_meaning.specs.Wrap.{wrap_old, wrap_old_octets}
use Rattle.bundle_meaning.proofs.SpellingLemmas.{wrap_old-spells}
use Rattle.translate.specs.View6.{block6_of, residue6, payload6_of, before_payload, blocks6_of, needs_residue6}
use Rattle.bundle_meaning.specs.Residue.{residue_old_of, residue_old_octets}
use Rattle.translate.specs.Reading6.{ext6_of, exts_in6, payload_in, stand_after6}
use Rattle.translate.proofs.Blocks6Lemmas.{prefix-more}

-- a wrap is marked
pub wrap-begins : (block : Block7Like) → begins mark (wrap_old_octets block) ≡ true
unfolding wrap_old_octets
wrap-begins block = refl

-- and is read as what it holds
pub wrap-read : (block : Block7Like) → IsBlock7 block
    → read_whole (wrap_old (length (wrap_old_octets block))) Bad (wrap_old_octets block) ≡ Ok block
wrap-read block is = whole-only (wrap_old (length (wrap_old_octets block))) Bad (wrap_old_octets block) block (wrap_old-spells block is)

pub parts-unmarked : (p q b : Bool) → ((p || q) && b) ≡ false → ((p && b) ≡ false) × ((q && b) ≡ false)
parts-unmarked true true b is = (is, is)
parts-unmarked true false b is = (is, refl)
parts-unmarked false true b is = (refl, is)
parts-unmarked false false b is = (refl, refl)

-- an extension block of the view stands for that of the record
pub back6 : (ext : Ext) → IsExt ext → ext6_of (block6_of ext) ≡ ext ∷ []
back6 (Six block) is =
    let parts = parts-unmarked (eqb block.kind 192) (eqb block.kind 193) (begins mark block.body) is.unmarked in
    rw (is.extension, parts.0, parts.1) refl
back6 (Seven block) is = rw (wrap-begins block, wrap-read block is) refl

pub backs6 : (exts : List Ext) → All IsExt exts → exts_in6 (map block6_of exts) ≡ exts
backs6 [] are = refl
backs6 (ext ∷ exts) are =
    let rest = backs6 exts (All-tail IsExt ext exts are) in
    ap (λ es. es ++ exts_in6 (map block6_of exts)) (back6 ext (All-head IsExt ext exts are)) ∙ ap (λ es. ext ∷ es) rest

-- none of them is a payload
pub no-payload6 : (ext : Ext) → IsExt ext → is_payload (block6_of ext) ≡ false
no-payload6 (Six block) is = is.extension
no-payload6 (Seven block) is = refl

-- ---- around the payload of the view

no-payloads6 : (exts : List Ext) → All IsExt exts → All (λ block. is_payload block ≡ false) (map block6_of exts)
no-payloads6 [] are = All-nil (λ block. is_payload block ≡ false)
no-payloads6 (ext ∷ exts) are =
    All-cons (λ block. is_payload block ≡ false) (block6_of ext) (map block6_of exts)
    (no-payload6 ext (All-head IsExt ext exts are)) (no-payloads6 exts (All-tail IsExt ext exts are))

pub payload-behind : (before after : List Block6) (payload : Block6) → All (λ block. is_payload block ≡ false) before
    → is_payload payload ≡ true → payload_in (before ++ payload ∷ after) ≡ payload
unfolding payload_in
payload-behind [] after payload none is = rw is refl
payload-behind (block ∷ before) after payload none is =
    rw (All-head (λ b. is_payload b ≡ false) block before none)
    (payload-behind before after payload (All-tail (λ b. is_payload b ≡ false) block before none) is)

pub after-behind : (before after : List Block6) (payload : Block6) → All (λ block. is_payload block ≡ false) before
    → is_payload payload ≡ true → after_first is_payload (before ++ payload ∷ after) ≡ after
after-behind [] after payload none is = rw is refl
after-behind (block ∷ before) after payload none is =
    let rest = before ++ payload ∷ after in
    let n = position_or_len is_payload rest in
    let here : position_or_len is_payload (block ∷ rest) ≡ 1 + n = rw (All-head (λ b. is_payload b ≡ false) block before none) refl in
    ap (λ k. drop (k + 1) (block ∷ rest)) here ∙ (prefix-more n block rest).1
    ∙ after-behind before after payload (All-tail (λ b. is_payload b ≡ false) block before none) is

-- ---- the whole view

-- the residue of a record, as a block
abbrev pub residue-block : Full → Block6
residue-block full = record { kind = 192; flags = 1; refs = []; body = residue_old_octets (residue_old_of full) }

residue-stands : (full : Full) (b : Bool) → needs_residue6 full ≡ b → (exts_in6 (residue6 full) ≡ []) × All (λ block. is_payload block ≡ false) (residue6 full)
unfolding residue_old_octets
residue-stands full true is =
    let made : residue6 full ≡ residue-block full ∷ [] = rw is refl in
    (ap exts_in6 made, rw made (All-cons (λ block. is_payload block ≡ false) (residue-block full) [] refl (All-nil (λ block. is_payload block ≡ false))))
residue-stands full false is =
    let made : residue6 full ≡ [] = rw is refl in
    (ap exts_in6 made, rw made (All-nil (λ block. is_payload block ≡ false)))

-- all blocks before the payload
pub before6 : Full → List Block6
before6 full = residue6 full ++ map block6_of (take (before_payload full) full.exts)

pub after6 : Full → List Block6
after6 full = map block6_of (drop (before_payload full) full.exts)

pub blocks6-parts : (full : Full) → blocks6_of full ≡ before6 full ++ payload6_of full ∷ after6 full
unfolding before6 after6
blocks6-parts full = sym (append_assoc (residue6 full) (map block6_of (take (before_payload full) full.exts)) (payload6_of full ∷ map block6_of (drop (before_payload full) full.exts)))

pub before6-others : (full : Full) → All IsExt full.exts → All (λ block. is_payload block ≡ false) (before6 full)
unfolding before6
before6-others full are =
    All-append (λ block. is_payload block ≡ false) (residue6 full) (map block6_of (take (before_payload full) full.exts))
    (residue-stands full (needs_residue6 full) refl).1
    (no-payloads6 (take (before_payload full) full.exts) (All-take IsExt (before_payload full) full.exts are))

pub after6-others : (full : Full) → All IsExt full.exts → All (λ block. is_payload block ≡ false) (after6 full)
unfolding after6
after6-others full are = no-payloads6 (drop (before_payload full) full.exts) (All-drop IsExt (before_payload full) full.exts are)

-- the payload of the view is that of the record
pub payload6-back : (full : Full) → All IsExt full.exts → payload_in (blocks6_of full) ≡ payload6_of full
payload6-back full are =
    ap payload_in (blocks6-parts full) ∙ payload-behind (before6 full) (after6 full) (payload6_of full) (before6-others full are) refl

-- the extension blocks of the view are those of the record
pub exts6-back : (full : Full) → All IsExt full.exts → exts_in6 (blocks6_of full) ≡ full.exts
unfolding before6 after6
exts6-back full are =
    let k = before_payload full in
    let front = map block6_of (take k full.exts) in
    let back = payload6_of full ∷ map block6_of (drop k full.exts) in
    flat_map-append ext6_of (residue6 full) (front ++ back)
    ∙ ap (λ es. es ++ exts_in6 (front ++ back)) (residue-stands full (needs_residue6 full) refl).0
    ∙ flat_map-append ext6_of front back
    ∙ ap (λ es. es ++ exts_in6 back) (backs6 (take k full.exts) (All-take IsExt k full.exts are))
    ∙ ap (λ es. take k full.exts ++ es) (backs6 (drop k full.exts) (All-drop IsExt k full.exts are))
    ∙ take-append-drop k full.exts

-- as many of them stand after the payload
pub after6-back : (full : Full) → All IsExt full.exts → full.extra6.after ≤ length full.exts
    → stand_after6 (blocks6_of full) ≡ full.extra6.after
unfolding before6 after6
after6-back full are few =
    let k = before_payload full in
    ap stand_after6 (blocks6-parts full)
    ∙ ap (λ bs. length (exts_in6 bs)) (after-behind (before6 full) (after6 full) (payload6_of full) (before6-others full are) refl)
    ∙ ap length (backs6 (drop k full.exts) (All-drop IsExt k full.exts are))
    ∙ omega (arith, length-drop k full.exts, few)
