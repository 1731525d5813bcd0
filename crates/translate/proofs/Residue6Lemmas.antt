-- The residue of a version 6 view says what its record has besides.

use Rattle.std.proofs.Common.{◌≡◌, ◌+◌, ◌-◌, ◌*◌, ◌/◌, ◌%◌, ◌<◌, Bool, true, false, ◌||◌, not, eqb, List, [], ◌∷◌, ◌++◌, map, take, drop, Ok, refl, sym, ap, ◌∙◌, arith, eqb-true}
use Rattle.std.proofs.lemmas.Bool.{and_parts, lt-ltb}
use Rattle.std.proofs.lemmas.List.Elements.{All-head, All-tail, All-nil, All-cons, All-append, All-take, All-drop}
use Rattle.std.proofs.lemmas.List.Folds.{list_any_none}
use Rattle.std.specs.List.{All}
use Rattle.endpoint.specs.Endpoints.{begins}
use Rattle.wire_fields.specs.Whole.{read_whole}
use Rattle.wire_fields.proofs.WholeLemmas.{whole-only}
use Rattle.bundle6.specs.declared.block.Block6.{Block6}
use Rattle.bundle6.specs.declared.bundle.Bundle6.{Bundle6}
use Rattle.bundle_meaning.specs.declared.fault.BlockFault.TheVariants.{Bad}
use Rattle.bundle_meaning.specs.declared.shared.Shared.{Shared}
use Rattle.bundle_meaning.specs.declared.extra.Extra7.{Extra7}
use Rattle.bundle_meaning.specs.declared.blocks.Ext.{Ext}
use Rattle.bundle_meaning.specs.declared.blocks.Ext.TheVariants.{Six, Seven}
use Rattle.bundle_meaning.specs.declared.full.Full.{Full}
use Rattle.bundle_meaning.specs.Blocks.{mark, IsExt}
use Rattle.bundle_meaning.specs.Defaults.{default7_of}
use Rattle.bundle_meaning.specs.Expiry.{lifetime6_of, slack_of}
use Rattle.bundle_meaning.specs.Reports.{no_time_of}
use Rattle.bundle_meaning.specs.Residue.{residue_old, residue_old_of, residue_old_octets}
use Rattle.bundle_meaning.specs.Valid.{IsValid}
use Rattle.bundle_meaning.proofs.SpellingLemmas.{residue_old-spells}
use Rattle.bundle_meaning.proofs.RecordLemmas.{residue_old-is}
use Rattle.translate.specs.View6.{is_same7, needs_residue6, block6_of, payload6_of, before_payload, blocks6_of, view6_of}
use Rattle.translate.specs.Admin.{takes_mask}
use Rattle.translate.specs.Reading6.{no_residue6, residue_in6, is_residue6, are_residues6, carried6}
use Rattle.translate.proofs.Back6Lemmas.{parts-unmarked, residue-block}

-- ---- times

pub slack-small : (shared : Shared) → shared.millis < shared.expiry → slack_of shared < 1000
slack-small shared lives = omega (arith, lives)

-- the residue leaves some lifetime
pub slack-leaves : (shared : Shared) → shared.millis < shared.expiry
    → slack_of shared + (1000 * shared.sequence + shared.millis % 1000) % 1000 < 1000 * lifetime6_of shared
slack-leaves shared lives = omega (arith, lives)

pub lifetime-some : (shared : Shared) → shared.millis < shared.expiry → 0 < lifetime6_of shared
lifetime-some shared lives = omega (arith, lives)

-- the exact expiry is had back
pub expiry-back : (shared : Shared) → shared.millis < shared.expiry
    → 1000 * (shared.millis / 1000 + lifetime6_of shared) - slack_of shared ≡ shared.expiry
expiry-back shared lives = omega (arith, lives)

-- ---- blocks that are no residues

residue-free : (ext : Ext) → IsExt ext → is_residue6 (block6_of ext) ≡ false
residue-free (Six block) is = (parts-unmarked (eqb block.kind 192) (eqb block.kind 193) (begins mark block.body) is.unmarked).0
residue-free (Seven block) is = refl

residue-frees : (exts : List Ext) → All IsExt exts → All (λ block. is_residue6 block ≡ false) (map block6_of exts)
residue-frees [] are = All-nil (λ block. is_residue6 block ≡ false)
residue-frees (ext ∷ exts) are =
    All-cons (λ block. is_residue6 block ≡ false) (block6_of ext) (map block6_of exts)
    (residue-free ext (All-head IsExt ext exts are)) (residue-frees exts (All-tail IsExt ext exts are))

-- the blocks of a view after its residue
abbrev pub others6 : Full → List Block6
others6 full =
    map block6_of (take (before_payload full) full.exts)
    ++ payload6_of full ∷ map block6_of (drop (before_payload full) full.exts)

pub others6-free : (full : Full) → All IsExt full.exts → All (λ block. is_residue6 block ≡ false) (others6 full)
others6-free full are =
    let k = before_payload full in
    All-append (λ block. is_residue6 block ≡ false) (map block6_of (take k full.exts)) (payload6_of full ∷ map block6_of (drop k full.exts))
    (residue-frees (take k full.exts) (All-take IsExt k full.exts are))
    (All-cons (λ block. is_residue6 block ≡ false) (payload6_of full) (map block6_of (drop k full.exts)) refl
    (residue-frees (drop k full.exts) (All-drop IsExt k full.exts are)))

none-in : (blocks : List Block6) → All (λ block. is_residue6 block ≡ false) blocks → residue_in6 blocks ≡ no_residue6
unfolding residue_in6
none-in [] free = refl
none-in (block ∷ blocks) free =
    rw (All-head (λ b. is_residue6 b ≡ false) block blocks free) (none-in blocks (All-tail (λ b. is_residue6 b ≡ false) block blocks free))

none-stand : (b : Bundle6) (blocks : List Block6) → All (λ block. is_residue6 block ≡ false) blocks → are_residues6 b blocks ≡ true
unfolding are_residues6
none-stand b [] free = refl
none-stand b (block ∷ blocks) free =
    rw (All-head (λ x. is_residue6 x ≡ false) block blocks free) (none-stand b blocks (All-tail (λ x. is_residue6 x ≡ false) block blocks free))

-- ---- a residue that isn't needed

pub or-false : (p q : Bool) → (p || q) ≡ false → (p ≡ false) × (q ≡ false)
or-false true q is = absurd (cc)
or-false false q is = (refl, is)

pub not-false : (p : Bool) → not p ≡ false → p ≡ true
not-false true is = refl
not-false false is = absurd (cc)

same7-is : (extra : Extra7) → is_same7 extra default7_of ≡ true → extra ≡ default7_of
same7-is extra same =
    let a = and_parts _ _ same in
    let b = and_parts _ _ a.0 in
    let c = and_parts _ _ b.0 in
    let flags = eqb-true extra.flags 0 c.0 in
    let crc = eqb-true extra.crc 1 c.1 in
    let payload_crc = eqb-true extra.payload_crc 0 b.1 in
    let payload_flags = eqb-true extra.payload_flags 0 a.1 in
    let eta : extra ≡ record { flags = extra.flags; crc = extra.crc; payload_crc = extra.payload_crc; payload_flags = extra.payload_flags } = refl in
    eta ∙ rw (flags, crc, payload_crc, payload_flags) refl

pub not-needed : (full : Full) → needs_residue6 full ≡ false → residue_old_of full ≡ no_residue6
not-needed full none =
    let outer = or-false _ _ none in
    let inner = or-false _ _ outer.0 in
    let extra = same7-is full.extra7 (not-false _ inner.0) in
    let slack = eqb-true (slack_of full.shared) 0 (not-false _ inner.1) in
    let time = eqb-true (no_time_of full.shared.content) 0 (not-false _ outer.1) in
    rw (extra, slack, time) refl

-- ---- the view

residue-begins : (full : Full) → is_residue6 (residue-block full) ≡ true
unfolding residue_old_octets
residue-begins full = refl

residue-read : (full : Full) → IsValid full → read_whole residue_old Bad (residue-block full).body ≡ Ok (residue_old_of full)
residue-read full valid =
    whole-only residue_old Bad (residue_old_octets (residue_old_of full)) (residue_old_of full)
    (residue_old-spells (residue_old_of full) (residue_old-is full valid (slack-small full.shared valid.shared.lives)))

in-view : (full : Full) (b : Bool) → needs_residue6 full ≡ b → IsValid full → residue_in6 (blocks6_of full) ≡ residue_old_of full
unfolding residue_in6
in-view full true needed valid =
    let made : blocks6_of full ≡ residue-block full ∷ others6 full = rw needed refl in
    ap residue_in6 made ∙ rw (residue-begins full, residue-read full valid) refl
in-view full false needed valid =
    let made : blocks6_of full ≡ others6 full = rw needed refl in
    ap residue_in6 made ∙ none-in (others6 full) (others6-free full valid.exts) ∙ sym (not-needed full needed)

pub residue6-back : (full : Full) → IsValid full → residue_in6 (blocks6_of full) ≡ residue_old_of full
residue6-back full valid = in-view full (needs_residue6 full) refl valid

stand-in-view : (full : Full) (b : Bool) → needs_residue6 full ≡ b → IsValid full
    → takes_mask (carried6 (view6_of full)) (no_time_of full.shared.content) ≡ true
    → are_residues6 (view6_of full) (blocks6_of full) ≡ true
unfolding are_residues6
stand-in-view full true needed valid takes =
    let made : blocks6_of full ≡ residue-block full ∷ others6 full = rw needed refl in
    let late = lt-ltb (slack_of full.shared + (1000 * full.shared.sequence + full.shared.millis % 1000) % 1000) (1000 * lifetime6_of full.shared)
    (slack-leaves full.shared valid.shared.lives) in
    let none = list_any_none is_residue6 (others6 full) (others6-free full valid.exts) in
    ap (are_residues6 (view6_of full)) made ∙ rw (residue-begins full, residue-read full valid, late, takes, none) refl
stand-in-view full false needed valid takes =
    let made : blocks6_of full ≡ others6 full = rw needed refl in
    ap (are_residues6 (view6_of full)) made ∙ none-stand (view6_of full) (others6 full) (others6-free full valid.exts)

pub residue6-stands : (full : Full) → IsValid full
    → takes_mask (carried6 (view6_of full)) (no_time_of full.shared.content) ≡ true
    → are_residues6 (view6_of full) (blocks6_of full) ≡ true
residue6-stands full valid takes = stand-in-view full (needs_residue6 full) refl valid takes
