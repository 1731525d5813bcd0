-- A version 7 view is read as the record of which it is the view.

use Rattle.std.proofs.Common.{◌≡◌, ℕ, ◌+◌, ◌-◌, ◌^◌, ◌<◌, ◌≤◌, min, max, Bool, true, false, ◌&&◌, not, eqb, ltb, List, [], ◌∷◌, ◌++◌, length, None, Ok, refl, sym, ap, ◌∙◌, arith, eqb-true, bit_or}
use Rattle.std.proofs.lemmas.Bool.{and_parts, lt-leb, ne_eqb, le-ltb}
use Rattle.std.proofs.lemmas.List.Elements.{All-head, All-tail, All-nil, All-cons}
use Rattle.std.proofs.lemmas.List.Folds.{list_any_none}
use Rattle.std.proofs.lemmas.Nat.Bits.{bit_at_or}
use Rattle.std.specs.Int.{bit_at}
use Rattle.std.specs.List.{All, list_all}
use Rattle.endpoint.specs.declared.name.Endpoint.{Endpoint}
use Rattle.endpoint.specs.declared.name.Endpoint.TheVariants.{Null, Ipn, Dtn}
use Rattle.endpoint.specs.Endpoints.{begins}
use Rattle.wire_fields.specs.Whole.{read_whole}
use Rattle.wire_fields.proofs.WholeLemmas.{whole-only}
use Rattle.bundle6.specs.Bits.{has_bit}
use Rattle.bundle7.specs.declared.block.Block7.{Block7}
use Rattle.bundle7.specs.declared.bundle.Bundle7.{Bundle7}
use Rattle.bundle_meaning.specs.declared.fault.BlockFault.TheVariants.{Bad}
use Rattle.bundle_meaning.specs.declared.shared.Shared.{Shared}
use Rattle.bundle_meaning.specs.declared.extra.Extra6.{Extra6}
use Rattle.bundle_meaning.specs.declared.blocks.Block6Like.{Block6Like}
use Rattle.bundle_meaning.specs.declared.residue_new.ResidueNew.{ResidueNew}
use Rattle.bundle_meaning.specs.declared.blocks.Ext.{Ext}
use Rattle.bundle_meaning.specs.declared.blocks.Ext.TheVariants.{Six, Seven}
use Rattle.bundle_meaning.specs.declared.full.Full.{Full}
use Rattle.bundle_meaning.specs.Bits.{is_without, common, block_common}
use Rattle.bundle_meaning.specs.Blocks.{mark, IsExt, IsBlock6}
use Rattle.bundle_meaning.specs.Defaults.{default6_of}
use Rattle.bundle_meaning.specs.Reports.{is_report, rests_of}
use Rattle.bundle_meaning.specs.Residue.{residue_new, residue_new_of, residue_new_octets}
use Rattle.bundle_meaning.specs.Wrap.{wrap_new, wrap_new_octets}
use Rattle.bundle_meaning.specs.Valid.{IsContent, IsValid}
use Rattle.bundle_meaning.proofs.SpellingLemmas.{wrap_new-spells, residue_new-spells}
use Rattle.bundle_meaning.proofs.RecordLemmas.{residue_new-is}
use Rattle.translate.specs.declared.refused.Refused.{Refused}
use Rattle.translate.specs.declared.refused.Refused.TheVariants as causes
use Rattle.translate.specs.Refusals.{first_that_holds}
use Rattle.endpoint.specs.Endpoints.{is_null}
use Rattle.translate.specs.View7.{is_default6, needs_residue7, next_free7, residue7_at, block7_at, number_after7, blocks7_of, exts7_of, octets7_of, view7_of}
use Rattle.translate.specs.Reading7.{carried7, content7_of, shared7_with, residue7_of, no_residue7, residue_in7, is_residue7, are_residues7, is_wrap_legal7, ext7_of, exts_in7, shared7_of, extra7_of, extra6_of_residue, refusals7, Reads7}
use Rattle.translate.specs.Admin.{lacks_report7, takes_parts, report7_in, content7}
use Rattle.translate.proofs.AdminLemmas.{content7-back, takes7-back, lacks7-back, no-rests}
use Rattle.translate.proofs.BitsLemmas.{common-or, own-or}
use Rattle.translate.proofs.Back6Lemmas.{parts-unmarked}
use Rattle.translate.proofs.Residue6Lemmas.{or-false, not-false}
use Rattle.translate.proofs.View6Laws.{clear-without, clear-without-common, no-admin-fragment}

-- ---- wraps

wrap-begins : (block : Block6Like) → begins mark (wrap_new_octets block) ≡ true
unfolding wrap_new_octets
wrap-begins block = refl

wrap-read : (block : Block6Like) → IsBlock6 block
    → read_whole (wrap_new (length (wrap_new_octets block))) Bad (wrap_new_octets block) ≡ Ok block
wrap-read block is = whole-only (wrap_new (length (wrap_new_octets block))) Bad (wrap_new_octets block) block (wrap_new-spells block is)

-- an extension block of the view stands for that of the record
back7 : (all : List Ext) (next : ℕ) (ext : Ext) → IsExt ext → ext7_of (block7_at all next ext) ≡ ext ∷ []
back7 all next (Seven block) is =
    let parts = parts-unmarked (eqb block.kind 192) (eqb block.kind 193) (begins mark block.body) is.unmarked in
    rw (parts.0, parts.1) refl
back7 all next (Six block) is = rw (wrap-begins block, wrap-read block is) refl

backs7 : (all : List Ext) (next : ℕ) (exts : List Ext) → All IsExt exts → exts_in7 (blocks7_of all next exts) ≡ exts
unfolding blocks7_of
backs7 all next [] are = refl
backs7 all next (ext ∷ exts) are =
    let rest = backs7 all (number_after7 all next ext) exts (All-tail IsExt ext exts are) in
    ap (λ es. es ++ exts_in7 (blocks7_of all (number_after7 all next ext) exts)) (back7 all next ext (All-head IsExt ext exts are))
    ∙ ap (λ es. ext ∷ es) rest

fine7 : (all : List Ext) (next : ℕ) (ext : Ext) → IsExt ext → is_wrap_legal7 (block7_at all next ext) ≡ true
fine7 all next (Seven block) is =
    rw (parts-unmarked (eqb block.kind 192) (eqb block.kind 193) (begins mark block.body) is.unmarked).1 refl
fine7 all next (Six block) is = rw (wrap-begins block, wrap-read block is, is.unmarked) refl

fines7 : (all : List Ext) (next : ℕ) (exts : List Ext) → All IsExt exts → list_all is_wrap_legal7 (blocks7_of all next exts) ≡ true
unfolding blocks7_of
fines7 all next [] are = refl
fines7 all next (ext ∷ exts) are =
    rw (
      fine7 all next ext (All-head IsExt ext exts are),
      fines7 all (number_after7 all next ext) exts (All-tail IsExt ext exts are),
    ) refl

-- ---- the residue

free7 : (all : List Ext) (next : ℕ) (ext : Ext) → IsExt ext → is_residue7 (block7_at all next ext) ≡ false
free7 all next (Seven block) is = (parts-unmarked (eqb block.kind 192) (eqb block.kind 193) (begins mark block.body) is.unmarked).0
free7 all next (Six block) is = refl

frees7 : (all : List Ext) (next : ℕ) (exts : List Ext) → All IsExt exts → All (λ b. is_residue7 b ≡ false) (blocks7_of all next exts)
unfolding blocks7_of
frees7 all next [] are = All-nil (λ b. is_residue7 b ≡ false)
frees7 all next (ext ∷ exts) are =
    All-cons (λ b. is_residue7 b ≡ false) (block7_at all next ext) (blocks7_of all (number_after7 all next ext) exts)
    (free7 all next ext (All-head IsExt ext exts are))
    (frees7 all (number_after7 all next ext) exts (All-tail IsExt ext exts are))

none-in : (other : ResidueNew) (blocks : List Block7) → All (λ b. is_residue7 b ≡ false) blocks → residue_in7 other blocks ≡ other
unfolding residue_in7
none-in other [] free = refl
none-in other (block ∷ blocks) free =
    rw (All-head (λ b. is_residue7 b ≡ false) block blocks free) (none-in other blocks (All-tail (λ b. is_residue7 b ≡ false) block blocks free))

none-stand : (b : Bundle7) (blocks : List Block7) → All (λ b. is_residue7 b ≡ false) blocks → are_residues7 b blocks ≡ true
unfolding are_residues7
none-stand b [] free = refl
none-stand b (block ∷ blocks) free =
    rw (All-head (λ b. is_residue7 b ≡ false) block blocks free) (none-stand b blocks (All-tail (λ b. is_residue7 b ≡ false) block blocks free))

residue-begins : (number : ℕ) (full : Full) → is_residue7 (residue7_at number full) ≡ true
unfolding residue_new_octets
residue-begins number full = refl

residue-read : (full : Full) → IsValid full → read_whole residue_new Bad (residue_new_octets (residue_new_of full)) ≡ Ok (residue_new_of full)
residue-read full valid =
    whole-only residue_new Bad (residue_new_octets (residue_new_of full)) (residue_new_of full)
    (residue_new-spells (residue_new_of full) (residue_new-is full valid))

null-is : (endpoint : Endpoint) → is_null endpoint ≡ true → endpoint ≡ Null
null-is Null is = refl
null-is (Ipn node service) is = absurd (cc)
null-is (Dtn ssp) is = absurd (cc)

default6-is : (shared : Shared) (extra : Extra6) → is_default6 shared extra ≡ true → extra ≡ default6_of shared
default6-is shared extra same =
    let a = and_parts _ _ same in
    let b = and_parts _ _ a.0 in
    let c = and_parts _ _ b.0 in
    let flags = eqb-true extra.flags (default6_of shared).flags c.0 in
    let custodian = null-is extra.custodian c.1 in
    let payload_flags = eqb-true extra.payload_flags 0 b.1 in
    let after = eqb-true extra.after 0 a.1 in
    let eta : extra ≡ record { flags = extra.flags; custodian = extra.custodian; payload_flags = extra.payload_flags; after = extra.after } = refl in
    eta ∙ rw (flags, custodian, payload_flags, after) refl

not-needed : (full : Full) → needs_residue7 full ≡ false → IsContent full.shared.content → no_residue7 (view7_of full) ≡ residue_new_of full
not-needed full none content =
    let outer = or-false _ _ none in
    let extra = default6-is full.shared full.extra6 (not-false _ outer.0) in
    let rests = no-rests full.shared.content (not-false _ outer.1) content in
    rw (extra, rests) refl

-- ---- the payload

-- flag bit 1 of the view stands exactly with a report
report-bit : (full : Full) → IsValid full → has_bit 1 (bit_or full.shared.flags full.extra7.flags) ≡ is_report full.shared.content
report-bit full valid = clear-without-common full.shared.flags full.extra7.flags valid.extra7.flags ∙ valid.shared.report_bit

takes-back : (full : Full) → IsValid full → takes_parts (carried7 (view7_of full)) (rests_of full.shared.content) ≡ true
takes-back full valid =
    takes7-back (bit_or full.shared.flags full.extra7.flags) full.shared.content (report-bit full valid) valid.shared.content

lacks-back : (full : Full) → IsValid full
    → lacks_report7 (bit_or full.shared.flags full.extra7.flags) (octets7_of full.shared.content) ≡ false
lacks-back full valid =
    lacks7-back (bit_or full.shared.flags full.extra7.flags) full.shared.content (report-bit full valid) valid.shared.content

-- ---- the view

exts-by : (full : Full) (b : Bool) → needs_residue7 full ≡ b → IsValid full → exts_in7 (exts7_of full) ≡ full.exts
unfolding residue_new_octets
exts-by full true needed valid =
    let next = next_free7 full.exts 2 in
    let made : exts7_of full ≡ residue7_at next full ∷ blocks7_of full.exts (next + 1) full.exts = rw needed refl in
    ap exts_in7 made ∙ backs7 full.exts (next + 1) full.exts valid.exts
exts-by full false needed valid =
    let made : exts7_of full ≡ blocks7_of full.exts 2 full.exts = rw needed refl in
    ap exts_in7 made ∙ backs7 full.exts 2 full.exts valid.exts

residue-by : (full : Full) (b : Bool) → needs_residue7 full ≡ b → IsValid full → residue7_of (view7_of full) ≡ residue_new_of full
unfolding residue_in7
residue-by full true needed valid =
    let next = next_free7 full.exts 2 in
    let made : exts7_of full ≡ residue7_at next full ∷ blocks7_of full.exts (next + 1) full.exts = rw needed refl in
    ap (residue_in7 (no_residue7 (view7_of full))) made ∙ rw (residue-begins next full, residue-read full valid) refl
residue-by full false needed valid =
    let made : exts7_of full ≡ blocks7_of full.exts 2 full.exts = rw needed refl in
    ap (residue_in7 (no_residue7 (view7_of full))) made
    ∙ none-in (no_residue7 (view7_of full)) (blocks7_of full.exts 2 full.exts) (frees7 full.exts 2 full.exts valid.exts)
    ∙ not-needed full needed valid.shared.content

residue7-back : (full : Full) → IsValid full → residue7_of (view7_of full) ≡ residue_new_of full
residue7-back full valid = residue-by full (needs_residue7 full) refl valid

content-back : (full : Full) → IsValid full → content7_of (view7_of full) ≡ full.shared.content
content-back full valid =
    let flags = bit_or full.shared.flags full.extra7.flags in
    let octets = octets7_of full.shared.content in
    ap (λ r. content7 (report7_in flags octets) r.rests octets) (residue7-back full valid)
    ∙ content7-back flags full.shared.content (report-bit full valid) valid.shared.content

stand-by : (full : Full) (b : Bool) → needs_residue7 full ≡ b → IsValid full → are_residues7 (view7_of full) (exts7_of full) ≡ true
unfolding are_residues7
stand-by full true needed valid =
    let next = next_free7 full.exts 2 in
    let others = blocks7_of full.exts (next + 1) full.exts in
    let made : exts7_of full ≡ residue7_at next full ∷ others = rw needed refl in
    let none = list_any_none is_residue7 others (frees7 full.exts (next + 1) full.exts valid.exts) in
    ap (are_residues7 (view7_of full)) made
    ∙ rw (residue-begins next full, residue-read full valid, takes-back full valid, none) refl
stand-by full false needed valid =
    let made : exts7_of full ≡ blocks7_of full.exts 2 full.exts = rw needed refl in
    ap (are_residues7 (view7_of full)) made ∙ none-stand (view7_of full) (blocks7_of full.exts 2 full.exts) (frees7 full.exts 2 full.exts valid.exts)

wraps-by : (full : Full) (b : Bool) → needs_residue7 full ≡ b → IsValid full → list_all is_wrap_legal7 (exts7_of full) ≡ true
wraps-by full true needed valid =
    let next = next_free7 full.exts 2 in
    let made : exts7_of full ≡ residue7_at next full ∷ blocks7_of full.exts (next + 1) full.exts = rw needed refl in
    ap (list_all is_wrap_legal7) made ∙ fines7 full.exts (next + 1) full.exts valid.exts
wraps-by full false needed valid =
    let made : exts7_of full ≡ blocks7_of full.exts 2 full.exts = rw needed refl in
    ap (list_all is_wrap_legal7) made ∙ fines7 full.exts 2 full.exts valid.exts

-- ---- the fields

expiry-back : (shared : Shared) → shared.millis < shared.expiry → shared.millis + (shared.expiry - shared.millis) ≡ shared.expiry
expiry-back shared lives = omega (arith, lives)

shared7-back : (full : Full) → IsValid full → shared7_of (view7_of full) ≡ full.shared
shared7-back full valid =
    let shared = full.shared in
    let expiry = expiry-back shared valid.shared.lives in
    let flags = common-or common shared.flags full.extra7.flags valid.shared.flags valid.extra7.flags in
    let payload_flags = common-or block_common shared.payload_flags full.extra7.payload_flags valid.shared.payload_flags valid.extra7.payload_flags in
    ap (shared7_with (view7_of full)) (content-back full valid) ∙ rw (expiry, flags, payload_flags) refl

extra7-back : (full : Full) → IsValid full → extra7_of (view7_of full) ≡ full.extra7
extra7-back full valid =
    let flags = own-or common full.shared.flags full.extra7.flags valid.shared.flags valid.extra7.flags in
    let payload_flags = own-or block_common full.shared.payload_flags full.extra7.payload_flags valid.shared.payload_flags valid.extra7.payload_flags in
    rw (flags, payload_flags) refl

extra6-back : (full : Full) → IsValid full
    → extra6_of_residue (residue7_of (view7_of full)) (length (exts_in7 (exts7_of full))) ≡ full.extra6
extra6-back full valid =
    let least : min full.extra6.after (length full.exts) ≡ full.extra6.after = omega (arith, valid.after) in
    ap (λ r. extra6_of_residue r (length (exts_in7 (exts7_of full)))) (residue7-back full valid)
    ∙ ap (λ es. extra6_of_residue (residue_new_of full) (length es)) (exts-by full (needs_residue7 full) refl valid)
    ∙ rw least refl

-- ---- it isn't refused

none-refused : (admin : Refused) (b1 b2 b3 b4 b5 b6 b7 : Bool) → b1 ≡ false → b2 ≡ false → b3 ≡ false → b4 ≡ false → b5 ≡ false → b6 ≡ false → b7 ≡ false
    → first_that_holds ((causes.Clockless, b1) ∷ (causes.LifetimeZero, b2) ∷ (causes.SequenceTooLarge, b3) ∷ (causes.AdminFragment, b4)
    ∷ (admin, b5) ∷ (causes.ResidueBad, b6) ∷ (causes.WrapBad, b7) ∷ []) ≡ None
none-refused admin b1 b2 b3 b4 b5 b6 b7 e1 e2 e3 e4 e5 e6 e7 = rw (e1, e2, e3, e4, e5, e6, e7) refl

not-early : (millis : ℕ) → 1000 ≤ millis → ltb millis 1000 ≡ false
not-early millis clock = le-ltb millis 1000 clock

same-bit0 : (a b : ℕ) → is_without common b ≡ true → has_bit 0 (bit_or a b) ≡ has_bit 0 a
same-bit0 a b without =
    let q = clear-without 0 common b without refl in
    ap (λ x. eqb x 1) (bit_at_or a b 0 ∙ ap (λ x. max (bit_at a 0) x) q ∙ omega arith)

unrefused7 : (full : Full) → IsValid full → first_that_holds (refusals7 (view7_of full)) ≡ None
unrefused7 full valid =
    let shared = full.shared in
    let fragment : (has_bit 0 (bit_or shared.flags full.extra7.flags) && has_bit 1 (bit_or shared.flags full.extra7.flags)) ≡ false =
    rw (same-bit0 shared.flags full.extra7.flags valid.extra7.flags, valid.shared.fragment_bit, report-bit full valid) (no-admin-fragment shared valid.shared) in
    none-refused _ _ _ _ _ _ _ _
    (not-early shared.millis valid.shared.clock)
    (ne_eqb (shared.expiry - shared.millis) 0 (λ none. omega (arith, none, valid.shared.lives)))
    (lt-leb (2 ^ 64) _ valid.shared.counterpart)
    fragment (lacks-back full valid)
    (ap not (stand-by full (needs_residue7 full) refl valid))
    (ap not (wraps-by full (needs_residue7 full) refl valid))

-- ---- together

pub view7-reads : (full : Full) → IsValid full → Reads7 (view7_of full) full
view7-reads full valid = record {
  unrefused = unrefused7 full valid;
  shared = sym (shared7-back full valid);
  extra6 = sym (extra6-back full valid);
  extra7 = sym (extra7-back full valid);
  exts = sym (exts-by full (needs_residue7 full) refl valid);
}
