-- A version 6 view is read as the record of which it is the view.

use Rattle.std.proofs.Common.{◌≡◌, ℕ, ◌+◌, ◌*◌, ◌/◌, ◌%◌, ◌^◌, Bool, true, false, ◌&&◌, ◌||◌, not, eqb, List, [], ◌∷◌, ◌++◌, map, take, drop, length, Option, Some, None, is_some, refl, sym, ap, ◌∙◌, arith, eqb-true, eq-eqb, bit_and, bit_or, max, min, take-append-drop, ◌==◌}
use Rattle.std.proofs.lemmas.Bool.{and_parts, lt-leb, ne_eqb}
use Rattle.std.proofs.lemmas.List.Elements.{All-head, All-tail, All-nil, All-cons}
use Rattle.std.proofs.lemmas.List.Folds.{list_all-append}
use Rattle.std.specs.Int.{bit_at}
use Rattle.std.specs.List.{All, list_any, list_all}
use Rattle.endpoint.specs.Endpoints.{begins}
use Rattle.bundle6.specs.declared.block.Block6.{Block6}
use Rattle.bundle7.proofs.BodyLemmas.{body-only}
use Rattle.bundle_meaning.specs.declared.shared.Content.{Content}
use Rattle.bundle_meaning.specs.declared.shared.Content.TheVariants as contents
use Rattle.bundle_meaning.specs.declared.shared.Shared.{Shared}
use Rattle.bundle_meaning.specs.declared.blocks.Block7Like.{Block7Like}
use Rattle.bundle_meaning.specs.declared.blocks.Ext.{Ext}
use Rattle.bundle_meaning.specs.declared.blocks.Ext.TheVariants.{Six, Seven}
use Rattle.bundle_meaning.specs.declared.full.Full.{Full}
use Rattle.bundle_meaning.specs.Blocks.{mark, IsExt, IsBlock7, sevens, are_apart, collide}
use Rattle.translate.specs.Sound.{IsSound, HasBody}
use Rattle.translate.specs.View6.{needs_residue6, block6_of, octets6_of, payload6_of, before_payload, blocks6_of, view6_of}
use Rattle.translate.specs.Admin.{report6_in, lacks_report6, takes_mask, content6}
use Rattle.translate.specs.Reading6.{residue_in6, carried6, content6_of, shared6_with, wrapped7, collide_held, collide6, are_apart6, are_wraps6, is_wrap_legal6, is_late6, payload_in, shared6_of, extra6_of, refusals6, Reads6}
use Rattle.std.specs.Int.Bits.{and_zero_l}
use Rattle.std.proofs.lemmas.Nat.{and_assoc}
use Rattle.std.proofs.lemmas.Nat.Bits.{bit_at_and, bit_at_or, bit_at-zero}
use Rattle.bundle_meaning.specs.Bits.{has_bit, is_within, is_without, common, block_common, not_own6, block_not_own6}
use Rattle.bundle_meaning.specs.Expiry.{lifetime6_of}
use Rattle.bundle_meaning.specs.Reports.{is_report, no_time_of}
use Rattle.bundle_meaning.specs.Valid.{IsFragment, IsShared, IsValid}
use Rattle.endpoint.specs.declared.extent.Fragment.{Fragment}
use Rattle.translate.specs.declared.refused.Refused.{Refused}
use Rattle.translate.specs.declared.refused.Refused.TheVariants as causes
use Rattle.translate.specs.Refusals.{first_that_holds}
use Rattle.translate.specs.Translation.{HasLifetime}
use Rattle.translate.proofs.BitsLemmas.{common-or, own-or}
use Rattle.translate.proofs.Residue6Lemmas.{others6, residue6-back, residue6-stands, expiry-back, lifetime-some}
use Rattle.translate.proofs.AdminLemmas.{content6-back, takes6-back, lacks6-back}
use Rattle.translate.proofs.Back6Lemmas.{parts-unmarked, residue-block, wrap-begins, wrap-read, payload6-back, exts6-back, after6-back}

-- ---- wraps

or-not : (p q : Bool) → p ≡ false → (not p || q) ≡ true
or-not p q is = rw is refl

wrap-fine : (ext : Ext) → IsExt ext → All HasBody (sevens (ext ∷ [])) → is_wrap_legal6 (block6_of ext) ≡ true
wrap-fine (Six block) is bodies =
    or-not _ _ (parts-unmarked (eqb block.kind 192) (eqb block.kind 193) (begins mark block.body) is.unmarked).1
wrap-fine (Seven block) is bodies =
    rw (wrap-begins block, wrap-read block is, is.unmarked, body-only block.kind block.body (bodies 0 block (omega arith))) refl

-- what a block of the view holds
abbrev pub wrapped-six : Ext → Option Block7Like
wrapped-six (Six block) = None
wrapped-six (Seven block) = Some block

wrapped-back : (ext : Ext) → IsExt ext → wrapped7 (block6_of ext) ≡ wrapped-six ext
wrapped-back (Six block) is = rw (parts-unmarked (eqb block.kind 192) (eqb block.kind 193) (begins mark block.body) is.unmarked).1 refl
wrapped-back (Seven block) is = rw (wrap-begins block, wrap-read block is) refl

-- ---- wraps together

-- no block that holds nothing collides
holds-nothing : (one other : Block6) → wrapped7 other ≡ None → collide6 one other ≡ false
holds-nothing one other none = ap (collide_held (wrapped7 one)) none ∙ by (wrapped7 one)
  where
    by : (o : Option Block7Like) → collide_held o None ≡ false
    by None = refl
    by (Some block) = refl

nothing-collides : (one : Block6) (others : List Block6) → wrapped7 one ≡ None → list_any (collide6 one) others ≡ false
nothing-collides one [] none = refl
nothing-collides one (other ∷ others) none =
    let first : collide6 one other ≡ false = ap (λ o. collide_held o (wrapped7 other)) none in
    rw (first, nothing-collides one others none) refl

-- one that holds nothing, in front
front-apart : (one : Block6) (blocks : List Block6) → wrapped7 one ≡ None → are_apart6 blocks ≡ true → are_apart6 (one ∷ blocks) ≡ true
unfolding are_apart6
front-apart one blocks none apart = rw (nothing-collides one blocks none, apart) refl

-- and in the middle
collides-around : (one : Block6) (before after : List Block6) (middle : Block6) → wrapped7 middle ≡ None
    → list_any (collide6 one) (before ++ middle ∷ after) ≡ list_any (collide6 one) (before ++ after)
collides-around one [] after middle none = rw (holds-nothing one middle none) refl
collides-around one (block ∷ before) after middle none =
    ap (λ b. collide6 one block || b) (collides-around one before after middle none)

middle-apart : (before after : List Block6) (middle : Block6) → wrapped7 middle ≡ None
    → are_apart6 (before ++ after) ≡ true → are_apart6 (before ++ middle ∷ after) ≡ true
unfolding are_apart6
middle-apart [] after middle none apart = front-apart middle after none apart
middle-apart (block ∷ before) after middle none apart =
    let both = and_parts (not (list_any (collide6 block) (before ++ after))) (are_apart6 (before ++ after)) apart in
    rw (collides-around block before after middle none, both.0, middle-apart before after middle none both.1) refl

-- the wraps of a view collide where its blocks of version 7 do
seven-collides : (block : Block7Like) (exts : List Ext) → IsBlock7 block → All IsExt exts
    → list_any (collide6 (block6_of (Seven block))) (map block6_of exts) ≡ list_any (collide block) (sevens exts)
seven-collides block [] is are = refl
seven-collides block (Six other ∷ exts) is are =
    let rest = seven-collides block exts is (All-tail IsExt (Six other) exts are) in
    let none = holds-nothing (block6_of (Seven block)) (block6_of (Six other)) (wrapped-back (Six other) (All-head IsExt (Six other) exts are)) in
    ap (λ b. b || list_any (collide6 (block6_of (Seven block))) (map block6_of exts)) none ∙ rest
seven-collides block (Seven other ∷ exts) is are =
    let rest = seven-collides block exts is (All-tail IsExt (Seven other) exts are) in
    let mine = wrapped-back (Seven block) is in
    let its = wrapped-back (Seven other) (All-head IsExt (Seven other) exts are) in
    let one : collide6 (block6_of (Seven block)) (block6_of (Seven other)) ≡ collide block other =
    ap (λ o. collide_held o (wrapped7 (block6_of (Seven other)))) mine ∙ ap (collide_held (Some block)) its in
    ap (λ b. b || list_any (collide6 (block6_of (Seven block))) (map block6_of exts)) one ∙ ap (λ b. collide block other || b) rest

apart-back : (exts : List Ext) → All IsExt exts → are_apart (sevens exts) ≡ true → are_apart6 (map block6_of exts) ≡ true
unfolding are_apart6
apart-back [] are apart = refl
apart-back (Six block ∷ exts) are apart =
    front-apart (block6_of (Six block)) (map block6_of exts) (wrapped-back (Six block) (All-head IsExt (Six block) exts are))
    (apart-back exts (All-tail IsExt (Six block) exts are) apart)
apart-back (Seven block ∷ exts) are apart =
    let both = and_parts (not (list_any (collide block) (sevens exts))) (are_apart (sevens exts)) apart in
    rw (
      seven-collides block exts (All-head IsExt (Seven block) exts are) (All-tail IsExt (Seven block) exts are),
      both.0,
      apart-back exts (All-tail IsExt (Seven block) exts are) both.1,
    ) refl

-- ---- the blocks of the view

wraps-fine : (exts : List Ext) → All IsExt exts → All HasBody (sevens exts) → list_all is_wrap_legal6 (map block6_of exts) ≡ true
wraps-fine [] are bodies = refl
wraps-fine (Six block ∷ exts) are bodies =
    rw (
      wrap-fine (Six block) (All-head IsExt (Six block) exts are) (All-nil HasBody),
      wraps-fine exts (All-tail IsExt (Six block) exts are) bodies,
    ) refl
wraps-fine (Seven block ∷ exts) are bodies =
    rw (
      wrap-fine (Seven block) (All-head IsExt (Seven block) exts are)
          (All-cons HasBody block [] (All-head HasBody block (sevens exts) bodies) (All-nil HasBody)),
      wraps-fine exts (All-tail IsExt (Seven block) exts are) (All-tail HasBody block (sevens exts) bodies),
    ) refl

maps : (one other : List Ext) → map block6_of (one ++ other) ≡ map block6_of one ++ map block6_of other
maps [] other = refl
maps (ext ∷ one) other = ap (λ bs. block6_of ext ∷ bs) (maps one other)

split-list : (k : ℕ) (exts : List Ext) → map block6_of (take k exts) ++ map block6_of (drop k exts) ≡ map block6_of exts
split-list k exts = sym (maps (take k exts) (drop k exts)) ∙ ap (map block6_of) (take-append-drop k exts)

others-fine : (full : Full) → IsSound full → list_all is_wrap_legal6 (others6 full) ≡ true
others-fine full sound =
    let k = before_payload full in
    let whole : (list_all is_wrap_legal6 (map block6_of (take k full.exts)) && list_all is_wrap_legal6 (map block6_of (drop k full.exts))) ≡ true =
    sym (list_all-append is_wrap_legal6 (map block6_of (take k full.exts)) (map block6_of (drop k full.exts)))
    ∙ ap (list_all is_wrap_legal6) (split-list k full.exts) ∙ wraps-fine full.exts sound.valid.exts sound.bodies in
    list_all-append is_wrap_legal6 (map block6_of (take k full.exts)) (payload6_of full ∷ map block6_of (drop k full.exts)) ∙ whole

others-apart : (full : Full) → IsSound full → are_apart6 (others6 full) ≡ true
others-apart full sound =
    let k = before_payload full in
    middle-apart (map block6_of (take k full.exts)) (map block6_of (drop k full.exts)) (payload6_of full) refl
    (ap are_apart6 (split-list k full.exts) ∙ apart-back full.exts sound.valid.exts sound.valid.apart)

fine-by : (full : Full) (b : Bool) → needs_residue6 full ≡ b → IsSound full → are_wraps6 (blocks6_of full) ≡ true
fine-by full true needed sound =
    let made : blocks6_of full ≡ residue-block full ∷ others6 full = rw needed refl in
    ap are_wraps6 made
    ∙ rw (others-fine full sound, front-apart (residue-block full) (others6 full) refl (others-apart full sound)) refl
fine-by full false needed sound =
    let made : blocks6_of full ≡ others6 full = rw needed refl in
    ap are_wraps6 made ∙ rw (others-fine full sound, others-apart full sound) refl

pub wraps6-stand : (full : Full) → IsSound full → are_wraps6 (blocks6_of full) ≡ true
wraps6-stand full sound = fine-by full (needs_residue6 full) refl sound

-- ---- flags

pub clear-within : (k m a : ℕ) → is_within m a ≡ true → bit_at m k ≡ 0 → bit_at a k ≡ 0
clear-within k m a within none =
    let same : bit_and a m ≡ a = eqb-true (bit_and a m) a within in
    ap (λ x. bit_at x k) (sym same) ∙ bit_at_and a m k ∙ ap (λ x. min (bit_at a k) x) none ∙ omega arith

pub clear-without : (k m b : ℕ) → is_without m b ≡ true → bit_at m k ≡ 1 → bit_at b k ≡ 0
clear-without k m b without one =
    let none : bit_and b m ≡ 0 = eqb-true (bit_and b m) 0 without in
    let low : min (bit_at b k) 1 ≡ 0 = ap (λ x. min (bit_at b k) x) (sym one) ∙ sym (bit_at_and b m k) ∙ ap (λ x. bit_at x k) none ∙ bit_at-zero k in
    omega (arith, low)

pub no-custody : (a b : ℕ) → is_within common a ≡ true → is_without not_own6 b ≡ true → has_bit 3 (bit_or a b) ≡ false
no-custody a b within without =
    let p = clear-within 3 common a within refl in
    let q = clear-without 3 not_own6 b without refl in
    let zero-bit : bit_at (bit_or a b) 3 ≡ 0 = bit_at_or a b 3 ∙ ap (λ x. max x (bit_at b 3)) p ∙ ap (λ x. max 0 x) q ∙ omega arith in
    ap (λ x. eqb x 1) zero-bit

pub same-bit1 : (a b : ℕ) → is_without not_own6 b ≡ true → has_bit 1 (bit_or a b) ≡ has_bit 1 a
same-bit1 a b without =
    let q = clear-without 1 not_own6 b without refl in
    ap (λ x. eqb x 1) (bit_at_or a b 1 ∙ ap (λ x. max (bit_at a 1) x) q ∙ omega arith)

-- the same where no common flag is another's
pub clear-without-common : (a b : ℕ) → is_without common b ≡ true → has_bit 1 (bit_or a b) ≡ has_bit 1 a
clear-without-common a b without =
    let q = clear-without 1 common b without refl in
    ap (λ x. eqb x 1) (bit_at_or a b 1 ∙ ap (λ x. max (bit_at a 1) x) q ∙ omega arith)

-- fewer flags are none either
pub without-fewer : (m n f : ℕ) → bit_and m n ≡ n → is_without m f ≡ true → is_without n f ≡ true
without-fewer m n f inner without =
    let none : bit_and f m ≡ 0 = eqb-true (bit_and f m) 0 without in
    eq-eqb (bit_and f n) 0 (ap (λ x. bit_and f x) (sym inner) ∙ sym (and_assoc n f m) ∙ ap (λ x. bit_and x n) none ∙ and_zero_l n)

-- ---- what the view says

creation-back : (shared : Shared) → (1000 * (shared.millis / 1000) + (1000 * shared.sequence + shared.millis % 1000) % 1000 ≡ shared.millis)
    × ((1000 * shared.sequence + shared.millis % 1000) / 1000 ≡ shared.sequence)
creation-back shared = (omega arith, omega arith)

-- flag bit 1 of the view stands exactly with a report
report-bit : (full : Full) → IsValid full → has_bit 1 (bit_or full.shared.flags full.extra6.flags) ≡ is_report full.shared.content
report-bit full valid = same-bit1 full.shared.flags full.extra6.flags valid.extra6.flags ∙ valid.shared.report_bit

payload-octets : (full : Full) → IsValid full → (payload_in (blocks6_of full)).body ≡ octets6_of full.shared.content
payload-octets full valid = ap (λ block. block.body) (payload6-back full valid.exts)

content-back : (full : Full) → IsValid full → content6_of (view6_of full) ≡ full.shared.content
content-back full valid =
    let flags = bit_or full.shared.flags full.extra6.flags in
    ap (λ octets. content6 (report6_in flags octets) (residue_in6 (blocks6_of full)).no_time octets) (payload-octets full valid)
    ∙ ap (λ r. content6 (report6_in flags (octets6_of full.shared.content)) r.no_time (octets6_of full.shared.content)) (residue6-back full valid)
    ∙ content6-back flags full.shared.content (report-bit full valid) valid.shared.content

takes-back : (full : Full) → IsValid full → takes_mask (carried6 (view6_of full)) (no_time_of full.shared.content) ≡ true
takes-back full valid =
    let flags = bit_or full.shared.flags full.extra6.flags in
    ap (λ octets. takes_mask (report6_in flags octets) (no_time_of full.shared.content)) (payload-octets full valid)
    ∙ takes6-back flags full.shared.content (report-bit full valid) valid.shared.content

lacks-back : (full : Full) → IsValid full
    → lacks_report6 (bit_or full.shared.flags full.extra6.flags) (payload_in (blocks6_of full)).body ≡ false
lacks-back full valid =
    let flags = bit_or full.shared.flags full.extra6.flags in
    ap (lacks_report6 flags) (payload-octets full valid) ∙ lacks6-back flags full.shared.content (report-bit full valid) valid.shared.content

pub shared6-back : (full : Full) → IsSound full → shared6_of (view6_of full) ≡ full.shared
shared6-back full sound =
    let valid = sound.valid in
    let shared = full.shared in
    let creation = creation-back shared in
    let residue = residue6-back full valid in
    let payload = payload6-back full valid.exts in
    let expiry = expiry-back shared valid.shared.lives in
    let own = without-fewer not_own6 common full.extra6.flags refl valid.extra6.flags in
    let flags = common-or common shared.flags full.extra6.flags valid.shared.flags own in
    let payload_own = without-fewer block_not_own6 block_common full.extra6.payload_flags refl valid.extra6.payload_flags in
    let payload_flags = common-or block_common shared.payload_flags full.extra6.payload_flags valid.shared.payload_flags payload_own in
    ap (shared6_with (view6_of full)) (content-back full valid)
    ∙ rw (residue, payload, creation.0, creation.1, expiry, flags, payload_flags) refl

pub extra6-back : (full : Full) → IsSound full → extra6_of (view6_of full) ≡ full.extra6
extra6-back full sound =
    let valid = sound.valid in
    let payload = payload6-back full valid.exts in
    let own = without-fewer not_own6 common full.extra6.flags refl valid.extra6.flags in
    let flags = own-or common full.shared.flags full.extra6.flags valid.shared.flags own in
    let payload_own = without-fewer block_not_own6 block_common full.extra6.payload_flags refl valid.extra6.payload_flags in
    let payload_flags = own-or block_common full.shared.payload_flags full.extra6.payload_flags valid.shared.payload_flags payload_own in
    let after = after6-back full valid.exts valid.after in
    rw (payload, flags, payload_flags, after) refl

-- ---- it isn't refused

none-refused : (admin : Refused) (b1 b2 b3 b4 b5 b6 b7 b8 b9 : Bool) → b1 ≡ false → b2 ≡ false → b3 ≡ false → b4 ≡ false → b5 ≡ false → b6 ≡ false → b7 ≡ false
    → b8 ≡ false → b9 ≡ false
    → first_that_holds ((causes.CustodyAsked, b1) ∷ (causes.Clockless, b2) ∷ (causes.LifetimeZero, b3) ∷ (causes.TimeTooLarge, b4)
    ∷ (causes.PayloadRefs, b5) ∷ (causes.AdminFragment, b6) ∷ (admin, b7) ∷ (causes.ResidueBad, b8) ∷ (causes.WrapBad, b9) ∷ []) ≡ None
none-refused admin b1 b2 b3 b4 b5 b6 b7 b8 b9 e1 e2 e3 e4 e5 e6 e7 e8 e9 = rw (e1, e2, e3, e4, e5, e6, e7, e8, e9) refl

-- a report is no fragment
pub no-admin-fragment : (shared : Shared) → IsShared shared → (is_some shared.fragment && is_report shared.content) ≡ false
no-admin-fragment shared is = by shared.fragment shared.content is.fragment
  where
    by : (part : Option Fragment) (content : Content) → IsFragment part content → (is_some part && is_report content) ≡ false
    by None content fits = refl
    by (Some part) (contents.Bytes octets) fits = refl
    by (Some part) (contents.Report report) fits = absurd fits

same-bit0 : (a b : ℕ) → is_without not_own6 b ≡ true → has_bit 0 (bit_or a b) ≡ has_bit 0 a
same-bit0 a b without =
    let q = clear-without 0 not_own6 b without refl in
    ap (λ x. eqb x 1) (bit_at_or a b 0 ∙ ap (λ x. max (bit_at a 0) x) q ∙ omega arith)

-- the conditions before those on a payload, but for those on time
pub view6-no-custody : (full : Full) → IsValid full → has_bit 3 (bit_or full.shared.flags full.extra6.flags) ≡ false
view6-no-custody full valid = no-custody full.shared.flags full.extra6.flags valid.shared.flags valid.extra6.flags

pub view6-clock : (full : Full) → IsValid full → (full.shared.millis / 1000 == 0) ≡ false
view6-clock full valid = ne_eqb (full.shared.millis / 1000) 0 (λ none. omega (arith, none, valid.shared.clock))

pub view6-lives : (full : Full) → IsValid full → (lifetime6_of full.shared == 0) ≡ false
view6-lives full valid = ne_eqb (lifetime6_of full.shared) 0 (λ none. omega (arith, none, lifetime-some full.shared valid.shared.lives))

pub view6-unrefused : (full : Full) → IsSound full → HasLifetime full → first_that_holds (refusals6 (view6_of full)) ≡ None
view6-unrefused full sound lifetime =
    let valid = sound.valid in
    let shared = full.shared in
    let creation = creation-back shared in
    let fragment : (has_bit 0 (bit_or shared.flags full.extra6.flags) && has_bit 1 (bit_or shared.flags full.extra6.flags)) ≡ false =
    rw (same-bit0 shared.flags full.extra6.flags valid.extra6.flags, valid.shared.fragment_bit, report-bit full valid) (no-admin-fragment shared valid.shared) in
    let late : is_late6 (view6_of full) ≡ false =
    rw (creation.0, lt-leb (2 ^ 64) shared.millis valid.shared.millis) (lt-leb (2 ^ 64) _ lifetime) in
    let refs : not (length (payload_in (blocks6_of full)).refs == 0) ≡ false = rw (payload6-back full valid.exts) refl in
    none-refused _ _ _ _ _ _ _ _ _ _
    (view6-no-custody full valid) (view6-clock full valid) (view6-lives full valid)
    late refs fragment (lacks-back full valid)
    (ap not (residue6-stands full valid (takes-back full valid)))
    (ap not (wraps6-stand full sound))

-- ---- together

pub view6-reads : (full : Full) → IsSound full → HasLifetime full → Reads6 (view6_of full) full
view6-reads full sound lifetime = record {
  unrefused = view6-unrefused full sound lifetime;
  shared = sym (shared6-back full sound);
  extra6 = sym (extra6-back full sound);
  extra7 = sym (ap (λ r. r.extra7) (residue6-back full sound.valid));
  exts = sym (exts6-back full sound.valid.exts);
}
