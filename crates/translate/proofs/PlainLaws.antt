-- A bundle without blocks of the gateway's own is its normal form, and so is a view.

use Rattle.std.proofs.Common.{◌≡◌, ℕ, zero, suc, ◌+◌, ◌-◌, ◌*◌, ◌/◌, ◌%◌, Bool, true, false, not, cond, ◌==◌, List, [], ◌∷◌, ◌++◌, map, length, take, drop, refl, sym, ap, ◌∙◌, arith, eqb-true, length-append}
use Rattle.std.proofs.Math.Seq.{take-append_seam, drop-append_seam}
use Rattle.std.proofs.lemmas.Bool.{and_parts}
use Rattle.std.proofs.lemmas.List.Sums.{sum_by-cons}
use Rattle.std.specs.List.{list_any, list_all, count_by, before_first, after_first, position_or_len}
use Rattle.endpoint.specs.declared.name.Endpoint.{Endpoint}
use Rattle.endpoint.specs.Endpoints.{begins}
use Rattle.wire_fields.specs.Reading.{IsOctets}
use Rattle.bundle6.specs.declared.primary.Primary6.{Primary6}
use Rattle.bundle6.specs.declared.block.Block6.{Block6}
use Rattle.bundle6.specs.declared.bundle.Bundle6.{Bundle6}
use Rattle.bundle6.specs.Table.{is_payload}
use Rattle.bundle6.specs.Legal.{IsLegal, IsLegalBlock}
use Rattle.bundle7.specs.declared.block.Block7.{Block7}
use Rattle.bundle7.specs.declared.bundle.Bundle7.{Bundle7}
use Rattle.bundle7.specs.Table.{is_number, seen_of}
use Rattle.bundle7.specs.Legal.{IsLegal7}
use Rattle.bundle_meaning.specs.declared.blocks.Ext.{Ext}
use Rattle.bundle_meaning.specs.declared.blocks.Ext.TheVariants.{Six, Seven}
use Rattle.bundle_meaning.specs.Bits.{common, block_common}
use Rattle.bundle_meaning.specs.Blocks.{mark, is_marked}
use Rattle.bundle_meaning.specs.Expiry.{lifetime6_of}
use Rattle.translate.specs.Private.{is_residue, is_wrap}
use Rattle.translate.specs.View6.{primary6_of, residue6, block6_of, payload6_of, before_payload, blocks6_of, view6_of}
use Rattle.translate.specs.View7.{primary7_of, blocks7_of, exts7_of, payload7_of, view7_of}
use Rattle.translate.specs.Reading6.{residue6_of, is_residue6, payload_in, ext6_of, exts_in6, shared6_of, full6_of}
use Rattle.translate.specs.Reading7.{residue7_of, is_residue7, ext7_of, exts_in7, full7_of}
use Rattle.translate.specs.Translation.{HoldsOctets6, IsPlain6, IsPlain7, IsTranslatable6, IsTranslatable7, PlainIsNormal, norm6_of, norm7_of}
use Rattle.translate.specs.Normal.{ViewIsNormal}
use Rattle.translate.proofs.AdminLemmas.{octets6-back, octets7-back}
use Rattle.translate.proofs.BitsLemmas.{whole-or}
use Rattle.translate.proofs.Blocks6Lemmas.{six_of, around, prefix-more}
use Rattle.translate.proofs.Back6Lemmas.{parts-unmarked}
use Rattle.translate.proofs.FewLemmas.{no-residue6, unneeded6, unneeded7}
use Rattle.translate.proofs.ReadLemmas.{read6-is, read7-is}
use Rattle.translate.proofs.BackLaws.{unrefused-read6}
use Rattle.translate.proofs.Sound6Lemmas.{no, paid, Unrefused6, unrefused6, takes6}
use Rattle.translate.proofs.Sound7Lemmas.{seven_of}
use Rattle.translate.proofs.View6Laws.{view6-reads}
use Rattle.translate.proofs.View7Laws.{view7-reads}

-- ---- plain blocks of version 6

abbrev pub is_plain6 : Block6 → Bool
is_plain6 block = not (is_marked block.kind block.body)

plain-parts6 : (block : Block6) → is_plain6 block ≡ true → (is_residue block.kind block.body ≡ false) × (is_wrap block.kind block.body ≡ false)
plain-parts6 block plain = parts-unmarked (block.kind == 192) (block.kind == 193) (begins mark block.body) (no _ plain)

no-residues6 : (blocks : List Block6) → list_all is_plain6 blocks ≡ true → list_any is_residue6 blocks ≡ false
no-residues6 [] plain = refl
no-residues6 (block ∷ blocks) plain =
    let both = and_parts (is_plain6 block) (list_all is_plain6 blocks) plain in
    rw ((plain-parts6 block both.0).0, no-residues6 blocks both.1) refl

-- it stands for itself, and is written as it was
itself6 : (block : Block6) → is_plain6 block ≡ true → is_payload block ≡ false → ext6_of block ≡ Six (six_of block) ∷ []
itself6 block plain other =
    let parts = plain-parts6 block plain in
    rw (other, parts.0, parts.1) refl

none-for : (block : Block6) → is_payload block ≡ true → ext6_of block ≡ []
none-for block is = rw is refl

back-none : (block : Block6) (blocks : List Block6) (t : Bool) → is_payload block ≡ t → is_plain6 block ≡ true
    → count_by is_payload (block ∷ blocks) ≡ 0
    → (count_by is_payload blocks ≡ 0 → map block6_of (exts_in6 blocks) ≡ blocks) → map block6_of (exts_in6 (block ∷ blocks)) ≡ block ∷ blocks
back-none block blocks true is plain none rest =
    let count = sum_by-cons (λ x. cond (is_payload x) 1 0) block blocks in
    let one : cond (is_payload block) (suc zero) zero ≡ suc zero = rw is refl in
    absurd (omega (arith, count, none, one))
back-none block blocks false is plain none rest =
    let count = sum_by-cons (λ x. cond (is_payload x) 1 0) block blocks in
    let zero-here : cond (is_payload block) (suc zero) zero ≡ zero = rw is refl in
    ap (λ es. map block6_of (es ++ exts_in6 blocks)) (itself6 block plain is)
    ∙ ap (λ bs. block ∷ bs) (rest (omega (arith, count, none, zero-here)))

-- blocks without a payload
none-paid-back : (blocks : List Block6) → list_all is_plain6 blocks ≡ true → count_by is_payload blocks ≡ 0 → map block6_of (exts_in6 blocks) ≡ blocks
none-paid-back [] plain none = refl
none-paid-back (block ∷ blocks) plain none =
    let both = and_parts (is_plain6 block) (list_all is_plain6 blocks) plain in
    back-none block blocks (is_payload block) refl both.0 none (λ more. none-paid-back blocks both.1 more)

-- the blocks around the payload, written again
abbrev pub again6 : List Block6 → List Block6
again6 blocks =
    map block6_of (exts_in6 (before_first is_payload blocks))
    ++ payload_in blocks ∷ map block6_of (exts_in6 (after_first is_payload blocks))

again-by : (block : Block6) (blocks : List Block6) (t : Bool) → is_payload block ≡ t → list_all is_plain6 (block ∷ blocks) ≡ true
    → count_by is_payload (block ∷ blocks) ≡ 1 → (count_by is_payload blocks ≡ 1 → again6 blocks ≡ blocks) → again6 (block ∷ blocks) ≡ block ∷ blocks
unfolding payload_in
again-by block blocks true is plain one rest =
    let both = and_parts (is_plain6 block) (list_all is_plain6 blocks) plain in
    let count = sum_by-cons (λ x. cond (is_payload x) 1 0) block blocks in
    let here : cond (is_payload block) (suc zero) zero ≡ suc zero = rw is refl in
    let last = none-paid-back blocks both.1 (omega (arith, count, one, here)) in
    rw is (ap (λ bs. block ∷ bs) last)
again-by block blocks false is plain one rest =
    let both = and_parts (is_plain6 block) (list_all is_plain6 blocks) plain in
    let count = sum_by-cons (λ x. cond (is_payload x) 1 0) block blocks in
    let here : cond (is_payload block) (suc zero) zero ≡ zero = rw is refl in
    let others = rest (omega (arith, count, one, here)) in
    let n = position_or_len is_payload blocks in
    let place : position_or_len is_payload (block ∷ blocks) ≡ 1 + n = rw is refl in
    let parts = prefix-more n block blocks in
    let paid : payload_in (block ∷ blocks) ≡ payload_in blocks = rw is refl in
    ap (λ k. map block6_of (exts_in6 (take k (block ∷ blocks))) ++ payload_in (block ∷ blocks) ∷ map block6_of (exts_in6 (drop (k + 1) (block ∷ blocks)))) place
    ∙ ap (λ bs. map block6_of (exts_in6 bs) ++ payload_in (block ∷ blocks) ∷ map block6_of (exts_in6 (drop (1 + n + 1) (block ∷ blocks)))) parts.0
    ∙ ap (λ bs. map block6_of (exts_in6 (block ∷ take n blocks)) ++ payload_in (block ∷ blocks) ∷ map block6_of (exts_in6 bs)) parts.1
    ∙ ap (λ p. map block6_of (exts_in6 (block ∷ take n blocks)) ++ p ∷ map block6_of (exts_in6 (drop (n + 1) blocks))) paid
    ∙ ap (λ es. map block6_of (es ++ exts_in6 (take n blocks)) ++ payload_in blocks ∷ map block6_of (exts_in6 (drop (n + 1) blocks))) (itself6 block both.0 is)
    ∙ ap (λ bs. block ∷ bs) others

again-same : (blocks : List Block6) → list_all is_plain6 blocks ≡ true → count_by is_payload blocks ≡ 1 → again6 blocks ≡ blocks
again-same [] plain one = absurd (omega (arith, one))
again-same (block ∷ blocks) plain one =
    let both = and_parts (is_plain6 block) (list_all is_plain6 blocks) plain in
    again-by block blocks (is_payload block) refl plain one (λ more. again-same blocks both.1 more)

-- ---- a plain bundle of version 6

no-refs : (refs : List Endpoint) → (length refs == 0) ≡ true → refs ≡ []
no-refs [] is = refl
no-refs (ref ∷ refs) is = let none = eqb-true (length (ref ∷ refs)) 0 is in absurd (omega (arith, none))

payload-back6 : (b : Bundle6) → IsLegal b → HoldsOctets6 b → Unrefused6 b → payload6_of (full6_of b) ≡ payload_in b.blocks
payload-back6 b legal octets un =
    let payload = payload_in b.blocks in
    let is = paid IsLegalBlock b.blocks legal.blocks legal.one_payload in
    let kind : payload.kind ≡ 1 = eqb-true payload.kind 1 is.1 in
    let refs = no-refs payload.refs un.refs in
    let fits = paid (λ x. IsOctets x.body) b.blocks octets legal.one_payload in
    let body = octets6-back b.primary.flags (residue6_of b).no_time payload.body fits.0 (takes6 b un) in
    let flags = whole-or block_common payload.flags is.0.flags in
    let eta : payload ≡ record { kind = payload.kind; flags = payload.flags; refs = payload.refs; body = payload.body } = refl in
    sym (eta ∙ rw (kind, refs) (rw (flags, body) refl))

-- the extension blocks before the payload, and those after it
before-back : (b : Bundle6) → before_payload (full6_of b) ≡ length (exts_in6 (before_first is_payload b.blocks))
before-back b =
    let whole = ap length (around b.blocks) in
    let parts = length-append (exts_in6 (before_first is_payload b.blocks)) (exts_in6 (after_first is_payload b.blocks)) in
    omega (arith, whole, parts)

blocks-back6 : (b : Bundle6) → IsLegal b → HoldsOctets6 b → IsPlain6 b → Unrefused6 b → blocks6_of (full6_of b) ≡ b.blocks
blocks-back6 b legal octets plain un =
    let front = exts_in6 (before_first is_payload b.blocks) in
    let back = exts_in6 (after_first is_payload b.blocks) in
    let whole : exts_in6 b.blocks ≡ front ++ back = sym (around b.blocks) in
    let none : residue6 (full6_of b) ≡ [] = rw (unneeded6 b (no-residues6 b.blocks plain)) refl in
    ap (λ bs. bs ++ (map block6_of (take (before_payload (full6_of b)) (exts_in6 b.blocks))
    ++ payload6_of (full6_of b) ∷ map block6_of (drop (before_payload (full6_of b)) (exts_in6 b.blocks)))) none
    ∙ ap (λ k. map block6_of (take k (exts_in6 b.blocks)) ++ payload6_of (full6_of b) ∷ map block6_of (drop k (exts_in6 b.blocks))) (before-back b)
    ∙ ap (λ es. map block6_of (take (length front) es) ++ payload6_of (full6_of b) ∷ map block6_of (drop (length front) es)) whole
    ∙ ap (λ es. map block6_of es ++ payload6_of (full6_of b) ∷ map block6_of (drop (length front) (front ++ back))) (take-append_seam front back)
    ∙ ap (λ es. map block6_of front ++ payload6_of (full6_of b) ∷ map block6_of es) (drop-append_seam front back)
    ∙ ap (λ p. map block6_of front ++ p ∷ map block6_of back) (payload-back6 b legal octets un)
    ∙ again-same b.blocks plain legal.one_payload

seconds-back : (s n : ℕ) → ((1000 * s + n % 1000) / 1000 ≡ s) × (1000 * (n / 1000) + (1000 * s + n % 1000) % 1000 ≡ n)
seconds-back s n = (omega arith, omega arith)

lifetime-back : (b : Bundle6) → (residue6_of b).slack ≡ 0 → lifetime6_of (shared6_of b) ≡ b.primary.lifetime
lifetime-back b none = omega (arith, none)

primary-back6 : (b : Bundle6) → IsLegal b → IsPlain6 b → primary6_of (full6_of b) ≡ b.primary
primary-back6 b legal plain =
    let residue = no-residue6 b.blocks (no-residues6 b.blocks plain) in
    let times = seconds-back b.primary.seconds b.primary.sequence in
    let lifetime = lifetime-back b (ap (λ r. r.slack) residue) in
    let flags = whole-or common b.primary.flags legal.primary.flags in
    rw (flags, lifetime, times.0, times.1) refl

plain6 : (b : Bundle6) → IsTranslatable6 b → IsPlain6 b → norm6_of b ≡ b
plain6 b is plain =
    let un = unrefused6 b (unrefused-read6 b is.unrefused) in
    let primary = primary-back6 b is.legal plain in
    let blocks = blocks-back6 b is.legal is.octets plain un in
    bundle (primary6_of (full6_of b)) b.primary (blocks6_of (full6_of b)) b.blocks primary blocks
  where
    made : Primary6 → List Block6 → Bundle6
    made p bs = record { primary = p; blocks = bs }

    bundle : (p q : Primary6) (bs cs : List Block6) → p ≡ q → bs ≡ cs → made p bs ≡ made q cs
    bundle p q bs cs same equal = ap (λ x. made x bs) same ∙ ap (λ x. made q x) equal

-- ---- version 7

abbrev pub is_plain7 : Block7 → Bool
is_plain7 block = not (is_marked block.kind block.body)

plain-parts7 : (block : Block7) → is_plain7 block ≡ true → (is_residue block.kind block.body ≡ false) × (is_wrap block.kind block.body ≡ false)
plain-parts7 block plain = parts-unmarked (block.kind == 192) (block.kind == 193) (begins mark block.body) (no _ plain)

no-residues7 : (blocks : List Block7) → list_all is_plain7 blocks ≡ true → list_any is_residue7 blocks ≡ false
no-residues7 [] plain = refl
no-residues7 (block ∷ blocks) plain =
    let both = and_parts (is_plain7 block) (list_all is_plain7 blocks) plain in
    rw ((plain-parts7 block both.0).0, no-residues7 blocks both.1) refl

exts-back7 : (all : List Ext) (next : ℕ) (blocks : List Block7) → list_all is_plain7 blocks ≡ true → blocks7_of all next (exts_in7 blocks) ≡ blocks
unfolding blocks7_of
exts-back7 all next [] plain = refl
exts-back7 all next (block ∷ blocks) plain =
    let both = and_parts (is_plain7 block) (list_all is_plain7 blocks) plain in
    let parts = plain-parts7 block both.0 in
    let itself : ext7_of block ≡ Seven (seven_of block) ∷ [] = rw (parts.0, parts.1) refl in
    ap (λ es. blocks7_of all next (es ++ exts_in7 blocks)) itself ∙ ap (λ bs. block ∷ bs) (exts-back7 all next blocks both.1)

exts7-back : (b : Bundle7) → IsPlain7 b → exts7_of (full7_of b) ≡ b.exts
exts7-back b plain =
    let none = unneeded7 b (no-residues7 b.exts plain) in
    let made : exts7_of (full7_of b) ≡ blocks7_of (exts_in7 b.exts) 2 (exts_in7 b.exts) = rw none refl in
    made ∙ exts-back7 (exts_in7 b.exts) 2 b.exts plain

left-over : (n m : ℕ) → n + m - n ≡ m
left-over n m = omega arith

primary-back7 : (b : Bundle7) → IsLegal7 b → primary7_of (full7_of b) ≡ b.primary
primary-back7 b legal =
    let flags = whole-or common b.primary.flags legal.primary.flags in
    let lifetime = left-over b.primary.millis b.primary.lifetime in
    rw (flags, lifetime) refl

payload-back7 : (b : Bundle7) → IsLegal7 b → IsOctets b.payload.body → payload7_of (full7_of b) ≡ b.payload
payload-back7 b legal octets =
    let body = octets7-back b.primary.flags (residue7_of b).rests b.payload.body octets in
    let kind = legal.payload_kind in
    let flags = whole-or block_common b.payload.flags legal.payload.flags in
    let one : is_number 1 (seen_of b.exts) b.payload.number ≡ true = ap (λ k. is_number k (seen_of b.exts) b.payload.number) (sym kind) ∙ legal.payload.number in
    let number : b.payload.number ≡ 1 = eqb-true b.payload.number 1 one in
    let eta : b.payload ≡ record { kind = b.payload.kind; number = b.payload.number; flags = b.payload.flags; crc = b.payload.crc; body = b.payload.body } = refl in
    sym (eta ∙ rw (kind, number) (rw (flags, body) refl))

plain7-is : (b : Bundle7) → IsTranslatable7 b → IsPlain7 b → norm7_of b ≡ b
plain7-is b is plain =
    let exts = exts7-back b plain in
    let primary = primary-back7 b is.legal in
    let payload = payload-back7 b is.legal is.octets.payload in
    let f = full7_of b in
    let eta : b ≡ record { primary = b.primary; exts = b.exts; payload = b.payload } = refl in
    sym (eta ∙ sym (rw (primary, exts, payload) refl))

pub plain_is_normal : PlainIsNormal
plain_is_normal = (plain6, plain7-is)

-- ---- views

pub view_is_normal : ViewIsNormal
view_is_normal = (
  λ full sound lifetime. ap view6_of (read6-is (view6_of full) full (view6-reads full sound lifetime)),
  λ full sound. ap view7_of (read7-is (view7_of full) full (view7-reads full sound.valid)),
)
