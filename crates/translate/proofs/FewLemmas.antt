-- A view has no more extension blocks than the bundle that was read.

use Rattle.std.proofs.Common.{◌≡◌, ℕ, zero, suc, ◌+◌, ◌≤◌, min, Bool, true, false, not, cond, ◌==◌, if◌then◌else◌, List, [], ◌∷◌, ◌++◌, map, length, take, drop, refl, ap, ◌∙◌, arith, eqb-true, eq-eqb, length-append, take-append-drop}
use Rattle.std.proofs.lemmas.Bool.{and_parts, ne_eqb}
use Rattle.std.proofs.lemmas.List.Sums.{sum_by-cons}
use Rattle.std.specs.List.{list_any, list_all}
use Rattle.endpoint.specs.Endpoints.{begins}
use Rattle.bundle6.specs.declared.block.Block6.{Block6}
use Rattle.bundle6.specs.declared.bundle.Bundle6.{Bundle6}
use Rattle.bundle6.specs.Table.{is_payload, others}
use Rattle.bundle7.specs.declared.block.Block7.{Block7}
use Rattle.bundle7.specs.declared.bundle.Bundle7.{Bundle7}
use Rattle.bundle_meaning.specs.declared.blocks.Ext.{Ext}
use Rattle.bundle_meaning.specs.declared.residue_new.ResidueNew.{ResidueNew}
use Rattle.bundle_meaning.specs.declared.full.Full.{Full}
use Rattle.bundle_meaning.specs.Blocks.{mark}
use Rattle.bundle_meaning.specs.Defaults.{default6_of, default7_of}
use Rattle.bundle_meaning.specs.Expiry.{slack_of}
use Rattle.bundle_meaning.specs.Reports.{no_time_of}
use Rattle.translate.specs.Admin.{content6, content7}
use Rattle.translate.proofs.AdminLemmas.{no-bare, no-parts}
use Rattle.translate.specs.View6.{needs_residue6, residue6, block6_of, payload6_of, before_payload, blocks6_of}
use Rattle.translate.specs.View7.{has_no_rest, needs_residue7, next_free7, residue7_at, number_after7, blocks7_of, exts7_of}
use Rattle.translate.specs.Reading6.{payload_in, carried6, content6_of, no_residue6, residue_in6, residue6_of, is_residue6, is_wrap_legal6, are_apart6, ext6_of, exts_in6, shared6_of, full6_of}
use Rattle.translate.specs.Reading7.{carried7, content7_of, no_residue7, residue_in7, is_residue7, is_wrap_legal7, ext7_of, exts_in7, shared7_of, full7_of}
use Rattle.translate.specs.Translation.{NoMoreBlocks}
use Rattle.translate.proofs.Blocks6Lemmas.{nothing, holds, stands, form, few}
use Rattle.translate.proofs.Residue6Lemmas.{or-false}
use Rattle.translate.proofs.Sound6Lemmas.{unrefused6}
use Rattle.translate.proofs.Sound7Lemmas.{unrefused7, form7, nothing7, holds7, stands7, few7}
use Rattle.translate.proofs.ReadLemmas.{read6-is, read7-is}

-- ---- version 6: where a residue is needed, there was one

pub no-residue6 : (blocks : List Block6) → list_any is_residue6 blocks ≡ false → residue_in6 blocks ≡ no_residue6
unfolding residue_in6
no-residue6 [] none = refl
no-residue6 (block ∷ blocks) none =
    let both = or-false (is_residue6 block) (list_any is_residue6 blocks) none in
    rw both.0 (no-residue6 blocks both.1)

no-slack : (b : Bundle6) → (residue6_of b).slack ≡ 0 → slack_of (shared6_of b) ≡ 0
no-slack b none = omega (arith, none)

pub unneeded6 : (b : Bundle6) → list_any is_residue6 b.blocks ≡ false → needs_residue6 (full6_of b) ≡ false
unneeded6 b none =
    let residue = no-residue6 b.blocks none in
    let extra : (residue6_of b).extra7 ≡ default7_of = ap (λ r. r.extra7) residue in
    let slack = no-slack b (ap (λ r. r.slack) residue) in
    let bare : (residue6_of b).no_time ≡ 0 = ap (λ r. r.no_time) residue in
    let timed : no_time_of (content6_of b) ≡ 0 =
    ap (λ n. no_time_of (content6 (carried6 b) n (payload_in b.blocks).body)) bare ∙ no-bare (carried6 b) (payload_in b.blocks).body in
    rw (extra, slack, timed) refl

-- a residue is another block than the payload
residue-other : (block : Block6) → is_residue6 block ≡ true → is_payload block ≡ false
residue-other block is =
    let kind = eqb-true block.kind 192 (and_parts (block.kind == 192) (begins mark block.body) is).0 in
    ne_eqb block.kind 1 (λ one. omega (arith, kind, one))

-- a block stands for at most one, and a payload for none
one-each : (block : Block6) → is_wrap_legal6 block ≡ true → length (ext6_of block) ≤ cond (not (is_payload block)) (suc zero) zero
one-each block fine = elim (form block fine) [
  | nothing none held ↦ let size = ap length none in omega (arith, size)
  | holds held is so read may other ↦
      let size = ap length is in
      let added : cond (not (is_payload block)) (suc zero) zero ≡ suc zero = rw other refl in
      omega (arith, size, added)
  | stands is none other unmarked ↦
      let size = ap length is in
      let added : cond (not (is_payload block)) (suc zero) zero ≡ suc zero = rw other refl in
      omega (arith, size, added)
]

residue-by6 : (block : Block6) (blocks : List Block6) (t : Bool) → is_residue6 block ≡ t → is_wrap_legal6 block ≡ true
    → length (exts_in6 blocks) ≤ others blocks
    → (t ≡ false → length (exts_in6 blocks) + 1 ≤ others blocks) → length (exts_in6 (block ∷ blocks)) + 1 ≤ others (block ∷ blocks)
residue-by6 block blocks true is fine rest more =
    let other = residue-other block is in
    let none : ext6_of block ≡ [] = rw (other, is) refl in
    let size = ap length none in
    let added : cond (not (is_payload block)) (suc zero) zero ≡ suc zero = rw other refl in
    let count = sum_by-cons (λ x. cond (not (is_payload x)) 1 0) block blocks in
    let long = length-append (ext6_of block) (exts_in6 blocks) in
    omega (arith, size, added, count, long, rest)
residue-by6 block blocks false is fine rest more =
    let most = one-each block fine in
    let count = sum_by-cons (λ x. cond (not (is_payload x)) 1 0) block blocks in
    let long = length-append (ext6_of block) (exts_in6 blocks) in
    omega (arith, most, count, long, more refl)

few-residue6 : (blocks : List Block6) → list_all is_wrap_legal6 blocks ≡ true → list_any is_residue6 blocks ≡ true
    → length (exts_in6 blocks) + 1 ≤ others blocks
few-residue6 [] fine some = absurd (cc)
few-residue6 (block ∷ blocks) fine some =
    let both = and_parts (is_wrap_legal6 block) (list_all is_wrap_legal6 blocks) fine in
    residue-by6 block blocks (is_residue6 block) refl both.0 (few blocks both.1)
    (λ other. few-residue6 blocks both.1 (rw other at some))

-- how many blocks a view has besides the payload
abbrev pub one_if : Bool → ℕ
one_if b = if b then 1 else 0

few-by6 : (b : Bundle6) (t : Bool) → list_any is_residue6 b.blocks ≡ t → list_all is_wrap_legal6 b.blocks ≡ true
    → one_if (needs_residue6 (full6_of b)) + length (exts_in6 b.blocks) ≤ others b.blocks
few-by6 b true is fine = let rest = few-residue6 b.blocks fine is in by (needs_residue6 (full6_of b)) rest
  where
    by : (need : Bool) → length (exts_in6 b.blocks) + 1 ≤ others b.blocks → one_if need + length (exts_in6 b.blocks) ≤ others b.blocks
    by true rest = omega (arith, rest)
    by false rest = omega (arith, rest)
few-by6 b false is fine = let rest = few b.blocks fine in rw (unneeded6 b is) (omega (arith, rest))

pub few-view6 : (b : Bundle6) → list_all is_wrap_legal6 b.blocks ≡ true
    → one_if (needs_residue6 (full6_of b)) + length (exts_in6 b.blocks) ≤ others b.blocks
few-view6 b fine = few-by6 b (list_any is_residue6 b.blocks) refl fine

-- ---- how many blocks the view has

pub others-append : (one other : List Block6) → others (one ++ other) ≡ others one + others other
others-append [] other = omega arith
others-append (block ∷ one) other =
    let rest = others-append one other in
    let a = sum_by-cons (λ x. cond (not (is_payload x)) 1 0) block one in
    let b = sum_by-cons (λ x. cond (not (is_payload x)) 1 0) block (one ++ other) in
    omega (arith, rest, a, b)

at-most-one : (t : Bool) → cond t (suc zero) zero ≤ 1
at-most-one true = omega arith
at-most-one false = omega arith

pub others-length : (blocks : List Block6) → others blocks ≤ length blocks
others-length [] = omega arith
others-length (block ∷ blocks) =
    let rest = others-length blocks in
    let a = sum_by-cons (λ x. cond (not (is_payload x)) 1 0) block blocks in
    omega (arith, rest, a, at-most-one (not (is_payload block)))

map-length : (exts : List Ext) → length (map block6_of exts) ≡ length exts
map-length [] = refl
map-length (ext ∷ exts) = ap suc (map-length exts)

residue-length : (full : Full) (t : Bool) → needs_residue6 full ≡ t → length (residue6 full) ≡ one_if t
residue-length full true is = rw is refl
residue-length full false is = rw is refl

pub others-view6 : (full : Full) → others (blocks6_of full) ≤ one_if (needs_residue6 full) + length full.exts
others-view6 full =
    let k = before_payload full in
    let front = map block6_of (take k full.exts) in
    let back = map block6_of (drop k full.exts) in
    let a = others-append (residue6 full) (front ++ payload6_of full ∷ back) in
    let b = others-append front (payload6_of full ∷ back) in
    let c = sum_by-cons (λ x. cond (not (is_payload x)) 1 0) (payload6_of full) back in
    let all = ap length (take-append-drop k full.exts) in
    let parts = length-append (take k full.exts) (drop k full.exts) in
    omega (
      arith,
      a,
      b,
      c,
      all,
      parts,
      others-length (residue6 full),
      residue-length full (needs_residue6 full) refl,
      others-length front,
      others-length back,
      map-length (take k full.exts),
      map-length (drop k full.exts),
    )

-- ---- version 7

no-residue7 : (other : ResidueNew) (blocks : List Block7) → list_any is_residue7 blocks ≡ false → residue_in7 other blocks ≡ other
unfolding residue_in7
no-residue7 other [] none = refl
no-residue7 other (block ∷ blocks) none =
    let both = or-false (is_residue7 block) (list_any is_residue7 blocks) none in
    rw both.0 (no-residue7 other blocks both.1)

pub unneeded7 : (b : Bundle7) → list_any is_residue7 b.exts ≡ false → needs_residue7 (full7_of b) ≡ false
unneeded7 b none =
    let residue = no-residue7 (no_residue7 b) b.exts none in
    let whole : has_no_rest (content7_of b) ≡ true =
    ap (λ r. has_no_rest (content7 (carried7 b) r.rests b.payload.body)) residue ∙ no-parts (carried7 b) b.payload.body in
    let flags = (default6_of (shared7_of b)).flags in
    let same : (flags == flags) ≡ true = eq-eqb flags flags refl in
    let least : min 0 (length (exts_in7 b.exts)) ≡ 0 = omega arith in
    rw (whole, residue, same, least) refl

one-each7 : (block : Block7) → is_wrap_legal7 block ≡ true → length (ext7_of block) ≤ 1
one-each7 block fine = elim (form7 block fine) [
  | nothing7 none ↦ let size = ap length none in omega (arith, size)
  | holds7 held is read may ↦ let size = ap length is in omega (arith, size)
  | stands7 is unmarked ↦ let size = ap length is in omega (arith, size)
]

residue-by7 : (block : Block7) (blocks : List Block7) (t : Bool) → is_residue7 block ≡ t → is_wrap_legal7 block ≡ true
    → length (exts_in7 blocks) ≤ length blocks
    → (t ≡ false → length (exts_in7 blocks) + 1 ≤ length blocks) → length (exts_in7 (block ∷ blocks)) + 1 ≤ length (block ∷ blocks)
residue-by7 block blocks true is fine rest more =
    let none : ext7_of block ≡ [] = rw is refl in
    let size = ap length none in
    let long = length-append (ext7_of block) (exts_in7 blocks) in
    omega (arith, size, long, rest)
residue-by7 block blocks false is fine rest more =
    let most = one-each7 block fine in
    let long = length-append (ext7_of block) (exts_in7 blocks) in
    omega (arith, most, long, more refl)

few-residue7 : (blocks : List Block7) → list_all is_wrap_legal7 blocks ≡ true → list_any is_residue7 blocks ≡ true
    → length (exts_in7 blocks) + 1 ≤ length blocks
few-residue7 [] fine some = absurd (cc)
few-residue7 (block ∷ blocks) fine some =
    let both = and_parts (is_wrap_legal7 block) (list_all is_wrap_legal7 blocks) fine in
    residue-by7 block blocks (is_residue7 block) refl both.0 (few7 blocks both.1)
    (λ other. few-residue7 blocks both.1 (rw other at some))

few-by7 : (b : Bundle7) (t : Bool) → list_any is_residue7 b.exts ≡ t → list_all is_wrap_legal7 b.exts ≡ true
    → one_if (needs_residue7 (full7_of b)) + length (exts_in7 b.exts) ≤ length b.exts
few-by7 b true is fine = let rest = few-residue7 b.exts fine is in by (needs_residue7 (full7_of b)) rest
  where
    by : (need : Bool) → length (exts_in7 b.exts) + 1 ≤ length b.exts → one_if need + length (exts_in7 b.exts) ≤ length b.exts
    by true rest = omega (arith, rest)
    by false rest = omega (arith, rest)
few-by7 b false is fine = let rest = few7 b.exts fine in rw (unneeded7 b is) (omega (arith, rest))

pub few-view7 : (b : Bundle7) → list_all is_wrap_legal7 b.exts ≡ true
    → one_if (needs_residue7 (full7_of b)) + length (exts_in7 b.exts) ≤ length b.exts
few-view7 b fine = few-by7 b (list_any is_residue7 b.exts) refl fine

pub blocks7-length : (all : List Ext) (next : ℕ) (exts : List Ext) → length (blocks7_of all next exts) ≡ length exts
unfolding blocks7_of
blocks7-length all next [] = refl
blocks7-length all next (ext ∷ exts) = ap suc (blocks7-length all (number_after7 all next ext) exts)

pub length-view7 : (full : Full) (t : Bool) → needs_residue7 full ≡ t → length (exts7_of full) ≡ one_if t + length full.exts
length-view7 full true is =
    let next = next_free7 full.exts 2 in
    let made : exts7_of full ≡ residue7_at next full ∷ blocks7_of full.exts (next + 1) full.exts = rw is refl in
    omega (arith, ap length made, blocks7-length full.exts (next + 1) full.exts)
length-view7 full false is =
    let made : exts7_of full ≡ blocks7_of full.exts 2 full.exts = rw is refl in
    omega (arith, ap length made, blocks7-length full.exts 2 full.exts)

-- ---- the law

no-more6 : (b : Bundle6) → list_all is_wrap_legal6 b.blocks ≡ true → others (blocks6_of (full6_of b)) ≤ others b.blocks
no-more6 b fine = omega (arith, others-view6 (full6_of b), few-view6 b fine)

no-more7 : (b : Bundle7) → list_all is_wrap_legal7 b.exts ≡ true → length (exts7_of (full7_of b)) ≤ length b.exts
no-more7 b fine = omega (arith, length-view7 (full7_of b) (needs_residue7 (full7_of b)) refl, few-view7 b fine)

pub no_more_blocks : NoMoreBlocks
no_more_blocks = (
  λ b full reads.
      let wraps = (unrefused6 b reads.unrefused).wraps in
      let same = ap (λ f. others (blocks6_of f)) (read6-is b full reads) in
      let few = no-more6 b (and_parts (list_all is_wrap_legal6 b.blocks) (are_apart6 b.blocks) wraps).0 in
      omega (arith, same, few),
  λ b full reads.
      let same = ap (λ f. length (exts7_of f)) (read7-is b full reads) in
      let few = no-more7 b (unrefused7 b reads.unrefused).wraps in
      omega (arith, same, few),
)
