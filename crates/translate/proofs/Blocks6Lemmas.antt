-- For which extension blocks the blocks of a version 6 bundle stand.

use Rattle.std.proofs.Common.{◌≡◌, ℕ, zero, suc, ◌+◌, ◌-◌, ◌≤◌, Bool, true, false, ◌&&◌, ◌||◌, not, cond, eqb, ◌==◌, List, [], ◌∷◌, ◌++◌, length, take, drop, Some, None, Result, Ok, Err, refl, ap, ◌∙◌, arith, append_assoc, eqb-true, length-append}
use Rattle.std.proofs.lemmas.Bool.{and_parts}
use Rattle.std.proofs.lemmas.List.Sums.{sum_by-cons}
use Rattle.std.specs.List.{before_first, after_first, list_all, position_or_len}
use Rattle.wire_fields.specs.Refusal.{Stop}
use Rattle.wire_fields.specs.Whole.{read_whole}
use Rattle.endpoint.specs.Endpoints.{begins}
use Rattle.bundle6.specs.declared.block.Block6.{Block6}
use Rattle.bundle6.specs.Table.{is_payload, others}
use Rattle.bundle_meaning.specs.declared.fault.BlockFault.{BlockFault}
use Rattle.bundle_meaning.specs.declared.fault.BlockFault.TheVariants.{Bad}
use Rattle.bundle_meaning.specs.declared.blocks.Block6Like.{Block6Like}
use Rattle.bundle_meaning.specs.declared.blocks.Block7Like.{Block7Like}
use Rattle.bundle_meaning.specs.declared.blocks.Ext.{Ext}
use Rattle.bundle_meaning.specs.declared.blocks.Ext.TheVariants.{Six, Seven}
use Rattle.bundle_meaning.specs.Blocks.{mark, is_marked}
use Rattle.bundle_meaning.specs.Wrap.{wrap_old}
use Rattle.translate.specs.Private.{is_residue, is_wrap}
use Rattle.translate.specs.Reading6.{ext6_of, exts_in6, wrapped7, may_be_held7, is_wrap_legal6}

-- a block of version 6 as it is
abbrev pub six_of : Block6 → Block6Like
six_of block = record { kind = block.kind; flags = block.flags; refs = block.refs; body = block.body }

-- what a body reads as
abbrev pub reading : Block6 → Result Block7Like (ℕ × Stop BlockFault)
reading block = read_whole (wrap_old (length block.body)) Bad block.body

-- the payload and residues stand for nothing, wraps for what they hold, and others for themselves
pub data Form (block : Block6) : Type 0 where
  nothing : ext6_of block ≡ [] → wrapped7 block ≡ None → Form block
  holds : (held : Block7Like) → ext6_of block ≡ Seven held ∷ [] → wrapped7 block ≡ Some held → reading block ≡ Ok held
      → may_be_held7 (reading block) ≡ true → is_payload block ≡ false → Form block
  stands : ext6_of block ≡ Six (six_of block) ∷ [] → wrapped7 block ≡ None → is_payload block ≡ false
      → is_marked block.kind block.body ≡ false → Form block

one_kind : (kind : ℕ) (b : Bool) → eqb kind 1 ≡ true → (eqb kind 193 && b) ≡ true → ⊥
one_kind kind b one other = omega (arith, eqb-true kind 1 one, eqb-true kind 193 (and_parts _ _ other).0)

two_kinds : (kind : ℕ) (b : Bool) → (eqb kind 192 && b) ≡ true → (eqb kind 193 && b) ≡ true → ⊥
two_kinds kind b one other = omega (arith, eqb-true kind 192 (and_parts _ _ one).0, eqb-true kind 193 (and_parts _ _ other).0)

pub not_marked : (p q b : Bool) → (p && b) ≡ false → (q && b) ≡ false → ((p || q) && b) ≡ false
not_marked true q b one other = one
not_marked false q b one other = other

pub or-true : (p q : Bool) → (not p || q) ≡ true → p ≡ true → q ≡ true
or-true true q either is = either
or-true false q either is = absurd (cc)

held-by : (block : Block6) (r : Result Block7Like (ℕ × Stop BlockFault)) → reading block ≡ r → may_be_held7 r ≡ true
    → is_payload block ≡ false → is_residue block.kind block.body ≡ false → is_wrap block.kind block.body ≡ true → Form block
held-by block (Ok held) is may hp hr hw =
    holds held (rw (hp, hr, hw, is) refl) (rw (hw, is) refl) is (rw is may) hp
held-by block (Err e) is may hp hr hw = absurd (cc)

form-by : (block : Block6) (p r w : Bool) → is_wrap_legal6 block ≡ true → is_payload block ≡ p → is_residue block.kind block.body ≡ r
    → is_wrap block.kind block.body ≡ w → Form block
form-by block true r true fine hp hr hw = absurd (one_kind block.kind (begins mark block.body) hp hw)
form-by block true r false fine hp hr hw = nothing (rw hp refl) (rw hw refl)
form-by block false true true fine hp hr hw = absurd (two_kinds block.kind (begins mark block.body) hr hw)
form-by block false true false fine hp hr hw = nothing (rw (hp, hr) refl) (rw hw refl)
form-by block false false true fine hp hr hw =
    held-by block (reading block) refl (or-true (is_wrap block.kind block.body) (may_be_held7 (reading block)) fine hw) hp hr hw
form-by block false false false fine hp hr hw =
    stands (rw (hp, hr, hw) refl) (rw hw refl) hp (not_marked (block.kind == 192) (block.kind == 193) (begins mark block.body) hr hw)

pub form : (block : Block6) → is_wrap_legal6 block ≡ true → Form block
form block fine = form-by block (is_payload block) (is_residue block.kind block.body) (is_wrap block.kind block.body) fine refl refl refl

-- ---- around the payload

pub prefix-more : (n : ℕ) (block : Block6) (blocks : List Block6)
    → (take (1 + n) (block ∷ blocks) ≡ block ∷ take n blocks) × (drop (1 + n + 1) (block ∷ blocks) ≡ drop (n + 1) blocks)
prefix-more n block blocks =
    let one : 1 + n ≡ suc n = omega arith in
    let two : 1 + n + 1 ≡ suc (n + 1) = omega arith in
    (ap (λ k. take k (block ∷ blocks)) one, ap (λ k. drop k (block ∷ blocks)) two)

around-by : (block : Block6) (blocks : List Block6) (b : Bool) → is_payload block ≡ b
    → exts_in6 (before_first is_payload blocks) ++ exts_in6 (after_first is_payload blocks) ≡ exts_in6 blocks
    → exts_in6 (before_first is_payload (block ∷ blocks)) ++ exts_in6 (after_first is_payload (block ∷ blocks))
    ≡ exts_in6 (block ∷ blocks)
around-by block blocks true is rest = rw is refl
around-by block blocks false is rest =
    let n = position_or_len is_payload blocks in
    let here : position_or_len is_payload (block ∷ blocks) ≡ 1 + n = rw is refl in
    let parts = prefix-more n block blocks in
    ap (λ k. exts_in6 (take k (block ∷ blocks)) ++ exts_in6 (drop (k + 1) (block ∷ blocks))) here
    ∙ ap (λ xs. exts_in6 xs ++ exts_in6 (drop (1 + n + 1) (block ∷ blocks))) parts.0
    ∙ ap (λ xs. exts_in6 (block ∷ take n blocks) ++ exts_in6 xs) parts.1
    ∙ append_assoc (ext6_of block) (exts_in6 (take n blocks)) (exts_in6 (drop (n + 1) blocks))
    ∙ ap (λ es. ext6_of block ++ es) rest

pub around : (blocks : List Block6)
    → exts_in6 (before_first is_payload blocks) ++ exts_in6 (after_first is_payload blocks) ≡ exts_in6 blocks
around [] = refl
around (block ∷ blocks) = around-by block blocks (is_payload block) refl (around blocks)

-- so many were added last
pub added-last : (one more both : List Ext) → both ≡ one ++ more → length both - length one ≡ length more
added-last one more both is = let long = ap length is ∙ length-append one more in omega (arith, long)

-- ---- how many

pub few : (blocks : List Block6) → list_all is_wrap_legal6 blocks ≡ true → length (exts_in6 blocks) ≤ others blocks
few [] fine = omega arith
few (block ∷ blocks) fine =
    let both = and_parts (is_wrap_legal6 block) (list_all is_wrap_legal6 blocks) fine in
    let rest = few blocks both.1 in
    let count = sum_by-cons (λ x. cond (not (is_payload x)) 1 0) block blocks in
    let long = length-append (ext6_of block) (exts_in6 blocks) in
    elim (form block both.0) [
      | nothing none held ↦ let size = ap length none in omega (arith, rest, count, long, size)
      | holds held is so read may other ↦
          let size = ap length is in
          let added : cond (not (is_payload block)) (suc zero) zero ≡ suc zero = rw other refl in
          omega (arith, rest, count, long, size, added)
      | stands is none other unmarked ↦
          let size = ap length is in
          let added : cond (not (is_payload block)) (suc zero) zero ≡ suc zero = rw other refl in
          omega (arith, rest, count, long, size, added)
    ]
