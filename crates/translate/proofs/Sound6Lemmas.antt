-- A legal version 6 bundle that isn't refused reads as a sound record.

use Rattle.std.proofs.Common.{◌≡◌, ◌≢◌, ℕ, zero, suc, ◌+◌, ◌-◌, ◌*◌, ◌/◌, ◌%◌, ◌^◌, ◌<◌, ◌≤◌, Bool, true, false, ◌&&◌, ◌||◌, not, ltb, cond, ◌==◌, List, [], ◌∷◌, ◌++◌, length, Option, Some, None, is_some, Result, Ok, Err, refl, sym, ap, ◌∙◌, arith, bit_and, length-append}
use Rattle.std.proofs.lemmas.Bool.{and_parts, or_parts, ltb-true, leb-false}
use Rattle.std.proofs.lemmas.List.Sums.{sum_by-cons}
use Rattle.std.proofs.lemmas.List.Folds.{list_any-append}
use Rattle.std.proofs.lemmas.List.Elements.{All-head, All-tail, All-nil, All-cons, All-append}
use Rattle.std.specs.List.{All, list_any, list_all, count_by, before_first, after_first}
use Rattle.endpoint.specs.declared.extent.Fragment.{Fragment}
use Rattle.wire_fields.specs.Refusal.{Stop}
use Rattle.wire_fields.specs.Reading.{IsOctets}
use Rattle.wire_fields.specs.Whole.{read_whole}
use Rattle.wire_fields.proofs.WholeLemmas.{whole-found}
use Rattle.bundle6.specs.declared.block.Block6.{Block6}
use Rattle.bundle6.specs.declared.bundle.Bundle6.{Bundle6}
use Rattle.bundle6.specs.Bits.{has_bit}
use Rattle.bundle6.specs.Table.{is_payload, others}
use Rattle.bundle6.specs.Legal.{IsLegal, IsLegalBlock, IsPart, IsWithin}
use Rattle.bundle7.specs.Body.{is_body}
use Rattle.bundle7.proofs.BodyLemmas.{body-found}
use Rattle.bundle_meaning.specs.declared.fault.BlockFault.{BlockFault}
use Rattle.bundle_meaning.specs.declared.fault.BlockFault.TheVariants.{Bad}
use Rattle.bundle_meaning.specs.declared.residue.ResidueOld.{ResidueOld}
use Rattle.bundle_meaning.specs.declared.blocks.Block7Like.{Block7Like}
use Rattle.bundle_meaning.specs.declared.blocks.Ext.{Ext}
use Rattle.bundle_meaning.specs.declared.blocks.Ext.TheVariants.{Six, Seven}
use Rattle.bundle_meaning.specs.Bits.{is_without, common, block_common, not_own6, block_not_own6, block_marks}
use Rattle.bundle_meaning.specs.Blocks.{is_marked, IsExt, IsBlock7, sevens, are_apart, collide}
use Rattle.bundle_meaning.specs.Residue.{residue_old}
use Rattle.bundle_meaning.specs.Wrap.{wrap_old}
use Rattle.bundle_meaning.specs.Valid.{IsShared, IsExtra6, IsExtra7, IsFragment}
use Rattle.bundle_meaning.proofs.FactLemmas.{wrap_old-block, wrap_old-octets, residue_old-extra}
use Rattle.translate.specs.declared.refused.Refused.{Refused}
use Rattle.translate.specs.Refusals.{first_that_holds}
use Rattle.translate.specs.Sound.{IsSound, HasBody}
use Rattle.translate.specs.Private.{value_or}
use Rattle.translate.specs.Admin.{report6_in, lacks_report6, takes_mask, content6}
use Rattle.translate.specs.Reading6.{carried6, refusals6, is_late6, no_residue6, residue_in6, is_residue6, are_residues6, may_stand6, payload_in, are_wraps6, is_wrap_legal6, are_apart6, collide6, collide_held, may_be_held7, wrapped7, ext6_of, exts_in6, stand_after6, shared6_of, extra6_of, full6_of}
use Rattle.translate.specs.Translation.{HoldsOctets6}
use Rattle.translate.proofs.AdminLemmas.{takes-zero, report-bit6, content6-is}
use Rattle.translate.proofs.BitsLemmas.{within-and, without-own, without-kept, without-or, without-bit, has_bit-and}
use Rattle.translate.proofs.Blocks6Lemmas.{nothing, holds, stands, form, few, around, reading, six_of}

-- ---- what isn't refused

-- none of the conditions holds
abbrev pub NoneHolds : List (Refused × Bool) → Type 0
NoneHolds [] = Unit {0}
NoneHolds (refusal ∷ others) = (refusal.1 ≡ false) × NoneHolds others

none-by : (refusal : Refused × Bool) (others : List (Refused × Bool)) (t : Bool) → refusal.1 ≡ t
    → first_that_holds (refusal ∷ others) ≡ None → (refusal.1 ≡ false) × (first_that_holds others ≡ None)
none-by refusal others true is none = let some = rw is at none in absurd (cc)
none-by refusal others false is none = (is, rw is at none)

pub none-holds : (refusals : List (Refused × Bool)) → first_that_holds refusals ≡ None → NoneHolds refusals
none-holds [] none = tt
none-holds (refusal ∷ others) none =
    let both = none-by refusal others refusal.1 refl none in
    (both.0, none-holds others both.1)

pub not-true : (b : Bool) → not b ≡ false → b ≡ true
not-true true is = refl
not-true false is = absurd (cc)

pub no : (b : Bool) → not b ≡ true → b ≡ false
no true is = absurd (cc)
no false is = refl

-- no condition of the table holds
pub record Unrefused6 (b : Bundle6) : Type 0 where
  pub custody : has_bit 3 b.primary.flags ≡ false
  pub clock : (b.primary.seconds == 0) ≡ false
  pub lives : (b.primary.lifetime == 0) ≡ false
  pub late : is_late6 b ≡ false
  pub refs : (length (payload_in b.blocks).refs == 0) ≡ true
  pub fragment : (has_bit 0 b.primary.flags && has_bit 1 b.primary.flags) ≡ false
  pub report : lacks_report6 b.primary.flags (payload_in b.blocks).body ≡ false
  pub residues : are_residues6 b b.blocks ≡ true
  pub wraps : are_wraps6 b.blocks ≡ true

pub unrefused6 : (b : Bundle6) → first_that_holds (refusals6 b) ≡ None → Unrefused6 b
unrefused6 b none =
    let (custody, (clock, (lives, (late, (refs, (fragment, (report, (residues, (wraps, end))))))))) = none-holds (refusals6 b) none in
    record {
      custody = custody;
      clock = clock;
      lives = lives;
      late = late;
      refs = not-true (length (payload_in b.blocks).refs == 0) refs;
      fragment = fragment;
      report = report;
      residues = not-true (are_residues6 b b.blocks) residues;
      wraps = not-true (are_wraps6 b.blocks) wraps;
    }

-- ---- the payload

paid-by : (P : Block6 → Type 0) (block : Block6) (blocks : List Block6) (t : Bool) → is_payload block ≡ t → All P (block ∷ blocks)
    → count_by is_payload (block ∷ blocks) ≡ 1
    → (All P blocks → count_by is_payload blocks ≡ 1 → P (payload_in blocks) × (is_payload (payload_in blocks) ≡ true))
    → P (payload_in (block ∷ blocks)) × (is_payload (payload_in (block ∷ blocks)) ≡ true)
unfolding payload_in
paid-by P block blocks true is all one rest = rw is (All-head P block blocks all, is)
paid-by P block blocks false is all one rest =
    let count = sum_by-cons (λ x. cond (is_payload x) 1 0) block blocks in
    let none : cond (is_payload block) (suc zero) zero ≡ zero = rw is refl in
    rw is (rest (All-tail P block blocks all) (omega (arith, count, one, none)))

-- what all blocks have the payload has
pub paid : (P : Block6 → Type 0) (blocks : List Block6) → All P blocks → count_by is_payload blocks ≡ 1
    → P (payload_in blocks) × (is_payload (payload_in blocks) ≡ true)
paid P [] all one = absurd (omega (arith, one))
paid P (block ∷ blocks) all one = paid-by P block blocks (is_payload block) refl all one (λ more count. paid P blocks more count)

-- ---- the residue

-- what is read leaves some lifetime and is what version 7 may say
abbrev pub Stands6 : Bundle6 → ResidueOld → Type 0
Stands6 b residue = (residue.slack + b.primary.sequence % 1000 < 1000 * b.primary.lifetime) × IsExtra7 residue.extra7

read-stands : (b : Bundle6) (body : List ℕ) (r : Result ResidueOld (ℕ × Stop BlockFault)) → read_whole residue_old Bad body ≡ r
    → IsOctets body → may_stand6 b r ≡ true → (residue : ResidueOld) × (r ≡ Ok residue) × Stands6 b residue
read-stands b body (Ok residue) is octets may =
    let both = and_parts (ltb (residue.slack + b.primary.sequence % 1000) (1000 * b.primary.lifetime)) (takes_mask (carried6 b) residue.no_time) may in (
      residue,
      refl,
      (ltb-true _ _ both.0, residue_old-extra body residue (whole-found residue_old Bad body residue octets is)),
    )
read-stands b body (Err e) is octets may = absurd (cc)

extra7-default : IsExtra7 no_residue6.extra7
extra7-default = record {
  flags = refl;
  flags_fit = omega arith;
  crc = omega arith;
  payload_crc = omega arith;
  payload_flags = refl;
  payload_flags_fit = omega arith;
}

residue-by : (b : Bundle6) (block : Block6) (blocks : List Block6) (t : Bool) → is_residue6 block ≡ t → IsOctets block.body
    → are_residues6 b (block ∷ blocks) ≡ true
    → (are_residues6 b blocks ≡ true → Stands6 b (residue_in6 blocks)) → Stands6 b (residue_in6 (block ∷ blocks))
unfolding are_residues6 residue_in6
residue-by b block blocks true is octets stand rest =
    let here : (may_stand6 b (read_whole residue_old Bad block.body) && not (list_any is_residue6 blocks)) ≡ true = rw is at stand in
    let both = and_parts _ _ here in
    let (residue, read, good) = read-stands b block.body (read_whole residue_old Bad block.body) refl octets both.0 in
    rw (is, read) good
residue-by b block blocks false is octets stand rest = rw is (rest (rw is at stand))

residue-stands : (b : Bundle6) (blocks : List Block6) → 0 < b.primary.lifetime → All (λ block. IsOctets block.body) blocks
    → are_residues6 b blocks ≡ true → Stands6 b (residue_in6 blocks)
unfolding residue_in6
residue-stands b [] lives octets stand = (omega (arith, lives), extra7-default)
residue-stands b (block ∷ blocks) lives octets stand =
    residue-by b block blocks (is_residue6 block) refl (All-head (λ x. IsOctets x.body) block blocks octets) stand
    (λ more. residue-stands b blocks lives (All-tail (λ x. IsOctets x.body) block blocks octets) more)

-- the statuses that it names may be without a time
read-takes : (b : Bundle6) (r : Result ResidueOld (ℕ × Stop BlockFault)) → may_stand6 b r ≡ true
    → takes_mask (carried6 b) (value_or no_residue6 r).no_time ≡ true
read-takes b (Ok residue) may = (and_parts _ (takes_mask (carried6 b) residue.no_time) may).1
read-takes b (Err e) may = absurd (cc)

takes-by : (b : Bundle6) (block : Block6) (blocks : List Block6) (t : Bool) → is_residue6 block ≡ t → are_residues6 b (block ∷ blocks) ≡ true
    → (are_residues6 b blocks ≡ true → takes_mask (carried6 b) (residue_in6 blocks).no_time ≡ true)
    → takes_mask (carried6 b) (residue_in6 (block ∷ blocks)).no_time ≡ true
unfolding are_residues6 residue_in6
takes-by b block blocks true is stand rest =
    let here : (may_stand6 b (read_whole residue_old Bad block.body) && not (list_any is_residue6 blocks)) ≡ true = rw is at stand in
    let both = and_parts _ _ here in
    rw is (read-takes b (read_whole residue_old Bad block.body) both.0)
takes-by b block blocks false is stand rest = rw is (rest (rw is at stand))

takes-stand : (b : Bundle6) (blocks : List Block6) → are_residues6 b blocks ≡ true → takes_mask (carried6 b) (residue_in6 blocks).no_time ≡ true
unfolding residue_in6
takes-stand b [] stand = takes-zero (carried6 b)
takes-stand b (block ∷ blocks) stand = takes-by b block blocks (is_residue6 block) refl stand (λ more. takes-stand b blocks more)

pub takes6 : (b : Bundle6) → Unrefused6 b → takes_mask (carried6 b) (residue_in6 b.blocks).no_time ≡ true
takes6 b un = takes-stand b b.blocks un.residues

-- ---- the extension blocks

marks-clear : (flags : ℕ) → flags < 2 ^ 64 → has_bit 3 flags ≡ false → has_bit 6 flags ≡ false → is_without block_marks flags ≡ true
marks-clear flags fits last refs = without-or 8 64 flags fits (without-bit 3 flags fits last) (without-bit 6 flags fits refs)

-- what a wrap holds
pub held-is : (block : Block6) (held : Block7Like) → IsLegalBlock block → IsOctets block.body → reading block ≡ Ok held
    → may_be_held7 (reading block) ≡ true → IsBlock7 held × HasBody held
held-is block held legal octets is may =
    let spells = whole-found (wrap_old (length block.body)) Bad block.body held octets is in
    let both = and_parts (not (is_marked held.kind held.body)) (is_body held.kind held.body) (rw is at may) in
    let unmarked : is_marked held.kind held.body ≡ false = no (is_marked held.kind held.body) both.0 in (
      wrap_old-block (length block.body) block.body held spells legal.size unmarked,
      body-found held.kind held.body (wrap_old-octets (length block.body) block.body held spells octets) both.1,
    )

six-is : (block : Block6) → IsLegalBlock block → is_payload block ≡ false → is_marked block.kind block.body ≡ false → IsExt (Six (six_of block))
six-is block legal other unmarked = record {
  kind = legal.kind;
  extension = other;
  flags = legal.flags;
  marks = marks-clear block.flags legal.flags legal.last_bit legal.refs_bit;
  refs = legal.refs;
  count = legal.count;
  size = legal.size;
  unmarked = unmarked;
}

-- they may stand in a record
abbrev pub Stand : List Ext → Type 0
Stand exts = All IsExt exts × All HasBody (sevens exts)

pub sevens-append : (one other : List Ext) → sevens (one ++ other) ≡ sevens one ++ sevens other
sevens-append [] other = refl
sevens-append (Six block ∷ one) other = sevens-append one other
sevens-append (Seven block ∷ one) other = ap (λ xs. block ∷ xs) (sevens-append one other)

pub stand-append : (one other : List Ext) → Stand one → Stand other → Stand (one ++ other)
stand-append one other a b = (
  All-append IsExt one other a.0 b.0,
  rw (sevens-append one other) (All-append HasBody (sevens one) (sevens other) a.1 b.1),
)

ext-stands : (block : Block6) → IsLegalBlock block → IsOctets block.body → is_wrap_legal6 block ≡ true → Stand (ext6_of block)
ext-stands block legal octets fine = elim (form block fine) [
  | nothing none held ↦ rw none (All-nil IsExt, All-nil HasBody)
  | holds held is so read may other ↦
      let facts = held-is block held legal octets read may in
      rw is (All-cons IsExt (Seven held) [] facts.0 (All-nil IsExt), All-cons HasBody held [] facts.1 (All-nil HasBody))
  | stands is none other unmarked ↦
      rw is (All-cons IsExt (Six (six_of block)) [] (six-is block legal other unmarked) (All-nil IsExt), All-nil HasBody)
]

pub exts-stand : (blocks : List Block6) → All IsLegalBlock blocks → All (λ block. IsOctets block.body) blocks
    → list_all is_wrap_legal6 blocks ≡ true → Stand (exts_in6 blocks)
exts-stand [] legal octets fine = (All-nil IsExt, All-nil HasBody)
exts-stand (block ∷ blocks) legal octets fine =
    let both = and_parts (is_wrap_legal6 block) (list_all is_wrap_legal6 blocks) fine in
    stand-append (ext6_of block) (exts_in6 blocks)
    (ext-stands block (All-head IsLegalBlock block blocks legal) (All-head (λ x. IsOctets x.body) block blocks octets) both.0)
    (exts-stand blocks (All-tail IsLegalBlock block blocks legal) (All-tail (λ x. IsOctets x.body) block blocks octets) both.1)

-- ---- no two collide

one-collides : (held : Block7Like) (block : Block6) → is_wrap_legal6 block ≡ true
    → list_any (collide held) (sevens (ext6_of block)) ≡ collide_held (Some held) (wrapped7 block)
one-collides held block fine = elim (form block fine) [
  | nothing none so ↦ rw (none, so) refl
  | holds other is so read may payload ↦ rw (is, so) (or-none (collide held other))
  | stands is none payload unmarked ↦ rw (is, none) refl
]
  where
    or-none : (t : Bool) → (t || false) ≡ t
    or-none true = refl
    or-none false = refl

collides-same : (held : Block7Like) (one : Block6) (blocks : List Block6) → wrapped7 one ≡ Some held → list_all is_wrap_legal6 blocks ≡ true
    → list_any (collide held) (sevens (exts_in6 blocks)) ≡ list_any (collide6 one) blocks
collides-same held one [] so fine = refl
collides-same held one (block ∷ blocks) so fine =
    let both = and_parts (is_wrap_legal6 block) (list_all is_wrap_legal6 blocks) fine in
    let rest = collides-same held one blocks so both.1 in
    let here : list_any (collide held) (sevens (ext6_of block)) ≡ collide6 one block =
    one-collides held block both.0 ∙ ap (λ o. collide_held o (wrapped7 block)) (sym so) in
    ap (list_any (collide held)) (sevens-append (ext6_of block) (exts_in6 blocks))
    ∙ list_any-append (collide held) (sevens (ext6_of block)) (sevens (exts_in6 blocks))
    ∙ ap (λ t. t || list_any (collide held) (sevens (exts_in6 blocks))) here
    ∙ ap (λ t. collide6 one block || t) rest

pub apart-read : (blocks : List Block6) → list_all is_wrap_legal6 blocks ≡ true → are_apart6 blocks ≡ true → are_apart (sevens (exts_in6 blocks)) ≡ true
unfolding are_apart6
apart-read [] fine apart = refl
apart-read (block ∷ blocks) fine apart =
    let both = and_parts (is_wrap_legal6 block) (list_all is_wrap_legal6 blocks) fine in
    let two = and_parts (not (list_any (collide6 block) blocks)) (are_apart6 blocks) apart in
    let rest = apart-read blocks both.1 two.1 in
    elim (form block both.0) [
      | nothing none so ↦ rw none rest
      | holds held is so read may other ↦ rw (is, collides-same held block blocks so both.1, two.0, rest) refl
      | stands is none other unmarked ↦ rw is rest
    ]

-- ---- the flags

-- the flags but the common ones
pub own-fits : (m f : ℕ) → f < 2 ^ 64 → f - bit_and f m < 2 ^ 64
own-fits m f fits = omega (arith, fits)

own6-clear : (f : ℕ) → f < 2 ^ 64 → has_bit 3 f ≡ false → is_without not_own6 (f - bit_and f common) ≡ true
own6-clear f fits custody =
    without-or common 8 (f - bit_and f common) (own-fits common f fits) (without-own common f fits)
    (without-kept 8 common f fits (without-bit 3 f fits custody))

payload6-clear : (f : ℕ) → f < 2 ^ 64 → has_bit 3 f ≡ false → has_bit 6 f ≡ false
    → is_without block_not_own6 (f - bit_and f block_common) ≡ true
payload6-clear f fits last refs =
    without-or block_common block_marks (f - bit_and f block_common) (own-fits block_common f fits) (without-own block_common f fits)
    (without-kept block_marks block_common f fits (marks-clear f fits last refs))

-- ---- the record

-- a fragment holds octets
fragment-is : (flags bare : ℕ) (part : Option Fragment) (block : Block6) → has_bit 0 flags ≡ is_some part
    → (has_bit 0 flags && has_bit 1 flags) ≡ false → IsPart part → IsWithin part block → is_payload block ≡ true
    → IsFragment part (content6 (report6_in flags block.body) bare block.body)
fragment-is flags bare None block bit plain is within payload = tt
fragment-is flags bare (Some part) block bit plain is within payload =
    let bytes : has_bit 1 flags ≡ false = rw bit at plain in
    rw bytes (is.1, within payload)

-- the times of a record, in numbers
pub record AreTimes (millis sequence expiry : ℕ) : Type 0 where
  pub clock : 1000 ≤ millis
  pub millis_fit : millis < 2 ^ 64
  pub counterpart : 1000 * sequence + millis % 1000 < 2 ^ 64
  pub lives : millis < expiry
  pub lifetime : expiry < millis + 2 ^ 64

times-are : (seconds sequence lifetime slack : ℕ) → seconds ≢ 0 → 1000 * seconds + sequence % 1000 < 2 ^ 64 → sequence < 2 ^ 64
    → 1000 * lifetime - sequence % 1000 < 2 ^ 64 → slack + sequence % 1000 < 1000 * lifetime
    → AreTimes (1000 * seconds + sequence % 1000) (sequence / 1000) (1000 * (seconds + lifetime) - slack)
times-are seconds sequence lifetime slack clock millis fits ends leaves = record {
  clock = omega (arith, clock);
  millis_fit = millis;
  counterpart = omega (arith, fits);
  lives = omega (arith, leaves);
  lifetime = omega (arith, ends, leaves);
}

pub not-zero : (n : ℕ) → (n == 0) ≡ false → n ≢ 0
not-zero zero is same = absurd (cc)
not-zero (suc n) is same = absurd (cc)

times6 : (b : Bundle6) → IsLegal b → Unrefused6 b → Stands6 b (residue_in6 b.blocks)
    → AreTimes (shared6_of b).millis (shared6_of b).sequence (shared6_of b).expiry
times6 b legal un good =
    let late = or_parts _ _ un.late in
    times-are b.primary.seconds b.primary.sequence b.primary.lifetime (residue_in6 b.blocks).slack
    (not-zero b.primary.seconds un.clock) (leb-false (2 ^ 64) _ late.0) legal.primary.sequence (leb-false (2 ^ 64) _ late.1) good.0

shared6-is : (b : Bundle6) → IsLegal b → HoldsOctets6 b → Unrefused6 b → Stands6 b (residue_in6 b.blocks) → IsShared (shared6_of b)
shared6-is b legal octets un good =
    let times = times6 b legal un good in
    let block = paid IsLegalBlock b.blocks legal.blocks legal.one_payload in
    let within = paid (IsWithin b.primary.fragment) b.blocks legal.within legal.one_payload in
    let fits = paid (λ x. IsOctets x.body) b.blocks octets legal.one_payload in
    let flags = b.primary.flags in
    let payload = payload_in b.blocks in
    let bare = (residue_in6 b.blocks).no_time in
    record {
      destination = legal.primary.destination;
      source = legal.primary.source;
      report_to = legal.primary.report_to;
      clock = times.clock;
      millis = times.millis_fit;
      counterpart = times.counterpart;
      lives = times.lives;
      lifetime = times.lifetime;
      flags = within-and common b.primary.flags;
      payload_flags = within-and block_common (payload_in b.blocks).flags;
      fragment_bit = has_bit-and 0 common b.primary.flags refl ∙ legal.primary.fragment_bit;
      report_bit = has_bit-and 1 common flags refl ∙ report-bit6 flags bare payload.body un.report;
      fragment = fragment-is flags bare b.primary.fragment payload legal.primary.fragment_bit un.fragment legal.primary.fragment within.0 within.1;
      content = content6-is flags bare payload.body block.0.size fits.0 (takes6 b un) un.report;
    }

extra6-is : (b : Bundle6) → IsLegal b → Unrefused6 b → stand_after6 b.blocks ≤ 64 → IsExtra6 (extra6_of b)
extra6-is b legal un few =
    let block = paid IsLegalBlock b.blocks legal.blocks legal.one_payload in
    record {
      custodian = legal.primary.custodian;
      flags = own6-clear b.primary.flags legal.primary.flags un.custody;
      flags_fit = own-fits common b.primary.flags legal.primary.flags;
      payload_flags = payload6-clear (payload_in b.blocks).flags block.0.flags block.0.last_bit block.0.refs_bit;
      payload_flags_fit = own-fits block_common (payload_in b.blocks).flags block.0.flags;
      after_fits = omega (arith, few);
    }

after-few : (blocks : List Block6) → stand_after6 blocks ≤ length (exts_in6 blocks)
after-few blocks =
    let whole = ap length (around blocks) in
    let parts = length-append (exts_in6 (before_first is_payload blocks)) (exts_in6 (after_first is_payload blocks)) in
    omega (arith, whole, parts)

pub sound6 : (b : Bundle6) → IsLegal b → HoldsOctets6 b → first_that_holds (refusals6 b) ≡ None → IsSound (full6_of b)
sound6 b legal octets none =
    let un = unrefused6 b none in
    let wraps = and_parts (list_all is_wrap_legal6 b.blocks) (are_apart6 b.blocks) un.wraps in
    let lives : 0 < b.primary.lifetime = omega (arith, not-zero b.primary.lifetime un.lives) in
    let residue = residue-stands b b.blocks lives octets un.residues in
    let exts = exts-stand b.blocks legal.blocks octets wraps.0 in
    let most = few b.blocks wraps.0 in
    let after = after-few b.blocks in
    record {
      valid = record {
        shared = shared6-is b legal octets un residue;
        extra6 = extra6-is b legal un (omega (arith, most, after, legal.others_are_few));
        extra7 = residue.1;
        exts = exts.0;
        few = omega (arith, most, legal.others_are_few);
        after = after;
        apart = apart-read b.blocks wraps.0 wraps.1;
      };
      bodies = exts.1;
    }
