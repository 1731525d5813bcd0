-- A legal version 7 bundle that isn't refused reads as a sound record.

use Rattle.std.proofs.Common.{◌≡◌, ◌≢◌, ℕ, ◌+◌, ◌/◌, ◌%◌, ◌^◌, ◌<◌, ◌≤◌, Bool, true, false, ◌&&◌, ◌||◌, not, eqb, leb, ◌==◌, if◌then◌else◌, List, [], ◌∷◌, ◌++◌, map, length, Option, Some, None, is_some, Result, Ok, Err, refl, ap, ◌∙◌, arith, eqb-true, eq-eqb, length-append}
use Rattle.std.proofs.lemmas.Bool.{and_parts, ltb-false, leb-true, leb-false, ne_eqb}
use Rattle.std.proofs.lemmas.List.Elements.{All-head, All-tail, All-nil, All-cons}
use Rattle.std.specs.List.{All, list_any, list_all}
use Rattle.endpoint.specs.declared.extent.Fragment.{Fragment}
use Rattle.endpoint.specs.Endpoints.{begins, is_singleton}
use Rattle.wire_fields.specs.Format.{Spells}
use Rattle.wire_fields.specs.Refusal.{Stop}
use Rattle.wire_fields.specs.Reading.{IsOctets}
use Rattle.wire_fields.specs.Whole.{read_whole}
use Rattle.wire_fields.proofs.WholeLemmas.{whole-found}
use Rattle.bundle6.specs.Bits.{has_bit}
use Rattle.bundle7.specs.declared.block.Block7.{Block7}
use Rattle.bundle7.specs.declared.bundle.Bundle7.{Bundle7}
use Rattle.bundle7.specs.Table.{is_fragment, is_single, seen_of, has, is_within}
use Rattle.bundle7.specs.Legal.{IsLegal7, IsLegalBlock, IsPart, AreLegal}
use Rattle.bundle_meaning.specs.declared.fault.BlockFault.{BlockFault}
use Rattle.bundle_meaning.specs.declared.fault.BlockFault.TheVariants.{Bad}
use Rattle.bundle_meaning.specs.declared.shared.Content.TheVariants as contents
use Rattle.bundle_meaning.specs.declared.shared.Shared.{Shared}
use Rattle.bundle_meaning.specs.declared.residue_new.ResidueNew.{ResidueNew}
use Rattle.bundle_meaning.specs.declared.blocks.Block6Like.{Block6Like}
use Rattle.bundle_meaning.specs.declared.blocks.Block7Like.{Block7Like}
use Rattle.bundle_meaning.specs.declared.blocks.Ext.TheVariants.{Six, Seven}
use Rattle.bundle_meaning.specs.Bits.{is_without, common, block_common, not_own6}
use Rattle.bundle_meaning.specs.Blocks.{mark, is_marked, IsExt, IsBlock6, IsBlock7, sevens, are_apart, collide}
use Rattle.bundle_meaning.specs.Creation.{id6_of}
use Rattle.bundle_meaning.specs.Defaults.{default6_of}
use Rattle.bundle_meaning.specs.Residue.{four_rests, residue_new}
use Rattle.bundle_meaning.specs.Wrap.{wrap_new}
use Rattle.bundle_meaning.specs.Valid.{IsShared, IsExtra6, IsExtra7, IsFragment}
use Rattle.bundle_meaning.proofs.FactLemmas.{wrap_new-block, residue_new-extra}
use Rattle.translate.specs.Refusals.{first_that_holds}
use Rattle.translate.specs.Admin.{report7_in, lacks_report7, takes_parts, content7}
use Rattle.translate.specs.Private.{is_residue, is_wrap}
use Rattle.translate.specs.Sound.{IsSound, HasBody}
use Rattle.translate.specs.Reading7.{refusals7, no_residue7, residue_in7, residue7_of, is_residue7, are_residues7, may_stand7, may_be_held6, is_wrap_legal7, ext7_of, exts_in7, carried7, shared7_with, shared7_of, extra7_of, extra6_of_residue, full7_of}
use Rattle.translate.specs.Translation.{HoldsOctets7}
use Rattle.translate.proofs.AdminLemmas.{parts-zero, report-bit7, content7-is}
use Rattle.translate.proofs.BitsLemmas.{within-and, without-own, has_bit-and}
use Rattle.translate.proofs.Blocks6Lemmas.{or-true, not_marked}
use Rattle.translate.proofs.Sound6Lemmas.{none-holds, not-true, no, not-zero, own-fits, Stand, stand-append}

-- ---- what isn't refused

pub record Unrefused7 (b : Bundle7) : Type 0 where
  pub clock : 1000 ≤ b.primary.millis
  pub lives : b.primary.lifetime ≢ 0
  pub counterpart : (id6_of b.primary.millis b.primary.sequence).sequence < 2 ^ 64
  pub fragment : (has_bit 0 b.primary.flags && has_bit 1 b.primary.flags) ≡ false
  pub report : lacks_report7 b.primary.flags b.payload.body ≡ false
  pub residues : are_residues7 b b.exts ≡ true
  pub wraps : list_all is_wrap_legal7 b.exts ≡ true

pub unrefused7 : (b : Bundle7) → first_that_holds (refusals7 b) ≡ None → Unrefused7 b
unrefused7 b none =
    let (clock, (lives, (sequence, (fragment, (report, (residues, (wraps, end))))))) = none-holds (refusals7 b) none in
    record {
      clock = ltb-false b.primary.millis 1000 clock;
      lives = not-zero b.primary.lifetime lives;
      counterpart = leb-false (2 ^ 64) _ sequence;
      fragment = fragment;
      report = report;
      residues = not-true (are_residues7 b b.exts) residues;
      wraps = not-true (list_all is_wrap_legal7 b.exts) wraps;
    }

-- ---- the residue

default6-flags : (one : Bool) → (is_without not_own6 (0x80 + (if one then 0x10 else 0)) ≡ true) × (0x80 + (if one then 0x10 else 0) < 2 ^ 64)
default6-flags true = (refl, omega arith)
default6-flags false = (refl, omega arith)

extra6-default : (shared : Shared) → IsExtra6 (default6_of shared)
extra6-default shared =
    let flags = default6-flags (is_singleton shared.destination) in
    record {
      custodian = tt;
      flags = flags.0;
      flags_fit = flags.1;
      payload_flags = refl;
      payload_flags_fit = omega arith;
      after_fits = omega arith;
    }

-- what is read is what version 6 may say, and has four parts of times that the report may have
pub record Stands7 (b : Bundle7) (residue : ResidueNew) : Type 0 where
  pub extra : IsExtra6 residue.extra6
  pub four : length residue.rests ≡ 4
  pub takes : takes_parts (carried7 b) residue.rests ≡ true

four-spelled : (front w rests : List ℕ) → Spells four_rests front w rests → length rests ≡ 4
unfolding four_rests
four-spelled front w rests spells =
    let (u1, v1, a, e1, s1, r1) = spells in
    let (u2, v2, b, e2, s2, r2) = r1 in
    let (u3, v3, c, e3, s3, r3) = r2 in
    let (u4, v4, d, e4, s4, r4) = r3 in
    rw r4.1 refl

residue-four : (w : List ℕ) (residue : ResidueNew) → Spells residue_new [] w residue → length residue.rests ≡ 4
unfolding residue_new
residue-four w residue spells =
    let (u1, v1, m, e1, s1, r1) = spells in
    let (u2, v2, flags, e2, s2, r2) = r1 in
    let (u3, v3, custodian, e3, s3, r3) = r2 in
    let (u4, v4, payload_flags, e4, s4, r4) = r3 in
    let (u5, v5, after, e5, s5, r5) = r4 in
    let (u6, v6, rests, e6, s6, r6) = r5 in
    rw r6.1 (four-spelled _ u6 rests s6)

read-is : (b : Bundle7) (body : List ℕ) (r : Result ResidueNew (ℕ × Stop BlockFault)) → read_whole residue_new Bad body ≡ r
    → IsOctets body → may_stand7 b r ≡ true → (residue : ResidueNew) × (r ≡ Ok residue) × Stands7 b residue
read-is b body (Ok residue) is octets may =
    let spells = whole-found residue_new Bad body residue octets is in
    (residue, refl, record { extra = residue_new-extra body residue spells; four = residue-four body residue spells; takes = may })
read-is b body (Err e) is octets may = absurd (cc)

residue-by : (b : Bundle7) (other : ResidueNew) (block : Block7) (blocks : List Block7) (t : Bool) → is_residue7 block ≡ t → IsOctets block.body
    → are_residues7 b (block ∷ blocks) ≡ true
    → (are_residues7 b blocks ≡ true → Stands7 b (residue_in7 other blocks)) → Stands7 b (residue_in7 other (block ∷ blocks))
unfolding are_residues7 residue_in7
residue-by b other block blocks true is octets stand rest =
    let here : (may_stand7 b (read_whole residue_new Bad block.body) && not (list_any is_residue7 blocks)) ≡ true = rw is at stand in
    let both = and_parts _ _ here in
    let (residue, read, good) = read-is b block.body (read_whole residue_new Bad block.body) refl octets both.0 in
    rw (is, read) good
residue-by b other block blocks false is octets stand rest = rw is (rest (rw is at stand))

residue-is : (b : Bundle7) (other : ResidueNew) (blocks : List Block7) → Stands7 b other → All (λ block. IsOctets block.body) blocks
    → are_residues7 b blocks ≡ true → Stands7 b (residue_in7 other blocks)
unfolding residue_in7
residue-is b other [] good octets stand = good
residue-is b other (block ∷ blocks) good octets stand =
    residue-by b other block blocks (is_residue7 block) refl (All-head (λ x. IsOctets x.body) block blocks octets) stand
    (λ more. residue-is b other blocks good (All-tail (λ x. IsOctets x.body) block blocks octets) more)

default-stands : (b : Bundle7) → Stands7 b (no_residue7 b)
default-stands b = record {
  extra = extra6-default (shared7_with b (contents.Bytes b.payload.body));
  four = refl;
  takes = parts-zero (carried7 b);
}

-- ---- for which extension blocks the blocks stand

abbrev pub seven_of : Block7 → Block7Like
seven_of block = record { kind = block.kind; number = block.number; flags = block.flags; crc = block.crc; body = block.body }

abbrev pub reading7 : Block7 → Result Block6Like (ℕ × Stop BlockFault)
reading7 block = read_whole (wrap_new (length block.body)) Bad block.body

-- residues stand for nothing, wraps for what they hold, and others for themselves
pub data Form7 (block : Block7) : Type 0 where
  nothing7 : ext7_of block ≡ [] → Form7 block
  holds7 : (held : Block6Like) → ext7_of block ≡ Six held ∷ [] → reading7 block ≡ Ok held → may_be_held6 (reading7 block) ≡ true → Form7 block
  stands7 : ext7_of block ≡ Seven (seven_of block) ∷ [] → is_marked block.kind block.body ≡ false → Form7 block

held-by : (block : Block7) (r : Result Block6Like (ℕ × Stop BlockFault)) → reading7 block ≡ r → may_be_held6 r ≡ true
    → is_residue block.kind block.body ≡ false → is_wrap block.kind block.body ≡ true → Form7 block
held-by block (Ok held) is may hr hw = holds7 held (rw (hr, hw, is) refl) is (rw is may)
held-by block (Err e) is may hr hw = absurd (cc)

form-by : (block : Block7) (r w : Bool) → is_wrap_legal7 block ≡ true → is_residue block.kind block.body ≡ r
    → is_wrap block.kind block.body ≡ w → Form7 block
form-by block true w fine hr hw = nothing7 (rw hr refl)
form-by block false true fine hr hw =
    held-by block (reading7 block) refl (or-true (is_wrap block.kind block.body) (may_be_held6 (reading7 block)) fine hw) hr hw
form-by block false false fine hr hw =
    stands7 (rw (hr, hw) refl) (not_marked (block.kind == 192) (block.kind == 193) (begins mark block.body) hr hw)

pub form7 : (block : Block7) → is_wrap_legal7 block ≡ true → Form7 block
form7 block fine = form-by block (is_residue block.kind block.body) (is_wrap block.kind block.body) fine refl refl

pub few7 : (blocks : List Block7) → list_all is_wrap_legal7 blocks ≡ true → length (exts_in7 blocks) ≤ length blocks
few7 [] fine = omega arith
few7 (block ∷ blocks) fine =
    let both = and_parts (is_wrap_legal7 block) (list_all is_wrap_legal7 blocks) fine in
    let rest = few7 blocks both.1 in
    let long = length-append (ext7_of block) (exts_in7 blocks) in
    elim (form7 block both.0) [
      | nothing7 none ↦ let size = ap length none in omega (arith, rest, long, size)
      | holds7 held is read may ↦ let size = ap length is in omega (arith, rest, long, size)
      | stands7 is unmarked ↦ let size = ap length is in omega (arith, rest, long, size)
    ]

-- ---- they may stand in a record

no-payload : (block : Block7) → (block.kind ≡ 1 → ⊥) → (block.kind == 1) ≡ false
no-payload block other = ne_eqb block.kind 1 other

-- the number of an extension block is at least 2, and no earlier block has it
number-is : (part : Option Fragment) (earlier : List Block7) (block : Block7) → IsLegalBlock part (seen_of earlier) block
    → (block.kind == 1) ≡ false → (2 ≤ block.number) × (has block.number (seen_of earlier).numbers ≡ false)
number-is part earlier block legal other =
    let number : (leb 2 block.number && not (has block.number (seen_of earlier).numbers)) ≡ true = rw other at legal.number in
    let both = and_parts _ _ number in
    (leb-true 2 block.number both.0, no _ both.1)

ext-stands : (part : Option Fragment) (earlier : List Block7) (block : Block7) → IsLegalBlock part (seen_of earlier) block
    → (block.kind ≡ 1 → ⊥) → IsOctets block.body → is_wrap_legal7 block ≡ true → Stand (ext7_of block)
ext-stands part earlier block legal other octets fine = elim (form7 block fine) [
  | nothing7 none ↦ rw none (All-nil IsExt, All-nil HasBody)
  | holds7 held is read may ↦
      let spells = whole-found (wrap_new (length block.body)) Bad block.body held octets read in
      let unmarked : is_marked held.kind held.body ≡ false = no _ (rw read at may) in
      let good : IsBlock6 held = wrap_new-block (length block.body) block.body held spells legal.size unmarked in
      rw is (All-cons IsExt (Six held) [] good (All-nil IsExt), All-nil HasBody)
  | stands7 is unmarked ↦
      let number = number-is part earlier block legal (no-payload block other) in
      let good : IsBlock7 (seven_of block) = record {
        kind = legal.kind;
        extension = no-payload block other;
        number = number.0;
        number_fits = legal.number_fits;
        flags = legal.flags;
        crc = legal.crc;
        size = legal.size;
        unmarked = unmarked;
      } in
      rw is (All-cons IsExt (Seven (seven_of block)) [] good (All-nil IsExt), All-cons HasBody (seven_of block) [] legal.body (All-nil HasBody))
]

exts-stand : (part : Option Fragment) (earlier blocks : List Block7) → AreLegal part earlier blocks → All (λ block. IsOctets block.body) blocks
    → list_all is_wrap_legal7 blocks ≡ true → Stand (exts_in7 blocks)
exts-stand part earlier [] legal octets fine = (All-nil IsExt, All-nil HasBody)
exts-stand part earlier (block ∷ blocks) legal octets fine =
    let both = and_parts (is_wrap_legal7 block) (list_all is_wrap_legal7 blocks) fine in
    stand-append (ext7_of block) (exts_in7 blocks)
    (ext-stands part earlier block legal.0 legal.1.0 (All-head (λ x. IsOctets x.body) block blocks octets) both.0)
    (exts-stand part (earlier ++ block ∷ []) blocks legal.1.1 (All-tail (λ x. IsOctets x.body) block blocks octets) both.1)

-- ---- no two collide

-- a block's number and type are among those of the earlier ones
pub record IsSeen (block : Block7) (earlier : List Block7) : Type 0 where
  pub number : has block.number (seen_of earlier).numbers ≡ true
  pub kind : has block.kind (seen_of earlier).kinds ≡ true

true-or : (p q : Bool) → q ≡ true → (p || q) ≡ true
true-or true q is = refl
true-or false q is = is

or-first : (p q : Bool) → p ≡ true → (p || q) ≡ true
or-first p q is = rw is refl

has-more : (n : ℕ) (f : Block7 → ℕ) (earlier : List Block7) (block : Block7) → has n (map f earlier) ≡ true
    → has n (map f (earlier ++ block ∷ [])) ≡ true
has-more n f [] block is = absurd (cc)
has-more n f (one ∷ earlier) block is = by (f one == n) refl (λ more. has-more n f earlier block more)
  where
    by : (t : Bool) → (f one == n) ≡ t → (has n (map f earlier) ≡ true → has n (map f (earlier ++ block ∷ [])) ≡ true)
        → has n (map f (one ∷ (earlier ++ block ∷ []))) ≡ true
    by true same rest = or-first (f one == n) _ same
    by false other rest = true-or (f one == n) _ (rest (rw other at is))

has-last : (f : Block7 → ℕ) (earlier : List Block7) (block : Block7) → has (f block) (map f (earlier ++ block ∷ [])) ≡ true
has-last f [] block = or-first (f block == f block) false (eq-eqb (f block) (f block) refl)
has-last f (one ∷ earlier) block = true-or (f one == f block) _ (has-last f earlier block)

seen-more : (block : Block7) (earlier : List Block7) (next : Block7) → IsSeen block earlier → IsSeen block (earlier ++ next ∷ [])
seen-more block earlier next seen = record {
  number = has-more block.number (λ (x : Block7). x.number) earlier next seen.number;
  kind = has-more block.kind (λ (x : Block7). x.kind) earlier next seen.kind;
}

seen-last : (block : Block7) (earlier : List Block7) → IsSeen block (earlier ++ block ∷ [])
seen-last block earlier = record {
  number = has-last (λ (x : Block7). x.number) earlier block;
  kind = has-last (λ (x : Block7). x.kind) earlier block;
}

-- a legal block after it doesn't collide with it
apart-one : (block other : Block7) (part : Option Fragment) (earlier : List Block7) → IsSeen block earlier
    → IsLegalBlock part (seen_of earlier) other → (other.kind ≡ 1 → ⊥) → collide (seven_of block) (seven_of other) ≡ false
apart-one block other part earlier seen legal payload =
    let number = number-is part earlier other legal (no-payload other payload) in
    let apart : (block.number == other.number) ≡ false =
    ne_eqb block.number other.number (λ same. let here = rw same at seen.number in let there = number.1 in cc) in
    rw apart (by (is_single block.kind) (block.kind == other.kind) refl refl)
  where
    by : (t same : Bool) → is_single block.kind ≡ t → (block.kind == other.kind) ≡ same
        → (is_single block.kind && (block.kind == other.kind)) ≡ false
    by false same is so = rw is refl
    by true false is so = rw (is, so) refl
    by true true is so =
        let equal = eqb-true block.kind other.kind so in
        let single : is_single other.kind ≡ true = rw equal at is in
        let kind : has other.kind (seen_of earlier).kinds ≡ true = rw equal at seen.kind in
        let once : (is_single other.kind && has other.kind (seen_of earlier).kinds) ≡ false = legal.once in
        let never = rw (single, kind) at once in
        absurd (cc)

apart-all : (block : Block7) (part : Option Fragment) (earlier blocks : List Block7) → IsSeen block earlier → AreLegal part earlier blocks
    → list_all is_wrap_legal7 blocks ≡ true → list_any (collide (seven_of block)) (sevens (exts_in7 blocks)) ≡ false
apart-all block part earlier [] seen legal fine = refl
apart-all block part earlier (next ∷ blocks) seen legal fine =
    let both = and_parts (is_wrap_legal7 next) (list_all is_wrap_legal7 blocks) fine in
    let rest = apart-all block part (earlier ++ next ∷ []) blocks (seen-more block earlier next seen) legal.1.1 both.1 in
    let one = apart-one block next part earlier seen legal.0 legal.1.0 in
    elim (form7 next both.0) [
      | nothing7 none ↦ rw none rest
      | holds7 held is read may ↦ rw is rest
      | stands7 is unmarked ↦ rw (is, one) rest
    ]

apart-read7 : (part : Option Fragment) (earlier blocks : List Block7) → AreLegal part earlier blocks
    → list_all is_wrap_legal7 blocks ≡ true → are_apart (sevens (exts_in7 blocks)) ≡ true
apart-read7 part earlier [] legal fine = refl
apart-read7 part earlier (block ∷ blocks) legal fine =
    let both = and_parts (is_wrap_legal7 block) (list_all is_wrap_legal7 blocks) fine in
    let rest = apart-read7 part (earlier ++ block ∷ []) blocks legal.1.1 both.1 in
    let none = apart-all block part (earlier ++ block ∷ []) blocks (seen-last block earlier) legal.1.1 both.1 in
    elim (form7 block both.0) [
      | nothing7 is ↦ rw is rest
      | holds7 held is read may ↦ rw is rest
      | stands7 is unmarked ↦ rw (is, none, rest) refl
    ]

-- ---- the record

-- a fragment holds octets
fragment-is : (flags : ℕ) (rests : List ℕ) (part : Option Fragment) (block : Block7) → has_bit 0 flags ≡ is_some part
    → (has_bit 0 flags && has_bit 1 flags) ≡ false → IsPart part
    → is_within part block.kind (length block.body) ≡ true → block.kind ≡ 1
    → IsFragment part (content7 (report7_in flags block.body) rests block.body)
fragment-is flags rests None block bit plain is within payload = tt
fragment-is flags rests (Some part) block bit plain is within payload =
    let bytes : has_bit 1 flags ≡ false = rw bit at plain in
    let one : (block.kind == 1) ≡ true = eq-eqb block.kind 1 payload in
    rw bytes (is.1, leb-true (part.offset + length block.body) part.total (rw one at within))

pub bit-zero : (flags : ℕ) → has_bit 0 flags ≡ is_fragment flags
bit-zero flags = ap (λ n. eqb (n % 2) 1) (whole flags)
  where
    whole : (n : ℕ) → n / 1 ≡ n
    whole n = omega arith

shared7-is : (b : Bundle7) → IsLegal7 b → HoldsOctets7 b → Unrefused7 b → Stands7 b (residue7_of b) → IsShared (shared7_of b)
shared7-is b legal octets un good = record {
  destination = legal.primary.destination;
  source = legal.primary.source;
  report_to = legal.primary.report_to;
  clock = un.clock;
  millis = legal.primary.millis;
  counterpart = un.counterpart;
  lives = omega (arith, un.lives);
  lifetime = omega (arith, legal.primary.lifetime);
  flags = within-and common b.primary.flags;
  payload_flags = within-and block_common b.payload.flags;
  fragment_bit = has_bit-and 0 common b.primary.flags refl ∙ bit-zero b.primary.flags ∙ legal.primary.fragment_bit;
  report_bit = has_bit-and 1 common b.primary.flags refl ∙ report-bit7 b.primary.flags (residue7_of b).rests b.payload.body un.report;
  fragment = fragment-is b.primary.flags (residue7_of b).rests b.primary.fragment b.payload
      (bit-zero b.primary.flags ∙ legal.primary.fragment_bit) un.fragment legal.primary.fragment legal.payload.within legal.payload_kind;
  content = content7-is b.primary.flags (residue7_of b).rests b.payload.body legal.payload.size octets.payload good.four good.takes un.report;
}

extra7-is : (b : Bundle7) → IsLegal7 b → IsExtra7 (extra7_of b)
extra7-is b legal = record {
  flags = without-own common b.primary.flags legal.primary.flags;
  flags_fit = own-fits common b.primary.flags legal.primary.flags;
  crc = legal.primary.crc;
  payload_crc = legal.payload.crc;
  payload_flags = without-own block_common b.payload.flags legal.payload.flags;
  payload_flags_fit = own-fits block_common b.payload.flags legal.payload.flags;
}

-- no more stand after the payload than there are
extra6-is : (residue : ResidueNew) (exts : ℕ) → IsExtra6 residue.extra6 → IsExtra6 (extra6_of_residue residue exts)
extra6-is residue exts good = record {
  custodian = good.custodian;
  flags = good.flags;
  flags_fit = good.flags_fit;
  payload_flags = good.payload_flags;
  payload_flags_fit = good.payload_flags_fit;
  after_fits = omega (arith, good.after_fits);
}

pub sound7 : (b : Bundle7) → IsLegal7 b → HoldsOctets7 b → first_that_holds (refusals7 b) ≡ None → IsSound (full7_of b)
sound7 b legal octets none =
    let un = unrefused7 b none in
    let residue = residue-is b (no_residue7 b) b.exts (default-stands b) octets.exts un.residues in
    let exts = exts-stand b.primary.fragment [] b.exts legal.exts octets.exts un.wraps in
    let most = few7 b.exts un.wraps in
    record {
      valid = record {
        shared = shared7-is b legal octets un residue;
        extra6 = extra6-is (residue7_of b) (length (exts_in7 b.exts)) residue.extra;
        extra7 = extra7-is b legal;
        exts = exts.0;
        few = omega (arith, most, legal.few);
        after = omega arith;
        apart = apart-read7 b.primary.fragment [] b.exts legal.exts un.wraps;
      };
      bodies = exts.1;
    }
