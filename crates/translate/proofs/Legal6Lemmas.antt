-- A version 6 view is a legal bundle.

use Rattle.std.proofs.Common.{◌≡◌, ℕ, zero, suc, ◌^◌, ◌<◌, max, Bool, true, false, eqb, cond, List, [], ◌∷◌, ◌++◌, map, length, take, drop, Option, Some, None, refl, sym, ap, ◌∙◌, arith, subst, bit_and, bit_or}
use Rattle.std.proofs.lemmas.Bool.{leb-true}
use Rattle.std.proofs.lemmas.Nat.{or_lt, and_le_l}
use Rattle.std.proofs.lemmas.Nat.Bits.{bit_at_and, bit_at_or}
use Rattle.std.proofs.lemmas.List.Sums.{sum_by-cons}
use Rattle.std.proofs.lemmas.List.Elements.{All-head, All-tail, All-nil, All-cons, All-append, All-weaker, All-take, All-drop}
use Rattle.std.specs.Int.{bit_at}
use Rattle.std.specs.List.{All, count_by}
use Rattle.endpoint.specs.declared.extent.Fragment.{Fragment}
use Rattle.endpoint.specs.Endpoints.{IsEndpoint}
use Rattle.bundle6.specs.declared.block.Block6.{Block6}
use Rattle.bundle6.specs.Bits.{has_bit}
use Rattle.bundle6.specs.Table.{is_payload}
use Rattle.bundle6.specs.Legal.{IsLegalPrimary, IsLegalBlock, IsPart, IsWithin}
use Rattle.bundle_meaning.specs.declared.shared.Content.{Content}
use Rattle.bundle_meaning.specs.declared.shared.Content.TheVariants as contents
use Rattle.bundle_meaning.specs.declared.blocks.Ext.{Ext}
use Rattle.bundle_meaning.specs.declared.blocks.Ext.TheVariants.{Six, Seven}
use Rattle.bundle_meaning.specs.declared.full.Full.{Full}
use Rattle.bundle_meaning.specs.Bits.{is_within, is_without, common, block_common, not_own6, block_not_own6, block_marks}
use Rattle.bundle_meaning.specs.Blocks.{IsExt}
use Rattle.bundle_meaning.specs.Valid.{IsFragment, IsValid}
use Rattle.bundle_meaning.proofs.RecordLemmas.{within-le}
use Rattle.translate.specs.Legal.{IsSized6, View6IsLegal}
use Rattle.translate.specs.View6.{primary6_of, needs_residue6, residue6, block6_of, payload6_of, before_payload, blocks6_of, octets6_of}
use Rattle.translate.proofs.BitsLemmas.{min-zero}
use Rattle.translate.proofs.Back6Lemmas.{residue-block, before6, after6, blocks6-parts, before6-others, after6-others}
use Rattle.translate.proofs.View6Laws.{clear-within, clear-without}
use Rattle.translate.proofs.FewLemmas.{others-view6}

-- ---- flags

pub or-fits : (m a b : ℕ) → m < 2 ^ 64 → is_within m a ≡ true → b < 2 ^ 64 → bit_or a b < 2 ^ 64
or-fits m a b small within fits = or_lt 64 a b (omega (arith, within-le m a within, small)) fits

-- a bit that only the first flags may have
pub same-bit : (k m a b : ℕ) → is_without m b ≡ true → bit_at m k ≡ 1 → has_bit k (bit_or a b) ≡ has_bit k a
same-bit k m a b without one =
    let q = clear-without k m b without one in
    ap (λ x. eqb x 1) (bit_at_or a b k ∙ ap (λ x. max (bit_at a k) x) q ∙ omega arith)

no-bit : (k m f : ℕ) → is_without m f ≡ true → bit_at m k ≡ 1 → has_bit k f ≡ false
no-bit k m f without one = ap (λ x. eqb x 1) (clear-without k m f without one)

no-bit-and : (k m f : ℕ) → bit_at m k ≡ 0 → has_bit k (bit_and f m) ≡ false
no-bit-and k m f none = ap (λ x. eqb x 1) (bit_at_and f m k ∙ min-zero (bit_at f k) (bit_at m k) none)

no-bit-or : (k m n a b : ℕ) → is_within m a ≡ true → bit_at m k ≡ 0 → is_without n b ≡ true → bit_at n k ≡ 1
    → has_bit k (bit_or a b) ≡ false
no-bit-or k m n a b within none without one =
    let p = clear-within k m a within none in
    let q = clear-without k n b without one in
    let clear : bit_at (bit_or a b) k ≡ 0 = bit_at_or a b k ∙ ap (λ x. max x (bit_at b k)) p ∙ ap (λ x. max 0 x) q ∙ omega arith in
    ap (λ x. eqb x 1) clear

-- ---- the primary block

part-is : (part : Option Fragment) (content : Content) → IsFragment part content → IsPart part
part-is None content is = tt
part-is (Some part) (contents.Bytes octets) is = (omega (arith, is.0, is.1), is.0)
part-is (Some part) (contents.Report report) is = absurd is

primary-is : (full : Full) → IsValid full → IsLegalPrimary (primary6_of full)
primary-is full valid =
    let shared = valid.shared in
    record {
      flags = or-fits common full.shared.flags full.extra6.flags (omega arith) shared.flags valid.extra6.flags_fit;
      destination = shared.destination;
      source = shared.source;
      report_to = shared.report_to;
      custodian = valid.extra6.custodian;
      seconds = omega (arith, shared.millis);
      sequence = shared.counterpart;
      lifetime = omega (arith, shared.lifetime);
      fragment_bit = same-bit 0 not_own6 full.shared.flags full.extra6.flags valid.extra6.flags refl ∙ shared.fragment_bit;
      fragment = part-is full.shared.fragment full.shared.content shared.fragment;
    }

-- ---- blocks, but for their size

pub record IsShaped (block : Block6) : Type 0 where
  pub kind : block.kind < 256
  pub flags : block.flags < 2 ^ 64
  pub last_bit : has_bit 3 block.flags ≡ false
  pub refs_bit : has_bit 6 block.flags ≡ false
  pub refs : All IsEndpoint block.refs
  pub count : length block.refs < 2 ^ 64

with-size : (block : Block6) → IsShaped block → IsSized6 block → IsLegalBlock block
with-size block is size = record {
  kind = is.kind;
  flags = is.flags;
  last_bit = is.last_bit;
  refs_bit = is.refs_bit;
  refs = is.refs;
  count = is.count;
  size = size;
}

residue-shaped : (full : Full) → IsShaped (residue-block full)
residue-shaped full = record {
  kind = omega arith;
  flags = omega arith;
  last_bit = refl;
  refs_bit = refl;
  refs = All-nil IsEndpoint;
  count = omega arith;
}

ext-shaped : (ext : Ext) → IsExt ext → IsShaped (block6_of ext)
ext-shaped (Six block) is = record {
  kind = is.kind;
  flags = is.flags;
  last_bit = no-bit 3 block_marks block.flags is.marks refl;
  refs_bit = no-bit 6 block_marks block.flags is.marks refl;
  refs = is.refs;
  count = is.count;
}
ext-shaped (Seven block) is = record {
  kind = omega arith;
  flags = omega (arith, and_le_l block.flags block_common, is.flags);
  last_bit = no-bit-and 3 block_common block.flags refl;
  refs_bit = no-bit-and 6 block_common block.flags refl;
  refs = All-nil IsEndpoint;
  count = omega arith;
}

exts-shaped : (exts : List Ext) → All IsExt exts → All IsShaped (map block6_of exts)
exts-shaped [] are = All-nil IsShaped
exts-shaped (ext ∷ exts) are =
    All-cons IsShaped (block6_of ext) (map block6_of exts) (ext-shaped ext (All-head IsExt ext exts are))
    (exts-shaped exts (All-tail IsExt ext exts are))

payload-shaped : (full : Full) → IsValid full → IsShaped (payload6_of full)
payload-shaped full valid =
    let a = full.shared.payload_flags in
    let b = full.extra6.payload_flags in
    record {
      kind = omega arith;
      flags = or-fits block_common a b (omega arith) valid.shared.payload_flags valid.extra6.payload_flags_fit;
      last_bit = no-bit-or 3 block_common block_not_own6 a b valid.shared.payload_flags refl valid.extra6.payload_flags refl;
      refs_bit = no-bit-or 6 block_common block_not_own6 a b valid.shared.payload_flags refl valid.extra6.payload_flags refl;
      refs = All-nil IsEndpoint;
      count = omega arith;
    }

residue-by : (full : Full) (t : Bool) → needs_residue6 full ≡ t → All IsShaped (residue6 full)
residue-by full true is =
    let made : residue6 full ≡ residue-block full ∷ [] = rw is refl in
    rw made (All-cons IsShaped (residue-block full) [] (residue-shaped full) (All-nil IsShaped))
residue-by full false is =
    let made : residue6 full ≡ [] = rw is refl in
    rw made (All-nil IsShaped)

blocks-shaped : (full : Full) → IsValid full → All IsShaped (blocks6_of full)
blocks-shaped full valid =
    let k = before_payload full in
    let front = map block6_of (take k full.exts) in
    let back = map block6_of (drop k full.exts) in
    All-append IsShaped (residue6 full) (front ++ payload6_of full ∷ back) (residue-by full (needs_residue6 full) refl)
    (All-append IsShaped front (payload6_of full ∷ back) (exts-shaped (take k full.exts) (All-take IsExt k full.exts valid.exts))
    (All-cons IsShaped (payload6_of full) back (payload-shaped full valid) (exts-shaped (drop k full.exts) (All-drop IsExt k full.exts valid.exts))))

-- ---- one payload

none-paid : (blocks : List Block6) → All (λ block. is_payload block ≡ false) blocks → count_by is_payload blocks ≡ 0
none-paid [] others = refl
none-paid (block ∷ blocks) others =
    let rest = none-paid blocks (All-tail (λ x. is_payload x ≡ false) block blocks others) in
    let count = sum_by-cons (λ x. cond (is_payload x) 1 0) block blocks in
    let none : cond (is_payload block) (suc zero) zero ≡ zero = rw (All-head (λ x. is_payload x ≡ false) block blocks others) refl in
    omega (arith, rest, count, none)

one-paid : (before after : List Block6) (payload : Block6) → All (λ block. is_payload block ≡ false) before
    → All (λ block. is_payload block ≡ false) after → is_payload payload ≡ true → count_by is_payload (before ++ payload ∷ after) ≡ 1
one-paid [] after payload first last is =
    let rest = none-paid after last in
    let count = sum_by-cons (λ x. cond (is_payload x) 1 0) payload after in
    let one : cond (is_payload payload) (suc zero) zero ≡ suc zero = rw is refl in
    omega (arith, rest, count, one)
one-paid (block ∷ before) after payload first last is =
    let rest = one-paid before after payload (All-tail (λ x. is_payload x ≡ false) block before first) last is in
    let count = sum_by-cons (λ x. cond (is_payload x) 1 0) block (before ++ payload ∷ after) in
    let none : cond (is_payload block) (suc zero) zero ≡ zero = rw (All-head (λ x. is_payload x ≡ false) block before first) refl in
    omega (arith, rest, count, none)

-- ---- the payload lies within the whole

other-within : (part : Option Fragment) (block : Block6) → is_payload block ≡ false → IsWithin part block
other-within None block other = tt
other-within (Some part) block other = λ payload. let no = sym payload ∙ other in absurd (cc)

payload-within : (part : Option Fragment) (content : Content) (block : Block6) → IsFragment part content → block.body ≡ octets6_of content
    → IsWithin part block
payload-within None content block is same = tt
payload-within (Some part) (contents.Bytes octets) block is same = λ payload. let long = ap length same in omega (arith, is.1, long)
payload-within (Some part) (contents.Report report) block is same = absurd is

all-within : (full : Full) → IsValid full
    → All (IsWithin full.shared.fragment) (before6 full ++ payload6_of full ∷ after6 full)
all-within full valid =
    let part = full.shared.fragment in
    All-append (IsWithin part) (before6 full) (payload6_of full ∷ after6 full)
    (All-weaker (λ block. is_payload block ≡ false) (IsWithin part) (λ block other. other-within part block other)
    (before6 full) (before6-others full valid.exts))
    (All-cons (IsWithin part) (payload6_of full) (after6 full)
    (payload-within part full.shared.content (payload6_of full) valid.shared.fragment refl)
    (All-weaker (λ block. is_payload block ≡ false) (IsWithin part) (λ block other. other-within part block other)
    (after6 full) (after6-others full valid.exts)))

-- ---- together

pub view6-legal : View6IsLegal
view6-legal full sound fits sizes =
    let valid = sound.valid in
    let shaped = blocks-shaped full valid in
    let parts = blocks6-parts full in
    record {
      primary = primary-is full valid;
      blocks = λ k d within. with-size _ (shaped k d within) (sizes k d within);
      one_payload = ap (count_by is_payload) parts
          ∙ one-paid (before6 full) (after6 full) (payload6_of full) (before6-others full valid.exts) (after6-others full valid.exts) refl;
      others_are_few = omega (arith, others-view6 full, leb-true _ 64 fits);
      within = subst (λ blocks. All (IsWithin full.shared.fragment) blocks) (sym parts) (all-within full valid);
    }
