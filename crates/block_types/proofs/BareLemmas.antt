-- A bare record is sound, and its version 7 view has no private block.

use Rattle.std.proofs.Common.{◌≡◌, ℕ, ◌+◌, ◌<◌, ◌^◌, Bool, true, false, not, if◌then◌else◌, List, [], ◌∷◌, All, refl, sym, ap, ◌∙◌, arith}
use Rattle.std.specs.List.{filter, list_all}
use Rattle.std.proofs.lemmas.Bool.{eq-eqb}
use Rattle.std.proofs.lemmas.List.Elements.{All-filter, All-head, All-tail}
use Rattle.std.proofs.lemmas.List.Sums.{length-filter, count_by-le-length}
use Rattle.endpoint.specs.Endpoints.{is_singleton}
use Rattle.bundle7.specs.declared.block.Block7.{Block7}
use Rattle.bundle_meaning.specs.declared.blocks.Block7Like.{Block7Like}
use Rattle.bundle_meaning.specs.declared.blocks.Ext.{Ext}
use Rattle.bundle_meaning.specs.declared.blocks.Ext.TheVariants.{Six, Seven}
use Rattle.bundle_meaning.specs.declared.report.Stamp.{Stamp}
use Rattle.bundle_meaning.specs.declared.report.Stamp.TheVariants.{No, Yes, At}
use Rattle.bundle_meaning.specs.declared.shared.Content.{Content}
use Rattle.bundle_meaning.specs.declared.shared.Content.TheVariants as contents
use Rattle.bundle_meaning.specs.declared.shared.Shared.{Shared}
use Rattle.bundle_meaning.specs.declared.full.Full.{Full}
use Rattle.bundle_meaning.specs.Bits.{is_without, not_own6}
use Rattle.bundle_meaning.specs.Blocks.{IsExt, sevens, is_marked}
use Rattle.bundle_meaning.specs.Defaults.{default6_of}
use Rattle.bundle_meaning.specs.Reports.{is_report, is_rest, are_rests}
use Rattle.bundle_meaning.specs.Valid.{IsFragment, IsContent, IsShared, IsExtra6}
use Rattle.endpoint.specs.declared.extent.Fragment.{Fragment}
use Rattle.std.proofs.Common.{Option, Some, None}
use Rattle.translate.specs.Sound.{IsSound}
use Rattle.translate.specs.View7.{has_no_rest, blocks7_of, residue7_at, next_free7, needs_residue7, view7_of}
use Rattle.translate.specs.Translation.{IsPlain7}
use Rattle.translate.proofs.PlainLaws.{view_is_normal}
use Rattle.block_types.specs.Bare.{is_seven, bare_content, bare_shared, bare_of}
use Rattle.block_types.specs.Laws.{BareViewIsPlain}

-- ---- the blocks of version 7

pub sevens-bare : (exts : List Ext) → sevens (filter is_seven exts) ≡ sevens exts
sevens-bare [] = refl
sevens-bare (Six block ∷ exts) = sevens-bare exts
sevens-bare (Seven block ∷ exts) = ap (λ (more : List Block7Like). block ∷ more) (sevens-bare exts)

-- the view's blocks, of which none is marked
plain-blocks : (all exts : List Ext) (next : ℕ) → All IsExt exts
    → list_all (λ (block : Block7). not (is_marked block.kind block.body)) (blocks7_of all next (filter is_seven exts)) ≡ true
unfolding blocks7_of
plain-blocks all [] next each = refl
plain-blocks all (Six block ∷ exts) next each = plain-blocks all exts next (All-tail IsExt (Six block) exts each)
plain-blocks all (Seven block ∷ exts) next each =
    rw ((All-head IsExt (Seven block) exts each).unmarked, plain-blocks all exts next (All-tail IsExt (Seven block) exts each)) refl

-- ---- a report with whole milliseconds

rest-zero : (stamp : Stamp) → is_rest stamp 0 ≡ true
rest-zero No = refl
rest-zero Yes = refl
rest-zero (At millis) = refl

no-rests : (stamps : List Stamp) → are_rests stamps [] ≡ true
no-rests [] = refl
no-rests (stamp ∷ stamps) = refl

rests-whole : (stamps : List Stamp) → are_rests stamps (0 ∷ 0 ∷ 0 ∷ 0 ∷ []) ≡ true
rests-whole [] = refl
rests-whole (a ∷ []) = rw (rest-zero a) refl
rests-whole (a ∷ b ∷ []) = rw (rest-zero a, rest-zero b) refl
rests-whole (a ∷ b ∷ c ∷ []) = rw (rest-zero a, rest-zero b, rest-zero c) refl
rests-whole (a ∷ b ∷ c ∷ d ∷ stamps) = rw (rest-zero a, rest-zero b, rest-zero c, rest-zero d) (no-rests stamps)

report-same : (content : Content) → is_report (bare_content content) ≡ is_report content
report-same (contents.Bytes octets) = refl
report-same (contents.Report report) = refl

content-bare : (content : Content) → IsContent content → IsContent (bare_content content)
content-bare (contents.Bytes octets) is = is
content-bare (contents.Report report) is = record {
  source = is.source;
  millis = is.millis;
  counterpart = is.counterpart;
  four_stamps = is.four_stamps;
  four_rests = refl;
  stamps = is.stamps;
  rests = rests-whole report.stamps;
  reason = is.reason;
  fragment = is.fragment;
}

fragment-bare : (part : Option Fragment) (content : Content) → IsFragment part content → IsFragment part (bare_content content)
fragment-bare None content is = tt
fragment-bare (Some part) (contents.Bytes octets) is = is
fragment-bare (Some part) (contents.Report report) is = is

shared-bare : (shared : Shared) → IsShared shared → IsShared (bare_shared shared)
shared-bare shared is = record {
  destination = is.destination;
  source = is.source;
  report_to = is.report_to;
  clock = is.clock;
  millis = is.millis;
  counterpart = is.counterpart;
  lives = is.lives;
  lifetime = is.lifetime;
  flags = is.flags;
  payload_flags = is.payload_flags;
  fragment_bit = is.fragment_bit;
  report_bit = is.report_bit ∙ sym (report-same shared.content);
  fragment = fragment-bare shared.fragment shared.content is.fragment;
  content = content-bare shared.content is.content;
}

extra-default : (shared : Shared) → IsExtra6 (default6_of shared)
extra-default shared = record {
  custodian = tt;
  flags = without (is_singleton shared.destination);
  flags_fit = fits (is_singleton shared.destination);
  payload_flags = refl;
  payload_flags_fit = omega arith;
  after_fits = omega arith;
}
  where
    without : (t : Bool) → is_without not_own6 (0x80 + (if t then 0x10 else 0)) ≡ true
    without true = refl
    without false = refl

    fits : (t : Bool) → 0x80 + (if t then 0x10 else 0) < 2 ^ 64
    fits true = omega arith
    fits false = omega arith

-- ---- the record

pub bare-sound : (full : Full) → IsSound full → IsSound (bare_of full)
unfolding bare_of
bare-sound full sound = record {
  valid = record {
    shared = shared-bare full.shared sound.valid.shared;
    extra6 = extra-default full.shared;
    extra7 = sound.valid.extra7;
    exts = All-filter is_seven IsExt full.exts sound.valid.exts;
    few = omega (arith, length-filter is_seven full.exts, count_by-le-length is_seven full.exts, sound.valid.few);
    after = omega arith;
    apart = rw (sevens-bare full.exts) sound.valid.apart;
  };
  bodies = rw (sevens-bare full.exts) sound.bodies;
}

no-rest : (content : Content) → has_no_rest (bare_content content) ≡ true
no-rest (contents.Bytes octets) = refl
no-rest (contents.Report report) = refl

no-residue : (full : Full) → needs_residue7 (bare_of full) ≡ false
unfolding bare_of
no-residue full =
    let flags = (default6_of full.shared).flags in
    rw (eq-eqb flags flags refl, no-rest full.shared.content) refl

plain-view : (full : Full) → IsSound full → IsPlain7 (view7_of (bare_of full))
unfolding bare_of
plain-view full sound =
    pick (needs_residue7 (bare_of full))
    (residue7_at (next_free7 (bare_of full).exts 2) (bare_of full) ∷ blocks7_of (bare_of full).exts (next_free7 (bare_of full).exts 2 + 1) (bare_of full).exts)
    (blocks7_of (bare_of full).exts 2 (bare_of full).exts) (no-residue full)
    (plain-blocks (bare_of full).exts full.exts 2 sound.valid.exts)
  where
    pick : (t : Bool) (xs ys : List Block7) → t ≡ false
        → list_all (λ (block : Block7). not (is_marked block.kind block.body)) ys ≡ true
        → list_all (λ (block : Block7). not (is_marked block.kind block.body)) (if t then xs else ys) ≡ true
    pick true xs ys is plain = absurd (cc)
    pick false xs ys is plain = plain

pub bare_view_is_plain : BareViewIsPlain
unfolding bare_of
bare_view_is_plain full sound = record {
  residue = no-residue full;
  plain = plain-view full sound;
  normal = view_is_normal.1 (bare_of full) (bare-sound full sound);
  sevens = sevens-bare full.exts;
}
