-- The record that goes on is sound where the record that came is.
use Rattle.std.proofs.Common.{◌≡◌, ℕ, ◌-◌, ◌≤◌, Bool, true, false, not, ◌&&◌, ◌||◌, cond, List, [], ◌∷◌, map, length, drop, All, refl, ◌∙◌, arith}
use Rattle.std.specs.List.{filter, count_by, list_any}
use Rattle.std.proofs.lemmas.List.{length-map}
use Rattle.std.proofs.lemmas.List.Elements.{All-cons, All-head, All-tail}
use Rattle.std.proofs.lemmas.List.Sums.{length-filter, count_by-le-length, sum_by-take-drop}
use Rattle.bundle_meaning.specs.declared.blocks.Block7Like.{Block7Like}
use Rattle.bundle_meaning.specs.declared.blocks.Ext.{Ext}
use Rattle.bundle_meaning.specs.declared.blocks.Ext.TheVariants.{Six, Seven}
use Rattle.bundle_meaning.specs.declared.full.Full.{Full}
use Rattle.bundle_meaning.specs.Blocks.{IsExt, sevens, collide, are_apart}
use Rattle.translate.specs.Sound.{HasBody, IsSound}
use Rattle.gate_cases.specs.Passage.{ends_here, has_no_hop_left, counted, counted_ext, goes_on, after_of, passage}
use Rattle.gate_cases.proofs.HopLemmas.{IsGood, counted-good}

-- the blocks that go on
abbrev pub on : List Ext → List Ext
on exts = map counted_ext (filter goes_on exts)

or-none : (a b : Bool) → (a || b) ≡ false → (a ≡ false) × (b ≡ false)
or-none true b is = absurd (cc)
or-none false b is = (refl, is)

-- ---- each

record AreGood (exts : List Ext) : Type 0 where
  each : All IsExt exts
  bodies : All HasBody (sevens exts)

good-more : (block : Block7Like) (exts : List Ext) → IsGood block → AreGood exts → AreGood (Seven block ∷ exts)
good-more block exts good others = record {
  each = All-cons IsExt (Seven block) exts good.legal others.each;
  bodies = All-cons HasBody block (sevens exts) good.body others.bodies;
}

good-on : (exts : List Ext) → AreGood exts → has_no_hop_left exts ≡ false → AreGood (on exts)
good-on [] good left = good
good-on (Six block ∷ exts) good left =
    let rest = good-on exts (record { each = All-tail IsExt (Six block) exts good.each; bodies = good.bodies }) left in record {
      each = All-cons IsExt (Six block) (on exts) (All-head IsExt (Six block) exts good.each) rest.each;
      bodies = rest.bodies;
    }
good-on (Seven block ∷ exts) good left =
    let parts = or-none (ends_here (Seven block)) (has_no_hop_left exts) left in
    let rest = good-on exts (record {
      each = All-tail IsExt (Seven block) exts good.each;
      bodies = All-tail HasBody block (sevens exts) good.bodies;
    }) parts.1 in
    let own : IsGood block = record {
      legal = All-head IsExt (Seven block) exts good.each;
      body = All-head HasBody block (sevens exts) good.bodies;
    } in
    by (goes_on (Seven block)) (good-more (counted block) (on exts) (counted-good block own parts.0) rest) rest
  where
    by : (t : Bool) → AreGood (Seven (counted block) ∷ on exts) → AreGood (on exts)
        → AreGood (map counted_ext (cond t (Seven block ∷ filter goes_on exts) (filter goes_on exts)))
    by true more rest = more
    by false more rest = rest

-- ---- apart

-- what collides with none of the blocks, collides with none that goes on
none-on : (one : Block7Like) (exts : List Ext) → list_any (collide one) (sevens exts) ≡ false → list_any (collide one) (sevens (on exts)) ≡ false
none-on one [] none = none
none-on one (Six block ∷ exts) none = none-on one exts none
none-on one (Seven block ∷ exts) none = by (goes_on (Seven block)) (none-on one exts parts.1)
  where
    parts : (collide one block ≡ false) × (list_any (collide one) (sevens exts) ≡ false)
    parts = or-none (collide one block) (list_any (collide one) (sevens exts)) none

    by : (t : Bool) → list_any (collide one) (sevens (on exts)) ≡ false
        → list_any (collide one) (sevens (map counted_ext (cond t (Seven block ∷ filter goes_on exts) (filter goes_on exts)))) ≡ false
    by true rest = rw (parts.0, rest) refl
    by false rest = rest

apart-on : (exts : List Ext) → are_apart (sevens exts) ≡ true → are_apart (sevens (on exts)) ≡ true
apart-on [] apart = apart
apart-on (Six block ∷ exts) apart = apart-on exts apart
apart-on (Seven block ∷ exts) apart = by (goes_on (Seven block)) (apart-on exts parts.1)
  where
    split : (a b : Bool) → (not a && b) ≡ true → (a ≡ false) × (b ≡ true)
    split true b is = absurd (cc)
    split false b is = (refl, is)

    parts : (list_any (collide block) (sevens exts) ≡ false) × (are_apart (sevens exts) ≡ true)
    parts = split (list_any (collide block) (sevens exts)) (are_apart (sevens exts)) apart

    by : (t : Bool) → are_apart (sevens (on exts)) ≡ true
        → are_apart (sevens (map counted_ext (cond t (Seven block ∷ filter goes_on exts) (filter goes_on exts)))) ≡ true
    by true rest = rw (none-on block exts parts.0, rest) refl
    by false rest = rest

-- ---- the record

count-drop : {X : Type 0} (p : X → Bool) (n : ℕ) (xs : List X) → count_by p (drop n xs) ≤ count_by p xs
count-drop p n xs = omega (arith, sum_by-take-drop (λ x. cond (p x) 1 0) xs n)

length-on : (exts : List Ext) → length (on exts) ≡ count_by goes_on exts
length-on exts = length-map (filter goes_on exts) counted_ext ∙ length-filter goes_on exts

pub passage-sound : (full : Full) → IsSound full → has_no_hop_left full.exts ≡ false → IsSound (passage full)
passage-sound full sound left =
    let good = good-on full.exts (record { each = sound.valid.exts; bodies = sound.bodies }) left in
    let few : length (on full.exts) ≤ 64 =
    omega (arith, length-on full.exts, count_by-le-length goes_on full.exts, sound.valid.few) in
    let after : after_of full.extra6.after full.exts ≤ length (on full.exts) =
    omega (arith, length-on full.exts, count-drop goes_on (length full.exts - full.extra6.after) full.exts) in record {
      valid = record {
        shared = sound.valid.shared;
        extra6 = record {
          custodian = sound.valid.extra6.custodian;
          flags = sound.valid.extra6.flags;
          flags_fit = sound.valid.extra6.flags_fit;
          payload_flags = sound.valid.extra6.payload_flags;
          payload_flags_fit = sound.valid.extra6.payload_flags_fit;
          after_fits = omega (arith, after, few);
        };
        extra7 = sound.valid.extra7;
        exts = good.each;
        few = few;
        after = after;
        apart = apart-on full.exts sound.valid.apart;
      };
      bodies = good.bodies;
    }
