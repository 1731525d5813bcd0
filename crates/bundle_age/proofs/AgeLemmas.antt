-- Ages, and blocks that are ages.

use Rattle.std.proofs.Common.{◌≡◌, ℕ, ◌+◌, ◌<◌, ◌≤◌, ◌^◌, ◌==◌, nat_lt, Bool, true, false, not, ◌&&◌, ◌||◌, if◌then◌else◌, List, [], ◌∷◌, map, length, All, Option, Some, None, IfSome, Result, Ok, Err, refl, sym, ap, ◌∙◌, subst, arith, eqb-true}
use Rattle.std.specs.List.{list_any}
use Rattle.std.specs.Result.{result_ok}
use Rattle.std.specs.Int.{w8, w16, w32, w64, to_be_bytes}
use Rattle.std.proofs.lemmas.List.{length-map}
use Rattle.std.proofs.lemmas.List.Elements.{All-cons, All-head, All-tail}
use Rattle.cbor_lite.specs.Head.{first_octet}
use Rattle.wire_fields.specs.Format.{Spells}
use Rattle.wire_fields.specs.Refusal.{Stop}
use Rattle.wire_fields.specs.Reading.{IsOctets}
use Rattle.wire_fields.specs.Whole.{read_whole}
use Rattle.wire_fields.proofs.WholeLemmas.{whole-found, whole-only}
use Rattle.bundle7.specs.declared.fault.Cause7.{Cause7}
use Rattle.bundle7.specs.declared.fault.Cause7.TheVariants.{ExtensionBody}
use Rattle.bundle7.specs.Body.{age, bundle_age}
use Rattle.bundle_meaning.specs.declared.blocks.Block7Like.{Block7Like}
use Rattle.bundle_meaning.specs.declared.blocks.Ext.{Ext}
use Rattle.bundle_meaning.specs.declared.blocks.Ext.TheVariants.{Six, Seven}
use Rattle.bundle_meaning.specs.declared.full.Full.{Full}
use Rattle.bundle_meaning.specs.Blocks.{IsBlock7, IsExt, sevens, collide, are_apart}
use Rattle.translate.specs.Sound.{HasBody, IsSound}
use Rattle.bundle_age.specs.Raised.{age_in, age_octets, age_after, body_after, raised_block, raised_ext, raised_by, is_age, has_age}

-- ---- reading

pub age-some : (w : List ℕ) (n : ℕ) → Spells age [] w n → Some n ≡ age_in w
age-some w n spells = sym (ap result_ok (whole-only age ExtensionBody w n spells))

age-none : (w : List ℕ) → IsOctets w → ((n : ℕ) → Spells age [] w n → None ≡ Some n) → None ≡ age_in w
age-none w fits only = by (read_whole age ExtensionBody w) refl
  where
    by : (r : Result ℕ (ℕ × Stop Cause7)) → read_whole age ExtensionBody w ≡ r → None ≡ result_ok r
    by (Ok n) is = only n (whole-found age ExtensionBody w n fits is)
    by (Err e) is = refl

-- what code finds
pub age-is : (w : List ℕ) (result : Option ℕ) → IsOctets w → IfSome result (λ n. Spells age [] w n)
    → ((n : ℕ) → Spells age [] w n → result ≡ Some n) → result ≡ age_in w
age-is w (Some n) fits found only = age-some w n found
age-is w None fits found only = age-none w fits only

-- ---- writing

pub age-spells : (n : ℕ) → n < 2 ^ 64 → Spells age [] (age_octets n) n
age-spells n small = record { small = small; spelt = refl }

pub age-again : (n : ℕ) → n < 2 ^ 64 → age_in (age_octets n) ≡ Some n
age-again n small = sym (age-some (age_octets n) n (age-spells n small))

length-age : (n : ℕ) → length (age_octets n) ≤ 9
length-age n = by (nat_lt n 24) (nat_lt n (2 ^ 8)) (nat_lt n (2 ^ 16)) (nat_lt n (2 ^ 32))
  where
    by : (a b c d : Bool) → length (if a then first_octet 0 n ∷ []
        else if b then first_octet 0 24 ∷ to_be_bytes w8 n
        else if c then first_octet 0 25 ∷ to_be_bytes w16 n
        else if d then first_octet 0 26 ∷ to_be_bytes w32 n
        else first_octet 0 27 ∷ to_be_bytes w64 n) ≤ 9
    by true b c d = omega arith
    by false true c d = omega arith
    by false false true d = omega arith
    by false false false true = omega arith
    by false false false false = omega arith

-- ---- a block

after-small : (stay n : ℕ) → age_after stay n < 2 ^ 64
after-small stay n = omega arith

-- one that is an age, with this age
pub body-age : (stay n : ℕ) (block : Block7Like) → block.kind ≡ bundle_age → Spells age [] block.body n
    → body_after stay block.kind block.body ≡ age_octets (age_after stay n)
body-age stay n block kind spells = rw (kind, ← age-some block.body n spells) refl

pub body-other : (stay : ℕ) (block : Block7Like) → (block.kind == bundle_age) ≡ false → body_after stay block.kind block.body ≡ block.body
body-other stay block other = rw other refl

-- a block that is legal, with a body that its type may have
pub record IsGood (block : Block7Like) : Type 0 where
  pub legal : IsBlock7 block
  pub body : HasBody block

with_body : Block7Like → List ℕ → Block7Like
with_body block body = record block { body = body }

pub raised-other : (stay : ℕ) (block : Block7Like) → (block.kind == bundle_age) ≡ false → raised_block stay block ≡ block
raised-other stay block other = ap (λ (body : List ℕ). let b : Block7Like = record block { body = body } in b) (body-other stay block other)

pub raised-good : (stay : ℕ) (block : Block7Like) → IsGood block → IsGood (raised_block stay block)
raised-good stay block good = by (block.kind == bundle_age) refl
  where
    by : (t : Bool) → (block.kind == bundle_age) ≡ t → IsGood (raised_block stay block)
    by false other = subst IsGood (sym (raised-other stay block other)) good
    by true is =
        let seven : block.kind ≡ 7 = eqb-true block.kind 7 is in
        let (n, spells) = good.body.if_bundle_age seven in
        let body = body-age stay n block seven spells in record {
          legal = record {
            kind = good.legal.kind;
            extension = good.legal.extension;
            number = good.legal.number;
            number_fits = good.legal.number_fits;
            flags = good.legal.flags;
            crc = good.legal.crc;
            size = rw body (omega (arith, length-age (age_after stay n)));
            unmarked = rw seven refl;
          };
          body = record {
            if_previous_node = λ six. absurd (omega (arith, seven, six));
            if_bundle_age = λ _. (age_after stay n, rw body (age-spells (age_after stay n) (after-small stay n)));
            if_hop_count = λ ten. absurd (omega (arith, seven, ten));
          };
        }

-- ---- stays

pub raised-sum : (first second : ℕ) (block : Block7Like) → IsGood block
    → raised_block second (raised_block first block) ≡ raised_block (first + second) block
raised-sum first second block good = by (block.kind == bundle_age) refl
  where
    by : (t : Bool) → (block.kind == bundle_age) ≡ t → raised_block second (raised_block first block) ≡ raised_block (first + second) block
    by false other =
        ap (raised_block second) (raised-other first block other)
        ∙ (raised-other second block other ∙ sym (raised-other (first + second) block other))
    by true is =
        let seven : block.kind ≡ 7 = eqb-true block.kind 7 is in
        let (n, spells) = good.body.if_bundle_age seven in
        let once = body-age first n block seven spells in
        let spelled : Spells age [] (raised_block first block).body (age_after first n) =
        rw once (age-spells (age_after first n) (after-small first n)) in
        let twice = body-age second (age_after first n) (raised_block first block) seven spelled in
        let sum : age_after second (age_after first n) ≡ age_after (first + second) n = omega arith in
        ap (λ (body : List ℕ). let b : Block7Like = record block { body = body } in b)
        (twice ∙ (ap age_octets sum ∙ sym (body-age (first + second) n block seven spells)))

pub raised-none : (block : Block7Like) → IsGood block → raised_block 0 block ≡ block
raised-none block good = by (block.kind == bundle_age) refl
  where
    by : (t : Bool) → (block.kind == bundle_age) ≡ t → raised_block 0 block ≡ block
    by false other = raised-other 0 block other
    by true is =
        let seven : block.kind ≡ 7 = eqb-true block.kind 7 is in
        let (n, spells) = good.body.if_bundle_age seven in
        let same : age_after 0 n ≡ n = omega (arith, spells.small) in
        ap (λ (body : List ℕ). let b : Block7Like = record block { body = body } in b)
        (body-age 0 n block seven spells ∙ (ap age_octets same ∙ sym spells.spelt))

-- ---- all blocks

record AreGood (exts : List Ext) : Type 0 where
  each : All IsExt exts
  bodies : All HasBody (sevens exts)

first-good : (block : Block7Like) (exts : List Ext) → AreGood (Seven block ∷ exts) → IsGood block
first-good block exts good = record {
  legal = All-head IsExt (Seven block) exts good.each;
  body = All-head HasBody block (sevens exts) good.bodies;
}

rest-six : (ext : Ext) (exts : List Ext) → All IsExt (ext ∷ exts) → All HasBody (sevens exts) → AreGood exts
rest-six ext exts each bodies = record { each = All-tail IsExt ext exts each; bodies = bodies }

rest-seven : (block : Block7Like) (exts : List Ext) → AreGood (Seven block ∷ exts) → AreGood exts
rest-seven block exts good =
    rest-six (Seven block) exts good.each (All-tail HasBody block (sevens exts) good.bodies)

all-good : (stay : ℕ) (exts : List Ext) → AreGood exts → AreGood (map (raised_ext stay) exts)
all-good stay [] good = good
all-good stay (Six block ∷ exts) good =
    let rest = all-good stay exts (rest-six (Six block) exts good.each good.bodies) in record {
      each = All-cons IsExt (Six block) (map (raised_ext stay) exts) (All-head IsExt (Six block) exts good.each) rest.each;
      bodies = rest.bodies;
    }
all-good stay (Seven block ∷ exts) good =
    let own = raised-good stay block (first-good block exts good) in
    let rest = all-good stay exts (rest-seven block exts good) in record {
      each = All-cons IsExt (Seven (raised_block stay block)) (map (raised_ext stay) exts) own.legal rest.each;
      bodies = All-cons HasBody (raised_block stay block) (sevens (map (raised_ext stay) exts)) own.body rest.bodies;
    }

none-collides : (stay : ℕ) (one : Block7Like) (exts : List Ext)
    → list_any (collide (raised_block stay one)) (sevens (map (raised_ext stay) exts)) ≡ list_any (collide one) (sevens exts)
none-collides stay one [] = refl
none-collides stay one (Six block ∷ exts) = none-collides stay one exts
none-collides stay one (Seven block ∷ exts) = ap (λ (b : Bool). collide one block || b) (none-collides stay one exts)

apart-same : (stay : ℕ) (exts : List Ext) → are_apart (sevens (map (raised_ext stay) exts)) ≡ are_apart (sevens exts)
apart-same stay [] = refl
apart-same stay (Six block ∷ exts) = apart-same stay exts
apart-same stay (Seven block ∷ exts) =
    ap (λ (b : Bool). not b && are_apart (sevens (map (raised_ext stay) exts))) (none-collides stay block exts)
    ∙ ap (λ (b : Bool). not (list_any (collide block) (sevens exts)) && b) (apart-same stay exts)

good-of : (full : Full) → IsSound full → AreGood full.exts
good-of full sound = record { each = sound.valid.exts; bodies = sound.bodies }

pub raised-sound : (stay : ℕ) (full : Full) → IsSound full → IsSound (raised_by stay full)
unfolding raised_by
raised-sound stay full sound =
    let good = all-good stay full.exts (good-of full sound) in record {
      valid = record {
        shared = sound.valid.shared;
        extra6 = sound.valid.extra6;
        extra7 = sound.valid.extra7;
        exts = good.each;
        few = rw (length-map full.exts (raised_ext stay)) sound.valid.few;
        after = rw (length-map full.exts (raised_ext stay)) sound.valid.after;
        apart = apart-same stay full.exts ∙ sound.valid.apart;
      };
      bodies = good.bodies;
    }

sum-exts : (first second : ℕ) (exts : List Ext) → AreGood exts
    → map (raised_ext second) (map (raised_ext first) exts) ≡ map (raised_ext (first + second)) exts
sum-exts first second [] good = refl
sum-exts first second (Six block ∷ exts) good =
    ap (λ (more : List Ext). Six block ∷ more) (sum-exts first second exts (rest-six (Six block) exts good.each good.bodies))
sum-exts first second (Seven block ∷ exts) good =
    ap (λ (b : Block7Like). Seven b ∷ map (raised_ext second) (map (raised_ext first) exts)) (raised-sum first second block (first-good block exts good))
    ∙ ap (λ (more : List Ext). Seven (raised_block (first + second) block) ∷ more) (sum-exts first second exts (rest-seven block exts good))

none-exts : (exts : List Ext) → AreGood exts → map (raised_ext 0) exts ≡ exts
none-exts [] good = refl
none-exts (Six block ∷ exts) good =
    ap (λ (more : List Ext). Six block ∷ more) (none-exts exts (rest-six (Six block) exts good.each good.bodies))
none-exts (Seven block ∷ exts) good =
    ap (λ (b : Block7Like). Seven b ∷ map (raised_ext 0) exts) (raised-none block (first-good block exts good))
    ∙ ap (λ (more : List Ext). Seven block ∷ more) (none-exts exts (rest-seven block exts good))

or-none : (a b : Bool) → (a || b) ≡ false → (a ≡ false) × (b ≡ false)
or-none true b is = absurd (cc)
or-none false b is = (refl, is)

ageless-exts : (stay : ℕ) (exts : List Ext) → list_any is_age exts ≡ false → map (raised_ext stay) exts ≡ exts
ageless-exts stay [] none = refl
ageless-exts stay (Six block ∷ exts) none = ap (λ (more : List Ext). Six block ∷ more) (ageless-exts stay exts none)
ageless-exts stay (Seven block ∷ exts) none =
    let parts = or-none (block.kind == bundle_age) (list_any is_age exts) none in
    ap (λ (b : Block7Like). Seven b ∷ map (raised_ext stay) exts) (raised-other stay block parts.0)
    ∙ ap (λ (more : List Ext). Seven block ∷ more) (ageless-exts stay exts parts.1)

abbrev with_exts : Full → List Ext → Full
with_exts full exts = record full { exts = exts }

pub raised-stays : (first second : ℕ) (full : Full) → IsSound full → raised_by second (raised_by first full) ≡ raised_by (first + second) full
unfolding raised_by
raised-stays first second full sound = ap (with_exts full) (sum-exts first second full.exts (good-of full sound))

pub raised-nothing : (full : Full) → IsSound full → raised_by 0 full ≡ full
unfolding raised_by
raised-nothing full sound = ap (with_exts full) (none-exts full.exts (good-of full sound))

pub raised-ageless : (stay : ℕ) (full : Full) → has_age full ≡ false → raised_by stay full ≡ full
unfolding raised_by
raised-ageless stay full none = ap (with_exts full) (ageless-exts stay full.exts none)
