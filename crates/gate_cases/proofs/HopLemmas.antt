-- A hop count with one hop more is a hop count.
use Rattle.std.proofs.Common.{◌≡◌, ℕ, ◌+◌, ◌<◌, ◌≤◌, ◌^◌, ◌==◌, Bool, true, false, if◌then◌else◌, List, [], ◌++◌, length, length-append, Option, Some, None, IfSome, Result, Ok, Err, refl, sym, ap, subst, arith, eqb-true}
use Rattle.std.specs.Result.{result_ok}
use Rattle.std.proofs.lemmas.Bool.{ltb-false}
use Rattle.std.proofs.lemmas.List.{append-nil}
use Rattle.cbor_lite.specs.Head.{head}
use Rattle.wire_fields.specs.Format.{Spells}
use Rattle.wire_fields.specs.Refusal.{Stop}
use Rattle.wire_fields.specs.Reading.{IsOctets}
use Rattle.wire_fields.specs.Whole.{read_whole}
use Rattle.wire_fields.proofs.WholeLemmas.{whole-found, whole-only}
use Rattle.bundle7.specs.declared.body.Hop.{Hop}
use Rattle.bundle7.specs.declared.fault.Cause7.{Cause7}
use Rattle.bundle7.specs.declared.fault.Cause7.TheVariants.{ExtensionBody}
use Rattle.bundle7.specs.Body.{hop, hop_count}
use Rattle.bundle_meaning.specs.declared.blocks.Block7Like.{Block7Like}
use Rattle.bundle_meaning.specs.declared.blocks.Ext.TheVariants.{Seven}
use Rattle.bundle_meaning.specs.Blocks.{IsBlock7}
use Rattle.translate.specs.Sound.{HasBody}
use Rattle.gate_cases.specs.Passage.{hop_in, hop_octets, is_last, ends_here, one_more_in, counted}
use Rattle.gate_cases.proofs.LengthLemmas.{length-head}

-- ---- reading

pub hop-some : (w : List ℕ) (h : Hop) → Spells hop [] w h → Some h ≡ hop_in w
hop-some w h spells = sym (ap result_ok (whole-only hop ExtensionBody w h spells))

pub hop-none : (w : List ℕ) → IsOctets w → ((h : Hop) → Spells hop [] w h → None ≡ Some h) → None ≡ hop_in w
hop-none w fits only = by (read_whole hop ExtensionBody w) refl
  where
    by : (r : Result Hop (ℕ × Stop Cause7)) → read_whole hop ExtensionBody w ≡ r → None ≡ result_ok r
    by (Ok h) is = only h (whole-found hop ExtensionBody w h fits is)
    by (Err e) is = refl

-- what code finds
pub hop-is : (w : List ℕ) (result : Option Hop) → IsOctets w → IfSome result (λ h. Spells hop [] w h)
    → ((h : Hop) → Spells hop [] w h → result ≡ Some h) → result ≡ hop_in w
hop-is w (Some h) fits found only = hop-some w h found
hop-is w None fits found only = hop-none w fits only

-- ---- one hop more

abbrev raised : Hop → Hop
raised h = record { limit = h.limit; count = h.count + 1 }

-- where one hop is left, the count with one more is a number, and within the limit
pub hop-left : (h : Hop) → is_last (Some h) ≡ false → h.count + 1 ≤ h.limit
hop-left h left = omega (arith, ltb-false h.limit (h.count + 1) left)

raised-spells : (w : List ℕ) (h : Hop) → Spells hop [] w h → is_last (Some h) ≡ false → Spells hop [] (hop_octets (raised h)) (raised h)
unfolding hop
raised-spells w h (
  u,
  v,
  items,
  parts,
  (items_spelled, two),
  (
    u1,
    v1,
    limit,
    parts1,
    (limit_spelled, in_range),
    (u2, v2, count, parts2, count_spelled, (nothing, is)),
  ),
) left =
    let limit_is : h.limit ≡ limit = ap (λ (x : Hop). x.limit) is in
    let small : h.count + 1 < 2 ^ 64 = omega (arith, hop-left h left, limit_is, limit_spelled.small) in (
      head 4 2,
      head 0 h.limit ++ head 0 (h.count + 1),
      2,
      refl,
      (record { small = omega arith; spelt = refl }, refl),
      (
        head 0 h.limit,
        head 0 (h.count + 1),
        h.limit,
        refl,
        (record { small = omega (arith, limit_is, limit_spelled.small); spelt = refl }, rw limit_is in_range),
        (head 0 (h.count + 1), [], h.count + 1, sym (append-nil (head 0 (h.count + 1))), record { small = small; spelt = refl }, (refl, refl)),
      ),
    )

length-hop : (h : Hop) → length (hop_octets h) ≤ 27
length-hop h =
    omega (
      arith,
      length-head 4 2,
      length-head 0 h.limit,
      length-head 0 h.count,
      length-append (head 4 2) (head 0 h.limit ++ head 0 h.count),
      length-append (head 0 h.limit) (head 0 h.count),
    )

-- ---- the block

pub record IsGood (block : Block7Like) : Type 0 where
  pub legal : IsBlock7 block
  pub body : HasBody block

-- a block that counts hops
counted-hop : (block : Block7Like) (h : Hop) → IsGood block → (block.kind == hop_count) ≡ true → Spells hop [] block.body h
    → is_last (Some h) ≡ false → IsGood (counted block)
counted-hop block h good is spells left =
    let ten : block.kind ≡ 10 = eqb-true block.kind 10 is in
    let body : (if block.kind == hop_count then one_more_in (hop_in block.body) block.body else block.body) ≡ hop_octets (raised h) =
    rw (is, ← hop-some block.body h spells) refl in record {
      legal = record {
        kind = good.legal.kind;
        extension = good.legal.extension;
        number = good.legal.number;
        number_fits = good.legal.number_fits;
        flags = good.legal.flags;
        crc = good.legal.crc;
        size = rw body (omega (arith, length-hop (raised h)));
        unmarked = rw ten refl;
      };
      body = record {
        if_previous_node = λ six. absurd (omega (arith, ten, six));
        if_bundle_age = λ seven. absurd (omega (arith, ten, seven));
        if_hop_count = λ _. (raised h, rw body (raised-spells block.body h spells left));
      };
    }

counted-other : (block : Block7Like) → IsGood block → (block.kind == hop_count) ≡ false → IsGood (counted block)
counted-other block good is = record {
  legal = record {
    kind = good.legal.kind;
    extension = good.legal.extension;
    number = good.legal.number;
    number_fits = good.legal.number_fits;
    flags = good.legal.flags;
    crc = good.legal.crc;
    size = rw is good.legal.size;
    unmarked = rw is good.legal.unmarked;
  };
  body = rw is good.body;
}

pub counted-good : (block : Block7Like) → IsGood block → ends_here (Seven block) ≡ false → IsGood (counted block)
counted-good block good left = by (block.kind == hop_count) refl
  where
    by : (t : Bool) → (block.kind == hop_count) ≡ t → IsGood (counted block)
    by true is =
        let (h, spells) = good.body.if_hop_count (eqb-true block.kind 10 is) in
        let last : is_last (hop_in block.body) ≡ false = rw is at left in
        counted-hop block h good is spells (subst (λ (o : Option Hop). is_last o ≡ false) (sym (hop-some block.body h spells)) last)
    by false is = counted-other block good is
