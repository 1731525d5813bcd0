-- Each piece of a valid record is valid.

use Rattle.std.proofs.Common.{◌≡◌, ℕ, zero, suc, ◌+◌, ◌-◌, ◌*◌, ◌^◌, ◌<◌, ◌≤◌, Bool, true, false, not, ◌&&◌, ◌||◌, cond, eqb, List, [], ◌∷◌, length, drop, min, max, Option, None, Some, bit_and, bit_or, refl, sym, ap, ◌∙◌, arith, eq-eqb, eqb-true}
use Rattle.std.specs.List.{filter, count_by, list_any, All}
use Rattle.std.specs.Int.{bit_at}
use Rattle.std.specs.Int.Bits.{or_add_and}
use Rattle.std.proofs.lemmas.Bool.{ltb-true}
use Rattle.std.proofs.lemmas.List.{length-take, length-drop}
use Rattle.std.proofs.lemmas.List.Sums.{length-filter, count_by-le-length, sum_by-take-drop}
use Rattle.std.proofs.lemmas.List.Elements.{All-filter, All-nil, All-cons}
use Rattle.std.proofs.lemmas.Nat.{and_le_l, and_le_r}
use Rattle.std.proofs.lemmas.Nat.Bits.{bit_at_and, bit_at_or, bit_at-lt, same_from_bits_below}
use Rattle.endpoint.specs.declared.extent.Fragment.{Fragment}
use Rattle.bundle_meaning.specs.declared.shared.Content.{Content}
use Rattle.bundle_meaning.specs.declared.shared.Content.TheVariants.{Bytes, Report}
use Rattle.bundle_meaning.specs.declared.shared.Shared.{Shared}
use Rattle.bundle_meaning.specs.declared.blocks.Block7Like.{Block7Like}
use Rattle.bundle_meaning.specs.declared.blocks.Ext.{Ext}
use Rattle.bundle_meaning.specs.declared.blocks.Ext.TheVariants.{Six, Seven}
use Rattle.bundle_meaning.specs.declared.full.Full.{Full}
use Rattle.bundle_meaning.specs.Bits.{has_bit, is_within, common}
use Rattle.bundle_meaning.specs.Blocks.{IsExt, sevens, collide, are_apart}
use Rattle.bundle_meaning.specs.Reports.{is_report}
use Rattle.bundle_meaning.specs.Valid.{IsFragment, IsContent, IsShared, IsValid}
use Rattle.fragments.specs.Cutting.{octets_of, octets_in, place_of, place_in, how_many, is_longer, is_replicated, exts_in, after_in, fragment_of, piece, pieces_from}
use Rattle.fragments.proofs.CuttingLemmas.{begins-within}

-- ---- flags

within-or : (m a b : ℕ) → a < 2 ^ 64 → b < 2 ^ 64 → bit_or a b < 2 ^ 64 → bit_and a m ≡ a → bit_and b m ≡ b → bit_and (bit_or a b) m ≡ bit_or a b
within-or m a b sa sb so wa wb =
    same_from_bits_below 64 (bit_and (bit_or a b) m) (bit_or a b) (omega (arith, and_le_l (bit_or a b) m, so)) so (λ i _.
    let ia : min (bit_at a i) (bit_at m i) ≡ bit_at a i = sym (bit_at_and a m i) ∙ ap (λ x. bit_at x i) wa in
    let ib : min (bit_at b i) (bit_at m i) ≡ bit_at b i = sym (bit_at_and b m i) ∙ ap (λ x. bit_at x i) wb in
    let both : min (max (bit_at a i) (bit_at b i)) (bit_at m i) ≡ max (bit_at a i) (bit_at b i) = omega (arith, ia, ib) in
    bit_at_and (bit_or a b) m i ∙ ap (λ x. min x (bit_at m i)) (bit_at_or a b i) ∙ both ∙ sym (bit_at_or a b i))

-- ---- blocks

count-drop : {X : Type 0} (p : X → Bool) (n : ℕ) (xs : List X) → count_by p (drop n xs) ≤ count_by p xs
count-drop p n xs = omega (arith, sum_by-take-drop (λ x. cond (p x) 1 0) xs n)

-- what none of the blocks is, none of those that are kept is
none-kept : (q : Block7Like → Bool) (p : Ext → Bool) (exts : List Ext) → list_any q (sevens exts) ≡ false
    → list_any q (sevens (filter p exts)) ≡ false
none-kept q p [] none = none
none-kept q p (Six block ∷ exts) none = by (p (Six block)) (none-kept q p exts none)
  where
    by : (t : Bool) → list_any q (sevens (filter p exts)) ≡ false
        → list_any q (sevens (cond t (Six block ∷ filter p exts) (filter p exts))) ≡ false
    by true rest = rest
    by false rest = rest
none-kept q p (Seven block ∷ exts) none =
    let parts = or-none (q block) (list_any q (sevens exts)) none in
    by (p (Seven block)) (none-kept q p exts parts.1)
  where
    or-none : (a b : Bool) → (a || b) ≡ false → (a ≡ false) × (b ≡ false)
    or-none true b is = absurd (cc)
    or-none false b is = (refl, is)

    by : (t : Bool) → list_any q (sevens (filter p exts)) ≡ false
        → list_any q (sevens (cond t (Seven block ∷ filter p exts) (filter p exts))) ≡ false
    by true rest = rw ((or-none (q block) (list_any q (sevens exts)) none).0, rest) refl
    by false rest = rest

apart-kept : (p : Ext → Bool) (exts : List Ext) → are_apart (sevens exts) ≡ true → are_apart (sevens (filter p exts)) ≡ true
apart-kept p [] apart = apart
apart-kept p (Six block ∷ exts) apart = by (p (Six block)) (apart-kept p exts apart)
  where
    by : (t : Bool) → are_apart (sevens (filter p exts)) ≡ true
        → are_apart (sevens (cond t (Six block ∷ filter p exts) (filter p exts))) ≡ true
    by true rest = rest
    by false rest = rest
apart-kept p (Seven block ∷ exts) apart = by (p (Seven block)) (apart-kept p exts parts.1)
  where
    split : (a b : Bool) → (not a && b) ≡ true → (a ≡ false) × (b ≡ true)
    split true b is = absurd (cc)
    split false b is = (refl, is)

    parts : (list_any (collide block) (sevens exts) ≡ false) × (are_apart (sevens exts) ≡ true)
    parts = split (list_any (collide block) (sevens exts)) (are_apart (sevens exts)) apart

    by : (t : Bool) → are_apart (sevens (filter p exts)) ≡ true
        → are_apart (sevens (cond t (Seven block ∷ filter p exts) (filter p exts))) ≡ true
    by true rest = rw (none-kept (collide block) p exts parts.0, rest) refl
    by false rest = rest

-- the blocks of a piece
record AreFew (i after : ℕ) (exts : List Ext) : Type 0 where
  each : All IsExt (exts_in i exts)
  few : length (exts_in i exts) ≤ 64
  after_few : after_in i after exts ≤ length (exts_in i exts)
  apart : are_apart (sevens (exts_in i exts)) ≡ true

are-few : (i after : ℕ) (exts : List Ext) → All IsExt exts → length exts ≤ 64 → after ≤ length exts
    → are_apart (sevens exts) ≡ true → AreFew i after exts
are-few zero after exts each few low apart = record { each = each; few = few; after_few = low; apart = apart }
are-few (suc i) after exts each few low apart =
    let long = length-filter is_replicated exts in record {
      each = All-filter is_replicated IsExt exts each;
      few = omega (arith, long, count_by-le-length is_replicated exts, few);
      after_few = omega (arith, long, count-drop is_replicated (length exts - after) exts);
      apart = apart-kept is_replicated exts apart;
    }

-- ---- the shared part

record Lies (part : Fragment) (octets : List ℕ) : Type 0 where
  total : part.total < 2 ^ 64
  within : part.offset + length octets ≤ part.total

-- where the payload of a record lies
lies : (fragment : Option Fragment) (content : Content) → IsFragment fragment content → IsContent content
    → 0 < length (octets_of content) → Lies (place_of fragment (length (octets_of content))) (octets_of content)
lies None (Bytes octets) part small some = record { total = small; within = omega arith }
lies (Some part) (Bytes octets) (total, within) small some = record { total = total; within = within }
lies fragment (Report report) part small some = absurd (omega (arith, some))

-- a part of it
lies-in : (size i : ℕ) (part : Fragment) (octets : List ℕ) → Lies part octets → i * size ≤ length octets
    → Lies (place_in size i part) (octets_in size i octets)
lies-in size i part octets lies low =
    let long : length (octets_in size i octets) ≡ min size (length octets - i * size) =
    length-take size (drop (i * size) octets) ∙ ap (λ n. min size n) (length-drop (i * size) octets) in
    record { total = lies.total; within = omega (arith, lies.within, long, low) }

no-report : (content : Content) → 0 < length (octets_of content) → is_report content ≡ false
no-report (Bytes octets) some = refl
no-report (Report report) some = absurd (omega (arith, some))

has_first : (f : ℕ) → has_bit 1 (bit_or f 1) ≡ has_bit 1 f
has_first f =
    let low = bit_at-lt f 1 in
    ap (λ a. eqb a 1) (bit_at_or f 1 1 ∙ omega (arith, low))

has_lowest : (f : ℕ) → has_bit 0 (bit_or f 1) ≡ true
has_lowest f =
    let low = bit_at-lt f 0 in
    let one : bit_at (bit_or f 1) 0 ≡ 1 = bit_at_or f 1 0 ∙ omega (arith, low) in
    eq-eqb (bit_at (bit_or f 1) 0) 1 one

pub flags-within : (f : ℕ) → is_within common f ≡ true → is_within common (bit_or f 1) ≡ true
flags-within f within =
    let inner : bit_and f common ≡ f = eqb-true (bit_and f common) f within in
    let small : f < 2 ^ 20 = omega (arith, inner, and_le_r f common) in
    eq-eqb (bit_and (bit_or f 1) common) (bit_or f 1)
    (within-or common f 1 (omega (arith, small)) (omega arith) (omega (arith, or_add_and f 1, small)) inner refl)

valid-shared : (shared : Shared) (part : Fragment) (octets : List ℕ) → IsShared shared → is_report shared.content ≡ false
    → Lies part octets → IsShared (fragment_of shared part octets)
valid-shared shared part octets valid none lies = record {
  destination = valid.destination;
  source = valid.source;
  report_to = valid.report_to;
  clock = valid.clock;
  millis = valid.millis;
  counterpart = valid.counterpart;
  lives = valid.lives;
  lifetime = valid.lifetime;
  flags = flags-within shared.flags valid.flags;
  payload_flags = valid.payload_flags;
  fragment_bit = has_lowest shared.flags;
  report_bit = has_first shared.flags ∙ valid.report_bit ∙ none;
  fragment = (lies.total, lies.within);
  content = omega (arith, lies.total, lies.within);
}

-- ---- pieces

pub valid-piece : (full : Full) (size i : ℕ) → IsValid full → is_longer full size ≡ true
    → i < how_many size (octets_of full.shared.content) → IsValid (piece full size i)
valid-piece full size i valid longer within =
    let octets = octets_of full.shared.content in
    let some : size < length octets = ltb-true size (length octets) longer in
    let begun : i * size < length octets = begins-within size i octets (omega (arith, some)) within in
    let all = lies full.shared.fragment full.shared.content valid.shared.fragment valid.shared.content (omega (arith, some)) in
    let part = lies-in size i (place_of full.shared.fragment (length octets)) octets all (omega (arith, begun)) in
    let blocks = are-few i full.extra6.after full.exts valid.exts valid.few valid.after valid.apart in record {
      shared = valid-shared full.shared _ _ valid.shared (no-report full.shared.content (omega (arith, some))) part;
      extra6 = record {
        custodian = valid.extra6.custodian;
        flags = valid.extra6.flags;
        flags_fit = valid.extra6.flags_fit;
        payload_flags = valid.extra6.payload_flags;
        payload_flags_fit = valid.extra6.payload_flags_fit;
        after_fits = omega (arith, blocks.after_few, blocks.few);
      };
      extra7 = valid.extra7;
      exts = blocks.each;
      few = blocks.few;
      after = blocks.after_few;
      apart = blocks.apart;
    }

pub valid-pieces : (full : Full) (size i n : ℕ) → IsValid full → is_longer full size ≡ true
    → i + n ≤ how_many size (octets_of full.shared.content) → All IsValid (pieces_from full size i n)
unfolding pieces_from
valid-pieces full size i zero valid longer within = All-nil IsValid
valid-pieces full size i (suc n) valid longer within =
    All-cons IsValid (piece full size i) (pieces_from full size (i + 1) n)
    (valid-piece full size i valid longer (omega (arith, within)))
    (valid-pieces full size (i + 1) n valid longer (omega (arith, within)))
