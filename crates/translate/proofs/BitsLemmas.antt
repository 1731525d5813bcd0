-- Flags taken apart by a mask, and put together again.

use Rattle.std.proofs.Common.{◌≡◌, ◌≢◌, ℕ, zero, suc, ◌+◌, ◌-◌, ◌*◌, ◌%◌, ◌^◌, ◌<◌, min, max, Bool, true, false, eqb, refl, sym, ap, ◌∙◌, arith, bit_and, bit_or, bit_xor, eq-eqb, eqb-true}
use Rattle.std.specs.Int.{bit_at}
use Rattle.std.specs.Int.Bits.{and_self, xor_add_and}
use Rattle.std.proofs.lemmas.Nat.{and_assoc, and_comm, and_le_l, or_disjoint, and_or_apart}
use Rattle.std.proofs.lemmas.Nat.Bits.{bit_at_and, bit_at_or, bit_at_xor, bit_at-zero, bit_at-lt, bit_at-pow_other, same_from_bits_below}
use Rattle.bundle_meaning.specs.Bits.{has_bit, is_within, is_without}

-- ---- bit by bit

no_bits : (a : ℕ) → a < 2 ^ 64 → ((i : ℕ) → i < 64 → bit_at a i ≡ 0) → a ≡ 0
no_bits a small none = same_from_bits_below 64 a 0 small (omega arith) (λ i within. none i within ∙ sym (bit_at-zero i))

and-small : (a b : ℕ) → a < 2 ^ 64 → bit_and a b < 2 ^ 64
and-small a b small = omega (arith, and_le_l a b)

-- a bit that a mask takes away isn't in it
taken_away : (p q : ℕ) → p < 2 → q < 2 → min ((p + min p q) % 2) q ≡ 0
taken_away zero zero hp hq = refl
taken_away zero (suc zero) hp hq = refl
taken_away (suc zero) zero hp hq = refl
taken_away (suc zero) (suc zero) hp hq = refl
taken_away (suc (suc p)) q hp hq = absurd (omega (arith, hp))
taken_away zero (suc (suc q)) hp hq = absurd (omega (arith, hq))
taken_away (suc zero) (suc (suc q)) hp hq = absurd (omega (arith, hq))

-- a bit that wasn't set isn't set when others are taken away
not_added : (p q n : ℕ) → p < 2 → q < 2 → n < 2 → min p n ≡ 0 → min ((p + min p q) % 2) n ≡ 0
not_added zero zero n hp hq hn none = none
not_added zero (suc zero) n hp hq hn none = none
not_added (suc zero) zero n hp hq hn none = none
not_added (suc zero) (suc zero) zero hp hq hn none = refl
not_added (suc zero) (suc zero) (suc zero) hp hq hn none = refl
not_added (suc zero) (suc zero) (suc (suc n)) hp hq hn none = absurd (omega (arith, hn))
not_added (suc (suc p)) q n hp hq hn none = absurd (omega (arith, hp))
not_added zero (suc (suc q)) n hp hq hn none = absurd (omega (arith, hq))
not_added (suc zero) (suc (suc q)) n hp hq hn none = absurd (omega (arith, hq))

both_clear : (p a b : ℕ) → p < 2 → a < 2 → b < 2 → min p a ≡ 0 → min p b ≡ 0 → min p (max a b) ≡ 0
both_clear zero a b hp ha hb na nb = omega arith
both_clear (suc zero) zero zero hp ha hb na nb = refl
both_clear (suc zero) (suc zero) b hp ha hb na nb = absurd (cc)
both_clear (suc zero) zero (suc zero) hp ha hb na nb = absurd (cc)
both_clear (suc (suc p)) a b hp ha hb na nb = absurd (omega (arith, hp))
both_clear (suc zero) (suc (suc a)) b hp ha hb na nb = absurd (omega (arith, ha))
both_clear (suc zero) zero (suc (suc b)) hp ha hb na nb = absurd (omega (arith, hb))

-- ---- what a mask leaves

-- the flags without those of a mask
pub own-xor : (m f : ℕ) → f - bit_and f m ≡ bit_xor f (bit_and f m)
own-xor m f =
    let inner : bit_and f (bit_and f m) ≡ bit_and f m = sym (and_assoc m f f) ∙ ap (λ a. bit_and a m) (and_self f) in
    let sum : bit_xor f (bit_and f m) + bit_and f m * 2 ≡ f + bit_and f m =
    ap (λ a. bit_xor f (bit_and f m) + a * 2) (sym inner) ∙ xor_add_and f (bit_and f m) in
    omega (arith, sum, and_le_l f m)

own-bit : (m f i : ℕ) → bit_at (f - bit_and f m) i ≡ (bit_at f i + min (bit_at f i) (bit_at m i)) % 2
own-bit m f i =
    ap (λ a. bit_at a i) (own-xor m f) ∙ bit_at_xor f (bit_and f m) i
    ∙ ap (λ a. (bit_at f i + a) % 2) (bit_at_and f m i)

pub within-and : (m f : ℕ) → is_within m (bit_and f m) ≡ true
within-and m f = eq-eqb (bit_and (bit_and f m) m) (bit_and f m) (and_assoc m f m ∙ ap (λ a. bit_and f a) (and_self m))

pub without-own : (m f : ℕ) → f < 2 ^ 64 → is_without m (f - bit_and f m) ≡ true
without-own m f small =
    eq-eqb (bit_and (f - bit_and f m) m) 0
    (no_bits (bit_and (f - bit_and f m) m) (and-small (f - bit_and f m) m (omega (arith, small)))
    (λ i within. bit_at_and (f - bit_and f m) m i ∙ ap (λ a. min a (bit_at m i)) (own-bit m f i)
    ∙ taken_away (bit_at f i) (bit_at m i) (bit_at-lt f i) (bit_at-lt m i)))

pub without-kept : (n m f : ℕ) → f < 2 ^ 64 → is_without n f ≡ true → is_without n (f - bit_and f m) ≡ true
without-kept n m f small clear =
    let none : bit_and f n ≡ 0 = eqb-true (bit_and f n) 0 clear in
    eq-eqb (bit_and (f - bit_and f m) n) 0
    (no_bits (bit_and (f - bit_and f m) n) (and-small (f - bit_and f m) n (omega (arith, small)))
    (λ i within. bit_at_and (f - bit_and f m) n i ∙ ap (λ a. min a (bit_at n i)) (own-bit m f i)
    ∙ not_added (bit_at f i) (bit_at m i) (bit_at n i) (bit_at-lt f i) (bit_at-lt m i) (bit_at-lt n i)
    (sym (bit_at_and f n i) ∙ ap (λ a. bit_at a i) none ∙ bit_at-zero i)))

pub without-or : (a b f : ℕ) → f < 2 ^ 64 → is_without a f ≡ true → is_without b f ≡ true → is_without (bit_or a b) f ≡ true
without-or a b f small ca cb =
    let na : bit_and f a ≡ 0 = eqb-true (bit_and f a) 0 ca in
    let nb : bit_and f b ≡ 0 = eqb-true (bit_and f b) 0 cb in
    eq-eqb (bit_and f (bit_or a b)) 0
    (no_bits (bit_and f (bit_or a b)) (and-small f (bit_or a b) small)
    (λ i within. bit_at_and f (bit_or a b) i ∙ ap (λ x. min (bit_at f i) x) (bit_at_or a b i)
    ∙ both_clear (bit_at f i) (bit_at a i) (bit_at b i) (bit_at-lt f i) (bit_at-lt a i) (bit_at-lt b i)
    (sym (bit_at_and f a i) ∙ ap (λ x. bit_at x i) na ∙ bit_at-zero i)
    (sym (bit_at_and f b i) ∙ ap (λ x. bit_at x i) nb ∙ bit_at-zero i)))

-- ---- single bits

one_or_none : (p : ℕ) → p < 2 → eqb p 1 ≡ false → p ≡ 0
one_or_none zero hp is = refl
one_or_none (suc zero) hp is = absurd (cc)
one_or_none (suc (suc p)) hp is = absurd (omega (arith, hp))

pub min-zero : (p q : ℕ) → q ≡ 0 → min p q ≡ 0
min-zero p q none = omega (arith, none)

pub without-bit : (k f : ℕ) → f < 2 ^ 64 → has_bit k f ≡ false → is_without (2 ^ k) f ≡ true
without-bit k f small clear =
    let none : bit_at f k ≡ 0 = one_or_none (bit_at f k) (bit_at-lt f k) clear in
    eq-eqb (bit_and f (2 ^ k)) 0
    (no_bits (bit_and f (2 ^ k)) (and-small f (2 ^ k) small) (λ i within. bit_at_and f (2 ^ k) i ∙ one-bit k f i none (eqb i k) refl))
  where
    one-bit : (k f i : ℕ) → bit_at f k ≡ 0 → (b : Bool) → eqb i k ≡ b → min (bit_at f i) (bit_at (2 ^ k) i) ≡ 0
    one-bit k f i none true is =
        let same : i ≡ k = eqb-true i k is in
        ap (λ j. min (bit_at f j) (bit_at (2 ^ k) j)) same ∙ ap (λ a. min a (bit_at (2 ^ k) k)) none ∙ omega arith
    one-bit k f i none false is =
        let other : i ≢ k = λ same. let yes = eq-eqb i k same in cc in
        min-zero (bit_at f i) (bit_at (2 ^ k) i) (bit_at-pow_other k i other)

-- a mask that has a bit leaves it
pub has_bit-and : (k m f : ℕ) → bit_at m k ≡ 1 → has_bit k (bit_and f m) ≡ has_bit k f
has_bit-and k m f one =
    ap (λ a. eqb a 1) (bit_at_and f m k ∙ ap (λ a. min (bit_at f k) a) one ∙ low (bit_at f k) (bit_at-lt f k))
  where
    low : (p : ℕ) → p < 2 → min p 1 ≡ p
    low p hp = omega (arith, hp)

-- ---- put together again

pub apart : (m a b : ℕ) → is_within m a ≡ true → is_without m b ≡ true → bit_and a b ≡ 0
apart m a b within without =
    let inner : bit_and a m ≡ a = eqb-true (bit_and a m) a within in
    let outer : bit_and b m ≡ 0 = eqb-true (bit_and b m) 0 without in
    ap (λ x. bit_and x b) (sym inner) ∙ and_assoc b a m ∙ ap (λ x. bit_and a x) (and_comm m b ∙ outer) ∙ and_comm a 0

pub common-or : (m a b : ℕ) → is_within m a ≡ true → is_without m b ≡ true → bit_and (bit_or a b) m ≡ a
common-or m a b within without =
    and_or_apart m a b (eqb-true (bit_and b m) 0 without) ∙ eqb-true (bit_and a m) a within

pub own-or : (m a b : ℕ) → is_within m a ≡ true → is_without m b ≡ true → bit_or a b - bit_and (bit_or a b) m ≡ b
own-or m a b within without =
    let sum : bit_or a b ≡ a + b = or_disjoint a b (apart m a b within without) in
    ap (λ x. bit_or a b - x) (common-or m a b within without) ∙ omega (arith, sum)

pub whole-or : (m f : ℕ) → f < 2 ^ 64 → bit_or (bit_and f m) (f - bit_and f m) ≡ f
whole-or m f small =
    let sum = or_disjoint (bit_and f m) (f - bit_and f m) (apart m (bit_and f m) (f - bit_and f m) (within-and m f) (without-own m f small)) in
    omega (arith, sum, and_le_l f m)
