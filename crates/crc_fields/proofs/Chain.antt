-- From bits to octets, words of four octets and quads of words: what the register is after each, by
-- sums without carries. A kernel that takes still more octets at a time needs `take_text-met` alone.
use Rattle.std.proofs.Common.{◌≡◌, ◌⊎◌, inl, inr, ℕ, zero, suc, ◌+◌, ◌*◌, ◌/◌, ◌%◌, ◌^◌, ◌<◌, List, [], ◌∷◌, ◌++◌, length, get_or, take, drop, replicate, refl, sym, ap, ◌∙◌, arith, append_assoc, pow-suc}
use Rattle.std.specs.Int.Bits.{bit_xor, xor_assoc, xor_shifted, xor_zero_r, xor_self}
use Rattle.std.specs.Int.{w32, w128, to_le_bytes, from_le_bytes, byte_at, byte_worth, bytes_low_first, sum_through}
use Rattle.std.proofs.Math.Nat.{div-eq_of_lt, div-div-eq-div-mul}
use Rattle.std.proofs.lemmas.Nat.{xor_comm, xor_lt, xor_shr, xor_mod}
use Rattle.std.proofs.lemmas.List.{take-append-drop, take_more}
use Rattle.std.proofs.lemmas.Bool.{cases_eq}
use Rattle.crc_fields.specs.Crc.{take_bit, take_bits, octet_bits, bits_of, take_text, zeroed}
use Rattle.crc_fields.specs.Tables.{after_zeros}

-- ---- one bit

zero-bit-even : (p r : ℕ) → r % 2 ≡ 0 → take_bit p r 0 ≡ r / 2
zero-bit-even p r even = let bare : (r + 0) % 2 ≡ 0 = omega arith in rw bare refl

zero-bit-odd : (p r : ℕ) → r % 2 ≡ 1 → take_bit p r 0 ≡ bit_xor (r / 2) p
zero-bit-odd p r odd = let bare : (r + 0) % 2 ≡ 1 = omega arith in rw bare refl

cases_mod_2 : (n : ℕ) → (n % 2 ≡ 0) ⊎ (n % 2 ≡ 1)
cases_mod_2 n = elim (cases_eq (n % 2) 0) [ inl even ↦ inl even | inr odd ↦ inr (omega arith) ]

-- x = (a + p) + (b + p) without carries is a + b
cancels : (a b p : ℕ) → bit_xor (bit_xor a p) (bit_xor b p) ≡ bit_xor a b
cancels a b p =
    xor_assoc a p (bit_xor b p)
    ∙ (ap (bit_xor a) (sym (xor_assoc p b p) ∙ (ap (λ (x : ℕ). bit_xor x p) (xor_comm p b) ∙ (xor_assoc b p p ∙ (ap (bit_xor b) (xor_self p) ∙ xor_zero_r b)))))

swaps : (a b p : ℕ) → bit_xor (bit_xor a b) p ≡ bit_xor (bit_xor a p) b
swaps a b p = xor_assoc a b p ∙ (ap (bit_xor a) (xor_comm b p) ∙ sym (xor_assoc a p b))

half-xor : (a b : ℕ) → bit_xor a b / 2 ≡ bit_xor (a / 2) (b / 2)
half-xor a b = xor_shr a b 1

low-xor : (a b : ℕ) → bit_xor a b % 2 ≡ bit_xor (a % 2) (b % 2)
low-xor a b = xor_mod a b 1

-- a bit 0 acts on a sum without carries as on its parts
zero-bit-xor : (p a b : ℕ) → take_bit p (bit_xor a b) 0 ≡ bit_xor (take_bit p a 0) (take_bit p b 0)
zero-bit-xor p a b =
    elim (cases_mod_2 a) [
      | inl a0 ↦ elim (cases_mod_2 b) [
        | inl b0 ↦ zero-bit-even p (bit_xor a b) (low-xor a b ∙ rw (a0, b0) refl)
            ∙ (half-xor a b ∙ rw (zero-bit-even p a a0, zero-bit-even p b b0) refl)
        | inr b1 ↦ zero-bit-odd p (bit_xor a b) (low-xor a b ∙ rw (a0, b1) refl)
            ∙ (rw (half-xor a b, zero-bit-even p a a0, zero-bit-odd p b b1) (xor_assoc (a / 2) (b / 2) p))
      ]
      | inr a1 ↦ elim (cases_mod_2 b) [
        | inl b0 ↦ zero-bit-odd p (bit_xor a b) (low-xor a b ∙ rw (a1, b0) refl)
            ∙ (rw (half-xor a b, zero-bit-odd p a a1, zero-bit-even p b b0) (swaps (a / 2) (b / 2) p))
        | inr b1 ↦ zero-bit-even p (bit_xor a b) (low-xor a b ∙ rw (a1, b1) refl)
            ∙ (half-xor a b ∙ rw (zero-bit-odd p a a1, zero-bit-odd p b b1) (sym (cancels (a / 2) (b / 2) p)))
      ]
    ]

-- a bit 1 or 0 is a bit 0 after a changed register
bit-zero-bit : (p r b : ℕ) → b < 2 → take_bit p r b ≡ take_bit p (bit_xor r b) 0
bit-zero-bit p r zero small = ap (λ (x : ℕ). take_bit p x 0) (sym (xor_zero_r r))
bit-zero-bit p r (suc zero) small =
    let half : bit_xor r 1 / 2 ≡ r / 2 = half-xor r 1 ∙ xor_zero_r (r / 2) in
    elim (cases_mod_2 r) [
      | inl r0 ↦ let odd : (r + 1) % 2 ≡ 1 = omega arith in
          rw odd (sym (zero-bit-odd p (bit_xor r 1) (low-xor r 1 ∙ rw r0 refl) ∙ ap (λ (x : ℕ). bit_xor x p) half))
      | inr r1 ↦ let even : (r + 1) % 2 ≡ 0 = omega arith in
          rw even (sym (zero-bit-even p (bit_xor r 1) (low-xor r 1 ∙ rw r1 refl) ∙ half))
    ]
bit-zero-bit p r (suc (suc b)) small = absurd (omega arith)

-- a bit 0 takes an even register down by one place
zero-bit-place : (p x : ℕ) → take_bit p (x * 2) 0 ≡ x
zero-bit-place p x = zero-bit-even p (x * 2) (omega arith) ∙ omega arith

-- ---- many bits

after_zeros-xor : (p n a b : ℕ) → after_zeros p n (bit_xor a b) ≡ bit_xor (after_zeros p n a) (after_zeros p n b)
unfolding after_zeros
after_zeros-xor p zero a b = refl
after_zeros-xor p (suc n) a b =
    ap (after_zeros p n) (zero-bit-xor p a b) ∙ after_zeros-xor p n (take_bit p a 0) (take_bit p b 0)

pub after_zeros-add : (p m n r : ℕ) → after_zeros p (m + n) r ≡ after_zeros p n (after_zeros p m r)
unfolding after_zeros
after_zeros-add p zero n r = let same : 0 + n ≡ n = omega arith in ap (λ (k : ℕ). after_zeros p k r) same
after_zeros-add p (suc m) n r =
    let same : suc m + n ≡ suc (m + n) = omega arith in
    ap (λ (k : ℕ). after_zeros p k r) same ∙ after_zeros-add p m n (take_bit p r 0)

after_zeros-place : (p n x : ℕ) → after_zeros p n (x * 2 ^ n) ≡ x
unfolding after_zeros
after_zeros-place p zero x = omega arith
after_zeros-place p (suc n) x =
    let same : x * 2 ^ suc n ≡ x * 2 ^ n * 2 = rw pow-suc (omega arith) in
    ap (after_zeros p n) (ap (λ (y : ℕ). take_bit p y 0) same ∙ zero-bit-place p (x * 2 ^ n)) ∙ after_zeros-place p n x

-- the number that bits spell, the low one first
bits_value : List ℕ → ℕ
bits_value [] = 0
bits_value (b ∷ bits) = bits_value bits * 2 + b

-- each of these is a bit
pub data AreBits : List ℕ → Type 0 where
  no_bits : AreBits []
  one_more : {b : ℕ} {bits : List ℕ} → b < 2 → AreBits bits → AreBits (b ∷ bits)

take_bits-value : (p r : ℕ) (bits : List ℕ) → AreBits bits
    → take_bits p r bits ≡ after_zeros p (length bits) (bit_xor r (bits_value bits))
unfolding take_bits bits_value after_zeros
take_bits-value p r [] are = sym (xor_zero_r r)
take_bits-value p r (b ∷ bits) (one_more small are) =
    let value : ℕ = bits_value bits in
    let place : bit_xor (value * 2) b ≡ value * 2 + b = xor_shifted value 1 b small in
    let here : bit_xor (bit_xor r b) (value * 2) ≡ bit_xor r (value * 2 + b) =
    xor_assoc r b (value * 2) ∙ ap (bit_xor r) (xor_comm b (value * 2) ∙ place) in
    take_bits-value p (take_bit p r b) bits are
    ∙ ap (after_zeros p (length bits))
    (rw (bit-zero-bit p r b small) (ap (bit_xor (take_bit p (bit_xor r b) 0)) (sym (zero-bit-place p value)))
    ∙ (sym (zero-bit-xor p (bit_xor r b) (value * 2)) ∙ ap (λ (x : ℕ). take_bit p x 0) here))

-- ---- an octet

octet_bits-are : (o : ℕ) → AreBits (octet_bits o)
octet_bits-are o =
    one_more (omega arith) (one_more (omega arith) (one_more (omega arith) (one_more (omega arith)
    (one_more (omega arith) (one_more (omega arith) (one_more (omega arith) (one_more (omega arith) no_bits)))))))

octet_bits-value : (o : ℕ) → o < 256 → bits_value (octet_bits o) ≡ o
unfolding bits_value
octet_bits-value o small = omega arith

take_octet : (p r o : ℕ) → o < 256 → take_bits p r (octet_bits o) ≡ after_zeros p 8 (bit_xor r o)
take_octet p r o small =
    take_bits-value p r (octet_bits o) (octet_bits-are o) ∙ ap (λ (x : ℕ). after_zeros p 8 (bit_xor r x)) (octet_bits-value o small)

take_bits-append : (p r : ℕ) (u v : List ℕ) → take_bits p r (u ++ v) ≡ take_bits p (take_bits p r u) v
unfolding take_bits
take_bits-append p r [] v = refl
take_bits-append p r (b ∷ u) v = take_bits-append p (take_bit p r b) u v

pub take_text-none : (p r : ℕ) → take_text p r [] ≡ r
unfolding take_bits
take_text-none p r = refl

pub take_text-cons : (p r o : ℕ) (w : List ℕ) → o < 256 → take_text p r (o ∷ w) ≡ take_text p (after_zeros p 8 (bit_xor r o)) w
take_text-cons p r o w small =
    take_bits-append p r (octet_bits o) (bits_of w) ∙ ap (λ (x : ℕ). take_bits p x (bits_of w)) (take_octet p r o small)

bits_of-append : (u v : List ℕ) → bits_of (u ++ v) ≡ bits_of u ++ bits_of v
bits_of-append [] v = refl
bits_of-append (o ∷ u) v = ap (λ (x : List ℕ). octet_bits o ++ x) (bits_of-append u v) ∙ sym (append_assoc (octet_bits o) (bits_of u) (bits_of v))

-- a text in two parts is taken part by part
pub take_text-append : (p r : ℕ) (u v : List ℕ) → take_text p r (u ++ v) ≡ take_text p (take_text p r u) v
take_text-append p r u v = ap (take_bits p r) (bits_of-append u v) ∙ take_bits-append p r (bits_of u) (bits_of v)

-- ---- as many octets as there are

-- each item of a text is an octet
pub data AreOctets : List ℕ → Type 0 where
  no_octets : AreOctets []
  octet_more : {o : ℕ} {w : List ℕ} → o < 256 → AreOctets w → AreOctets (o ∷ w)

AreOctets-each : (w : List ℕ) → ((i : ℕ) → get_or w i 0 < 256) → AreOctets w
AreOctets-each [] small = no_octets
AreOctets-each (o ∷ w) small = octet_more (small 0) (AreOctets-each w (λ i. small (suc i)))

-- the number that octets spell, the low one first
pub octets_value : List ℕ → ℕ
octets_value [] = 0
octets_value (o ∷ w) = octets_value w * 256 + o

-- a text acts as so many bits 0 on the register that its number met
take_text-value : (p r : ℕ) (w : List ℕ) → AreOctets w → take_text p r w ≡ after_zeros p (8 * length w) (bit_xor r (octets_value w))
unfolding take_bits octets_value after_zeros
take_text-value p r [] are = sym (xor_zero_r r)
take_text-value p r (o ∷ w) (octet_more small are) =
    let value : ℕ = octets_value w in
    let place : bit_xor (value * 256) o ≡ value * 256 + o = xor_shifted value 8 o small in
    let here : bit_xor (bit_xor r o) (value * 256) ≡ bit_xor r (value * 256 + o) =
    xor_assoc r o (value * 256) ∙ ap (bit_xor r) (xor_comm o (value * 256) ∙ place) in
    let longer : 8 + 8 * length w ≡ 8 * length (o ∷ w) = omega arith in
    take_text-cons p r o w small
    ∙ (take_text-value p (after_zeros p 8 (bit_xor r o)) w are
    ∙ (ap (after_zeros p (8 * length w))
    (ap (bit_xor (after_zeros p 8 (bit_xor r o))) (sym (after_zeros-place p 8 value))
    ∙ (sym (after_zeros-xor p 8 (bit_xor r o) (value * 256)) ∙ ap (after_zeros p 8) here))
    ∙ (sym (after_zeros-add p 8 (8 * length w) (bit_xor r (value * 256 + o)))
    ∙ ap (λ (n : ℕ). after_zeros p n (bit_xor r (value * 256 + o))) longer)))

-- Octets by which the register is taken through a text: each acts alone, by the zeros that are as many
-- as its own bits and those after it.
pub sliced : ℕ → List ℕ → ℕ
sliced p [] = 0
sliced p (o ∷ w) = bit_xor (after_zeros p (8 * (length w + 1)) o) (sliced p w)

after_zeros-sliced : (p : ℕ) (w : List ℕ) → AreOctets w → after_zeros p (8 * length w) (octets_value w) ≡ sliced p w
unfolding octets_value after_zeros sliced
after_zeros-sliced p [] are = refl
after_zeros-sliced p (o ∷ w) (octet_more small are) =
    let value : ℕ = octets_value w in
    let bits : ℕ = 8 * length w in
    let place : bit_xor (value * 256) o ≡ value * 256 + o = xor_shifted value 8 o small in
    let longer : 8 * length (o ∷ w) ≡ 8 + bits = omega arith in
    let here : 8 + bits ≡ 8 * (length w + 1) = omega arith in
    ap (λ (n : ℕ). after_zeros p n (value * 256 + o)) longer
    ∙ (ap (after_zeros p (8 + bits)) (sym place)
    ∙ (after_zeros-xor p (8 + bits) (value * 256) o
    ∙ (xor_comm (after_zeros p (8 + bits) (value * 256)) (after_zeros p (8 + bits) o)
    ∙ (ap (λ (n : ℕ). bit_xor (after_zeros p n o) (after_zeros p (8 + bits) (value * 256))) here
    ∙ ap (bit_xor (after_zeros p (8 * (length w + 1)) o))
    (after_zeros-add p 8 bits (value * 256)
    ∙ (ap (after_zeros p bits) (after_zeros-place p 8 value) ∙ after_zeros-sliced p w are))))))

-- where a text's number met the register, the octets of the sum act alone
pub take_text-met : (p r : ℕ) (w os : List ℕ) → AreOctets w → AreOctets os → length os ≡ length w
    → octets_value os ≡ bit_xor r (octets_value w) → take_text p r w ≡ sliced p os
take_text-met p r w os are met_are size met =
    take_text-value p r w are
    ∙ (ap (after_zeros p (8 * length w)) (sym met)
    ∙ (ap (λ (n : ℕ). after_zeros p (8 * n) (octets_value os)) (sym size) ∙ after_zeros-sliced p os met_are))

-- ---- what the code computes

-- an octet meets the low octet of the register, and the rest of it comes down
pub octet-step : (p r o : ℕ) → bit_xor (after_zeros p 8 (bit_xor (r % 256) o)) (r / 256) ≡ after_zeros p 8 (bit_xor r o)
octet-step p r o =
    let place : bit_xor (r / 256 * 256) (r % 256) ≡ r / 256 * 256 + r % 256 = xor_shifted (r / 256) 8 (r % 256) (omega arith) in
    let whole : r / 256 * 256 + r % 256 ≡ r = omega arith in
    let here : bit_xor (bit_xor (r % 256) o) (r / 256 * 256) ≡ bit_xor r o =
    xor_comm (bit_xor (r % 256) o) (r / 256 * 256)
    ∙ (sym (xor_assoc (r / 256 * 256) (r % 256) o) ∙ ap (λ (x : ℕ). bit_xor x o) (place ∙ whole)) in
    ap (bit_xor (after_zeros p 8 (bit_xor (r % 256) o))) (sym (after_zeros-place p 8 (r / 256)))
    ∙ (sym (after_zeros-xor p 8 (bit_xor (r % 256) o) (r / 256 * 256)) ∙ ap (after_zeros p 8) here)

-- one octet more of a text
pub take_text-push : (p r o : ℕ) (w : List ℕ) → o < 256 → after_zeros p 8 (bit_xor (take_text p r w) o) ≡ take_text p r (w ++ o ∷ [])
take_text-push p r o w small =
    sym (take_text-append p r w (o ∷ []) ∙ (take_text-cons p (take_text p r w) o [] small ∙ take_text-none p (after_zeros p 8 (bit_xor (take_text p r w) o))))

-- ---- octets and the numbers of the code

byte_at-is : (i n : ℕ) → byte_at i n ≡ n / 256 ^ i % 256
byte_at-is zero n = omega arith
byte_at-is (suc i) n = refl

-- a number that is written as octets is theirs
octets_value-low : (i k n : ℕ) → n < 256 ^ (i + k) → octets_value (bytes_low_first i k n) ≡ n / 256 ^ i
unfolding octets_value
octets_value-low i zero n small = let same : i + 0 ≡ i = omega arith in sym (div-eq_of_lt (rw same at small))
octets_value-low i (suc k) n small =
    let same : i + suc k ≡ suc i + k = omega arith in
    let higher : n / 256 ^ suc i ≡ n / 256 ^ i / 256 =
    ap (λ (m : ℕ). n / m) (pow-suc 256 i) ∙ sym (div-div-eq-div-mul n (256 ^ i) 256) in
    let rest : octets_value (bytes_low_first (suc i) k n) ≡ n / 256 ^ suc i = octets_value-low (suc i) k n (rw same at small) in
    let whole : (m : ℕ) → m / 256 * 256 + m % 256 ≡ m = λ m. omega arith in
    rw (rest, higher, byte_at-is i n) (whole (n / 256 ^ i))

bytes-are : (i k n : ℕ) → AreOctets (bytes_low_first i k n)
bytes-are i zero n = no_octets
bytes-are i (suc k) n = let low : byte_at i n < 256 = rw (byte_at-is i n) (omega arith) in octet_more low (bytes-are (suc i) k n)

-- and octets that are read as a number are its own
sum-first : (f : ℕ → ℕ) (k : ℕ) → sum_through f (suc k) ≡ f 0 + sum_through (λ i. f (suc i)) k
sum-first f zero = refl
sum-first f (suc k) = omega (arith, sum-first f k)

sum-scaled : (f g : ℕ → ℕ) (k : ℕ) → ((i : ℕ) → f i ≡ g i * 256) → sum_through f k ≡ sum_through g k * 256
sum-scaled f g zero each = each 0
sum-scaled f g (suc k) each = omega (arith, sum-scaled f g k each, each (suc k))

worth-more : (i b : ℕ) → byte_worth (suc i) b ≡ byte_worth i b * 256
worth-more zero b = omega arith
worth-more (suc i) b = rw pow-suc (omega arith)

octets_value-sum : (w : List ℕ) (k : ℕ) → length w ≡ suc k → octets_value w ≡ sum_through (λ i. byte_worth i (get_or w i 0)) k
unfolding octets_value
octets_value-sum [] k size = absurd (omega arith)
octets_value-sum (o ∷ []) zero size = omega arith
octets_value-sum (o ∷ (b ∷ w)) zero size = absurd (omega arith)
octets_value-sum (o ∷ w) (suc k) size =
    let rest : octets_value w ≡ sum_through (λ i. byte_worth i (get_or w i 0)) k = octets_value-sum w k (omega arith) in
    let scaled : sum_through (λ i. byte_worth (suc i) (get_or w i 0)) k ≡ sum_through (λ i. byte_worth i (get_or w i 0)) k * 256 =
    sum-scaled (λ i. byte_worth (suc i) (get_or w i 0)) (λ i. byte_worth i (get_or w i 0)) k (λ i. worth-more i (get_or w i 0)) in
    omega (arith, rest, scaled, sum-first (λ i. byte_worth i (get_or (o ∷ w) i 0)) k)

joined-word : (a b c d : ℕ)
    → bit_xor (bit_xor (bit_xor a b) c) d
    ≡ bit_xor a (bit_xor b (bit_xor c (bit_xor d 0)))
joined-word a b c d = simp (xor_assoc, xor_zero_r)

-- four entries of a table give the register after a word
pub word : (p r number wide : ℕ) (w os : List ℕ) (a b c d : ℕ) → r < 2 ^ 32 → length w ≡ 4 → ((i : ℕ) → get_or w i 0 < 256)
    → number ≡ from_le_bytes w32 w → number < 2 ^ 32 → wide ≡ r → os ≡ to_le_bytes w32 (bit_xor number wide)
    → a ≡ after_zeros p 32 (get_or os 0 0) → b ≡ after_zeros p 24 (get_or os 1 0) → c ≡ after_zeros p 16 (get_or os 2 0) → d ≡ after_zeros p 8 (get_or os 3 0)
    → bit_xor (bit_xor (bit_xor a b) c) d ≡ take_text p r w
unfolding sliced
word p r number wide w os a b c d small_r size small is fits same octets ha hb hc hd =
    let value : octets_value w ≡ number = octets_value-sum w 3 size ∙ sym is in
    let fitting : bit_xor number wide < 2 ^ 32 = xor_lt 32 number wide fits (omega arith) in
    let whole : bit_xor number wide / 256 ^ 0 ≡ bit_xor number wide = omega arith in
    let met : octets_value (bytes_low_first 0 4 (bit_xor number wide)) ≡ bit_xor r (octets_value w) =
    octets_value-low 0 4 (bit_xor number wide) (omega arith) ∙ (whole ∙ rw (value, same) (xor_comm number r)) in
    let taken : take_text p r w ≡ sliced p (bytes_low_first 0 4 (bit_xor number wide)) =
    take_text-met p r w (bytes_low_first 0 4 (bit_xor number wide)) (AreOctets-each w small) (bytes-are 0 4 (bit_xor number wide)) (sym size) met in
    joined-word a b c d ∙ rw (ha, hb, hc, hd, octets) (sym taken)

joined-quad : (a b c d e f g h i j k l m n o q : ℕ)
    → bit_xor (bit_xor (bit_xor (bit_xor (bit_xor (bit_xor (bit_xor (bit_xor (bit_xor (bit_xor (bit_xor (bit_xor (bit_xor (bit_xor (bit_xor e f) g) h) i) j) k) l) m) n) o) q) a) b) c) d
    ≡ bit_xor a (bit_xor b (bit_xor c (bit_xor d (bit_xor e (bit_xor f (bit_xor g (bit_xor h (bit_xor i (bit_xor j (bit_xor k (bit_xor l (bit_xor m (bit_xor n (bit_xor o (bit_xor q 0)))))))))))))))
joined-quad a b c d e f g h i j k l m n o q =
    let front : ℕ = bit_xor a (bit_xor b (bit_xor c d)) in
    let back : ℕ = bit_xor e (bit_xor f (bit_xor g (bit_xor h (bit_xor i (bit_xor j (bit_xor k (bit_xor l (bit_xor m (bit_xor n (bit_xor o q)))))))))) in
    let later : bit_xor (bit_xor (bit_xor (bit_xor (bit_xor (bit_xor (bit_xor (bit_xor (bit_xor (bit_xor (bit_xor (bit_xor (bit_xor (bit_xor (bit_xor e f) g) h) i) j) k) l) m) n) o) q) a) b) c) d ≡ bit_xor back front = simp xor_assoc in
    later ∙ (xor_comm back front ∙ simp (xor_assoc, xor_zero_r))

-- and sixteen the register after four words
pub quad : (p r number wide : ℕ) (w os : List ℕ) (a b c d e f g h i j k l m n o q : ℕ) → r < 2 ^ 32 → length w ≡ 16 → ((i : ℕ) → get_or w i 0 < 256)
    → number ≡ from_le_bytes w128 w → number < 2 ^ 128 → wide ≡ r → os ≡ to_le_bytes w128 (bit_xor number wide)
    → e ≡ after_zeros p 96 (get_or os 4 0) → f ≡ after_zeros p 88 (get_or os 5 0) → g ≡ after_zeros p 80 (get_or os 6 0) → h ≡ after_zeros p 72 (get_or os 7 0)
    → i ≡ after_zeros p 64 (get_or os 8 0) → j ≡ after_zeros p 56 (get_or os 9 0) → k ≡ after_zeros p 48 (get_or os 10 0) → l ≡ after_zeros p 40 (get_or os 11 0)
    → m ≡ after_zeros p 32 (get_or os 12 0) → n ≡ after_zeros p 24 (get_or os 13 0) → o ≡ after_zeros p 16 (get_or os 14 0) → q ≡ after_zeros p 8 (get_or os 15 0)
    → a ≡ after_zeros p 128 (get_or os 0 0) → b ≡ after_zeros p 120 (get_or os 1 0) → c ≡ after_zeros p 112 (get_or os 2 0) → d ≡ after_zeros p 104 (get_or os 3 0)
    → bit_xor (bit_xor (bit_xor (bit_xor (bit_xor (bit_xor (bit_xor (bit_xor (bit_xor (bit_xor (bit_xor (bit_xor (bit_xor (bit_xor (bit_xor e f) g) h) i) j) k) l) m) n) o) q) a) b) c) d ≡ take_text p r w
unfolding sliced
quad p r number wide w os a b c d e f g h i j k l m n o q small_r size small is fits same octets he hf hg hh hi hj hk hl hm hn ho hq ha hb hc hd =
    let value : octets_value w ≡ number = octets_value-sum w 15 size ∙ sym is in
    let fitting : bit_xor number wide < 2 ^ 128 = xor_lt 128 number wide fits (omega arith) in
    let whole : bit_xor number wide / 256 ^ 0 ≡ bit_xor number wide = omega arith in
    let met : octets_value (bytes_low_first 0 16 (bit_xor number wide)) ≡ bit_xor r (octets_value w) =
    octets_value-low 0 16 (bit_xor number wide) (omega arith) ∙ (whole ∙ rw (value, same) (xor_comm number r)) in
    let taken : take_text p r w ≡ sliced p (bytes_low_first 0 16 (bit_xor number wide)) =
    take_text-met p r w (bytes_low_first 0 16 (bit_xor number wide)) (AreOctets-each w small) (bytes-are 0 16 (bit_xor number wide)) (sym size) met in
    joined-quad a b c d e f g h i j k l m n o q ∙ rw (he, hf, hg, hh, hi, hj, hk, hl, hm, hn, ho, hq, ha, hb, hc, hd, octets) (sym taken)

-- ---- steps of the loops

-- n octets more of a text
pub words-step : (p n r next : ℕ) (rest word after : List ℕ) → word ≡ take n rest → after ≡ drop n rest → next ≡ take_text p r word
    → take_text p next after ≡ take_text p r rest
words-step p n r next rest word after front back taken =
    rw (taken, back, front) (sym (take_text-append p r (take n rest) (drop n rest)) ∙ ap (take_text p r) (take-append-drop n rest))

pub octets-step : (p start r next i : ℕ) (w : List ℕ) → ((k : ℕ) → get_or w k 0 < 256) → i < length w → r ≡ take_text p start (take i w)
    → next ≡ after_zeros p 8 (bit_xor r (get_or w i 0)) → next ≡ take_text p start (take (i + 1) w)
octets-step p start r next i w small inside so_far taken =
    rw (take_more w i 0 inside, taken, so_far) (take_text-push p start (get_or w i 0) (take i w) (small i))

-- a text with zeros in its midst, taken in three parts
pub zeroed-parts : (p at n : ℕ) (w : List ℕ) (front back : List ℕ) (start one two three result : ℕ) (ones : ℕ)
    → start ≡ ones → front ≡ take at w → back ≡ drop (at + n) w
    → one ≡ take_text p start front → two ≡ take_text p one (replicate n 0) → three ≡ take_text p two back → result ≡ bit_xor three ones
    → result ≡ bit_xor (take_text p ones (zeroed at n w)) ones
zeroed-parts p at n w front back start one two three result ones begins front_is back_is is_one is_two is_three ends =
    rw (ends, is_three, is_two, is_one, begins, back_is, front_is)
    (ap (λ (x : ℕ). bit_xor x ones)
    (sym (take_text-append p ones (take at w ++ replicate n 0) (drop (at + n) w)
    ∙ ap (λ (x : ℕ). take_text p x (drop (at + n) w)) (take_text-append p ones (take at w) (replicate n 0)))))
