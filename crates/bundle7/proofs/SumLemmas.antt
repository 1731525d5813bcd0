-- The sum of a block's octets as far as they have come.
use Rattle.std.proofs.Common.{◌≡◌, ℕ, ◌-◌, ◌≤◌, ◌==◌, ◌≢◌, bit_xor, true, false, List, [], ◌++◌, length, take, drop, refl, sym, ap, ◌∙◌, arith, length-append}
use Rattle.std.proofs.lemmas.List.{take-append-le, drop-append-le, length-drop}
use Rattle.std.proofs.lemmas.Bool.{eq-eqb}
use Rattle.wire_fields.proofs.TextLemmas.{part_seam}
use Rattle.crc_fields.specs.Crc.{take_text}
use Rattle.crc_fields.proofs.Chain.{take_text-none, take_text-append}
use Rattle.bundle7.specs.declared.check.Sum.{Sum}
use Rattle.bundle7.specs.Passing.{between, Sums}
use Rattle.bundle7.proofs.CheckLemmas.{check-parts}

-- ---- octets between two places

between-none : (at : ℕ) (text : List ℕ) → between at at text ≡ []
between-none at text = let none : at - at ≡ 0 = omega arith in ap (λ n. take n (drop at text)) none

between-longer : (from to : ℕ) (text more : List ℕ) → from ≤ to → to ≤ length text
    → between from to (text ++ more) ≡ between from to text
between-longer from to text more order within =
    let long = length-drop from text in
    ap (λ t. take (to - from) t) (drop-append-le from text more (omega (arith, order, within)))
    ∙ take-append-le (to - from) (drop from text) more (omega (arith, order, within, long))

-- ---- sums

pub sums-none : (text : List ℕ) (sum : Sum) → sum.from ≡ sum.to → sum.from ≤ length text
    → sum.short ≡ 0xFFFF → sum.long ≡ 0xFFFFFFFF → Sums text sum
sums-none text sum same within short long =
    let none : between sum.from sum.to text ≡ [] = ap (λ n. between sum.from n text) (sym same) ∙ between-none sum.from text in
    record {
      order = omega (arith, same);
      within = omega (arith, same, within);
      sixteen = λ is. short ∙ sym (ap (λ w. take_text 0x8408 0xFFFF w) none ∙ take_text-none 0x8408 0xFFFF);
      thirty_two = λ is not. long ∙ sym (ap (λ w. take_text 0x82F63B78 0xFFFFFFFF w) none ∙ take_text-none 0x82F63B78 0xFFFFFFFF);
    }

-- the octets up to a place too
summed : (p start from to next : ℕ) (text : List ℕ) (r n : ℕ) → from ≤ to → to ≤ next
    → r ≡ take_text p start (between from to text) → n ≡ take_text p r (between to next text)
    → n ≡ take_text p start (between from next text)
summed p start from to next text r n first second so_far is =
    is ∙ ap (λ x. take_text p x (between to next text)) so_far
    ∙ sym (take_text-append p start (between from to text) (between to next text))
    ∙ ap (take_text p start) (sym (part_seam text from to next first second))

sums-more : (text : List ℕ) (old new : Sum) → Sums text old → new.from ≡ old.from → new.crc ≡ old.crc
    → old.to ≤ new.to → new.to ≤ length text
    → (old.crc ≡ 1 → new.short ≡ take_text 0x8408 old.short (between old.to new.to text))
    → ((old.crc == 0) ≡ false → (old.crc == 1) ≡ false → new.long ≡ take_text 0x82F63B78 old.long (between old.to new.to text))
    → Sums text new
sums-more text old new sums from crc later within short long = record {
  order = omega (arith, from, sums.order, later);
  within = within;
  sixteen = λ is.
      rw from (summed 0x8408 0xFFFF old.from old.to new.to text old.short new.short sums.order later
      (sums.sixteen (sym crc ∙ is)) (short (sym crc ∙ is)));
  thirty_two = λ zero one.
      let zero' : (old.crc == 0) ≡ false = rw crc at zero in
      let one' : (old.crc == 1) ≡ false = rw crc at one in
      rw from (summed 0x82F63B78 0xFFFFFFFF old.from old.to new.to text old.long new.long sums.order later
      (sums.thirty_two zero' one') (long zero' one'));
}

pub sums-short : (text : List ℕ) (old new : Sum) → Sums text old → old.crc ≡ 1 → new.from ≡ old.from → new.crc ≡ old.crc
    → old.to ≤ new.to → new.to ≤ length text → new.short ≡ take_text 0x8408 old.short (between old.to new.to text) → Sums text new
sums-short text old new sums one from crc later within short =
    sums-more text old new sums from crc later within (λ is. short)
    (λ zero other. let no : (old.crc == 1) ≡ true = eq-eqb old.crc 1 one in absurd (cc))

pub sums-long : (text : List ℕ) (old new : Sum) → Sums text old → old.crc ≢ 1 → new.from ≡ old.from → new.crc ≡ old.crc
    → old.to ≤ new.to → new.to ≤ length text → new.long ≡ take_text 0x82F63B78 old.long (between old.to new.to text) → Sums text new
sums-long text old new sums other from crc later within long =
    sums-more text old new sums from crc later within (λ is. absurd (other is)) (λ zero one. long)

-- the check of a block whose octets are summed up to an earlier place
pub check-more : (p ones : ℕ) (text zeros : List ℕ) (from mid to r one two result : ℕ) → from ≤ mid → mid ≤ to
    → r ≡ take_text p ones (between from mid text) → one ≡ take_text p r (between mid to text) → two ≡ take_text p one zeros
    → result ≡ bit_xor two ones → result ≡ bit_xor (take_text p ones (between from to text ++ zeros)) ones
check-more p ones text zeros from mid to r one two result first second so_far is last ends =
    check-parts p ones (between from to text) zeros ones one two result refl
    (summed p ones from mid to text r one first second so_far is) last ends

-- a sum of octets is one of longer ones
pub sums-longer : (text more : List ℕ) (sum : Sum) → Sums text sum → Sums (text ++ more) sum
sums-longer text more sum sums =
    let same = between-longer sum.from sum.to text more sums.order sums.within in
    record {
      order = sums.order;
      within = omega (arith, sums.within, length-append text more);
      sixteen = λ is. sums.sixteen is ∙ ap (take_text 0x8408 0xFFFF) (sym same);
      thirty_two = λ zero one. sums.thirty_two zero one ∙ ap (take_text 0x82F63B78 0xFFFFFFFF) (sym same);
    }
