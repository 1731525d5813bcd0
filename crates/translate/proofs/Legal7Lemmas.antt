-- A version 7 view is a legal bundle.

use Rattle.std.proofs.Common.{◌≡◌, ◌≢◌, ◌⊎◌, inl, inr, ℕ, zero, suc, ◌+◌, ◌*◌, ◌^◌, ◌<◌, ◌≤◌, Bool, true, false, ◌&&◌, ◌||◌, not, eqb, leb, cond, ◌==◌, List, [], ◌∷◌, ◌++◌, map, length, Option, Some, None, refl, sym, ap, ◌∙◌, arith, subst, bit_or, eqb-true, eq-eqb}
use Rattle.std.proofs.lemmas.Bool.{and_parts, or_parts, leb-true, le-leb, ne_eqb}
use Rattle.std.proofs.lemmas.Nat.{and_le_l}
use Rattle.std.proofs.lemmas.List.Elements.{All-head, All-tail, All-nil, All-cons, All-push, All-weaker}
use Rattle.std.specs.List.{All, list_any}
use Rattle.endpoint.specs.declared.extent.Fragment.{Fragment}
use Rattle.bundle7.specs.declared.block.Block7.{Block7}
use Rattle.bundle7.specs.Body.{IsBody}
use Rattle.bundle7.specs.Table.{is_single, seen_of, has, is_within}
use Rattle.bundle7.specs.Legal.{IsLegalPrimary, IsLegalBlock, IsPart, AreLegal}
use Rattle.bundle_meaning.specs.declared.shared.Content.{Content}
use Rattle.bundle_meaning.specs.declared.shared.Content.TheVariants as contents
use Rattle.bundle_meaning.specs.declared.blocks.Block7Like.{Block7Like}
use Rattle.bundle_meaning.specs.declared.blocks.Ext.{Ext}
use Rattle.bundle_meaning.specs.declared.blocks.Ext.TheVariants.{Six, Seven}
use Rattle.bundle_meaning.specs.declared.full.Full.{Full}
use Rattle.bundle_meaning.specs.Bits.{common, block_common}
use Rattle.bundle_meaning.specs.Blocks.{IsExt, IsBlock7, sevens, are_apart, collide}
use Rattle.bundle_meaning.specs.Valid.{IsFragment, IsValid}
use Rattle.translate.specs.Sound.{IsSound, HasBody}
use Rattle.translate.specs.Legal.{IsSized7, View7IsLegal}
use Rattle.translate.specs.View7.{primary7_of, needs_residue7, has_number7, is_taken7, free_from7, next_free7, plain7, wrap7, blocks7_of, residue7_at, exts7_of, octets7_of, payload7_of}
use Rattle.translate.proofs.FewLemmas.{length-view7}
use Rattle.translate.proofs.Sound6Lemmas.{no}
use Rattle.translate.proofs.Sound7Lemmas.{bit-zero}
use Rattle.translate.proofs.Legal6Lemmas.{or-fits, same-bit}

-- ---- a free number

-- how many blocks have this number or a larger one
above : ℕ → List Ext → ℕ
above number [] = 0
above number (Six block ∷ exts) = above number exts
above number (Seven block ∷ exts) = cond (leb number block.number) 1 0 + above number exts

above-few : (number : ℕ) (exts : List Ext) → above number exts ≤ length exts
unfolding above
above-few number [] = omega arith
above-few number (Six block ∷ exts) = let rest = above-few number exts in omega (arith, rest)
above-few number (Seven block ∷ exts) = let rest = above-few number exts in by (leb number block.number) rest
  where
    by : (t : Bool) → above number exts ≤ length exts → cond t 1 0 + above number exts ≤ suc (length exts)
    by true rest = omega (arith, rest)
    by false rest = omega (arith, rest)

-- one number further on there are no more, and fewer by those that have it
one-further : (number n : ℕ) → cond (leb (number + 1) n) (suc zero) zero + cond (eqb n number) (suc zero) zero ≡ cond (leb number n) (suc zero) zero
one-further number n = by (leb (number + 1) n) (eqb n number) (leb number n) refl refl refl
  where
    by : (a b c : Bool) → leb (number + 1) n ≡ a → eqb n number ≡ b → leb number n ≡ c
        → cond (leb (number + 1) n) (suc zero) zero + cond (eqb n number) (suc zero) zero ≡ cond (leb number n) (suc zero) zero
    by true true c ha hb hc = absurd (omega (arith, leb-true (number + 1) n ha, eqb-true n number hb))
    by true false true ha hb hc = rw (ha, hb, hc) refl
    by true false false ha hb hc = let more = le-leb number n (omega (arith, leb-true (number + 1) n ha)) in absurd (cc)
    by false true true ha hb hc = rw (ha, hb, hc) refl
    by false true false ha hb hc = let same = le-leb number n (omega (arith, eqb-true n number hb)) in absurd (cc)
    by false false true ha hb hc =
        let other : n ≢ number = λ same. let yes = eq-eqb n number same in cc in
        let more = le-leb (number + 1) n (omega (arith, leb-true number n hc, other)) in
        absurd (cc)
    by false false false ha hb hc = rw (ha, hb, hc) refl

no-more-above : (number : ℕ) (exts : List Ext) → above (number + 1) exts ≤ above number exts
unfolding above
no-more-above number [] = omega arith
no-more-above number (Six block ∷ exts) = no-more-above number exts
no-more-above number (Seven block ∷ exts) =
    let rest = no-more-above number exts in
    let here = one-further number block.number in
    omega (arith, rest, here)

fewer-by : (number n more less : ℕ) (t : Bool) → eqb n number ≡ t → less ≤ more → (t ≡ false → less + 1 ≤ more)
    → (cond (leb (number + 1) n) (suc zero) zero + less) + 1 ≤ cond (leb number n) (suc zero) zero + more
fewer-by number n more less true is most rest =
    let here = one-further number n in
    let one : cond (eqb n number) (suc zero) zero ≡ suc zero = rw is refl in
    omega (arith, here, one, most)
fewer-by number n more less false is most rest = let here = one-further number n in omega (arith, here, rest refl)

fewer-above : (number : ℕ) (exts : List Ext) → is_taken7 exts number ≡ true → above (number + 1) exts + 1 ≤ above number exts
unfolding above
fewer-above number [] taken = absurd (cc)
fewer-above number (Six block ∷ exts) taken = fewer-above number exts taken
fewer-above number (Seven block ∷ exts) taken =
    fewer-by number block.number (above number exts) (above (number + 1) exts) (eqb block.number number) refl (no-more-above number exts)
    (λ other. fewer-above number exts (rw other at taken))

-- where none is left, the number is free
none-above : (number : ℕ) (exts : List Ext) (t : Bool) → is_taken7 exts number ≡ t → above number exts ≡ 0 → t ≡ false
none-above number exts true is none = let some = fewer-above number exts is in absurd (omega (arith, some, none))
none-above number exts false is none = refl

-- a number from this one on, and free
pub record IsFree (all : List Ext) (next number : ℕ) : Type 0 where
  pub from : next ≤ number
  pub near : number ≤ next + length all
  pub free : is_taken7 all number ≡ false

free-by : (more : ℕ) (all : List Ext) (number : ℕ) (t : Bool) → is_taken7 all number ≡ t
    → (t ≡ true → (number + 1 ≤ free_from7 more all (number + 1)) × (free_from7 more all (number + 1) ≤ number + 1 + more)
    × (is_taken7 all (free_from7 more all (number + 1)) ≡ false))
    → (number ≤ free_from7 (suc more) all number) × (free_from7 (suc more) all number ≤ number + suc more)
    × (is_taken7 all (free_from7 (suc more) all number) ≡ false)
unfolding free_from7
free-by more all number true is rest = let (a, b, c) = rest refl in rw is (omega (arith, a), omega (arith, b), c)
free-by more all number false is rest = rw is (omega arith, omega arith, is)

free-from : (tries : ℕ) (all : List Ext) (number : ℕ) → above number all ≤ tries
    → (number ≤ free_from7 tries all number) × (free_from7 tries all number ≤ number + tries) × (is_taken7 all (free_from7 tries all number) ≡ false)
unfolding free_from7
free-from zero all number few = (omega arith, omega arith, none-above number all (is_taken7 all number) refl (omega (arith, few)))
free-from (suc more) all number few =
    free-by more all number (is_taken7 all number) refl
    (λ taken. let fewer = fewer-above number all taken in free-from more all (number + 1) (omega (arith, fewer, few)))

pub next-free : (all : List Ext) (next : ℕ) → IsFree all next (next_free7 all next)
next-free all next =
    let (a, b, c) = free-from (length all) all next (above-few next all) in
    record { from = a; near = b; free = c }

-- ---- what the blocks so far have

has-snoc : (n : ℕ) (f : Block7 → ℕ) (earlier : List Block7) (block : Block7)
    → has n (map f (earlier ++ block ∷ [])) ≡ (has n (map f earlier) || (f block == n))
has-snoc n f [] block = last (f block == n)
  where
    last : (t : Bool) → (t || false) ≡ t
    last true = refl
    last false = refl
has-snoc n f (one ∷ earlier) block =
    ap (λ b. (f one == n) || b) (has-snoc n f earlier block) ∙ assoc (f one == n) (has n (map f earlier)) (f block == n)
  where
    assoc : (a b c : Bool) → (a || (b || c)) ≡ ((a || b) || c)
    assoc true b c = refl
    assoc false b c = refl

-- a block of version 7 may still follow
pub record IsOpen (earlier : List Block7) (block : Block7Like) : Type 0 where
  pub number : has block.number (seen_of earlier).numbers ≡ false
  pub once : (is_single block.kind && has block.kind (seen_of earlier).kinds) ≡ false

-- so far the numbers are those of blocks of version 7, or lie below the next
abbrev pub IsUsed : List Ext → ℕ → Block7 → Type 0
IsUsed all next block = (is_taken7 all block.number ≡ true) ⊎ (block.number < next)

neither : (a b : Bool) → a ≡ false → b ≡ false → (a || b) ≡ false
neither a b one other = rw one other

open-more : (earlier : List Block7) (next : Block7) (block : Block7Like) → IsOpen earlier block → (next.number == block.number) ≡ false
    → (is_single block.kind && (next.kind == block.kind)) ≡ false → IsOpen (earlier ++ next ∷ []) block
open-more earlier next block is number kind = record {
  number = has-snoc block.number (λ (x : Block7). x.number) earlier next ∙ neither _ _ is.number number;
  once = ap (λ b. is_single block.kind && b) (has-snoc block.kind (λ (x : Block7). x.kind) earlier next)
      ∙ share (is_single block.kind) (has block.kind (seen_of earlier).kinds) (next.kind == block.kind) is.once kind;
}
  where
    share : (s a b : Bool) → (s && a) ≡ false → (s && b) ≡ false → (s && (a || b)) ≡ false
    share true a b one other = rw one other
    share false a b one other = refl

-- none of them has a number that is free from the next on
unused : (all : List Ext) (next number : ℕ) (earlier : List Block7) → All (IsUsed all next) earlier → next ≤ number → is_taken7 all number ≡ false
    → has number (seen_of earlier).numbers ≡ false
unused all next number [] used from free = refl
unused all next number (block ∷ earlier) used from free =
    neither _ _ (other (All-head (IsUsed all next) block earlier used))
    (unused all next number earlier (All-tail (IsUsed all next) block earlier used) from free)
  where
    other : IsUsed all next block → (block.number == number) ≡ false
    other (inl taken) = ne_eqb block.number number (λ same. let here = rw same at taken in cc)
    other (inr below) = ne_eqb block.number number (λ same. omega (arith, same, below, from))

used-further : (all : List Ext) (next after : ℕ) → next ≤ after → (block : Block7) → IsUsed all next block → IsUsed all after block
used-further all next after more block (inl taken) = inl taken
used-further all next after more block (inr below) = inr (omega (arith, below, more))

-- ---- a block more

within-other : (part : Option Fragment) (kind size : ℕ) → (kind == 1) ≡ false → is_within part kind size ≡ true
within-other None kind size other = refl
within-other (Some part) kind size other = rw other refl

-- a block of the gateway's own
own-body : (kind : ℕ) (octets : List ℕ) → 191 < kind → IsBody kind octets
own-body kind octets large = record {
  if_previous_node = λ is. absurd (omega (arith, is, large));
  if_bundle_age = λ is. absurd (omega (arith, is, large));
  if_hop_count = λ is. absurd (omega (arith, is, large));
}

not-one : (kind : ℕ) → (kind == 1) ≡ false → kind ≡ 1 → ⊥
not-one kind other same = let yes = eq-eqb kind 1 same in cc

number-fine : (n : ℕ) (numbers : List ℕ) → 2 ≤ n → has n numbers ≡ false → (leb 2 n && not (has n numbers)) ≡ true
number-fine n numbers least new = rw (le-leb 2 n least, new) refl

plain-legal : (part : Option Fragment) (earlier : List Block7) (block : Block7Like) → IsBlock7 block → HasBody block → IsOpen earlier block
    → IsLegalBlock part (seen_of earlier) (plain7 block)
plain-legal part earlier block is body may = record {
  kind = is.kind;
  once = may.once;
  number = rw is.extension (number-fine block.number (seen_of earlier).numbers is.number may.number);
  number_fits = is.number_fits;
  flags = is.flags;
  crc = is.crc;
  size = is.size;
  within = within-other part block.kind (length block.body) is.extension;
  body = body;
}

own-legal : (part : Option Fragment) (earlier : List Block7) (block : Block7) → (block.kind ≡ 192) ⊎ (block.kind ≡ 193)
    → 2 ≤ block.number → block.number < 2 ^ 64 → has block.number (seen_of earlier).numbers ≡ false
    → block.flags < 2 ^ 64 → block.crc ≡ 0 → IsSized7 block → IsLegalBlock part (seen_of earlier) block
own-legal part earlier block kind least fits new flags crc size =
    let large : 191 < block.kind = elim kind [ inl is ↦ omega (arith, is) | inr is ↦ omega (arith, is) ] in
    let small : block.kind < 2 ^ 64 = elim kind [ inl is ↦ omega (arith, is) | inr is ↦ omega (arith, is) ] in
    let other : (block.kind == 1) ≡ false = ne_eqb block.kind 1 (λ is. omega (arith, is, large)) in
    let six = ne_eqb block.kind 6 (λ is. omega (arith, is, large)) in
    let seven = ne_eqb block.kind 7 (λ is. omega (arith, is, large)) in
    let ten = ne_eqb block.kind 10 (λ is. omega (arith, is, large)) in
    record {
      kind = small;
      once = rw (six, seven, ten) refl;
      number = rw other (number-fine block.number (seen_of earlier).numbers least new);
      number_fits = fits;
      flags = flags;
      crc = omega (arith, crc);
      size = size;
      within = within-other part block.kind (length block.body) other;
      body = own-body block.kind block.body large;
    }

-- ---- all of them

-- what later blocks want of the earlier ones
pub record Goes (all : List Ext) (next : ℕ) (earlier : List Block7) (rest : List Ext) : Type 0 where
  pub least : 2 ≤ next
  pub small : next + 65 * length rest ≤ 10000
  pub used : All (IsUsed all next) earlier
  pub may : All (IsOpen earlier) (sevens rest)
  pub taken : All (λ block. is_taken7 all block.number ≡ true) (sevens rest)

-- two blocks that don't collide
apart-open : (earlier : List Block7) (one other : Block7Like) → collide one other ≡ false → IsOpen earlier other
    → IsOpen (earlier ++ plain7 one ∷ []) other
apart-open earlier one other apart is =
    let both = or_parts _ _ apart in
    open-more earlier (plain7 one) other is both.0 (by (is_single other.kind) (one.kind == other.kind) refl refl both.1)
  where
    by : (s e : Bool) → is_single other.kind ≡ s → (one.kind == other.kind) ≡ e
        → (is_single one.kind && (one.kind == other.kind)) ≡ false → (is_single other.kind && (one.kind == other.kind)) ≡ false
    by false e hs he apart = rw hs refl
    by true false hs he apart = rw (hs, he) refl
    by true true hs he apart =
        let same = eqb-true one.kind other.kind he in
        let single : is_single one.kind ≡ true = rw same hs in
        let never = rw (single, he) at apart in
        absurd (cc)

all-apart : (earlier : List Block7) (one : Block7Like) (others : List Block7Like) → list_any (collide one) others ≡ false
    → All (IsOpen earlier) others → All (IsOpen (earlier ++ plain7 one ∷ [])) others
all-apart earlier one [] apart are = All-nil (IsOpen (earlier ++ plain7 one ∷ []))
all-apart earlier one (other ∷ others) apart are =
    let both = or_parts (collide one other) (list_any (collide one) others) apart in
    All-cons (IsOpen (earlier ++ plain7 one ∷ [])) other others
    (apart-open earlier one other both.0 (All-head (IsOpen earlier) other others are))
    (all-apart earlier one others both.1 (All-tail (IsOpen earlier) other others are))

-- a block of the gateway's own collides with none
own-open : (all : List Ext) (earlier : List Block7) (next : Block7) (others : List Block7Like) → (next.kind ≡ 192) ⊎ (next.kind ≡ 193)
    → is_taken7 all next.number ≡ false → All (λ block. is_taken7 all block.number ≡ true) others
    → All (IsOpen earlier) others → All (IsOpen (earlier ++ next ∷ [])) others
own-open all earlier next [] kind free taken are = All-nil (IsOpen (earlier ++ next ∷ []))
own-open all earlier next (other ∷ others) kind free taken are =
    All-cons (IsOpen (earlier ++ next ∷ [])) other others
    (open-more earlier next other (All-head (IsOpen earlier) other others are)
    (ne_eqb next.number other.number (λ same. let here = rw same at free in let there = All-head (λ b. is_taken7 all b.number ≡ true) other others taken in cc))
    (by (next.kind == other.kind) refl))
    (own-open all earlier next others kind free (All-tail (λ b. is_taken7 all b.number ≡ true) other others taken) (All-tail (IsOpen earlier) other others are))
  where
    by : (e : Bool) → (next.kind == other.kind) ≡ e → (is_single other.kind && (next.kind == other.kind)) ≡ false
    by false he = rw he (none (is_single other.kind))
      where
        none : (t : Bool) → (t && false) ≡ false
        none true = refl
        none false = refl
    by true he =
        let same = eqb-true next.kind other.kind he in
        let large : 191 < other.kind = elim kind [ inl is ↦ omega (arith, is, same) | inr is ↦ omega (arith, is, same) ] in
        let six = ne_eqb other.kind 6 (λ is. omega (arith, is, large)) in
        let seven = ne_eqb other.kind 7 (λ is. omega (arith, is, large)) in
        let ten = ne_eqb other.kind 10 (λ is. omega (arith, is, large)) in
        rw (six, seven, ten) refl

goes-own : (all : List Ext) (next : ℕ) (earlier : List Block7) (block : Block7) (rest : List Ext) → (block.kind ≡ 192) ⊎ (block.kind ≡ 193)
    → length all ≤ 64 → IsFree all next block.number → 2 ≤ next → next + 65 + 65 * length rest ≤ 10000 → All (IsUsed all next) earlier
    → All (IsOpen earlier) (sevens rest) → All (λ b. is_taken7 all b.number ≡ true) (sevens rest)
    → Goes all (block.number + 1) (earlier ++ block ∷ []) rest
goes-own all next earlier block rest kind few free least small used may taken = record {
  least = omega (arith, least, free.from);
  small = omega (arith, small, few, free.near);
  used = All-push (IsUsed all (block.number + 1)) earlier block
      (All-weaker (IsUsed all next) (IsUsed all (block.number + 1)) (used-further all next (block.number + 1) (omega (arith, free.from))) earlier used)
      (inr (omega arith));
  may = own-open all earlier block (sevens rest) kind free.free taken may;
  taken = taken;
}

pub blocks-legal : (part : Option Fragment) (all : List Ext) (next : ℕ) (earlier : List Block7) (rest : List Ext) → length all ≤ 64
    → Goes all next earlier rest → All IsExt rest → All HasBody (sevens rest) → are_apart (sevens rest) ≡ true
    → All IsSized7 (blocks7_of all next rest) → AreLegal part earlier (blocks7_of all next rest)
unfolding blocks7_of
blocks-legal part all next earlier [] few goes exts bodies apart sizes = tt
blocks-legal part all next earlier (Seven block ∷ rest) few goes exts bodies apart sizes =
    let is = All-head IsExt (Seven block) rest exts in
    let both = and_parts (not (list_any (collide block) (sevens rest))) (are_apart (sevens rest)) apart in
    let none : list_any (collide block) (sevens rest) ≡ false = no _ both.0 in
    let more = All-tail (IsOpen earlier) block (sevens rest) goes.may in
    let after : Goes all next (earlier ++ plain7 block ∷ []) rest = record {
      least = goes.least;
      small = omega (arith, goes.small);
      used = All-push (IsUsed all next) earlier (plain7 block) goes.used
          (inl (All-head (λ b. is_taken7 all b.number ≡ true) block (sevens rest) goes.taken));
      may = all-apart earlier block (sevens rest) none more;
      taken = All-tail (λ b. is_taken7 all b.number ≡ true) block (sevens rest) goes.taken;
    } in (
      plain-legal part earlier block is (All-head HasBody block (sevens rest) bodies) (All-head (IsOpen earlier) block (sevens rest) goes.may),
      (
        not-one block.kind is.extension,
        blocks-legal part all next (earlier ++ plain7 block ∷ []) rest few after (All-tail IsExt (Seven block) rest exts)
            (All-tail HasBody block (sevens rest) bodies) both.1 (All-tail IsSized7 (plain7 block) (blocks7_of all next rest) sizes),
      ),
    )
blocks-legal part all next earlier (Six block ∷ rest) few goes exts bodies apart sizes =
    let number = next_free7 all next in
    let made = wrap7 number block in
    let free = next-free all next in
    let is = All-head IsExt (Six block) rest exts in
    let size = All-head IsSized7 made (blocks7_of all (number + 1) rest) sizes in
    let new = unused all next number earlier goes.used free.from free.free in (
      own-legal part earlier made (inr refl) (omega (arith, goes.least, free.from)) (omega (arith, goes.small, few, free.near)) new
          (omega (arith, and_le_l block.flags block_common, is.flags)) refl size,
      (
        (λ same. omega (arith, same)),
        blocks-legal part all (number + 1) (earlier ++ made ∷ []) rest few
            (goes-own all next earlier made rest (inr refl) few free goes.least (omega (arith, goes.small)) goes.used goes.may goes.taken)
            (All-tail IsExt (Six block) rest exts) bodies apart (All-tail IsSized7 made (blocks7_of all (number + 1) rest) sizes),
      ),
    )

-- ---- at the start

open-start : (blocks : List Block7Like) → All (IsOpen []) blocks
open-start [] = All-nil (IsOpen [])
open-start (block ∷ blocks) = All-cons (IsOpen []) block blocks (record { number = refl; once = none (is_single block.kind) }) (open-start blocks)
  where
    none : (t : Bool) → (t && false) ≡ false
    none true = refl
    none false = refl

true-after : (p q : Bool) → q ≡ true → (p || q) ≡ true
true-after true q is = refl
true-after false q is = is

taken-start : (exts : List Ext) → All (λ block. is_taken7 exts block.number ≡ true) (sevens exts)
taken-start [] = All-nil (λ block. is_taken7 [] block.number ≡ true)
taken-start (Six block ∷ exts) = taken-start exts
taken-start (Seven block ∷ exts) =
    let rest = taken-start exts in
    All-cons (λ b. is_taken7 (Seven block ∷ exts) b.number ≡ true) block (sevens exts)
    (rw (eq-eqb block.number block.number refl) refl)
    (All-weaker (λ b. is_taken7 exts b.number ≡ true) (λ b. is_taken7 (Seven block ∷ exts) b.number ≡ true)
    (λ b taken. true-after (has_number7 b.number (Seven block)) (is_taken7 exts b.number) taken) (sevens exts) rest)

exts-by : (full : Full) (t : Bool) → needs_residue7 full ≡ t → IsSound full → All IsSized7 (exts7_of full)
    → AreLegal full.shared.fragment [] (exts7_of full)
exts-by full true is sound sizes =
    let all = full.exts in
    let number = next_free7 all 2 in
    let made = residue7_at number full in
    let free = next-free all 2 in
    let few = sound.valid.few in
    let whole : exts7_of full ≡ made ∷ blocks7_of all (number + 1) all = rw is refl in
    let sized = rw whole at sizes in
    let after = goes-own all 2 [] made all (inl refl) few free (omega arith) (omega (arith, few)) (All-nil (IsUsed all 2))
    (open-start (sevens all)) (taken-start all) in
    let first = own-legal full.shared.fragment [] made (inl refl) free.from (omega (arith, few, free.near)) refl (omega arith) refl
    (All-head IsSized7 made (blocks7_of all (number + 1) all) sized) in
    let others = blocks-legal full.shared.fragment all (number + 1) (made ∷ []) all few after sound.valid.exts sound.bodies sound.valid.apart
    (All-tail IsSized7 made (blocks7_of all (number + 1) all) sized) in
    subst (λ blocks. AreLegal full.shared.fragment [] blocks) (sym whole) (first, ((λ same. omega (arith, same)), others))
exts-by full false is sound sizes =
    let all = full.exts in
    let few = sound.valid.few in
    let whole : exts7_of full ≡ blocks7_of all 2 all = rw is refl in
    let start : Goes all 2 [] all = record {
      least = omega arith;
      small = omega (arith, few);
      used = All-nil (IsUsed all 2);
      may = open-start (sevens all);
      taken = taken-start all;
    } in
    subst (λ blocks. AreLegal full.shared.fragment [] blocks) (sym whole)
    (blocks-legal full.shared.fragment all 2 [] all few start sound.valid.exts sound.bodies sound.valid.apart (rw whole at sizes))

-- ---- the primary block and the payload

part-is : (part : Option Fragment) (content : Content) → IsFragment part content → IsPart part
part-is None content is = tt
part-is (Some part) (contents.Bytes octets) is = (omega (arith, is.0, is.1), is.0)
part-is (Some part) (contents.Report report) is = absurd is

primary-is : (full : Full) → IsValid full → IsLegalPrimary (primary7_of full)
primary-is full valid =
    let shared = valid.shared in
    let a = full.shared.flags in
    let b = full.extra7.flags in
    record {
      flags = or-fits common a b (omega arith) shared.flags valid.extra7.flags_fit;
      crc = valid.extra7.crc;
      destination = shared.destination;
      source = shared.source;
      report_to = shared.report_to;
      millis = shared.millis;
      sequence = omega (arith, shared.counterpart);
      lifetime = omega (arith, shared.lives, shared.lifetime);
      fragment_bit = sym (bit-zero (bit_or a b)) ∙ same-bit 0 common a b valid.extra7.flags refl ∙ shared.fragment_bit;
      fragment = part-is full.shared.fragment full.shared.content shared.fragment;
    }

payload-within : (part : Option Fragment) (content : Content) → IsFragment part content → is_within part 1 (length (octets7_of content)) ≡ true
payload-within None content is = refl
payload-within (Some part) (contents.Bytes octets) is = le-leb (part.offset + length octets) part.total is.1
payload-within (Some part) (contents.Report report) is = absurd is

payload-body : (octets : List ℕ) → IsBody 1 octets
payload-body octets = record {
  if_previous_node = λ is. absurd (omega (arith, is));
  if_bundle_age = λ is. absurd (omega (arith, is));
  if_hop_count = λ is. absurd (omega (arith, is));
}

payload-legal : (full : Full) → IsValid full → IsSized7 (payload7_of full)
    → IsLegalBlock full.shared.fragment (seen_of (exts7_of full)) (payload7_of full)
payload-legal full valid size =
    let shared = full.shared in
    record {
      kind = omega arith;
      once = refl;
      number = refl;
      number_fits = omega arith;
      flags = or-fits block_common shared.payload_flags full.extra7.payload_flags (omega arith) valid.shared.payload_flags valid.extra7.payload_flags_fit;
      crc = valid.extra7.payload_crc;
      size = size;
      within = payload-within shared.fragment shared.content valid.shared.fragment;
      body = payload-body (octets7_of shared.content);
    }

-- ---- together

pub view7-legal : View7IsLegal
view7-legal full sound fits sizes = record {
  primary = primary-is full sound.valid;
  few = omega (arith, length-view7 full (needs_residue7 full) refl, leb-true _ 64 fits);
  exts = exts-by full (needs_residue7 full) refl sound sizes.exts;
  payload = payload-legal full sound.valid sizes.payload;
  payload_kind = refl;
}
