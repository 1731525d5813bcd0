-- A place and its number, and places that stay what they are however the others go on.

use Rattle.std.proofs.Common.{◌≡◌, ◌≢◌, ℕ, ◌+◌, ◌-◌, ◌*◌, ◌^◌, ◌<◌, ◌≤◌, refl, arith, inl, inr}
use Rattle.std.proofs.Common.{List, [], ◌∷◌, ◌++◌, length, get_or, map, zero, suc, None}
use Rattle.std.specs.List.{All, slice_get}
use Rattle.std.proofs.lemmas.Bool.{cases_lt, lt-ltb, le-ltb, ne_eqb}
use Rattle.std.proofs.lemmas.Nat.{div-mul-add, mod-mul-add}
use Rattle.std.proofs.lemmas.List.{map-append, get_or_append_left}
use Rattle.std.proofs.Math.Seq.{get_or-append_seam}
use Rattle.endpoint.specs.declared.place.Place.{Place}
use Rattle.endpoint.specs.declared.place.Place.TheVariants as places
use Rattle.endpoint.specs.PlaceWords.{place_of, places_of, IsAmong, IsUsual, IsOther}

-- ---- the numbers of usual places

pub null-usual : IsUsual 0 places.Null
unfolding place_of
null-usual = record { low = omega arith; is = λ others. refl }

pub dtn-usual : (from size : ℕ) → from < 1048576 → size ≢ 0 → size < 1024
    → IsUsual (from * 1024 + size) (places.Dtn from size)
unfolding place_of
dtn-usual from size near some short =
    let word : ℕ = from * 1024 + size in
    record {
      low = omega (arith, near, short);
      is = λ others.
          rw (
            lt-ltb (from * 1024 + size) (2 ^ 30) (omega (arith, near, short)),
            div-mul-add from 1024 size short,
            mod-mul-add from 1024 size short,
            ne_eqb size 0 some,
          ) refl;
    }

pub written-usual : (from size : ℕ) → from < 16777216 → size < 64
    → IsUsual (1073741824 + (from * 64 + size)) (places.Written from size)
unfolding place_of
written-usual from size near short =
    let rest : 1073741824 + (from * 64 + size) - 2 ^ 30 ≡ from * 64 + size = omega arith in
    record {
      low = omega (arith, near, short);
      is = λ others.
          rw (
            le-ltb (1073741824 + (from * 64 + size)) (2 ^ 30) (omega arith),
            lt-ltb (1073741824 + (from * 64 + size)) (2 * 2 ^ 30) (omega (arith, near, short)),
            rest,
            div-mul-add from 64 size short,
            mod-mul-add from 64 size short,
          ) refl;
    }

pub ipn-usual : (node service : ℕ) → node < 32768 → service < 32768
    → IsUsual (2147483648 + (node * 32768 + service)) (places.Ipn node service)
unfolding place_of
ipn-usual node service low short =
    let rest : 2147483648 + (node * 32768 + service) - 2 * 2 ^ 30 ≡ node * 32768 + service = omega arith in
    record {
      low = omega (arith, low, short);
      is = λ others.
          rw (
            le-ltb (2147483648 + (node * 32768 + service)) (2 ^ 30) (omega arith),
            le-ltb (2147483648 + (node * 32768 + service)) (2 * 2 ^ 30) (omega arith),
            lt-ltb (2147483648 + (node * 32768 + service)) (3 * 2 ^ 30) (omega (arith, low, short)),
            rest,
            div-mul-add node 32768 service short,
            mod-mul-add node 32768 service short,
          ) refl;
    }

-- ---- the others go on

-- one that is among the others
place_of-among : (others : List Place) (word : ℕ) → 3 * 2 ^ 30 ≤ word
    → place_of others word ≡ get_or others (word - 3 * 2 ^ 30) places.Null
unfolding place_of
place_of-among others word high =
    rw (
      le-ltb word (2 ^ 30) (omega (arith, high)),
      le-ltb word (2 * 2 ^ 30) (omega (arith, high)),
      le-ltb word (3 * 2 ^ 30) high,
    ) refl

-- one that is not
place_of-usual : (others more : List Place) (word : ℕ) → word < 3 * 2 ^ 30
    → place_of (others ++ more) word ≡ place_of others word
unfolding place_of
place_of-usual others more word low = rw (lt-ltb word (3 * 2 ^ 30) low) refl

place_of-more : (others more : List Place) (word : ℕ) → IsAmong others word
    → place_of (others ++ more) word ≡ place_of others word
place_of-more others more word among =
    elim (cases_lt word (3 * 2 ^ 30)) [
      | inl low ↦ place_of-usual others more word low
      | inr high ↦
          rw (
            place_of-among (others ++ more) word high,
            place_of-among others word high,
            get_or_append_left others more places.Null (word - 3 * 2 ^ 30) (among high),
          ) refl
    ]

places_of-more : (others more : List Place) (words : List ℕ) → All (IsAmong others) words
    → places_of (others ++ more) words ≡ places_of others words
places_of-more others more [] among = refl
places_of-more others more (word ∷ rest) among =
    let later = places_of-more others more rest (λ k d low. among (suc k) d (omega (arith, low))) in
    rw (place_of-more others more word (among 0 word (omega arith)), later) refl

-- one place more, among the others
pub push-other : (others all : List Place) (words more : List ℕ) (place : Place) (word : ℕ)
    → All (IsAmong others) words → IsOther (length others) word → all ≡ others ++ place ∷ [] → more ≡ words ++ word ∷ []
    → places_of all more ≡ places_of others words ++ place ∷ []
push-other others all words more place word among other longer is =
    rw (
      is,
      longer,
      map-append (place_of (others ++ place ∷ [])) words (word ∷ []),
      places_of-more others (place ∷ []) words among,
      place_of-among (others ++ place ∷ []) word other.high,
      other.index,
      get_or-append_seam others place [] places.Null,
    ) refl

-- no place more, whatever was put after the others
pub push-none : (others all more : List Place) (words kept : List ℕ) → All (IsAmong others) words
    → all ≡ others ++ more → kept ≡ words → places_of all kept ≡ places_of others words
push-none others all more words kept among longer is = rw (is, longer) (places_of-more others more words among)

-- what stands past the end
pub none-past : {X Y : Type 0} (f : X → Y) (xs : List X) (at : ℕ) (past : Y) → None ≡ slice_get xs at
    → past ≡ get_or (map f xs) at past
none-past f [] at past none = refl
none-past f (x ∷ xs) zero past none = cc
none-past f (x ∷ xs) (suc at) past none = none-past f xs at past none
