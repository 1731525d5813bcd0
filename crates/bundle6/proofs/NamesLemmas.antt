-- Looking a name up in the dictionary: a text that is too long to name something may be missed.

use Rattle.std.proofs.Common.{◌≡◌, ℕ, ◌<◌, ◌≤◌, min, Bool, true, false, ◌&&◌, eqb, ltb, leb, ◌⊎◌, inl, inr}
use Rattle.std.proofs.Common.{List, ◌++◌, length, take, drop, get_or, refl, sym, ap, ◌∙◌, arith}
use Rattle.std.proofs.Common.{Option, None, Some, length-append}
use Rattle.std.specs.Prelude.{codes, IfSome}
use Rattle.std.specs.List.{position, position_or_len}
use Rattle.std.specs.Fmt.{decimal}
use Rattle.std.proofs.lemmas.Bool.{cases_lt, ltb-true, lt-ltb, leb-true}
use Rattle.std.proofs.lemmas.List.{get_or-take, take-take, take_min, length-take, length-take-le, drop_all}
use Rattle.std.proofs.lemmas.List.Sums.{fails_before_first, passes_at_first, position_or_len_is}
use Rattle.std.proofs.lemmas.Fmt.{length-decimal-le}
use Rattle.memchr.specs.Find.{IsFirstByte, is_byte}
use Rattle.endpoint.specs.declared.name.Endpoint.{Endpoint}
use Rattle.endpoint.specs.declared.name.Endpoint.TheVariants.{Null, Ipn, Dtn}
use Rattle.endpoint.specs.Endpoints.{IsEndpoint, is_ssp, ssp_of, scheme_of}
use Rattle.endpoint.specs.Reading.{named}
use Rattle.endpoint.proofs.ReadingLemmas.{named-found, named-written}
use Rattle.endpoint.specs.Places.{endpoint_at}
use Rattle.bundle6.specs.Names.{is_nul, up_to_nul, text_at, named_by, place_named, resolve}
use Rattle.bundle6.specs.declared.names.Offsets.{Offsets}

-- ---- the first NUL

-- the first place of a NUL is its position
pub nul-first : (text : List ℕ) (r : Option ℕ) → IsFirstByte (is_byte 0) text r → r ≡ position is_nul text
nul-first text (Some at) (first, passes) =
    let place : position_or_len is_nul text ≡ at =
    position_or_len_is is_nul text at 0 (omega (arith, first.high)) (λ k early. never k early (is_nul (get_or text k 0)) refl) (λ _. passes) in
    rw (place, lt-ltb at (length text) first.high) refl
  where
    never : (k : ℕ) → k < at → (b : Bool) → is_nul (get_or text k 0) ≡ b → is_nul (get_or text k 0) ≡ false
    never k early true is = absurd (first.before k (omega arith) early is)
    never k early false is = is
nul-first text None nowhere = by (ltb (position_or_len is_nul text) (length text)) refl
  where
    by : (b : Bool) → ltb (position_or_len is_nul text) (length text) ≡ b → None ≡ position is_nul text
    by true low =
        let inside : position_or_len is_nul text < length text = ltb-true _ _ low in
        absurd (nowhere (position_or_len is_nul text) (omega arith) inside (passes_at_first is_nul text 0 inside))
    by false past = rw past refl

-- a NUL near the front is the first of all
pub nul-near : (text : List ℕ) (m end : ℕ) → m ≤ length text → position is_nul (take m text) ≡ Some end
    → Some end ≡ position is_nul text
nul-near text m end inside is = by (ltb (position_or_len is_nul (take m text)) (length (take m text))) refl
  where
    near : List ℕ
    near = take m text

    by : (b : Bool) → ltb (position_or_len is_nul near) (length near) ≡ b → Some end ≡ position is_nul text
    by true low =
        let found : position is_nul near ≡ Some (position_or_len is_nul near) = rw low refl in
        let same : position_or_len is_nul near ≡ end = cc in
        let long : length near ≡ m = length-take-le m text inside in
        let before : end < m = omega (arith, ltb-true _ _ low) in
        let place : position_or_len is_nul text ≡ end =
        position_or_len_is is_nul text end 0 (omega arith)
        (λ k early. rw (← (get_or-take m text k 0 (omega arith))) (fails_before_first is_nul near k 0 (omega arith)))
        (λ _. rw (← (get_or-take m text end 0 before), ← same) (passes_at_first is_nul near 0 (ltb-true _ _ low))) in
        let whole : ltb (position_or_len is_nul text) (length text) ≡ true = lt-ltb _ _ (omega arith) in
        rw (whole, place) refl
    by false past = let none : position is_nul near ≡ None = rw past refl in cc

-- the text before it is the text up to the first
pub up_to_nul-near : (text : List ℕ) (m end : ℕ) → m ≤ length text → position is_nul (take m text) ≡ Some end
    → up_to_nul text ≡ Some (take end (take m text))
unfolding up_to_nul
up_to_nul-near text m end inside is = by (ltb (position_or_len is_nul (take m text)) (length (take m text))) refl
  where
    near : List ℕ
    near = take m text

    by : (b : Bool) → ltb (position_or_len is_nul near) (length near) ≡ b → up_to_nul text ≡ Some (take end near)
    by true low =
        let found : position is_nul near ≡ Some (position_or_len is_nul near) = rw low refl in
        let same : position_or_len is_nul near ≡ end = cc in
        let long : length near ≡ m = length-take-le m text inside in
        let before : end < m = omega (arith, ltb-true _ _ low) in
        let place : position_or_len is_nul text ≡ end =
        position_or_len_is is_nul text end 0 (omega arith)
        (λ k early. rw (← (get_or-take m text k 0 (omega arith))) (fails_before_first is_nul near k 0 (omega arith)))
        (λ _. rw (← (get_or-take m text end 0 before), ← same) (passes_at_first is_nul near 0 (ltb-true _ _ low))) in
        let whole : ltb (position_or_len is_nul text) (length text) ≡ true = lt-ltb _ _ (omega arith) in
        rw (whole, place, take-take end m text (omega arith)) refl
    by false past = let none : position is_nul near ≡ None = rw past refl in cc

-- where none is near the front, the text up to the first is long
pub up_to_nul-far : (text : List ℕ) (m : ℕ) → m ≡ min (length text) 1024 → position is_nul (take m text) ≡ None
    → IfSome (up_to_nul text) (λ t. 1023 < length t)
unfolding up_to_nul
up_to_nul-far text m is none = by (ltb (position_or_len is_nul text) (length text)) refl
  where
    -- none stands among the octets that were looked at
    never : (k : ℕ) → k < m → k < length text → position_or_len is_nul text ≡ k → ⊥
    never k early inside first =
        let long : length (take m text) ≡ m = length-take-le m text (omega arith) in
        let nothing : length (take m text) ≤ position_or_len is_nul (take m text) =
        elim (cases_lt (position_or_len is_nul (take m text)) (length (take m text))) [
          | inl found ↦
              let some : position is_nul (take m text) ≡ Some (position_or_len is_nul (take m text)) =
              rw (lt-ltb _ _ found) refl in
              absurd cc
          | inr past ↦ past
        ] in
        let other : is_nul (get_or (take m text) k 0) ≡ false =
        fails_before_first is_nul (take m text) k 0 (omega arith) in
        let nul : is_nul (get_or text k 0) ≡ true =
        rw first at (passes_at_first is_nul text 0 (rw first inside)) in
        let same : get_or (take m text) k 0 ≡ get_or text k 0 = get_or-take m text k 0 early in
        cc

    by : (b : Bool) → ltb (position_or_len is_nul text) (length text) ≡ b → IfSome (up_to_nul text) (λ t. 1023 < length t)
    by true low =
        let k = position_or_len is_nul text in
        let inside : k < length text = ltb-true _ _ low in
        let beyond : m ≤ k = elim (cases_lt k m) [ inl early ↦ absurd (never k early inside refl) | inr late ↦ late ] in
        let size : length (take k text) ≡ k = length-take-le k text (omega arith) in
        rw low (omega arith)
    by false past = rw past tt

-- ---- texts that name nothing

-- the part of a legal endpoint is short
ssp-short : (endpoint : Endpoint) → IsEndpoint endpoint → length (ssp_of endpoint) ≤ 1023
unfolding is_ssp
ssp-short Null legal = omega arith
ssp-short (Ipn node service) legal =
    omega (
      arith,
      length-append (decimal node) (codes "." ++ decimal service),
      length-decimal-le 20 node (omega arith) (omega arith) legal.0,
      length-decimal-le 20 service (omega arith) (omega arith) legal.1,
    )
ssp-short (Dtn ssp) legal = leb-true _ _ (second (leb 1 (length ssp)) (leb (length ssp) 1023) _ _ legal)
  where
    second : (a b d e : Bool) → (a && b && d && e) ≡ true → b ≡ true
    second true true d e is = refl
    second true false d e is = cc
    second false b d e is = cc

scheme-short : (endpoint : Endpoint) → length (scheme_of endpoint) ≤ 1023
scheme-short Null = omega arith
scheme-short (Ipn node service) = omega arith
scheme-short (Dtn ssp) = omega arith

-- a text that is too long names nothing
named-long : (scheme ssp : List ℕ) → (1023 < length scheme) ⊎ (1023 < length ssp) → named scheme ssp ≡ None
named-long scheme ssp long = by (named scheme ssp) refl
  where
    by : (o : Option Endpoint) → named scheme ssp ≡ o → named scheme ssp ≡ None
    by None is = is
    by (Some endpoint) is =
        let parts = named-found scheme ssp endpoint is in
        let first : length scheme ≡ length (scheme_of endpoint) = ap length parts.scheme_is in
        let second : length ssp ≡ length (ssp_of endpoint) = ap length parts.ssp_is in
        absurd (elim long [
          | inl past ↦ omega (arith, scheme-short endpoint)
          | inr past ↦ omega (arith, ssp-short endpoint parts.legal)
        ])

-- ---- what code looks for

-- no text stands past the end
pub text_at-past : (dictionary : List ℕ) (offset : ℕ) → length dictionary ≤ offset
    → IfSome (text_at dictionary offset) (λ t. 1023 < length t)
unfolding text_at up_to_nul
text_at-past dictionary offset past = rw (drop_all offset dictionary past) tt

-- a text whose NUL is near
pub text_at-near : (dictionary rest : List ℕ) (offset m end : ℕ) → rest ≡ drop offset dictionary
    → m ≡ min (length rest) 1024 → Some end ≡ position is_nul (take m rest)
    → text_at dictionary offset ≡ Some (take end (take m rest))
unfolding text_at
text_at-near dictionary rest offset m end is near found =
    rw (← is) (up_to_nul-near rest m end (omega arith) (sym found))

-- a text whose NUL isn't near, or none
pub text_at-far : (dictionary rest : List ℕ) (offset m : ℕ) → rest ≡ drop offset dictionary
    → m ≡ min (length rest) 1024 → None ≡ position is_nul (take m rest)
    → IfSome (text_at dictionary offset) (λ t. 1023 < length t)
unfolding text_at
text_at-far dictionary rest offset m is near none = rw (← is) (up_to_nul-far rest m near (sym none))

named_by-long : (scheme ssp : Option (List ℕ)) → IfSome scheme (λ t. 1023 < length t) ⊎ IfSome ssp (λ t. 1023 < length t)
    → named_by scheme ssp ≡ None
named_by-long None ssp long = refl
named_by-long (Some scheme) None long = refl
named_by-long (Some scheme) (Some ssp) long = named-long scheme ssp long

-- a scheme or a part that was missed names nothing
pub resolve-misses : (dictionary : List ℕ) (pair : Offsets) → eqb (length dictionary) 0 ≡ false
    → IfSome (text_at dictionary pair.scheme) (λ t. 1023 < length t)
    ⊎ IfSome (text_at dictionary pair.ssp) (λ t. 1023 < length t)
    → resolve dictionary pair ≡ None
unfolding resolve
resolve-misses dictionary pair some long =
    rw some (named_by-long (text_at dictionary pair.scheme) (text_at dictionary pair.ssp) long)

-- ---- where a name is

-- the octets up to a NUL are so many of those from there on
up_to_nul-front : (text found : List ℕ) → up_to_nul text ≡ Some found → take (length found) text ≡ found
unfolding up_to_nul
up_to_nul-front text found is = by (position is_nul text) refl
  where
    by : (o : Option ℕ) → position is_nul text ≡ o → take (length found) text ≡ found
    by None none = absurd (cc)
    by (Some end) some =
        let first : take end text ≡ found = cc in
        rw (← first, length-take end text) (take_min end text)

-- the place of the name that a scheme and a part make is one of it in the dictionary
pub place-named : (dictionary ssp : List ℕ) (scheme : List ℕ) (offset : ℕ) (endpoint : Endpoint)
    → text_at dictionary offset ≡ Some ssp → named scheme ssp ≡ Some endpoint
    → endpoint_at dictionary (place_named endpoint offset (length ssp)) ≡ endpoint
unfolding text_at
place-named dictionary ssp scheme offset Null there is = refl
place-named dictionary ssp scheme offset (Ipn node service) there is =
    rw (up_to_nul-front (drop offset dictionary) ssp there, named-written scheme ssp node service is) refl
place-named dictionary ssp scheme offset (Dtn own) there is =
    let same : ssp ≡ own = (named-found scheme ssp (Dtn own) is).ssp_is in
    rw (up_to_nul-front (drop offset dictionary) ssp there, same) refl

pub place-found : (dictionary : List ℕ) (pair : Offsets) (scheme ssp : List ℕ) (endpoint : Endpoint)
    → eqb (length dictionary) 0 ≡ false → text_at dictionary pair.scheme ≡ Some scheme → text_at dictionary pair.ssp ≡ Some ssp
    → named scheme ssp ≡ Some endpoint
    → Some (endpoint_at dictionary (place_named endpoint pair.ssp (length ssp))) ≡ resolve dictionary pair
unfolding resolve
place-found dictionary pair scheme ssp endpoint some first second is =
    rw (some, first, second) (ap Some (place-named dictionary ssp scheme pair.ssp endpoint second is) ∙ sym is)
