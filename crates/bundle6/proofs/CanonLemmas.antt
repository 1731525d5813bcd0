-- The dictionary of the canonical spelling: each text stands where its offset says.

use Rattle.std.proofs.Common.{◌≡◌, ℕ, ◌+◌, ◌^◌, ◌<◌, suc, zero, Bool, true, false, ◌&&◌, not, eqb, ltb, leb}
use Rattle.std.proofs.Common.{List, [], ◌∷◌, ◌++◌, length, drop, get_or, refl, arith, rules, length-append, append_assoc}
use Rattle.std.proofs.Common.{Some}
use Rattle.std.specs.Prelude.{codes}
use Rattle.std.specs.Char.{is_ascii_digit}
use Rattle.std.specs.Fmt.{decimal}
use Rattle.std.specs.List.{All, list_all, position_or_len}
use Rattle.std.specs.Str.{bytes_eq}
use Rattle.std.proofs.lemmas.Bool.{ne_eqb, lt-ltb}
use Rattle.std.proofs.lemmas.List.{get_or_append_left}
use Rattle.std.proofs.lemmas.List.Folds.{list_all-append}
use Rattle.std.proofs.lemmas.List.Sums.{AllPass-from_list_all, position_or_len_is}
use Rattle.std.proofs.lemmas.Slice.Eq.{bytes_eq-Decides}
use Rattle.std.proofs.Math.Seq.{drop-append-add, take-append_seam, get_or-append_seam}
use Rattle.endpoint.specs.declared.name.Endpoint.{Endpoint}
use Rattle.endpoint.specs.declared.name.Endpoint.TheVariants.{Null, Ipn, Dtn}
use Rattle.endpoint.specs.Endpoints.{IsEndpoint, is_ssp, is_visible, scheme_of, ssp_of}
use Rattle.endpoint.proofs.ReadingLemmas.{named-only}
use Rattle.std.specs.Str.Parse.{digits_value}
use Rattle.std.proofs.lemmas.Str.Parse.{IsNumeralModel, numerals_by_value}
use Rattle.std.proofs.lemmas.Fmt.{digits_decimal}
use Rattle.bundle6.specs.Names.{is_nul, up_to_nul, text_at, resolve}
use Rattle.bundle6.specs.Spelling.{is_numbered, has_text, dictionary_of, offset_of, offsets_of}

-- ---- texts without a NUL

NoNul : List ℕ → Type 0
NoNul text = list_all (λ octet. not (is_nul octet)) text ≡ true

pub both_parts : (a b : Bool) → (a && b) ≡ true → (a ≡ true) × (b ≡ true)
both_parts true true is = (refl, refl)
both_parts true false is = cc
both_parts false b is = cc

suc_not_nul : (n : ℕ) → not (is_nul (suc n)) ≡ true
suc_not_nul n = let other : is_nul (suc n) ≡ false = ne_eqb (suc n) 0 (λ is. omega arith) in rw other refl

list_all-weaker : (p q : ℕ → Bool) (xs : List ℕ) → ((x : ℕ) → p x ≡ true → q x ≡ true) → list_all p xs ≡ true → list_all q xs ≡ true
list_all-weaker p q [] weaker all = refl
list_all-weaker p q (x ∷ xs) weaker all =
    let parts = both_parts (p x) (list_all p xs) all in
    let rest = list_all-weaker p q xs weaker parts.1 in
    rw (weaker x parts.0, rest) refl

-- ---- where a text stands

-- after its offset stand the text and a NUL
pub record Stands (texts : List (List ℕ)) (text : List ℕ) : Type 0 where
  pub rest : List ℕ
  pub there : drop (offset_of texts text) (dictionary_of texts) ≡ text ++ (0 ∷ rest)
  pub inside : offset_of texts text < length (dictionary_of texts)

stands-step : (first : List ℕ) (more : List (List ℕ)) (text : List ℕ) (t : Bool) → bytes_eq text first ≡ t
    → (bytes_eq text first ≡ false → Stands more text) → Stands (first ∷ more) text
unfolding offset_of dictionary_of
stands-step first more text true is after =
    let same : text ≡ first = (bytes_eq-Decides text first).0 is in
    record {
      rest = dictionary_of more;
      there = rw (is, append_assoc first (0 ∷ []) (dictionary_of more), same) refl;
      inside = rw is (omega (arith, length-append (first ++ 0 ∷ []) (dictionary_of more), length-append first (0 ∷ [])));
    }
stands-step first more text false is after =
    let rest = after is in
    let long : length (first ++ 0 ∷ []) ≡ length first + 1 = length-append first (0 ∷ []) in
    record {
      rest = rest.rest;
      there = rw (is, ← long, drop-append-add (first ++ 0 ∷ []) (dictionary_of more) (offset_of more text)) rest.there;
      inside = rw is (omega (arith, length-append (first ++ 0 ∷ []) (dictionary_of more), rest.inside));
    }

stands : (texts : List (List ℕ)) (text : List ℕ) → has_text texts text ≡ true → Stands texts text
unfolding offset_of dictionary_of
stands [] text has = absurd cc
stands (first ∷ more) text has =
    stands-step first more text (bytes_eq text first) refl (λ is. stands more text (rw is at has))

-- the text up to the first NUL
up_to_nul-stands : (text rest : List ℕ) → NoNul text → up_to_nul (text ++ (0 ∷ rest)) ≡ Some text
unfolding up_to_nul NoNul
up_to_nul-stands text rest none =
    let whole = text ++ (0 ∷ rest) in
    let long : length whole ≡ length text + suc (length rest) = length-append text (0 ∷ rest) in
    let each : All (λ octet. not (is_nul octet) ≡ true) text = AllPass-from_list_all (λ octet. not (is_nul octet)) text none in
    let place : position_or_len is_nul whole ≡ length text =
    position_or_len_is is_nul whole (length text) 0 (omega arith)
    (λ k inside. rw (get_or_append_left text (0 ∷ rest) 0 k inside) (flip (is_nul (get_or text k 0)) (each k 0 inside)))
    (λ _. rw (get_or-append_seam text 0 rest 0) refl) in
    let inside : ltb (position_or_len is_nul whole) (length whole) ≡ true = lt-ltb _ _ (rw place (omega arith)) in
    rw (inside, place, take-append_seam text (0 ∷ rest)) refl
  where
    flip : (b : Bool) → not b ≡ true → b ≡ false
    flip true is = cc
    flip false is = refl

text_at-stands : (texts : List (List ℕ)) (text : List ℕ) → has_text texts text ≡ true → NoNul text
    → text_at (dictionary_of texts) (offset_of texts text) ≡ Some text
unfolding text_at
text_at-stands texts text has none =
    let at = stands texts text has in
    rw at.there (up_to_nul-stands text at.rest none)

-- ---- the texts of endpoints have no NUL

numerals : IsNumeralModel (λ ds. list_all is_ascii_digit ds ≡ true) (digits_value 10)
numerals = numerals_by_value (λ ds. list_all is_ascii_digit ds ≡ true) (search rules)

digit_not_nul : (octet : ℕ) → is_ascii_digit octet ≡ true → not (is_nul octet) ≡ true
digit_not_nul zero is = absurd cc
digit_not_nul (suc n) is = suc_not_nul n

visible_not_nul : (octet : ℕ) → is_visible octet ≡ true → not (is_nul octet) ≡ true
visible_not_nul zero is = absurd cc
visible_not_nul (suc n) is = suc_not_nul n

scheme-no_nul : (endpoint : Endpoint) → NoNul (scheme_of endpoint)
unfolding NoNul
scheme-no_nul Null = refl
scheme-no_nul (Ipn node service) = refl
scheme-no_nul (Dtn ssp) = refl

ssp-no_nul : (endpoint : Endpoint) → IsEndpoint endpoint → NoNul (ssp_of endpoint)
unfolding NoNul is_ssp
ssp-no_nul Null legal = refl
ssp-no_nul (Ipn node service) legal =
    let digits = λ (n : ℕ) (low : n < 2 ^ 64).
    list_all-weaker is_ascii_digit (λ octet. not (is_nul octet)) (decimal n) digit_not_nul (digits_decimal numerals n low) in
    rw (list_all-append (λ octet. not (is_nul octet)) (decimal node) (46 ∷ decimal service), digits node legal.0, digits service legal.1) refl
ssp-no_nul (Dtn ssp) legal =
    list_all-weaker is_visible (λ octet. not (is_nul octet)) ssp visible_not_nul
    (third (leb 1 (length ssp)) (leb (length ssp) 1023) (list_all is_visible ssp) (not (bytes_eq ssp (codes "none"))) legal)
  where
    third : (a b d e : Bool) → (a && b && d && e) ≡ true → d ≡ true
    third true true true e is = refl
    third true true false e is = cc
    third true false d e is = cc
    third false b d e is = cc

-- ---- an endpoint is named by its offsets

-- both texts of an endpoint are among the texts
pub record Holds (texts : List (List ℕ)) (endpoint : Endpoint) : Type 0 where
  pub scheme : has_text texts (scheme_of endpoint) ≡ true
  pub ssp : has_text texts (ssp_of endpoint) ≡ true

-- an endpoint and what its two numbers name
pub record IsNamed (texts : List (List ℕ)) (endpoint : Endpoint) : Type 0 where
  pub resolved : resolve (dictionary_of texts) (offsets_of texts endpoint) ≡ Some endpoint
  pub scheme : (offsets_of texts endpoint).scheme < 2 ^ 64
  pub ssp : (offsets_of texts endpoint).ssp < 2 ^ 64

-- in a dictionary
pub named-in : (texts : List (List ℕ)) (endpoint : Endpoint) → IsEndpoint endpoint → Holds texts endpoint
    → length (dictionary_of texts) < 2 ^ 64 → IsNamed texts endpoint
unfolding resolve offsets_of
named-in texts endpoint legal holds low =
    let scheme = stands texts (scheme_of endpoint) holds.scheme in
    let ssp = stands texts (ssp_of endpoint) holds.ssp in
    let some : eqb (length texts) 0 ≡ false = held texts (scheme_of endpoint) holds.scheme in
    let full : eqb (length (dictionary_of texts)) 0 ≡ false = ne_eqb _ _ (λ none. omega (arith, scheme.inside)) in
    record {
      resolved = rw (
        some,
        full,
        text_at-stands texts (scheme_of endpoint) holds.scheme (scheme-no_nul endpoint),
        text_at-stands texts (ssp_of endpoint) holds.ssp (ssp-no_nul endpoint legal),
      ) (named-only endpoint legal);
      scheme = rw some (omega (arith, scheme.inside));
      ssp = rw some (omega (arith, ssp.inside));
    }
  where
    held : (texts : List (List ℕ)) (text : List ℕ) → has_text texts text ≡ true → eqb (length texts) 0 ≡ false
    held [] text has = absurd cc
    held (first ∷ more) text has = ne_eqb (length (first ∷ more)) 0 (λ none. omega arith)

-- without one
pub named-numbered : (endpoint : Endpoint) → IsEndpoint endpoint → is_numbered endpoint ≡ true → IsNamed [] endpoint
unfolding resolve offsets_of dictionary_of
named-numbered Null legal is = record { resolved = refl; scheme = omega arith; ssp = omega arith }
named-numbered (Ipn node service) legal is =
    record { resolved = rw (flip (eqb node 0 && eqb service 0) is) refl; scheme = legal.0; ssp = legal.1 }
  where
    flip : (b : Bool) → not b ≡ true → b ≡ false
    flip true is = cc
    flip false is = refl
named-numbered (Dtn ssp) legal is = absurd cc
