-- Gathering the texts of a dictionary: what stands in it stays where it is, and each name's texts are in it.

use Rattle.std.proofs.Common.{◌≡◌, ℕ, ◌^◌, ◌<◌, Bool, true, false, ◌||◌}
use Rattle.std.proofs.Common.{List, [], ◌∷◌, ◌++◌, length, refl, sym, ◌∙◌, ap, subst, arith, length-append}
use Rattle.std.specs.Prelude.{map, if◌then◌else◌}
use Rattle.std.specs.List.{AllByRecursion, list_all, flat_map}
use Rattle.std.specs.Str.{bytes_eq}
use Rattle.std.proofs.lemmas.List.Folds.{list_any-append}
use Rattle.std.proofs.lemmas.Slice.Eq.{bytes_eq-Decides}
use Rattle.std.proofs.Math.Bool.{or-true}
use Rattle.std.proofs.lemmas.List.{append-nil}
use Rattle.std.proofs.lemmas.List.Concat.{flat_map-append}
use Rattle.endpoint.specs.declared.name.Endpoint.{Endpoint}
use Rattle.endpoint.specs.Endpoints.{IsEndpoint, scheme_of, ssp_of}
use Rattle.bundle6.specs.declared.bundle.Bundle6.{Bundle6}
use Rattle.bundle6.specs.Spelling.{endpoints_of, is_numbered, has_text, with_text, with_name, with_names, texts_of, dictionary_of, offset_of, places_of}
use Rattle.bundle6.proofs.CanonLemmas.{Holds, IsNamed, named-in, named-numbered, both_parts}

-- ---- one text

bytes_eq-self : (text : List ℕ) → bytes_eq text text ≡ true
bytes_eq-self text = (bytes_eq-Decides text text).1 refl

-- the text is there
pub has-new : (texts : List (List ℕ)) (text : List ℕ) → has_text (texts ++ text ∷ []) text ≡ true
has-new texts text =
    list_any-append (bytes_eq text) texts (text ∷ []) ∙ rw (bytes_eq-self text) (or-true (has_text texts text))

pub has-kept : (texts more : List (List ℕ)) (text : List ℕ) → has_text texts text ≡ true → has_text (texts ++ more) text ≡ true
has-kept texts more text has = list_any-append (bytes_eq text) texts more ∙ rw has refl

-- it keeps its place whatever is put after it
pub offset-kept : (texts more : List (List ℕ)) (text : List ℕ) → has_text texts text ≡ true
    → offset_of (texts ++ more) text ≡ offset_of texts text
unfolding offset_of
offset-kept [] more text has = absurd cc
offset-kept (first ∷ rest) more text has =
    kept (bytes_eq text first) refl (λ is. offset-kept rest more text (rw is at has))
  where
    kept : (t : Bool) → bytes_eq text first ≡ t
        → (bytes_eq text first ≡ false → offset_of (rest ++ more) text ≡ offset_of rest text)
        → offset_of ((first ∷ rest) ++ more) text ≡ offset_of (first ∷ rest) text
    kept true is again = rw is refl
    kept false is again = rw (is, again is) refl

-- a new text stands where the dictionary ended
pub offset-new : (texts : List (List ℕ)) (text : List ℕ) → has_text texts text ≡ false
    → offset_of (texts ++ text ∷ []) text ≡ length (dictionary_of texts)
unfolding offset_of dictionary_of
offset-new [] text new = rw (bytes_eq-self text) refl
offset-new (first ∷ rest) text new =
    let parts = neither (bytes_eq text first) (has_text rest text) new in
    let again = offset-new rest text parts.1 in
    rw (parts.0, again) (omega (arith, length-append (first ++ 0 ∷ []) (dictionary_of rest), length-append first (0 ∷ [])))
  where
    neither : (a b : Bool) → (a || b) ≡ false → (a ≡ false) × (b ≡ false)
    neither true b is = cc
    neither false b is = (refl, is)

pub dictionary-new : (texts : List (List ℕ)) (text : List ℕ) → dictionary_of (texts ++ text ∷ []) ≡ dictionary_of texts ++ (text ++ 0 ∷ [])
unfolding dictionary_of
dictionary-new texts text =
    flat_map-append (λ t. t ++ 0 ∷ []) texts (text ∷ [])
    ∙ ap (λ end. flat_map (λ t. t ++ 0 ∷ []) texts ++ end) (append-nil (text ++ 0 ∷ []))

-- ---- texts that only grow

-- what was there stays where it was
pub record Grows (before after : List (List ℕ)) : Type 0 where
  pub has : (text : List ℕ) → has_text before text ≡ true → has_text after text ≡ true
  pub place : (text : List ℕ) → has_text before text ≡ true → offset_of after text ≡ offset_of before text

grows-same : (texts : List (List ℕ)) → Grows texts texts
grows-same texts = record { has = λ text has. has; place = λ text has. refl }

grows-on : (one two three : List (List ℕ)) → Grows one two → Grows two three → Grows one three
grows-on one two three first second = record {
  has = λ text has. second.has text (first.has text has);
  place = λ text has. second.place text (first.has text has) ∙ first.place text has;
}

-- a text more: it is there, and the others stay
pub grows-text : (texts : List (List ℕ)) (text : List ℕ) → Grows texts (with_text texts text)
grows-text texts text = by (has_text texts text) refl
  where
    by : (t : Bool) → has_text texts text ≡ t → Grows texts (with_text texts text)
    by true is = rw is (grows-same texts)
    by false is = rw is (record { has = λ t has. has-kept texts (text ∷ []) t has; place = λ t has. offset-kept texts (text ∷ []) t has })

pub has-with_text : (texts : List (List ℕ)) (text : List ℕ) → has_text (with_text texts text) text ≡ true
has-with_text texts text = by (has_text texts text) refl
  where
    by : (t : Bool) → has_text texts text ≡ t → has_text (with_text texts text) text ≡ true
    by true is = rw (is, is) refl
    by false is = rw is (has-new texts text)

pub grows-name : (texts : List (List ℕ)) (endpoint : Endpoint) → Grows texts (with_name texts endpoint)
grows-name texts endpoint =
    grows-on texts (with_text texts (scheme_of endpoint)) (with_name texts endpoint)
    (grows-text texts (scheme_of endpoint)) (grows-text (with_text texts (scheme_of endpoint)) (ssp_of endpoint))

pub holds-name : (texts : List (List ℕ)) (endpoint : Endpoint) → Holds (with_name texts endpoint) endpoint
holds-name texts endpoint =
    let grows = grows-text (with_text texts (scheme_of endpoint)) (ssp_of endpoint) in
    record {
      scheme = grows.has (scheme_of endpoint) (has-with_text texts (scheme_of endpoint));
      ssp = has-with_text (with_text texts (scheme_of endpoint)) (ssp_of endpoint);
    }

pub holds-on : (before after : List (List ℕ)) (endpoint : Endpoint) → Grows before after → Holds before endpoint → Holds after endpoint
holds-on before after endpoint grows holds =
    record { scheme = grows.has _ holds.scheme; ssp = grows.has _ holds.ssp }

grows-names : (texts : List (List ℕ)) (endpoints : List Endpoint) → Grows texts (with_names texts endpoints)
unfolding with_names
grows-names texts [] = grows-same texts
grows-names texts (endpoint ∷ more) =
    let rest = grows-names (with_name texts endpoint) more in
    grows-on texts (with_name texts endpoint) (with_names (with_name texts endpoint) more) (grows-name texts endpoint) rest

-- all texts of the endpoints are there
pub names-hold : (texts : List (List ℕ)) (endpoints : List Endpoint) → AllByRecursion (Holds (with_names texts endpoints)) endpoints
unfolding with_names
names-hold texts [] = tt
names-hold texts (endpoint ∷ more) =
    let rest = names-hold (with_name texts endpoint) more in (
      holds-on (with_name texts endpoint) (with_names (with_name texts endpoint) more) endpoint
          (grows-names (with_name texts endpoint) more) (holds-name texts endpoint),
      rest,
    )

-- one more endpoint
pub with_names-push : (texts : List (List ℕ)) (endpoints : List Endpoint) (endpoint : Endpoint)
    → with_names texts (endpoints ++ endpoint ∷ []) ≡ with_name (with_names texts endpoints) endpoint
unfolding with_names
with_names-push texts [] endpoint = refl
with_names-push texts (first ∷ more) endpoint = with_names-push (with_name texts first) more endpoint

-- the places of endpoints stay
pub places-kept : (before after : List (List ℕ)) (endpoints : List Endpoint) → Grows before after
    → AllByRecursion (Holds before) endpoints → map (places_of after) endpoints ≡ map (places_of before) endpoints
places-kept before after [] grows hold = refl
places-kept before after (endpoint ∷ more) grows hold =
    let rest = places-kept before after more grows hold.1 in
    rw (grows.place (scheme_of endpoint) hold.0.scheme, grows.place (ssp_of endpoint) hold.0.ssp, rest) refl

-- ---- each endpoint of a bundle is named

all-named : (texts : List (List ℕ)) (endpoints : List Endpoint) → length (dictionary_of texts) < 2 ^ 64
    → AllByRecursion IsEndpoint endpoints → AllByRecursion (Holds texts) endpoints → AllByRecursion (IsNamed texts) endpoints
all-named texts [] low legal hold = tt
all-named texts (endpoint ∷ more) low legal hold =
    (named-in texts endpoint legal.0 hold.0 low, all-named texts more low legal.1 hold.1)

all-numbered : (endpoints : List Endpoint) → AllByRecursion IsEndpoint endpoints → list_all is_numbered endpoints ≡ true
    → AllByRecursion (IsNamed []) endpoints
all-numbered [] legal are = tt
all-numbered (endpoint ∷ more) legal are =
    let parts = both_parts (is_numbered endpoint) (list_all is_numbered more) are in
    (named-numbered endpoint legal.0 parts.0, all-numbered more legal.1 parts.1)

-- the texts, where each endpoint is numbered, and where one isn't
pub texts-none : (b : Bundle6) → list_all is_numbered (endpoints_of b) ≡ true → texts_of b ≡ []
unfolding texts_of
texts-none b is = ap (λ t. if t then [] else with_names [] (endpoints_of b)) is

pub texts-some : (b : Bundle6) → list_all is_numbered (endpoints_of b) ≡ false → texts_of b ≡ with_names [] (endpoints_of b)
unfolding texts_of
texts-some b is = ap (λ t. if t then [] else with_names [] (endpoints_of b)) is

pub endpoints-named : (b : Bundle6) → AllByRecursion IsEndpoint (endpoints_of b) → length (dictionary_of (texts_of b)) < 2 ^ 64
    → AllByRecursion (IsNamed (texts_of b)) (endpoints_of b)
endpoints-named b legal low = by (list_all is_numbered (endpoints_of b)) refl
  where
    by : (t : Bool) → list_all is_numbered (endpoints_of b) ≡ t → AllByRecursion (IsNamed (texts_of b)) (endpoints_of b)
    by true is =
        subst (λ texts. AllByRecursion (IsNamed texts) (endpoints_of b)) (sym (texts-none b is))
        (all-numbered (endpoints_of b) legal is)
    by false is =
        let texts = with_names [] (endpoints_of b) in
        subst (λ texts. AllByRecursion (IsNamed texts) (endpoints_of b)) (sym (texts-some b is))
        (all-named texts (endpoints_of b) (subst (λ t. length (dictionary_of t) < 2 ^ 64) (texts-some b is) low) legal
        (names-hold [] (endpoints_of b)))
