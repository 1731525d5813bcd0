-- Numbering the endpoints of a bundle: one more endpoint, and the two ways to number all.

use Rattle.std.proofs.Common.{◌≡◌, ℕ, ◌+◌, ◌<◌, true, false, cond, eqb}
use Rattle.std.proofs.Common.{List, [], ◌∷◌, ◌++◌, length, take, get_or, sym, ◌∙◌, ap, subst, arith, refl, append_assoc}
use Rattle.std.specs.Prelude.{map, IfOk, Result, Ok, Err}
use Rattle.std.specs.List.{list_all}
use Rattle.std.proofs.lemmas.Bool.{ne_eqb}
use Rattle.std.proofs.lemmas.List.{map-append, take_more}
use Rattle.std.proofs.lemmas.List.Folds.{list_all-map, list_all_at}
use Rattle.endpoint.specs.declared.name.Endpoint.{Endpoint}
use Rattle.endpoint.specs.declared.name.Endpoint.TheVariants.{Null}
use Rattle.endpoint.specs.declared.lent.Name.{Name}
use Rattle.endpoint.specs.Lent.{endpoint_of}
use Rattle.endpoint.specs.Endpoints.{scheme_of}
use Rattle.bundle6.specs.declared.names.Offsets.{Offsets}
use Rattle.bundle6.specs.declared.bundle.Bundle6.{Bundle6}
use Rattle.bundle6.specs.declared.gathering.Gathering.{Gathering}
use Rattle.bundle6.specs.declared.numbering.Numbering.{Numbering}
use Rattle.bundle6.specs.Spelling.{endpoints_of, is_numbered, has_text, with_name, with_names, texts_of, dictionary_of, numbers_of, places_of, offsets_of}
use Rattle.bundle6.specs.Gathering.{Shows, Named}
use Rattle.bundle6.specs.Numbering.{lent_out, IsGathered, IsNumbering}
use Rattle.bundle6.proofs.GatherLemmas.{grows-name, names-hold, with_names-push, places-kept, texts-none, texts-some}

-- one more endpoint was lent
lent-more : (endpoints : List Name) (i : ℕ) (d : Name) → i < length endpoints
    → lent_out (take (i + 1) endpoints) ≡ lent_out (take i endpoints) ++ endpoint_of (get_or endpoints i d) ∷ []
lent-more endpoints i d inside =
    ap lent_out (take_more endpoints i d inside)
    ∙ map-append endpoint_of (take i endpoints) (get_or endpoints i d ∷ [])

-- one reference more was lent
pub lent-push : (start before after : List Name) (refs : List Endpoint) (i : ℕ) (lent : Name) → i < length refs
    → endpoint_of lent ≡ get_or refs i Null → after ≡ before ++ lent ∷ []
    → lent_out before ≡ lent_out start ++ take i refs → lent_out after ≡ lent_out start ++ take (i + 1) refs
lent-push start before after refs i lent inside is pushed so =
    rw (
      pushed,
      map-append endpoint_of before (lent ∷ []),
      so,
      take_more refs i Null inside,
      is,
      append_assoc (lent_out start) (take i refs) (get_or refs i Null ∷ []),
    ) refl

-- one that needs a dictionary
pub lent-unnumbered : (endpoints : List Name) (i : ℕ) (d : Name) → i < length endpoints
    → is_numbered (endpoint_of (get_or endpoints i d)) ≡ false → list_all is_numbered (lent_out endpoints) ≡ false
lent-unnumbered endpoints i d inside other =
    list_all-map is_numbered endpoint_of endpoints
    ∙ list_all_at (λ l. is_numbered (endpoint_of l)) endpoints i d inside other

-- what was gathered of the endpoints seen so far
pub record SoFar (seen : List Endpoint) (gathering : Gathering) (pairs : List Offsets) : Type 0 where
  pub shows : Shows gathering (with_names [] seen)
  pub pairs_are : pairs ≡ map (places_of (with_names [] seen)) seen

pub so_far-start : (gathering : Gathering) (pairs : List Offsets) → Shows gathering [] → pairs ≡ [] → SoFar [] gathering pairs
unfolding with_names
so_far-start gathering pairs shows none = record { shows = shows; pairs_are = none }

so_far-more : (seen : List Endpoint) (endpoint : Endpoint) (after : Gathering) (pairs : List Offsets) (pair : Offsets)
    → pairs ≡ map (places_of (with_names [] seen)) seen → Named after (with_names [] seen) endpoint pair
    → SoFar (seen ++ endpoint ∷ []) after (pairs ++ pair ∷ [])
so_far-more seen endpoint after pairs pair are named =
    let texts = with_names [] seen in
    let pushed : with_names [] (seen ++ endpoint ∷ []) ≡ with_name texts endpoint = with_names-push [] seen endpoint in
    let kept : map (places_of (with_name texts endpoint)) seen ≡ map (places_of texts) seen =
    places-kept texts (with_name texts endpoint) seen (grows-name texts endpoint) (names-hold [] seen) in
    record {
      shows = subst (Shows after) (sym pushed) named.shows;
      pairs_are =
          subst (λ t. pairs ++ pair ∷ [] ≡ map (places_of t) (seen ++ endpoint ∷ [])) (sym pushed)
          (ap (λ front. front ++ pair ∷ []) (are ∙ sym kept)
          ∙ ap (λ p. map (places_of (with_name texts endpoint)) seen ++ p ∷ []) named.places
          ∙ sym (map-append (places_of (with_name texts endpoint)) seen (endpoint ∷ [])));
    }

pub so_far-lent : (endpoints : List Name) (i : ℕ) (d : Name) (before after : Gathering) (pairs more : List Offsets) (pair : Offsets)
    → i < length endpoints → SoFar (lent_out (take i endpoints)) before pairs
    → Named after (with_names [] (lent_out (take i endpoints))) (endpoint_of (get_or endpoints i d)) pair
    → more ≡ pairs ++ pair ∷ [] → SoFar (lent_out (take (i + 1) endpoints)) after more
so_far-lent endpoints i d before after pairs more pair inside so_far named is =
    rw (is, lent-more endpoints i d inside)
    (so_far-more (lent_out (take i endpoints)) (endpoint_of (get_or endpoints i d)) after pairs pair so_far.pairs_are named)

-- two numbers spell each endpoint without a dictionary
pub numbering-none : (b : Bundle6) (endpoints : List Endpoint) (numbering : Numbering) → endpoints ≡ endpoints_of b
    → list_all is_numbered endpoints ≡ true → numbering.dictionary.items ≡ [] → numbering.pairs.items ≡ map numbers_of endpoints
    → IsNumbering b numbering
unfolding dictionary_of offsets_of
numbering-none b endpoints numbering is are none pairs =
    let texts : texts_of b ≡ [] = texts-none b (ap (list_all is_numbered) (sym is) ∙ are) in
    record {
      dictionary = none ∙ sym (ap dictionary_of texts);
      pairs = pairs ∙ ap (map numbers_of) is ∙ sym (ap (λ t. map (offsets_of t) (endpoints_of b)) texts);
    }

has_some : (texts : List (List ℕ)) (text : List ℕ) → has_text texts text ≡ true → eqb (length texts) 0 ≡ false
has_some [] text has = absurd cc
has_some (first ∷ more) text has = ne_eqb (length (first ∷ more)) 0 (λ none. omega arith)

-- or the dictionary spells them
pub numbering-some : (b : Bundle6) (endpoints : List Endpoint) (numbering : Numbering) → endpoints ≡ endpoints_of b
    → list_all is_numbered endpoints ≡ false → IsGathered endpoints numbering → IsNumbering b numbering
unfolding offsets_of
numbering-some b endpoints numbering is other gathered =
    let all = endpoints_of b in
    let texts : texts_of b ≡ with_names [] all = texts-some b (ap (list_all is_numbered) (sym is) ∙ other) in
    let words = with_names [] all in
    let some : eqb (length words) 0 ≡ false = has_some words (scheme_of b.primary.destination) (names-hold [] all).0.scheme in
    record {
      dictionary = gathered.dictionary ∙ ap (λ es. dictionary_of (with_names [] es)) is ∙ sym (ap dictionary_of texts);
      pairs = gathered.pairs ∙ ap (λ es. map (places_of (with_names [] es)) es) is
          ∙ ap (λ t. map (λ e. cond t (numbers_of e) (places_of words e)) all) (sym some)
          ∙ sym (ap (λ t. map (offsets_of t) all) texts);
    }

-- ---- a result

pub result-none : {E : Type 0} (b : Bundle6) (endpoints : List Endpoint) (result : Result Numbering E) → endpoints ≡ endpoints_of b
    → list_all is_numbered endpoints ≡ true
    → IfOk result (λ n. (n.dictionary.items ≡ []) × (n.pairs.items ≡ map numbers_of endpoints)) → IfOk result (IsNumbering b)
result-none b endpoints (Ok n) is are made = numbering-none b endpoints n is are made.0 made.1
result-none b endpoints (Err e) is are made = tt

pub result-some : {E : Type 0} (b : Bundle6) (endpoints : List Endpoint) (result : Result Numbering E) → endpoints ≡ endpoints_of b
    → list_all is_numbered endpoints ≡ false → IfOk result (IsGathered endpoints) → IfOk result (IsNumbering b)
result-some b endpoints (Ok n) is other made = numbering-some b endpoints n is other made
result-some b endpoints (Err e) is other made = tt
