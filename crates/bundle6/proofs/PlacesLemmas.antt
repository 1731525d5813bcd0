-- Where texts stand, as code finds it.

use Rattle.std.proofs.Common.{◌≡◌, ℕ, Bool, true, false, cond}
use Rattle.std.proofs.Common.{List, [], ◌∷◌, ◌++◌, length, refl, sym, ◌∙◌, ap}
use Rattle.std.proofs.Common.{Option, None, Some, Ordering, Vec, Global}
use Rattle.std.specs.declared.cmp.Ordering.TheVariants.{Less, Equal, Greater}
use Rattle.std.specs.Ordering.{is_eq, nat_cmp, match_ordering}
use Rattle.std.specs.Cmp.{Equal-is}
use Rattle.std.specs.Cmp.Lexicographic.{slice_cmp}
use Rattle.std.specs.BTreeMap.{insert_entry}
use Rattle.std.specs.Map.{lookup}
use Rattle.std.specs.Str.{bytes_eq}
use Rattle.std.proofs.lemmas.Map.Text.{is_eq-slice_cmp}
use Rattle.std.proofs.lemmas.Slice.Eq.{bytes_eq-Decides}
use Rattle.std.proofs.lemmas.List.Folds.{list_any-append}
use Rattle.endpoint.specs.declared.name.Endpoint.{Endpoint}
use Rattle.endpoint.specs.Endpoints.{scheme_of, ssp_of}
use Rattle.bundle6.specs.declared.gathering.Gathering.{Gathering}
use Rattle.bundle6.specs.Spelling.{has_text, with_text, dictionary_of, offset_of}
use Rattle.bundle6.specs.Gathering.{place_of, Shows, Placed, Named}
use Rattle.bundle6.proofs.GatherLemmas.{has-new, has-kept, grows-text, has-with_text, offset-kept, offset-new, dictionary-new}

-- ---- a look-up after a new entry

module _ {K X : Type 0} (cmp : K → K → Ordering) (test : K → Bool) (k : K) (v : X)
    (same : (x : K) → cmp k x ≡ Equal → test x ≡ test k)
    (apart : (x : K) → test k ≡ true → test x ≡ true → cmp k x ≡ Equal) where
  step : (o : Ordering) (e : K × X) (es : List (K × X)) → cmp k e.0 ≡ o
      → lookup test (insert_entry cmp es k v) ≡ cond (test k) (Some v) (lookup test es)
      → lookup test (match_ordering o ((k, v) ∷ e ∷ es) ((e.0, v) ∷ es) (e ∷ insert_entry cmp es k v))
      ≡ cond (test k) (Some v) (lookup test (e ∷ es))
  step Less e es is rest = refl
  step Equal e es is rest = rw (same e.0 is) (twice (test k))
    where
      twice : (b : Bool) → cond b (Some v) (lookup test es) ≡ cond b (Some v) (cond b (Some e.1) (lookup test es))
      twice true = refl
      twice false = refl
  step Greater e es is rest = rw rest (by (test e.0) (test k) refl refl)
    where
      by : (a b : Bool) → test e.0 ≡ a → test k ≡ b
          → cond a (Some e.1) (cond b (Some v) (lookup test es)) ≡ cond b (Some v) (cond a (Some e.1) (lookup test es))
      by true true here there = let equal = apart e.0 there here in cc
      by true false here there = refl
      by false b here there = refl

  pub lookup-insert_entry : (es : List (K × X)) → lookup test (insert_entry cmp es k v) ≡ cond (test k) (Some v) (lookup test es)
  lookup-insert_entry [] = refl
  lookup-insert_entry (e ∷ es) = step (cmp k e.0) e es refl (lookup-insert_entry es)

-- ---- texts

-- at is the place of the text: what code looks up by
unfoldable pub found_at : List ℕ → List (Vec ℕ Global × ℕ) → Option ℕ
found_at text entries = lookup (λ key. is_eq (slice_cmp nat_cmp text key.items)) entries

equal-items : (one other : List ℕ) → is_eq (slice_cmp nat_cmp one other) ≡ true → one ≡ other
equal-items one other is = (bytes_eq-Decides one other).0 (sym (is_eq-slice_cmp one other) ∙ is)

items-equal : (one other : List ℕ) → one ≡ other → is_eq (slice_cmp nat_cmp one other) ≡ true
items-equal one other is = is_eq-slice_cmp one other ∙ (bytes_eq-Decides one other).1 is

-- after a key was put in, it is found, and the others as before
found-insert : (text : List ℕ) (key : Vec ℕ Global) (at : ℕ) (entries : List (Vec ℕ Global × ℕ))
    → found_at text (insert_entry (λ x y. slice_cmp nat_cmp x.items y.items) entries key at)
    ≡ cond (bytes_eq text key.items) (Some at) (found_at text entries)
unfolding found_at
found-insert text key at entries =
    lookup-insert_entry (λ x y. slice_cmp nat_cmp x.items y.items) (λ x. is_eq (slice_cmp nat_cmp text x.items)) key at
    (λ x is. let same = equal-items key.items x.items ((Equal-is _).1 is) in ap (λ items. is_eq (slice_cmp nat_cmp text items)) (sym same))
    (λ x here there. (Equal-is _).0 (items-equal key.items x.items
    (sym (equal-items text key.items here) ∙ equal-items text x.items there)))
    entries
    ∙ ap (λ b. cond b (Some at) (found_at text entries)) (is_eq-slice_cmp text key.items)

-- no text is there yet
pub shows-new : (gathering : Gathering) → gathering.dictionary.items ≡ [] → gathering.places.entries ≡ [] → Shows gathering []
unfolding dictionary_of
shows-new gathering octets entries = record {
  octets = octets;
  places = λ text. rw entries refl;
}

-- a text that is there
pub shows-there : (gathering : Gathering) (texts : List (List ℕ)) (text : List ℕ) (at : ℕ) → Shows gathering texts
    → Some at ≡ found_at text gathering.places.entries
    → Placed gathering texts text at
unfolding found_at
shows-there gathering texts text at shows found = by (has_text texts text) refl
  where
    by : (t : Bool) → has_text texts text ≡ t → Placed gathering texts text at
    by true is =
        let place : Some at ≡ place_of texts text = found ∙ shows.places text in
        let there : place_of texts text ≡ Some (offset_of texts text) = rw is refl in
        record { shows = rw is shows; place = rw is cc }
    by false is =
        let place : Some at ≡ place_of texts text = found ∙ shows.places text in
        let missing : place_of texts text ≡ None = rw is refl in
        absurd cc

-- a text that was put at the end
pub shows-put : (before after : Gathering) (texts : List (List ℕ)) (text : List ℕ) (key : Vec ℕ Global) (at : ℕ) → Shows before texts
    → None ≡ found_at text before.places.entries → key.items ≡ text → at ≡ length before.dictionary.items
    → after.places.entries ≡ insert_entry (λ x y. slice_cmp nat_cmp x.items y.items) before.places.entries key at
    → after.dictionary.items ≡ before.dictionary.items ++ (text ++ 0 ∷ [])
    → Placed after texts text at
unfolding found_at
shows-put before after texts text key at shows none is end entries octets = by (has_text texts text) refl
  where
    by : (t : Bool) → has_text texts text ≡ t → Placed after texts text at
    by true has =
        let place : None ≡ place_of texts text = none ∙ shows.places text in
        let there : place_of texts text ≡ Some (offset_of texts text) = rw has refl in
        absurd cc
    by false new =
        let here : at ≡ offset_of (texts ++ text ∷ []) text =
        end ∙ ap length shows.octets ∙ sym (offset-new texts text new) in
        record {
          shows = rw new (record {
            octets = octets ∙ ap (λ front. front ++ (text ++ 0 ∷ [])) shows.octets ∙ sym (dictionary-new texts text);
            places = λ other. ap (found_at other) entries ∙ found-insert other key at before.places.entries
                ∙ rw (is, shows.places other) (placed new here other (bytes_eq other text) (has_text texts other) refl refl);
          });
          place = rw new here;
        }
      where
        placed : has_text texts text ≡ false → at ≡ offset_of (texts ++ text ∷ []) text → (other : List ℕ) (same has : Bool) → bytes_eq other text ≡ same → has_text texts other ≡ has
            → cond (bytes_eq other text) (Some at) (place_of texts other) ≡ place_of (texts ++ text ∷ []) other
        placed new here other true true one two =
            let is_text : other ≡ text = (bytes_eq-Decides other text).0 one in
            let has : has_text texts text ≡ true = rw is_text at two in
            cc
        placed new here other true false one two =
            let is_text : other ≡ text = (bytes_eq-Decides other text).0 one in
            rw (one, is_text, has-new texts text) (ap (λ n. Some n) here)
        placed new here other false true one two =
            rw (one, has-kept texts (text ∷ []) other two, two, offset-kept texts (text ∷ []) other two) refl
        placed new here other false false one two =
            let missing : has_text (texts ++ text ∷ []) other ≡ false =
            list_any-append (bytes_eq other) texts (text ∷ []) ∙ rw (two, one) refl in
            rw (one, two, missing) refl

-- both texts of an endpoint
pub named-placed : (middle after : Gathering) (texts : List (List ℕ)) (endpoint : Endpoint) (scheme ssp : ℕ)
    → Placed middle texts (scheme_of endpoint) scheme
    → Placed after (with_text texts (scheme_of endpoint)) (ssp_of endpoint) ssp
    → Named after texts endpoint (record { scheme = scheme; ssp = ssp })
named-placed middle after texts endpoint scheme ssp first second =
    let grows = grows-text (with_text texts (scheme_of endpoint)) (ssp_of endpoint) in
    let kept = grows.place (scheme_of endpoint) (has-with_text texts (scheme_of endpoint)) in
    record {
      shows = second.shows;
      places = rw (first.place, second.place, kept) refl;
    }
