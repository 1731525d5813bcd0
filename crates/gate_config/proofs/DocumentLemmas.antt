-- What is left of a table's keys, of the keys that are looked at, and of a list of contacts.

use Rattle.std.proofs.Common.{◌≡◌, ℕ, ◌+◌, ◌<◌, ◌≤◌, true, false, List, [], ◌∷◌, ◌++◌, length, drop, get_or, Option, Some, None, string_bytes, sym, ap, refl, ◌∙◌, arith}
use Rattle.std.proofs.lemmas.List.{drop_more, drop_all}
use Rattle.toml.specs.declared.value.Value.{Value}
use Rattle.toml.specs.Data.{Data}
use Rattle.toml.specs.View.{view, items_view, members_view}
use Rattle.toml.proofs.Views.{Entry, items_view-drop}
use Rattle.gate_config.specs.declared.keys.Key.{Key}
use Rattle.gate_config.specs.declared.keys.Key.TheVariants as keys
use Rattle.gate_config.specs.declared.keys.Section.{Section}
use Rattle.gate_config.specs.declared.fault.Within.{Within}
use Rattle.gate_config.specs.declared.fault.Within.TheVariants as places
use Rattle.gate_config.specs.declared.fault.Refusal.{Refusal}
use Rattle.gate_config.specs.declared.fault.Refusal.TheVariants as refusals
use Rattle.gate_config.specs.Keys.{kind_of}
use Rattle.gate_config.specs.Refusals.{wanted_of, first_of}
use Rattle.gate_config.specs.Values.{at, fits, item_count, moment_at}
use Rattle.gate_config.specs.Meaning.{is_known, first_unknown, first_misfit, contact_refusal, contacts_refusal, contact_of, contacts_of}

pub item_count-items_view : (vs : List Value) → item_count (items_view vs) ≡ length vs
item_count-items_view [] = refl
item_count-items_view (v ∷ vs) = let rest = item_count-items_view vs in omega (arith, rest)

-- ---- keys of a table

pub first_unknown-known : (known : List Key) (e : Entry) (es : List Entry) → is_known known (string_bytes e.0) ≡ true
    → first_unknown known (members_view (e ∷ es)) ≡ first_unknown known (members_view es)
unfolding first_unknown
first_unknown-known known e es h = rw h refl

pub first_unknown-other : (known : List Key) (e : Entry) (es : List Entry) → is_known known (string_bytes e.0) ≡ false
    → first_unknown known (members_view (e ∷ es)) ≡ Some (string_bytes e.0)
unfolding first_unknown
first_unknown-other known e es h = rw h refl

pub first_unknown-end : (known : List Key) → first_unknown known (members_view []) ≡ None
unfolding first_unknown
first_unknown-end known = refl

-- ---- keys that are looked at

pub first_misfit-fits : (within : Within) (known : List Key) (place : Option Data) (i : ℕ) (d : Key) → i < length known
    → fits (kind_of (get_or known i d)) (at (get_or known i d) place) ≡ true
    → first_misfit within (drop i known) place ≡ first_misfit within (drop (i + 1) known) place
unfolding first_misfit
first_misfit-fits within known place i d h test = rw (drop_more known i d h, test) refl

pub first_misfit-other : (within : Within) (known : List Key) (place : Option Data) (i : ℕ) (d : Key) → i < length known
    → fits (kind_of (get_or known i d)) (at (get_or known i d) place) ≡ false
    → first_misfit within (drop i known) place ≡ Some (refusals.Wrong within (get_or known i d) (wanted_of (kind_of (get_or known i d))))
unfolding first_misfit
first_misfit-other within known place i d h test = rw (drop_more known i d h, test) refl

pub first_misfit-end : (within : Within) (known : List Key) (place : Option Data) (i : ℕ) → length known ≤ i
    → first_misfit within (drop i known) place ≡ None
unfolding first_misfit
first_misfit-end within known place i h = rw (drop_all i known h) refl

-- ---- contacts

pub contacts_refusal-more : (face : Section) (before : ℕ) (vs : List Value) (i : ℕ) (d : Value) → i < length vs
    → contacts_refusal face i before (items_view (drop i vs))
    ≡ first_of (contact_refusal (places.Contact face i) before (view (get_or vs i d)))
    (contacts_refusal face (i + 1) (moment_at keys.To (Some (view (get_or vs i d)))) (items_view (drop (i + 1) vs)))
unfolding contacts_refusal
contacts_refusal-more face before vs i d h = rw (items_view-drop vs i d h) refl

-- the contact at a place is refused, or those after it are
pub contacts_refused : (face : Section) (before : ℕ) (vs : List Value) (i : ℕ) (v : Value) (refusal : Refusal) → i < length vs
    → v ≡ get_or vs i v → Some refusal ≡ contact_refusal (places.Contact face i) before (view v)
    → contacts_refusal face i before (items_view (drop i vs)) ≡ Some refusal
contacts_refused face before vs i v refusal h is e =
    let more = contacts_refusal-more face before vs i v h in
    let here = rw (← is) at more in
    here ∙ ap (λ r. first_of r (contacts_refusal face (i + 1) (moment_at keys.To (Some (view v))) (items_view (drop (i + 1) vs)))) (sym e)

pub contacts_passed : (face : Section) (before : ℕ) (vs : List Value) (i : ℕ) (v : Value) → i < length vs
    → v ≡ get_or vs i v → None ≡ contact_refusal (places.Contact face i) before (view v)
    → contacts_refusal face i before (items_view (drop i vs))
    ≡ contacts_refusal face (i + 1) (moment_at keys.To (Some (view v))) (items_view (drop (i + 1) vs))
contacts_passed face before vs i v h is e =
    let more = contacts_refusal-more face before vs i v h in
    let here = rw (← is) at more in
    here ∙ ap (λ r. first_of r (contacts_refusal face (i + 1) (moment_at keys.To (Some (view v))) (items_view (drop (i + 1) vs)))) (sym e)

pub contacts_refusal-end : (face : Section) (index before : ℕ) (vs : List Value) (i : ℕ) → length vs ≤ i
    → contacts_refusal face index before (items_view (drop i vs)) ≡ None
unfolding contacts_refusal
contacts_refusal-end face index before vs i h = rw (drop_all i vs h) refl

pub contacts_of-more : (vs : List Value) (i : ℕ) (d : Value) → i < length vs
    → contacts_of (items_view (drop i vs)) ≡ (contact_of (view (get_or vs i d)) ∷ []) ++ contacts_of (items_view (drop (i + 1) vs))
unfolding contacts_of
contacts_of-more vs i d h = rw (items_view-drop vs i d h) refl

pub contacts_of-end : (vs : List Value) (i : ℕ) → length vs ≤ i → contacts_of (items_view (drop i vs)) ≡ []
unfolding contacts_of
contacts_of-end vs i h = rw (drop_all i vs h) refl
