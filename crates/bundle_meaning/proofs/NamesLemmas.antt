-- So many endpoints at a place, one after the other: some were passed, and what is left to read gives
-- what all of them give.

use Rattle.std.proofs.Common.{◌≡◌, ℕ, ◌+◌, ◌-◌, ◌<◌, ◌≤◌, List, [], ◌∷◌, ◌++◌, Option, Ok, length, take, get_or, append_assoc, append-nil, sym, ap, ◌∙◌, inl, inr, arith, unwrap_or}
use Rattle.std.specs.List.{flat_map}
use Rattle.std.specs.Result.{result_ok}
use Rattle.std.proofs.lemmas.List.{take_more}
use Rattle.std.proofs.lemmas.Grind.{flat_map-append}
use Rattle.endpoint.specs.declared.name.Endpoint.{Endpoint}
use Rattle.endpoint.specs.declared.name.Endpoint.TheVariants.{Null}
use Rattle.endpoint.specs.Reading.{Reads}
use Rattle.wire_fields.specs.Format.{Format}
use Rattle.wire_fields.specs.Refusal.{Stop}
use Rattle.wire_fields.specs.Reading.{read}
use Rattle.wire_fields.specs.Words.{repeated, one_more, listed}
use Rattle.wire_fields.specs.Gives.{Fails}
use Rattle.wire_fields.proofs.GroupLemmas.{listed-step, listed-fails, repeated-end}
use Rattle.bundle_meaning.specs.declared.fault.BlockFault.{BlockFault}
use Rattle.bundle_meaning.specs.declared.wrap_new.Names.{Names}
use Rattle.bundle_meaning.specs.Body.{name, name_of, name_octets}
use Rattle.bundle_meaning.specs.Views.{read_or_none, names_lent}

abbrev pub a_name : List Endpoint → Format BlockFault Endpoint
a_name earlier = name

pub record SoFar (count i : ℕ) (text : List ℕ) (behind at : ℕ) : Type 0 where
  pub earlier : List Endpoint
  pub rest : read (repeated (count - i) (one_more a_name) earlier) text behind ≡ read (listed count a_name) text at

pub so_far-start : (count : ℕ) (text : List ℕ) (at : ℕ) → SoFar count 0 text at at
so_far-start count text at =
    let all : count - 0 ≡ count = omega arith in
    record { earlier = []; rest = ap (λ n. read (repeated n (one_more a_name) []) text at) all }

pub so_far-more : (count i : ℕ) (text : List ℕ) (behind at after : ℕ) (endpoint : Endpoint) → i < count → SoFar count i text behind at
    → read name text behind ≡ Ok (endpoint, after) → SoFar count (i + 1) text after at
so_far-more count i text behind at after endpoint more so_far is = record {
  earlier = so_far.earlier ++ endpoint ∷ [];
  rest = listed-step a_name text count i so_far.earlier endpoint behind after (read (listed count a_name) text at) more is so_far.rest;
}

pub so_far-fails : (count i : ℕ) (text : List ℕ) (behind at : ℕ) (o : Option (ℕ × Stop BlockFault)) → i < count → SoFar count i text behind at
    → Fails o (read name text behind) → Fails o (read (listed count a_name) text at)
so_far-fails count i text behind at o more so_far fails =
    listed-fails a_name text count i so_far.earlier behind o (read (listed count a_name) text at) more fails so_far.rest

pub names-end : (names : Names) (refs : List Endpoint) (i behind : ℕ) → names.count ≤ i
    → read (repeated (names.count - i) (one_more a_name) refs) names.text.now behind ≡ read (listed names.count a_name) names.text.now names.at
    → refs ≡ names_lent names
unfolding names_lent
names-end names refs i behind all rest =
    sym (ap read_or_none (repeated-end (one_more a_name) names.text.now names.count i refs behind (read (listed names.count a_name) names.text.now names.at) all rest))

pub so_far-end : (names : Names) (i behind : ℕ) → names.count ≤ i → SoFar names.count i names.text.now behind names.at
    → read (listed names.count a_name) names.text.now names.at ≡ Ok (names_lent names, behind)
so_far-end names i behind all so_far =
    let ended = repeated-end (one_more a_name) names.text.now names.count i so_far.earlier behind
    (read (listed names.count a_name) names.text.now names.at) all so_far.rest in
    ended ∙ ap (λ refs. Ok (refs, behind)) (names-end names so_far.earlier i behind all so_far.rest)

-- the endpoint that was read is that of the text
pub name_of-read : (text : List ℕ) (endpoint : Endpoint) → Reads (Ok endpoint) text → name_of text ≡ endpoint
name_of-read text endpoint (inl is) = ap (λ r. unwrap_or (result_ok r) Null) (sym is)
name_of-read text endpoint (inr memory) = absurd (cc)

-- one name more is written
pub names-push : (refs : List Endpoint) (i : ℕ) (endpoint : Endpoint) (start before after : List ℕ) → i < length refs
    → endpoint ≡ get_or refs i Null → before ≡ start ++ flat_map name_octets (take i refs)
    → after ≡ before ++ name_octets endpoint → after ≡ start ++ flat_map name_octets (take (i + 1) refs)
names-push refs i endpoint start before after inside is so now =
    let names = flat_map name_octets (take i refs) in
    let last = get_or refs i Null in
    now ∙ ap (λ front. front ++ name_octets endpoint) so ∙ append_assoc start names (name_octets endpoint)
    ∙ ap (λ e. start ++ (names ++ name_octets e)) is
    ∙ ap (λ end. start ++ (names ++ end)) (sym (append-nil (name_octets last)))
    ∙ ap (λ all. start ++ all) (sym (flat_map-append name_octets (take i refs) (last ∷ [])))
    ∙ ap (λ taken. start ++ flat_map name_octets taken) (sym (take_more refs i Null inside))
