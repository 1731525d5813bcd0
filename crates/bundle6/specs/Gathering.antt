-- What code gathers of a dictionary.

use Rattle.std.specs.Prelude.{◌≡◌, ℕ, List, Option, Some, None, if◌then◌else◌}
use Rattle.std.specs.Ordering.{is_eq, nat_cmp}
use Rattle.std.specs.Cmp.Lexicographic.{slice_cmp}
use Rattle.std.specs.Map.{lookup}
use Rattle.bundle6.specs.declared.gathering.Gathering.{Gathering}
use Rattle.endpoint.specs.declared.name.Endpoint.{Endpoint}
use Rattle.bundle6.specs.declared.names.Offsets.{Offsets}
use Rattle.bundle6.specs.Spelling.{has_text, with_text, with_name, dictionary_of, offset_of, places_of}

-- where a text stands in the dictionary, if it does
abbrev pub place_of : List (List ℕ) → List ℕ → Option ℕ
place_of texts text = if has_text texts text then Some (offset_of texts text) else None

-- the texts are those of the dictionary, and each is found where it stands
pub record Shows (gathering : Gathering) (texts : List (List ℕ)) : Type 0 where
  pub octets : gathering.dictionary.items ≡ dictionary_of texts
  pub places : (text : List ℕ)
      → lookup (λ key. is_eq (slice_cmp nat_cmp text key.items)) gathering.places.entries ≡ place_of texts text

-- a text was looked up, or put at the end: where it stands
pub record Placed (after : Gathering) (texts : List (List ℕ)) (text : List ℕ) (at : ℕ) : Type 0 where
  pub shows : Shows after (with_text texts text)
  pub place : at ≡ offset_of (with_text texts text) text

-- both texts of an endpoint were
pub record Named (after : Gathering) (texts : List (List ℕ)) (endpoint : Endpoint) (pair : Offsets) : Type 0 where
  pub shows : Shows after (with_name texts endpoint)
  pub places : pair ≡ places_of (with_name texts endpoint) endpoint
