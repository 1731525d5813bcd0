-- What code numbers: the dictionary and the numbers of endpoints.

use Rattle.std.specs.Prelude.{◌≡◌, List, [], map}
use Rattle.endpoint.specs.declared.name.Endpoint.{Endpoint}
use Rattle.endpoint.specs.declared.lent.Name.{Name}
use Rattle.endpoint.specs.Lent.{endpoint_of}
use Rattle.bundle6.specs.declared.bundle.Bundle6.{Bundle6}
use Rattle.bundle6.specs.declared.numbering.Numbering.{Numbering}
use Rattle.bundle6.specs.Spelling.{endpoints_of, with_names, texts_of, dictionary_of, places_of, offsets_of}

-- the endpoints that were lent
abbrev pub lent_out : List Name → List Endpoint
lent_out endpoints = map endpoint_of endpoints

-- the dictionary of endpoints, and their places in it
pub record IsGathered (endpoints : List Endpoint) (numbering : Numbering) : Type 0 where
  pub dictionary : numbering.dictionary.items ≡ dictionary_of (with_names [] endpoints)
  pub pairs : numbering.pairs.items ≡ map (places_of (with_names [] endpoints)) endpoints

-- the dictionary of a bundle, and the numbers of its endpoints
pub record IsNumbering (b : Bundle6) (numbering : Numbering) : Type 0 where
  pub dictionary : numbering.dictionary.items ≡ dictionary_of (texts_of b)
  pub pairs : numbering.pairs.items ≡ map (offsets_of (texts_of b)) (endpoints_of b)
