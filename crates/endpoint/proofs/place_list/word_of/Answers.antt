use Rattle.endpoint.proofs.PlaceWordsLemmas.{null-usual}
use Rattle.endpoint.proofs.place_list.word_of.Goals as goal

pub returns-in-Null : goal.returns-in-Null
returns-in-Null c = rw c.in-Null.is null-usual
