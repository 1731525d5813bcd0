use Rattle.endpoint.proofs.PlaceWordsLemmas.{written-usual}
use Rattle.endpoint.proofs.place_list.written_word.Goals as goal

pub returns : goal.returns
returns c = written-usual c.args.from c.args.size c.if-from.false c.if-size-ge64.false
