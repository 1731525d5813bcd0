use Rattle.endpoint.proofs.PlaceWordsLemmas.{dtn-usual}
use Rattle.endpoint.proofs.place_list.dtn_word.Goals as goal

pub returns : goal.returns
returns c = dtn-usual c.args.from c.args.size c.if-from.false c.if-size-eq0.false c.if-size-ge1024.false
