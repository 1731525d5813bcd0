use Rattle.endpoint.proofs.PlaceWordsLemmas.{ipn-usual}
use Rattle.endpoint.proofs.place_list.ipn_word.Goals as goal

pub returns : goal.returns
returns c = ipn-usual c.args.node c.args.service c.if-node.false c.if-service.false
