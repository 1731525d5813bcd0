use Rattle.std.proofs.Common.{◌∙◌}
use Rattle.peer_records.proofs.FindLemmas.{among-searched}
use Rattle.peer_records.proofs.pending.is_among.Goals as goal

pub returns : goal.returns
returns c = λ rise. c.is_ok.ensures.value ∙ among-searched c.args.ids.now c.args.id c.binary_search.result rise c.binary_search.ensures.position
