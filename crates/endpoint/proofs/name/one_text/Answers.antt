use Rattle.endpoint.proofs.ReadingLemmas.{one_text}
use Rattle.endpoint.proofs.name.one_text.Goals as goal

pub returns : goal.returns
returns c = one_text
