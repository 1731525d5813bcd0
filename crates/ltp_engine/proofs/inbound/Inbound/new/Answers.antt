use Rattle.std.proofs.Common.{rules}
use Rattle.ltp_engine.proofs.ChangeLemmas.{keeps-none}
use Rattle.ltp_engine.proofs.inbound.Inbound.new.Goals as goal

pub returns : goal.returns
returns c = λ peer policy. keeps-none peer policy _ (search rules) (search rules)
