use Rattle.record_run.proofs.ExchangeLemmas.{writes_exchange}
use Rattle.record_run.proofs.laws.writes_exchanges.Goals as goal

pub returns : goal.returns
returns c own peer most input engines = (writes_exchange own peer most input).law engines
