use Rattle.std.proofs.Common.{sym, subst}
use Rattle.ltp_session.specs.Engine.{starts}
use Rattle.ltp_segment.specs.PolicyViews.{policy_value}
use Rattle.ltp_engine.specs.Shows.{Shows}
use Rattle.ltp_engine.specs.Steps.{wide_party}
use Rattle.ltp_engine.specs.Values.{EngineValue}
use Rattle.ltp_engine.proofs.ShowLemmas.{shows-start}
use Rattle.ltp_engine.proofs.engine.Engine.wide.Goals as goal

pub returns-clause-shows : goal.returns-clause-shows
returns-clause-shows c =
    subst (λ (v : EngineValue). Shows v (starts v.party)) (sym c.new.ensures.value)
    (shows-start (wide_party c.args.own c.args.peer c.args.first_session (policy_value c.args.policy) c.args.sessions c.args.history))
