use Rattle.std.proofs.Common.{refl}
use Rattle.ltp_session.specs.Engine.{least_deadline}
use Rattle.ltp_session.specs.Table.{find}
use Rattle.ltp_laws.specs.View.{said}
use Rattle.ltp_drain.specs.Hopeful.{cost, sum_below, different}
use Rattle.ltp_drain.proofs.examples.a_silent_link_costs_nothing.Goals as goal

pub returns : goal.returns
unfolding cost sum_below different find said least_deadline
returns c = record { cost = refl; none = refl }
