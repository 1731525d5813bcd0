use Rattle.std.proofs.Common.{refl}
use Rattle.ltp_drain.specs.Hopeful.{cost, different, sum_below}
use Rattle.ltp_laws.specs.View.{said}
use Rattle.ltp_session.specs.Engine.{least_deadline}
use Rattle.ltp_session.specs.Table.{find}
use Rattle.path_drain.proofs.ReadyExamples.{silent-ready}
use Rattle.path_drain.proofs.examples.a_silent_path_is_ready.Goals as goal

pub returns : goal.returns
unfolding cost sum_below different find said least_deadline
returns c = record {
  ready = silent-ready;
  cost = λ gate cut now. refl;
  none = λ gate cut now. refl;
}
