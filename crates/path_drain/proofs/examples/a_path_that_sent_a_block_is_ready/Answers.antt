use Rattle.std.proofs.Common.{refl}
use Rattle.ltp_drain.specs.Hopeful.{cost, different, sum_below}
use Rattle.ltp_laws.specs.View.{said}
use Rattle.ltp_session.specs.Engine.{least_deadline, submits}
use Rattle.ltp_session.specs.Sender.{begin, green_pieces, last_segment, red_pieces, segments_from}
use Rattle.ltp_session.specs.Table.{find, put}
use Rattle.path_laws.specs.Places.{on_link}
use Rattle.path_laws.specs.Path.{path_run, path_step}
use Rattle.path_drain.proofs.ReadyExamples.{sent-ready}
use Rattle.path_drain.proofs.examples.a_path_that_sent_a_block_is_ready.Goals as goal

pub returns : goal.returns
unfolding cost sum_below different find put said submits begin segments_from last_segment red_pieces green_pieces least_deadline on_link path_run path_step
returns c = record {
  ready = sent-ready;
  cost = λ gate cut now x y. refl;
  lost = λ gate cut now x y. refl;
}
