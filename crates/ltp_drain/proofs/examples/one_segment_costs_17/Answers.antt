use Rattle.std.proofs.Common.{refl}
use Rattle.ltp_session.specs.Engine.{submits}
use Rattle.ltp_session.specs.Sender.{begin, green_pieces, last_segment, red_pieces, segments_from}
use Rattle.ltp_session.specs.Table.{find, put}
use Rattle.ltp_session.specs.World.{submitted}
use Rattle.ltp_laws.specs.View.{said}
use Rattle.ltp_drain.specs.Hopeful.{cost, different, sum_below}
use Rattle.ltp_drain.proofs.examples.one_segment_costs_17.Goals as goal

pub returns : goal.returns
unfolding cost sum_below different find put said submitted submits begin segments_from last_segment red_pieces green_pieces
returns c = record { one = refl; two = refl; begun = refl }
