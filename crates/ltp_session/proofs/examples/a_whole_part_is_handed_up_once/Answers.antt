use Rattle.std.proofs.Common.{refl}
use Rattle.ltp_session.specs.Cells.{filled, all_octets}
use Rattle.ltp_session.specs.Claims.{report_on, claims_below}
use Rattle.ltp_session.specs.Engine.{datagram_step, tick_step, arrives, with_receiver, untouched, evicted_of, closed_runs, tick_segments, tick_remarks}
use Rattle.ltp_session.specs.Examples.{steps_of}
use Rattle.ltp_session.specs.Receiver.{receiver_answers, piece_step, report_of, acknowledged, receiver_tick}
use Rattle.ltp_session.specs.Table.{find, put, without, ticked, ended}
use Rattle.spans.specs.Places.{runs_of}
use Rattle.ltp_session.proofs.examples.a_whole_part_is_handed_up_once.Goals as goal

pub returns : goal.returns
unfolding steps_of datagram_step tick_step arrives find put without with_receiver untouched evicted_of closed_runs receiver_answers piece_step filled all_octets report_of report_on claims_below runs_of acknowledged receiver_tick ticked ended tick_segments tick_remarks
returns c = refl
