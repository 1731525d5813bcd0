use Rattle.std.proofs.Common.{refl}
use Rattle.spans.specs.Places.{runs_of}
use Rattle.ltp_session.specs.Cells.{filled, all_octets}
use Rattle.ltp_session.specs.Claims.{report_on, claims_below, with_range, with_claims}
use Rattle.ltp_session.specs.Engine.{submits, arrives, with_receiver, untouched, evicted_of}
use Rattle.ltp_session.specs.Engine.{closed_runs, tick_segments, tick_remarks, least_deadline}
use Rattle.ltp_session.specs.Receiver.{receiver_answers, piece_step, report_of, acknowledged}
use Rattle.ltp_session.specs.Receiver.{receiver_tick}
use Rattle.ltp_session.specs.Sender.{begin, segments_from, last_segment, red_pieces, green_pieces}
use Rattle.ltp_session.specs.Sender.{sender_answers, report_step, are_claimed, unclaimed}
use Rattle.ltp_session.specs.Sender.{sender_tick}
use Rattle.ltp_session.specs.Table.{find, put, without, ticked, ended}
use Rattle.ltp_session.specs.World.{submitted, ticks}
use Rattle.ltp_drain.proofs.examples.a_lost_segment_is_sent_again.Goals as goal

pub returns : goal.returns
unfolding submitted submits begin segments_from last_segment red_pieces green_pieces arrives find put without with_receiver untouched evicted_of closed_runs receiver_answers piece_step filled all_octets report_of report_on claims_below runs_of sender_answers report_step with_range with_claims are_claimed unclaimed acknowledged receiver_tick sender_tick ticks ticked ended tick_segments tick_remarks least_deadline
returns c = record { clean = (refl, (refl, (refl, (refl, tt)))); over = refl }
