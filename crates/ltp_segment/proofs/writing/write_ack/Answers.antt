use Rattle.std.proofs.Common.{◌++◌, ◌∙◌, ap, arith}
use Rattle.sdnv.specs.Shortest.{spelling}
use Rattle.ltp_segment.specs.Values.{a_report_ack}
use Rattle.ltp_segment.specs.Spelling.{segment_octets}
use Rattle.ltp_segment.proofs.WritingLemmas.{written}
use Rattle.ltp_segment.proofs.writing.write_ack.Goals as goal

pub returns : goal.returns
unfolding segment_octets
returns c =
    written (record { originator = c.args.originator; session = c.args.session; content = a_report_ack c.args.serial }) c.from_vec.result
    (record { originator = omega arith; session = omega arith; content = omega arith })
    (c.from_vec.ensures ∙ c.in_ok-write.ensures.ok ∙ ap (λ v. v ++ spelling c.args.serial) c.in_ok-out.ensures)
