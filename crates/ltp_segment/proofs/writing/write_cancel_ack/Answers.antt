use Rattle.std.proofs.Common.{◌∙◌, arith}
use Rattle.ltp_segment.proofs.WritingLemmas.{written-cancel_ack}
use Rattle.ltp_segment.proofs.writing.write_cancel_ack.Goals as goal

pub returns : goal.returns
returns c =
    let header = rw c.cancel_ack_type.ensures at c.in_ok-out.ensures in
    written-cancel_ack c.args.to_sender c.args.originator c.args.session c.from_vec.result (omega arith) (omega arith)
    (c.from_vec.ensures ∙ header)
