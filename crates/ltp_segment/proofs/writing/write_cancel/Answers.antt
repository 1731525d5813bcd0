use Rattle.std.proofs.Common.{[], ◌∷◌, ◌++◌, ◌∙◌, ap, arith}
use Rattle.ltp_segment.proofs.WritingLemmas.{written-cancel}
use Rattle.ltp_segment.proofs.writing.write_cancel.Goals as goal

pub returns : goal.returns
returns c =
    let header = rw c.cancel_type.ensures at c.in_ok-out.ensures in
    written-cancel c.args.by_sender c.args.originator c.args.session c.args.reason c.from_vec.result (omega arith) (omega arith) (omega arith)
    (c.from_vec.ensures ∙ c.in_ok-push.ensures.items ∙ ap (λ v. v ++ c.args.reason ∷ []) header)
