use Rattle.std.proofs.Common.{rules, ◌≡◌, ◌++◌, map, sym, ◌∙◌}
use Rattle.ltp_audit.specs.Recording.{went, outs_of}
use Rattle.ltp_audit.proofs.RecorderLemmas.{IsKept, kept-submit, submit-rules}
use Rattle.ltp_audit.proofs.recorder.Recorder.submit.Goals as goal

pub invariant_of-self-2 : goal.invariant_of-self-2
invariant_of-self-2 c whole =
    let kept : IsKept c.self.inside.engine c.self.inside.entries.items = c.self.invariant (search rules) in
    let grew : c.record_submitted.new.entries.items ≡ c.self.inside.entries.items ++ map went (outs_of c.submit-submitted.result) = search rules in
    kept-submit c.self.inside.engine c.submit-submitted.new.self c.self.inside.entries.items c.record_submitted.new.entries.items c.args.block.now
    c.args.red c.args.now c.submit-submitted.result kept c.submit-submitted.ensures.does grew (sym c.ran_out-self-inside.ensures ∙ whole)

pub returns-clause-rules : goal.returns-clause-rules
returns-clause-rules c =
    let kept : IsKept c.self.inside.engine c.self.inside.entries.items = c.self.invariant (search rules) in
    let grew : c.record_submitted.new.entries.items ≡ c.self.inside.entries.items ++ map went (outs_of c.submit-submitted.result) = search rules in
    submit-rules c.self.inside.engine c.submit-submitted.new.self c.self.inside.entries.items c.record_submitted.new.entries.items c.args.block.now
    c.args.red c.args.now c.submit-submitted.result kept c.submit-submitted.ensures.does grew
