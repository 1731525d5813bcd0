use Rattle.std.proofs.lemmas.Result.{on_ok_weaker}
use Rattle.std.specs.String.{string_bytes}
use Rattle.gate_log.proofs.LineLemmas.{before, ends, two-before}
use Rattle.gate_log.proofs.line.push_end_of_row.Goals as goal

pub returns : goal.returns
returns c =
    on_ok_weaker c.push_count-3.result
    (λ h. two-before (string_bytes c.args.text.now) (string_bytes c.push_called.new.text) (string_bytes c.push_count-3.new.text) _ _ _ c.in_ok-push_called.ensures
    (before (string_bytes c.push_called.new.text) (string_bytes c.push_count.new.text) (string_bytes c.push_count-3.new.text) _ _ c.in_ok-push_count.ensures
    (before (string_bytes c.push_count.new.text) (string_bytes c.push_count-2.new.text) (string_bytes c.push_count-3.new.text) _ _ c.in_ok-push_count-2.ensures
    (ends (string_bytes c.push_count-2.new.text) (string_bytes c.push_count-3.new.text) _ h))))
    c.push_count-3.ensures
